-- What is told of measured times.
use Rattle.std.specs.Prelude.{ℕ, ◌*◌, ◌/◌, codes, List, ◌++◌}
use Rattle.std.specs.Fmt.{decimal}
use Rattle.hook_times.specs.declared.figures.Times.{Times}

-- a time in hundredths of another
abbrev pub percent : ℕ → ℕ → ℕ
percent time base = time * 100 / base

-- the line of a hook's times: on how many rules, from how many threads at once, and against a decision and an addition
abbrev pub figures_text : ℕ → ℕ → Times → List ℕ
figures_text rules threads times =
    codes "rules " ++ decimal rules ++ codes ", threads " ++ decimal threads ++ codes ": a hook takes "
    ++ decimal times.hook ++ codes " ps, in hundredths of decide " ++ decimal (percent times.hook times.decide)
    ++ codes ", of an addition " ++ decimal (percent times.hook times.addition)
