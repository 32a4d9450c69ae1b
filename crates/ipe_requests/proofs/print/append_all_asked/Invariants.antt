use Rattle.std.proofs.Common.{◌≡◌, ◌++◌, drop}
use Rattle.std.specs.List.{flat_map}
use Rattle.ipe_requests.specs.Spelling.{asked_text}
use Rattle.ipe_requests.proofs.print.append_all_asked.Given as goal

-- what is appended, and what is left to append, is all of it
abbrev pub invariant-loop-what : goal.invariant-loop-what
invariant-loop-what l =
    l.out.items ++ flat_map asked_text (drop l.what-index l.lines) ≡ l.fn.out.items ++ flat_map asked_text l.lines
