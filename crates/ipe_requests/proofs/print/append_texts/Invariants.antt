use Rattle.std.proofs.Common.{◌≡◌, ◌++◌, drop}
use Rattle.std.specs.List.{flat_map}
use Rattle.ipe_requests.specs.Spelling.{text_text}
use Rattle.ipe_requests.proofs.print.append_texts.Given as goal

-- what is appended, and what is left to append, is all of it
abbrev pub invariant-loop-text : goal.invariant-loop-text
invariant-loop-text l =
    l.out.items ++ flat_map text_text (drop l.text-index l.texts) ≡ l.fn.out.items ++ flat_map text_text l.texts
