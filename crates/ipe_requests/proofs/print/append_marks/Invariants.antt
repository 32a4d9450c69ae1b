use Rattle.std.proofs.Common.{◌≡◌, ◌++◌, drop}
use Rattle.std.specs.List.{flat_map}
use Rattle.ipe_requests.specs.Spelling.{mark_text}
use Rattle.ipe_requests.proofs.print.append_marks.Given as goal

-- what is appended, and what is left to append, is all of it
abbrev pub invariant-loop-mark : goal.invariant-loop-mark
invariant-loop-mark l =
    l.out.items ++ flat_map mark_text (drop l.mark-index l.marks) ≡ l.fn.out.items ++ flat_map mark_text l.marks
