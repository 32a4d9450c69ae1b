use Rattle.std.proofs.Common.{◌≡◌, ◌+◌, ◌++◌, drop}
use Rattle.ipe_transcript.specs.Text.{phases_text}
use Rattle.ipe_transcript.proofs.text.append_phases.Given as goal

-- what is appended, and what the phases that are left will add, is what all the phases add
abbrev pub invariant-loop-at : goal.invariant-loop-at
invariant-loop-at l =
    l.out.items ++ phases_text (l.at + 1) (drop l.at l.phases) ≡ l.fn.out.items ++ phases_text 1 l.phases
