use Rattle.std.proofs.Common.{◌≡◌, List, ℕ, take}
use Rattle.ipe_signer.specs.Marks.{last_verdict, verdict_at}
use Rattle.ipe_signer.proofs.trust_list.verdicts_of.Given as goal

-- the verdicts so far are those of the marks so far
abbrev pub invariant-loop-mark : goal.invariant-loop-mark
invariant-loop-mark l =
    (digest : List ℕ) → verdict_at l.verdicts.entries digest ≡ last_verdict (take l.mark-index l.marks) l.purpose digest
