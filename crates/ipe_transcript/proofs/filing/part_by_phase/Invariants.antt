use Rattle.std.proofs.Common.{◌≡◌, ℕ, ◌+◌, ◌<◌, length}
use Rattle.ipe_transcript.specs.Entries.{of_phase}
use Rattle.ipe_transcript.specs.Order.{part_at}
use Rattle.ipe_transcript.proofs.filing.part_by_phase.Given as goal

-- each part has its phase's entries so far
abbrev pub invariant-loop-entry : goal.invariant-loop-entry
invariant-loop-entry l =
    (length l.parts.items ≡ l.phases)
    × ((i : ℕ) → i < l.phases → part_at l.parts.items i ≡ of_phase (i + 1) l.yielded)
