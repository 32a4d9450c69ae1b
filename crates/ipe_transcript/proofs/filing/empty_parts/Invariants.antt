use Rattle.std.proofs.Common.{◌≡◌, ℕ, [], length}
use Rattle.ipe_transcript.specs.Order.{part_at}
use Rattle.ipe_transcript.proofs.filing.empty_parts.Given as goal

-- as many parts as turns, each without entries
abbrev pub invariant-loop : goal.invariant-loop
invariant-loop l = (length l.parts.items ≡ l.counter) × ((i : ℕ) → part_at l.parts.items i ≡ [])
