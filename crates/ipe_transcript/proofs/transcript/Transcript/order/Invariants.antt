use Rattle.std.proofs.Common.{◌≡◌, ℕ, List, length, Some}
use Rattle.std.specs.List.{slice_get}
use Rattle.ipe_transcript.specs.declared.transcript.Entry.{Entry}
use Rattle.ipe_transcript.specs.Entries.{actor_of, line_of, key_of}
use Rattle.ipe_transcript.specs.Filing.{AreFiled}
use Rattle.ipe_transcript.specs.Order.{part_at}
use Rattle.ipe_transcript.proofs.transcript.Transcript.order.Given as goal

-- each part so far is in order
abbrev pub invariant-loop-part : goal.invariant-loop-part
invariant-loop-part l =
    (length l.ordered.items ≡ length l.yielded)
    × ((i : ℕ) (part : List Entry) → slice_get l.ordered.items i ≡ Some part → AreFiled actor_of line_of key_of (part_at l.yielded i) part)
