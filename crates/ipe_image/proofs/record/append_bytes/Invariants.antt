use Rattle.std.proofs.Common.{◌≡◌, ◌+◌, ◌≤◌, ◌++◌, length}
use Rattle.arrayvec.specs.ArrayVec.{array_vec_len}
use Rattle.ipe_policy.specs.Spelling.{words_for}
use Rattle.ipe_image.specs.Packing.{byte_words}
use Rattle.ipe_image.proofs.record.append_bytes.Given as goal

-- the words so far and those of the rest are all
abbrev pub invariant-loop-rest : goal.invariant-loop-rest
invariant-loop-rest l =
    (l.words.items ++ byte_words l.rest ≡ l.initial.words.items ++ byte_words l.bytes)
    × (array_vec_len l.words + words_for (length l.rest) ≤ 176)

abbrev pub decreases-loop-rest : goal.decreases-loop-rest
decreases-loop-rest l = length l.rest
