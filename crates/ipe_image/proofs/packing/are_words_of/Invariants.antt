use Rattle.std.proofs.Common.{◌≡◌, drop}
use Rattle.ipe_image.proofs.Compare.{are_next}
use Rattle.ipe_image.proofs.packing.are_words_of.Given as goal

-- the words that are left are the next of the rest just where all are those of the bytes
abbrev pub invariant-loop-word : goal.invariant-loop-word
invariant-loop-word l = are_next (drop l.word-index l.words) l.rest ≡ are_next l.words l.bytes
