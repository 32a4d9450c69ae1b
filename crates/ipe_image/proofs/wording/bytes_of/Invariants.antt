use Rattle.std.proofs.Common.{◌≡◌, ◌-◌, ◌≤◌, ◌++◌, length, drop}
use Rattle.ipe_image.specs.Packing.{unpacked}
use Rattle.ipe_image.proofs.wording.bytes_of.Given as goal

-- the bytes so far and those of the words that are left are all
abbrev pub invariant-loop-word : goal.invariant-loop-word
invariant-loop-word l =
    (l.bytes.items ++ unpacked (l.count - length l.bytes.items)
    (drop l.word-index l.words) ≡ unpacked l.count l.words) × (length l.bytes.items ≤ l.count)
