use Rattle.std.proofs.Common.{◌≡◌, ◌*◌, ◌≤◌, ◌++◌, drop}
use Rattle.std.specs.List.{flat_map}
use Rattle.arrayvec.specs.ArrayVec.{array_vec_len}
use Rattle.ipe_image.specs.Image.{property_image}
use Rattle.ipe_image.proofs.record.property_words.Given as goal

-- the words so far and those of the rest are all
abbrev pub invariant-loop-property : goal.invariant-loop-property
invariant-loop-property l =
    (l.words.items ++ flat_map property_image (drop l.property-index l.props) ≡ flat_map property_image l.props)
    × (array_vec_len l.words ≤ 11 * l.property-index)
