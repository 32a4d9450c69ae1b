use Rattle.std.proofs.Common.{◌≡◌, ◌+◌, ◌≤◌}
use Rattle.ipe_image.specs.Parts.{ImageParts}
use Rattle.ipe_image.specs.Found.{BeginsWithImage}
use Rattle.ipe_image.proofs.Records.{AtRule}
use Rattle.ipe_image.proofs.deciding.first_match.Given as goal

-- the next rule's record stands here, no rule before it matches, and each word of theirs was read once
abbrev pub invariant-loop-index : goal.invariant-loop-index
invariant-loop-index g l =
    (g.R.WordReader.words l.reader ≡ g.R.WordReader.words l.fn.reader)
    × (g.R.WordReader.kept l.reader ≡ g.R.WordReader.kept l.fn.reader)
    × ((parts : ImageParts) → BeginsWithImage (g.R.WordReader.words l.fn.reader) parts
    → AtRule (g.R.WordReader.words l.fn.reader) parts l.fn.op l.context l.initial.at l.at l._index)
    × (g.R.WordReader.reads l.reader + l.initial.at ≤ g.R.WordReader.reads l.fn.reader + 2 + l.at)
