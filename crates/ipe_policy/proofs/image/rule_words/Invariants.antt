use Rattle.std.proofs.Common.{◌≡◌, ◌+◌, ◌*◌, ◌≤◌, drop, sum_by}
use Rattle.ipe_policy.specs.Spelling.{property_words}
use Rattle.ipe_policy.proofs.image.rule_words.Given as goal

-- the words so far and those of the rest are all
abbrev pub invariant-loop-property : goal.invariant-loop-property
invariant-loop-property l =
    (l.words + sum_by property_words (drop l.property-index l.props) ≡ 1 + sum_by property_words l.props) × (l.words ≤ 1 + 11 * l.property-index)
