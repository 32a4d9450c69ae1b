use Rattle.std.proofs.Common.{◌≡◌, ◌+◌, ◌*◌, ◌≤◌, drop, sum_by}
use Rattle.std.specs.List.{filter_map}
use Rattle.ipe_policy.specs.Statement.{rule_of}
use Rattle.ipe_policy.specs.Spelling.{rule_words, words_of_image}
use Rattle.ipe_policy.proofs.image.image_words.Given as goal

-- the words so far and those of the rest are all
abbrev pub invariant-loop-item : goal.invariant-loop-item
invariant-loop-item l =
    (l.words + sum_by rule_words (filter_map rule_of (drop l.item-index l.item-items)) ≡ words_of_image l.item-items) × (l.words ≤ 25 + 177 * l.item-index)
