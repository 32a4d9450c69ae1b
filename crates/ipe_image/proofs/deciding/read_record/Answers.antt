use Rattle.std.proofs.Common.{◌≡◌, ◌∙◌, ◌+◌, ◌-◌, ◌≤◌, ℕ, [], ◌∷◌, ◌++◌, List, length, get_or, take, drop, ap, sym, subst, arith}
use Rattle.ipe_policy.specs.Spelling.{rule_words}
use Rattle.ipe_policy.specs.Statement.{RuleParts}
use Rattle.ipe_image.specs.declared.head.RuleHead.{RuleHead}
use Rattle.ipe_image.specs.Found.{IsRecordAt}
use Rattle.ipe_image.specs.Heads.{IsRuleHead, told_of_rule}
use Rattle.ipe_image.specs.Image.{rule_record}
use Rattle.ipe_image.proofs.Records.{record-head, record-whole}
use Rattle.ipe_image.proofs.deciding.read_record.Goals as goal

-- what the first word of a record tells
record Told (words : List ℕ) (at number : ℕ) (rule : RuleParts) (head : RuleHead) : Type 0 where
  told : head ≡ told_of_rule number rule
  size : head.words ≡ rule_words rule
  some : 1 ≤ head.words
  few : head.words ≤ 177
  within : at + head.words ≤ length words
  below : at + head.words ≤ 4096

told : (words : List ℕ) (at number word : ℕ) (rule : RuleParts) (head : RuleHead) → word ≡ get_or words at 0
    → ((n : ℕ) (r : RuleParts) → IsRuleHead word n r → head ≡ told_of_rule n r) → IsRecordAt words at number rule
    → Told words at number rule head
told words at number word rule head word_is read stands =
    let told_is : head ≡ told_of_rule number rule =
    read number rule (subst (λ (w : ℕ). IsRuleHead w number rule) (sym word_is) (record-head words at number rule stands)) in
    let size : head.words ≡ rule_words rule = ap (λ (h : RuleHead). h.words) told_is in
    let most = stands.few in
    let within = stands.within in
    let below = stands.below in
    record {
      told = told_is;
      size = size;
      some = omega arith;
      few = omega arith;
      within = omega arith;
      below = omega arith;
    }

pub overflow_sub-head : goal.overflow_sub-head
overflow_sub-head g c =
    (told _ _ c.requires.0 _ c.requires.1 _ c.word-first.ensures.word c.read-head.ensures c.requires.2).some

pub append_words-requires-clause-fits : goal.append_words-requires-clause-fits
append_words-requires-clause-fits g c =
    let t = told _ _ c.requires.0 _ c.requires.1 _ c.word-first.ensures.word c.read-head.ensures c.requires.2 in
    let few = t.few in
    let none : length c.clear.new.self.items ≡ 0 = ap length c.clear.ensures in
    let one = c.push.ensures.len in
    omega arith

pub append_words-requires-clause-within : goal.append_words-requires-clause-within
append_words-requires-clause-within g c =
    let t = told _ _ c.requires.0 _ c.requires.1 _ c.word-first.ensures.word c.read-head.ensures c.requires.2 in
    let within = t.within in
    let some = t.some in
    let same = ap length c.word-first.ensures.stays in
    omega arith

pub append_words-requires-clause-small : goal.append_words-requires-clause-small
append_words-requires-clause-small g c =
    let t = told _ _ c.requires.0 _ c.requires.1 _ c.word-first.ensures.word c.read-head.ensures c.requires.2 in
    let below = t.below in
    let some = t.some in
    omega arith

pub returns-clause-head : goal.returns-clause-head
returns-clause-head g c number rule stands =
    (told _ _ number _ rule _ c.word-first.ensures.word c.read-head.ensures stands).told

-- the first word and those after it
whole : (words now : List ℕ) (at number word : ℕ) (rule : RuleParts) (n : ℕ) (cleared pushed items : List ℕ)
    → IsRecordAt words at number rule → now ≡ words → word ≡ get_or words at 0 → 1 + n ≡ rule_words rule
    → cleared ≡ [] → pushed ≡ cleared ++ word ∷ [] → items ≡ pushed ++ take n (drop (at + 1) now)
    → items ≡ rule_record number rule
whole words now at number word rule n cleared pushed items stands same word_is size cleared_is pushed_is items_are =
    items_are ∙ ap (λ (ws : List ℕ). ws ++ take n (drop (at + 1) now)) pushed_is
    ∙ ap (λ (ws : List ℕ). (ws ++ word ∷ []) ++ take n (drop (at + 1) now)) cleared_is
    ∙ ap (λ (w : ℕ). w ∷ take n (drop (at + 1) now)) word_is
    ∙ ap (λ (ws : List ℕ). get_or words at 0 ∷ take n (drop (at + 1) ws)) same
    ∙ record-whole words at number rule n stands size

pub returns-clause-record : goal.returns-clause-record
returns-clause-record g c number rule stands =
    let t = told _ _ number _ rule _ c.word-first.ensures.word c.read-head.ensures stands in
    let some = t.some in
    let size = t.size in
    let all : 1 + (c.read-head.result.words - 1) ≡ rule_words rule = omega arith in
    whole _ _ _ number _ rule (c.read-head.result.words - 1) _ _ _ stands c.word-first.ensures.stays
    c.word-first.ensures.word all c.clear.ensures c.push.ensures.items c.append_words.ensures.items

pub returns-clause-reads : goal.returns-clause-reads
returns-clause-reads g c =
    let t = told _ _ c.requires.0 _ c.requires.1 _ c.word-first.ensures.word c.read-head.ensures c.requires.2 in
    let some = t.some in
    let one = c.word-first.ensures.reads in
    let rest = c.append_words.ensures.reads in
    omega arith
