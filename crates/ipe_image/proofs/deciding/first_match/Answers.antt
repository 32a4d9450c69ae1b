use Rattle.std.proofs.Common.{◌≡◌, ◌∙◌, ℕ, ◌+◌, ◌-◌, ◌<◌, ◌≤◌, List, Some, get_or, length, take, drop, ap, sym, subst, arith}
use Rattle.std.proofs.lemmas.Bool.{and_parts}
use Rattle.std.proofs.lemmas.List.{take_rest}
use Rattle.ipe_policy.specs.declared.op.Op.{Op}
use Rattle.ipe_policy.specs.declared.evaluation.Context.{Context}
use Rattle.ipe_policy.specs.Spelling.{rule_words}
use Rattle.ipe_policy.specs.Statement.{RuleParts, op_number}
use Rattle.ipe_image.specs.declared.head.RuleHead.{RuleHead}
use Rattle.ipe_image.specs.Parts.{ImageParts}
use Rattle.ipe_image.specs.Heads.{ArePropertyImages, told_of_rule}
use Rattle.ipe_image.specs.Image.{rule_record, rules_of}
use Rattle.ipe_image.specs.Found.{BeginsWithImage, IsRecordAt}
use Rattle.ipe_image.proofs.Places.{complete-facts, Places, places}
use Rattle.ipe_image.proofs.Records.{AtRule, at-first, Here, here, none-here, place-small}
use Rattle.ipe_image.proofs.deciding.first_match.Goals as goal

-- where the parts stand in words that begin with their image
at : (words : List ℕ) (parts : ImageParts) (h : BeginsWithImage words parts) → Places words parts h.behind
at words parts h = places words parts h.behind (complete-facts parts h.complete) h.whole

-- the place that was read is that of the operation
place-read : (words : List ℕ) (op : Op) (n word : ℕ) → n ≡ op_number op → word ≡ get_or words (11 + n) 0
    → word ≡ get_or words (11 + op_number op) 0
place-read words op n word number read = read ∙ ap (λ (k : ℕ). get_or words (11 + k) 0) number

-- the number that was read is that of the operation's rules
count-read : (words now : List ℕ) (parts : ImageParts) (op : Op) (n word : ℕ) → BeginsWithImage words parts
    → now ≡ words → n ≡ op_number op → word ≡ get_or now (18 + n) 0 → word ≡ length (rules_of parts.rules op)
count-read words now parts op n word h same number read =
    read ∙ ap (λ (ws : List ℕ). get_or ws (18 + n) 0) same ∙ ap (λ (k : ℕ). get_or words (18 + k) 0) number
    ∙ (at words parts h).many op

-- a turn of the loop comes to a rule, if it is one of as many turns as rules
next-rule : (words : List ℕ) (parts : ImageParts) (op : Op) (context : Context) (start place index count : ℕ)
    → count ≡ length (rules_of parts.rules op) → index < count
    → AtRule words parts op context start place index → Here words parts op context start place index
next-rule words parts op context start place index count many some there =
    here words parts op context start place index (omega arith) there

-- what a turn finds in words that are still the same
record Turn (words now : List ℕ) (parts : ImageParts) (op : Op) (context : Context) (start place index : ℕ)
    (head : RuleHead) (slice : List ℕ) : Type 0 where
  found : Here words parts op context start place index
  told : head ≡ told_of_rule found.number found.rule
  size : head.words ≡ rule_words found.rule
  some : 1 ≤ length slice
  whole : slice ≡ rule_record found.number found.rule
  are : ArePropertyImages (take (length slice - 1) (drop 1 slice)) found.rule.properties

turn : (words now : List ℕ) (parts : ImageParts) (op : Op) (context : Context) (start place index : ℕ)
    (head : RuleHead) (record_now slice : List ℕ) → now ≡ words
    → ((n : ℕ) (rule : RuleParts) → IsRecordAt now place n rule → head ≡ told_of_rule n rule)
    → ((n : ℕ) (rule : RuleParts) → IsRecordAt now place n rule → record_now ≡ rule_record n rule)
    → slice ≡ record_now → Here words parts op context start place index
    → Turn words now parts op context start place index head slice
turn words now parts op context start place index head record_now slice same heads records_are slice_is r =
    let stands : IsRecordAt now place r.number r.rule =
    subst (λ (ws : List ℕ). IsRecordAt ws place r.number r.rule) (sym same) r.stands in
    let told : head ≡ told_of_rule r.number r.rule = heads r.number r.rule stands in
    let whole : slice ≡ rule_record r.number r.rule = slice_is ∙ records_are r.number r.rule stands in
    let count = ap length whole in
    record {
      found = r;
      told = told;
      size = ap (λ (h : RuleHead). h.words) told;
      some = omega arith;
      whole = whole;
      are = record {
        fit = (and_parts _ _ r.stands.fits).1;
        whole = take_rest slice 1 ∙ ap (λ (ws : List ℕ). drop 1 ws) whole;
      };
    }

pub overflow_cast-at : goal.overflow_cast-at
overflow_cast-at g c =
    let words = g.R.WordReader.words c.args.reader.now in
    let parts = c.requires.0 in
    let complete = complete-facts parts c.requires.1.complete in
    let small = place-small parts c.args.op complete.few in
    let read = place-read words c.args.op c.number.result c.word-place.result c.number.ensures.number
    c.word-place.ensures.word ∙ (at words parts c.requires.1).place c.args.op in
    omega arith

pub loop-index-init : goal.loop-index-init
loop-index-init g c = (
  c.word-count.ensures.stays ∙ c.word-place.ensures.stays,
  c.word-count.ensures.kept ∙ c.word-place.ensures.kept,
  λ parts h.
      at-first _ parts c.args.op c.args.context.now h.behind c.word-place.result (complete-facts parts h.complete)
      (at _ parts h) (place-read _ c.args.op c.number.result c.word-place.result c.number.ensures.number
      c.word-place.ensures.word),
  let one = c.word-place.ensures.reads in let two = c.word-count.ensures.reads in omega arith,
)

pub read_record-head-requires : goal.read_record-head-requires
read_record-head-requires g c =
    let words = g.R.WordReader.words c.args.reader.now in
    let parts = c.requires.0 in
    let many = count-read words _ parts c.args.op c.number-2.result c.word-count.result c.requires.1
    c.word-place.ensures.stays c.number-2.ensures.number c.word-count.ensures.word in
    let r = next-rule words parts c.args.op c.args.context.now _ c.loop-index.at c.loop-index._index
    c.word-count.result many c.loop-index-test.true (c.loop-index.invariant.2 parts c.requires.1) in (
      r.number,
      r.rule,
      subst (λ (ws : List ℕ). IsRecordAt ws c.loop-index.at r.number r.rule) (sym
          c.loop-index.invariant.0) r.stands,
    )

pub slice_bounds-all_hold-count : goal.slice_bounds-all_hold-count
slice_bounds-all_hold-count g c =
    let words = g.R.WordReader.words c.args.reader.now in
    let parts = c.requires.0 in
    let many = count-read words _ parts c.args.op c.number-2.result c.word-count.result c.requires.1
    c.word-place.ensures.stays c.number-2.ensures.number c.word-count.ensures.word in
    let r = next-rule words parts c.args.op c.args.context.now _ c.loop-index.at c.loop-index._index
    c.word-count.result many c.loop-index-test.true (c.loop-index.invariant.2 parts c.requires.1) in
    (turn words _ parts c.args.op c.args.context.now _ c.loop-index.at c.loop-index._index c.read_record-head.result
    _ c.as_slice.result.now c.loop-index.invariant.0 c.read_record-head.ensures.head
    c.read_record-head.ensures.record c.as_slice.ensures.value r).some

pub slice_bounds-all_hold-start : goal.slice_bounds-all_hold-start
slice_bounds-all_hold-start g c =
    let words = g.R.WordReader.words c.args.reader.now in
    let parts = c.requires.0 in
    let many = count-read words _ parts c.args.op c.number-2.result c.word-count.result c.requires.1
    c.word-place.ensures.stays c.number-2.ensures.number c.word-count.ensures.word in
    let r = next-rule words parts c.args.op c.args.context.now _ c.loop-index.at c.loop-index._index
    c.word-count.result many c.loop-index-test.true (c.loop-index.invariant.2 parts c.requires.1) in
    (turn words _ parts c.args.op c.args.context.now _ c.loop-index.at c.loop-index._index c.read_record-head.result
    _ c.as_slice.result.now c.loop-index.invariant.0 c.read_record-head.ensures.head
    c.read_record-head.ensures.record c.as_slice.ensures.value r).some

pub all_hold-requires : goal.all_hold-requires
all_hold-requires g c =
    let words = g.R.WordReader.words c.args.reader.now in
    let parts = c.requires.0 in
    let many = count-read words _ parts c.args.op c.number-2.result c.word-count.result c.requires.1
    c.word-place.ensures.stays c.number-2.ensures.number c.word-count.ensures.word in
    let r = next-rule words parts c.args.op c.args.context.now _ c.loop-index.at c.loop-index._index
    c.word-count.result many c.loop-index-test.true (c.loop-index.invariant.2 parts c.requires.1) in
    let t = turn words _ parts c.args.op c.args.context.now _ c.loop-index.at c.loop-index._index
    c.read_record-head.result _ c.as_slice.result.now c.loop-index.invariant.0 c.read_record-head.ensures.head
    c.read_record-head.ensures.record c.as_slice.ensures.value r in
    (t.found.rule.properties, t.are)

pub returns-then-all_hold-clause-stays : goal.returns-then-all_hold-clause-stays
returns-then-all_hold-clause-stays g c = c.read_record-head.ensures.stays ∙ c.loop-index.invariant.0

pub returns-then-all_hold-clause-kept : goal.returns-then-all_hold-clause-kept
returns-then-all_hold-clause-kept g c = c.read_record-head.ensures.kept ∙ c.loop-index.invariant.1

pub returns-then-all_hold-clause-found : goal.returns-then-all_hold-clause-found
returns-then-all_hold-clause-found g c parts h =
    let words = g.R.WordReader.words c.args.reader.now in
    let many = count-read words _ parts c.args.op c.number-2.result c.word-count.result h
    c.word-place.ensures.stays c.number-2.ensures.number c.word-count.ensures.word in
    let r = next-rule words parts c.args.op c.args.context.now _ c.loop-index.at c.loop-index._index
    c.word-count.result many c.loop-index-test.true (c.loop-index.invariant.2 parts h) in
    let t = turn words _ parts c.args.op c.args.context.now _ c.loop-index.at c.loop-index._index
    c.read_record-head.result _ c.as_slice.result.now c.loop-index.invariant.0 c.read_record-head.ensures.head
    c.read_record-head.ensures.record c.as_slice.ensures.value r in
    let number : c.read_record-head.result.number ≡ t.found.number = ap (λ (head : RuleHead). head.number) t.told in
    record {
      matched = t.found.rule;
      first = t.found.found (sym (c.if-all_hold.ensures t.found.rule.properties t.are))
          ∙ ap (λ (n : ℕ). Some (n, t.found.rule)) (sym number);
      action = ap (λ (head : RuleHead). head.action) t.told;
      whole = sym c.as_slice.ensures.value ∙ t.whole ∙ ap (λ (n : ℕ). rule_record n t.found.rule) (sym number);
    }

pub returns-then-all_hold-clause-reads : goal.returns-then-all_hold-clause-reads
returns-then-all_hold-clause-reads g c parts h =
    let words = g.R.WordReader.words c.args.reader.now in
    let many = count-read words _ parts c.args.op c.number-2.result c.word-count.result h
    c.word-place.ensures.stays c.number-2.ensures.number c.word-count.ensures.word in
    let r = next-rule words parts c.args.op c.args.context.now _ c.loop-index.at c.loop-index._index
    c.word-count.result many c.loop-index-test.true (c.loop-index.invariant.2 parts h) in
    let t = turn words _ parts c.args.op c.args.context.now _ c.loop-index.at c.loop-index._index
    c.read_record-head.result _ c.as_slice.result.now c.loop-index.invariant.0 c.read_record-head.ensures.head
    c.read_record-head.ensures.record c.as_slice.ensures.value r in
    let room = t.found.room in
    let size = t.size in
    let before = c.loop-index.invariant.3 in
    let now = c.read_record-head.ensures.reads in
    omega arith

pub overflow_add-at : goal.overflow_add-at
overflow_add-at g c =
    let words = g.R.WordReader.words c.args.reader.now in
    let parts = c.requires.0 in
    let many = count-read words _ parts c.args.op c.number-2.result c.word-count.result c.requires.1
    c.word-place.ensures.stays c.number-2.ensures.number c.word-count.ensures.word in
    let r = next-rule words parts c.args.op c.args.context.now _ c.loop-index.at c.loop-index._index
    c.word-count.result many c.loop-index-test.true (c.loop-index.invariant.2 parts c.requires.1) in
    let t = turn words _ parts c.args.op c.args.context.now _ c.loop-index.at c.loop-index._index
    c.read_record-head.result _ c.as_slice.result.now c.loop-index.invariant.0 c.read_record-head.ensures.head
    c.read_record-head.ensures.record c.as_slice.ensures.value r in
    let size = t.size in
    let below = t.found.stands.below in
    omega arith

pub loop-index-preserved : goal.loop-index-preserved
loop-index-preserved g c = (
  c.read_record-head.ensures.stays ∙ c.loop-index.invariant.0,
  c.read_record-head.ensures.kept ∙ c.loop-index.invariant.1,
  λ parts h.
      let words = g.R.WordReader.words c.args.reader.now in
      let many = count-read words _ parts c.args.op c.number-2.result c.word-count.result h
      c.word-place.ensures.stays c.number-2.ensures.number c.word-count.ensures.word in
      let r = next-rule words parts c.args.op c.args.context.now c.word-place.result c.loop-index.at
      c.loop-index._index c.word-count.result many c.loop-index-test.true (c.loop-index.invariant.2 parts h) in
      let t = turn words _ parts c.args.op c.args.context.now c.word-place.result c.loop-index.at c.loop-index._index
      c.read_record-head.result _ c.as_slice.result.now c.loop-index.invariant.0 c.read_record-head.ensures.head
      c.read_record-head.ensures.record c.as_slice.ensures.value r in
      subst (λ (n : ℕ). AtRule words parts c.args.op c.args.context.now c.word-place.result (c.loop-index.at + n)
      (c.loop-index._index + 1)) (sym t.size)
      (t.found.next (sym (c.if-all_hold.ensures t.found.rule.properties t.are))),
  let before = c.loop-index.invariant.3 in let now = c.read_record-head.ensures.reads in omega arith,
)

pub returns-clause-stays : goal.returns-clause-stays
returns-clause-stays g c = c.loop-index.invariant.0

pub returns-clause-kept : goal.returns-clause-kept
returns-clause-kept g c = c.loop-index.invariant.1

pub returns-clause-found : goal.returns-clause-found
returns-clause-found g c parts h =
    let words = g.R.WordReader.words c.args.reader.now in
    let many = count-read words _ parts c.args.op c.number-2.result c.word-count.result h
    c.word-place.ensures.stays c.number-2.ensures.number c.word-count.ensures.word in
    none-here words parts c.args.op c.args.context.now _ c.loop-index.at c.loop-index._index (omega arith)
    (c.loop-index.invariant.2 parts h)

pub returns-clause-reads : goal.returns-clause-reads
returns-clause-reads g c parts h =
    let there = c.loop-index.invariant.2 parts h in
    let total = there.total in
    let before = c.loop-index.invariant.3 in
    omega arith
