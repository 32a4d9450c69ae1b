-- The records of an operation, one after the other.
use Rattle.std.proofs.Common.{◌≡◌, ◌∙◌, ℕ, suc, ◌+◌, ◌-◌, ◌<◌, ◌≤◌, ◌==◌, true, false, cond, Bool, List, [], ◌∷◌, ◌++◌, length, sum_by, get_or, take, drop, Some, None, refl, ap, sym, arith, append_assoc, length-append, length-drop}
use Rattle.std.specs.Prelude.{nat_le}
use Rattle.std.specs.List.{list_all, find}
use Rattle.std.proofs.lemmas.Bool.{and_parts, leb-true}
use Rattle.std.proofs.lemmas.List.Sums.{sum_by-cons}
use Rattle.std.proofs.lemmas.List.{drop_at, drop_more, take_at, drop-drop, get_or-drop, get_or-take}
use Rattle.ipe_policy.specs.declared.op.Op.{Op}
use Rattle.ipe_policy.specs.declared.evaluation.Context.{Context}
use Rattle.ipe_policy.specs.Statement.{RuleParts, op_number, operations}
use Rattle.ipe_policy.specs.Spelling.{rule_words}
use Rattle.ipe_image.specs.Parts.{ImageParts}
use Rattle.ipe_image.specs.Image.{grouped, place_if_any, place_of, records, rule_record, rules_of, words_of, words_of_op, words_used}
use Rattle.ipe_image.specs.Reading.{fits_rule}
use Rattle.ipe_image.specs.Heads.{IsRuleHead}
use Rattle.ipe_image.specs.Decision.{first_match_in}
use Rattle.ipe_image.specs.Found.{IsRecordAt}
use Rattle.ipe_image.proofs.Compare.{differ}
use Rattle.ipe_image.proofs.Groups.{find-in-group, group-stands, holding, sound, sound-group, words-before}
use Rattle.ipe_image.proofs.Sizes.{few-rule_words, fewer-rules, length-rule_record}
use Rattle.ipe_image.proofs.Places.{Complete, Places}

-- after so many rules of the operation, from a start on, the others stand from here on, and the first match is theirs
pub record AtRule (words : List ℕ) (parts : ImageParts) (op : Op) (context : Context) (start at index : ℕ) : Type 0 where
  pub left : List (ℕ × RuleParts)
  pub behind : List ℕ
  pub place : drop at words ≡ records left ++ behind
  pub count : index + length left ≡ length (rules_of parts.rules op)
  pub each : list_all sound left ≡ true
  pub same : find (holding context) left ≡ first_match_in parts op context
  pub total : at + words_of left ≡ start + words_of_op parts.rules op
  pub below : at + words_of left ≤ 4096

-- the first record of an operation stands where the words say
pub at-first : (words : List ℕ) (parts : ImageParts) (op : Op) (context : Context) (behind : List ℕ) (start : ℕ)
    → Complete parts → Places words parts behind → start ≡ get_or words (11 + op_number op) 0
    → AtRule words parts op context start start 0
at-first words parts op context behind start complete p start_is =
    from (rules_of parts.rules op) refl (start_is ∙ p.place op)
  where
    before : ℕ
    before = sum_by (words_of_op parts.rules) (take (op_number op) operations)

    stands : (rest : List ℕ) × (drop before (records (grouped parts.rules) ++ behind)
        ≡ records (rules_of parts.rules op) ++ rest)
    stands = group-stands parts.rules op behind

    from : (rules : List (ℕ × RuleParts)) → rules_of parts.rules op ≡ rules
        → start ≡ place_if_any (25 + before) (length (rules_of parts.rules op))
        → AtRule words parts op context start start 0
    from [] none is =
        let zero_is : start ≡ 0 = is
        ∙ ap (λ (rules : List (ℕ × RuleParts)). place_if_any (25 + before) (length rules)) none in
        let nothing : words_of_op parts.rules op ≡ 0 = ap words_of none in
        record {
          left = rules_of parts.rules op;
          behind = words;
          place = ap (λ (n : ℕ). drop n words) zero_is
              ∙ ap (λ (rules : List (ℕ × RuleParts)). records rules ++ words) (sym none);
          count = omega arith;
          each = sound-group parts.rules op (let few = complete.few in omega (arith, fewer-rules parts.rules)) complete.fit;
          same = find-in-group parts.rules op context;
          total = refl;
          below = omega arith;
        }
    from (rule ∷ rules) some is =
        let count = length (rules_of parts.rules op) in
        let many = ap length some in
        let there : (count == 0) ≡ false = differ count 0 (λ e. omega arith) in
        let start_at : start ≡ 25 + before = is ∙ ap (λ (b : Bool). cond b 0 (25 + before)) there in
        record {
          left = rules_of parts.rules op;
          behind = stands.0;
          place = ap (λ (n : ℕ). drop n words) start_at ∙ sym (drop-drop before 25 words) ∙ ap (drop before) p.rest
              ∙ stands.1;
          count = omega arith;
          each = sound-group parts.rules op (let few = complete.few in omega (arith, fewer-rules parts.rules)) complete.fit;
          same = find-in-group parts.rules op context;
          total = refl;
          below = let few = complete.few in omega (arith, words-before parts.rules op);
        }

-- the next rule: its record stands here, it is the first match or the first match is further on
pub record Here (words : List ℕ) (parts : ImageParts) (op : Op) (context : Context) (start at index : ℕ) : Type 0 where
  pub number : ℕ
  pub rule : RuleParts
  pub stands : IsRecordAt words at number rule
  pub found : holding context (number, rule) ≡ true → first_match_in parts op context ≡ Some (number, rule)
  pub next : holding context (number, rule) ≡ false
      → AtRule words parts op context start (at + rule_words rule) (index + 1)
  pub room : at + rule_words rule ≤ start + words_of_op parts.rules op

pub here : (words : List ℕ) (parts : ImageParts) (op : Op) (context : Context) (start at index : ℕ)
    → index < length (rules_of parts.rules op) → AtRule words parts op context start at index
    → Here words parts op context start at index
here words parts op context start at index more h = step h.left h.place h.count h.each h.same h.total h.below
  where
    step : (left : List (ℕ × RuleParts)) → drop at words ≡ records left ++ h.behind
        → index + length left ≡ length (rules_of parts.rules op) → list_all sound left ≡ true
        → find (holding context) left ≡ first_match_in parts op context
        → at + words_of left ≡ start + words_of_op parts.rules op → at + words_of left ≤ 4096
        → Here words parts op context start at index
    step [] place count each same total below = absurd (omega arith)
    step (rule ∷ rules) place count each same total below =
        let both = and_parts (sound rule) (list_all sound rules) each in
        let one = and_parts (nat_le rule.0 4096) (fits_rule rule.1) both.0 in
        let record_of = rule_record rule.0 rule.1 in
        let rest = records rules ++ h.behind in
        let spread : drop at words ≡ record_of ++ rest = place ∙ append_assoc record_of (records rules) h.behind in
        let size : length record_of ≡ rule_words rule.1 = length-rule_record rule.0 rule.1 in
        let some : 1 ≤ rule_words rule.1 = omega arith in
        let dropped : length words - at ≡ length record_of + length rest =
        sym (length-drop at words) ∙ ap length spread ∙ length-append record_of rest in
        let sum : words_of (rule ∷ rules) ≡ rule_words rule.1 + words_of rules =
        sum_by-cons (λ (r : ℕ × RuleParts). rule_words r.1) rule rules in
        record {
          number = rule.0;
          rule = rule.1;
          stands = record {
            narrow = omega (arith, leb-true rule.0 4096 one.0);
            fits = one.1;
            few = few-rule_words rule.1 one.1;
            within = omega arith;
            below = omega arith;
            whole = ap (take (rule_words rule.1)) spread ∙ take_at record_of rest (rule_words rule.1) size;
          };
          found = λ e. sym same ∙ ap (λ (b : Bool). cond b (Some rule) (find (holding context) rules)) e;
          next = λ e. record {
            left = rules;
            behind = h.behind;
            place = sym (drop-drop (rule_words rule.1) at words) ∙ ap (drop (rule_words rule.1)) spread
                ∙ drop_at record_of rest (rule_words rule.1) size;
            count = omega arith;
            each = both.1;
            same = sym (ap (λ (b : Bool). cond b (Some rule) (find (holding context) rules)) e) ∙ same;
            total = omega arith;
            below = omega arith;
          };
          room = omega arith;
        }

-- no rule is left, so none matches
pub none-here : (words : List ℕ) (parts : ImageParts) (op : Op) (context : Context) (start at index : ℕ)
    → length (rules_of parts.rules op) ≤ index → AtRule words parts op context start at index
    → first_match_in parts op context ≡ None
none-here words parts op context start at index past h = step h.left h.count h.same
  where
    step : (left : List (ℕ × RuleParts)) → index + length left ≡ length (rules_of parts.rules op)
        → find (holding context) left ≡ first_match_in parts op context → first_match_in parts op context ≡ None
    step [] count same = sym same
    step (rule ∷ rules) count same = absurd (omega arith)

-- the record of a rule begins with its head
pub record-head : (words : List ℕ) (at number : ℕ) (rule : RuleParts) → IsRecordAt words at number rule
    → IsRuleHead (get_or words at 0) number rule
record-head words at number rule stands =
    let some : 0 < rule_words rule = omega arith in
    let here : at ≡ at + 0 = omega arith in
    record {
      narrow = stands.narrow;
      fits = stands.fits;
      head = ap (λ (n : ℕ). get_or words n 0) here ∙ sym (get_or-drop at words 0 0)
          ∙ sym (get_or-take (rule_words rule) (drop at words) 0 0 some)
          ∙ ap (λ (ws : List ℕ). get_or ws 0 0) stands.whole;
    }

-- its first word and those after it are the record
pub record-whole : (words : List ℕ) (at number : ℕ) (rule : RuleParts) (n : ℕ) → IsRecordAt words at number rule
    → 1 + n ≡ rule_words rule → get_or words at 0 ∷ take n (drop (at + 1) words) ≡ rule_record number rule
record-whole words at number rule n stands size =
    let within = stands.within in
    let some : at < length words = omega arith in
    let count : suc n ≡ rule_words rule = omega arith in
    ap (take (suc n)) (sym (drop_more words at 0 some)) ∙ ap (λ (m : ℕ). take m (drop at words)) count ∙ stands.whole

-- the place of an operation's first record is a place of an image
pub place-small : (parts : ImageParts) (op : Op) → words_used parts ≤ 4096 → place_of parts.rules op ≤ 4096
place-small parts op few = at (length (rules_of parts.rules op) == 0)
  where
    before : ℕ
    before = sum_by (words_of_op parts.rules) (take (op_number op) operations)

    at : (b : Bool) → cond b 0 (25 + before) ≤ 4096
    at true = omega arith
    at false = omega (arith, words-before parts.rules op)
