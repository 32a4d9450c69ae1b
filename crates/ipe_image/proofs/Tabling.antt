-- The tables and the records of the operations so far.
use Rattle.std.proofs.Common.{◌≡◌, ◌∙◌, ℕ, ◌+◌, ◌<◌, suc, zero, List, [], ◌∷◌, ◌++◌, length, map, sum_by, take, drop, get_or, refl, ap, sym, arith, append_assoc, append-nil, length-append}
use Rattle.std.specs.List.{flat_map}
use Rattle.std.proofs.lemmas.Grind.{flat_map-append}
use Rattle.std.proofs.lemmas.List.{at_drop_more, drop_more, take_more}
use Rattle.std.proofs.lemmas.List.Sums.{sum_by_push}
use Rattle.ipe_policy.specs.declared.op.Op.{Op}
use Rattle.ipe_policy.specs.declared.op.Op.TheVariants.{Execute}
use Rattle.ipe_policy.specs.Statement.{RuleParts, op_number, operations}
use Rattle.ipe_image.specs.Image.{grouped, place_if_any, place_of, records, rule_record, rules_of, words_of_op}
use Rattle.ipe_image.proofs.Sizes.{length-records}

-- how many rules an operation has
abbrev pub many_of : List RuleParts → Op → ℕ
many_of rules op = length (rules_of rules op)

-- what is there for so many operations, and what for those that are left, are all
pub record Tabled (rules : List RuleParts) (i : ℕ) (places counts words : List ℕ) : Type 0 where
  pub places_are : places ++ map (place_of rules) (drop i operations) ≡ map (place_of rules) operations
  pub counts_are : counts ++ map (many_of rules) (drop i operations) ≡ map (many_of rules) operations
  pub records_are : words ++ records (flat_map (rules_of rules) (drop i operations)) ≡ records (grouped rules)
  pub many_places : length places ≡ i
  pub many_counts : length counts ≡ i
  pub size : length words ≡ sum_by (words_of_op rules) (take i operations)

pub tabled-first : (rules : List RuleParts) (places counts words : List ℕ) → places ≡ [] → counts ≡ [] → words ≡ []
    → Tabled rules 0 places counts words
tabled-first rules places counts words places_is counts_is words_is = record {
  places_are = ap (λ (ws : List ℕ). ws ++ map (place_of rules) operations) places_is;
  counts_are = ap (λ (ws : List ℕ). ws ++ map (many_of rules) operations) counts_is;
  records_are = ap (λ (ws : List ℕ). ws ++ records (grouped rules)) words_is;
  many_places = ap length places_is;
  many_counts = ap length counts_is;
  size = ap length words_is;
}

-- the operation at a place is of this number
op-at : (i : ℕ) → i < 7 → op_number (get_or operations i Execute) ≡ i
op-at zero few = refl
op-at (suc zero) few = refl
op-at (suc (suc zero)) few = refl
op-at (suc (suc (suc zero))) few = refl
op-at (suc (suc (suc (suc zero)))) few = refl
op-at (suc (suc (suc (suc (suc zero))))) few = refl
op-at (suc (suc (suc (suc (suc (suc zero)))))) few = refl
op-at (suc (suc (suc (suc (suc (suc (suc i))))))) few = absurd (omega arith)

-- words that are put after others, where those of one operation more are known
next-words : (f : Op → ℕ) (i : ℕ) (words : List ℕ) (word : ℕ) → i < 7 → word ≡ f (get_or operations i Execute)
    → (words ++ word ∷ []) ++ map f (drop (i + 1) operations) ≡ words ++ map f (drop i operations)
next-words f i words word some is =
    append_assoc words (word ∷ []) (map f (drop (i + 1) operations))
    ∙ ap (λ (w : ℕ). words ++ w ∷ map f (drop (i + 1) operations)) is
    ∙ ap (λ (ws : List ℕ). words ++ ws) (sym (at_drop_more (map f) operations i Execute some))

-- one operation more
pub tabled-next : (rules : List RuleParts) (i count pushed : ℕ) (places counts words places' counts' more : List ℕ)
    → i < 7 → count ≡ many_of rules (get_or operations i Execute) → pushed ≡ place_if_any (25 + length words) count
    → more ≡ words ++ records (rules_of rules (get_or operations i Execute))
    → places' ≡ places ++ pushed ∷ [] → counts' ≡ counts ++ count ∷ []
    → Tabled rules i places counts words → Tabled rules (i + 1) places' counts' more
tabled-next rules i count pushed places counts words places' counts' more some many pushed_is more_is places_is counts_is h =
    let op = get_or operations i Execute in
    let tail = flat_map (rules_of rules) (drop (i + 1) operations) in
    let record_of : (ℕ × RuleParts) → List ℕ = λ rule. rule_record rule.0 rule.1 in
    let before : ℕ = sum_by (words_of_op rules) (take (op_number op) operations) in
    let number : op_number op ≡ i = op-at i some in
    let before_is : before ≡ length words =
    ap (λ (n : ℕ). sum_by (words_of_op rules) (take n operations)) number ∙ sym h.size in
    let at : pushed ≡ place_of rules op =
    pushed_is ∙ ap (λ (n : ℕ). place_if_any (25 + n) count) (sym before_is) ∙ ap (place_if_any (25 + before)) many in
    let next_records : more ++ records tail ≡ words ++ records (flat_map (rules_of rules) (drop i operations)) =
    ap (λ (ws : List ℕ). ws ++ records tail) more_is
    ∙ append_assoc words (records (rules_of rules op)) (records tail)
    ∙ ap (λ (ws : List ℕ). words ++ ws) (sym (flat_map-append record_of (rules_of rules op) tail))
    ∙ ap (λ (ops : List Op). words ++ records (flat_map (rules_of rules) ops)) (sym (drop_more operations i Execute some)) in
    record {
      places_are = ap (λ (ws : List ℕ). ws ++ map (place_of rules) (drop (i + 1) operations)) places_is
          ∙ next-words (place_of rules) i places pushed some at ∙ h.places_are;
      counts_are = ap (λ (ws : List ℕ). ws ++ map (many_of rules) (drop (i + 1) operations)) counts_is
          ∙ next-words (many_of rules) i counts count some many ∙ h.counts_are;
      records_are = next_records ∙ h.records_are;
      many_places = ap length places_is ∙ length-append places (pushed ∷ []) ∙ ap (λ (n : ℕ). n + 1) h.many_places;
      many_counts = ap length counts_is ∙ length-append counts (count ∷ []) ∙ ap (λ (n : ℕ). n + 1) h.many_counts;
      size = ap length more_is ∙ length-append words (records (rules_of rules op))
          ∙ ap (λ (n : ℕ). n + length (records (rules_of rules op))) h.size
          ∙ ap (λ (n : ℕ). sum_by (words_of_op rules) (take i operations) + n) (length-records (rules_of rules op))
          ∙ sym (sum_by_push (words_of_op rules) (take i operations) op)
          ∙ ap (sum_by (words_of_op rules)) (sym (take_more operations i Execute some));
    }

-- what is there for all operations
pub record AllTabled (rules : List RuleParts) (places counts words : List ℕ) : Type 0 where
  pub places_are : places ≡ map (place_of rules) operations
  pub counts_are : counts ≡ map (many_of rules) operations
  pub records_are : words ≡ records (grouped rules)

pub tabled-all : (rules : List RuleParts) (i : ℕ) (places counts words : List ℕ) → i ≡ 7
    → Tabled rules i places counts words → AllTabled rules places counts words
tabled-all rules i places counts words all h =
    let places_left : map (place_of rules) (drop i operations) ≡ [] =
    ap (λ (n : ℕ). map (place_of rules) (drop n operations)) all in
    let counts_left : map (many_of rules) (drop i operations) ≡ [] =
    ap (λ (n : ℕ). map (many_of rules) (drop n operations)) all in
    let records_left : records (flat_map (rules_of rules) (drop i operations)) ≡ [] =
    ap (λ (n : ℕ). records (flat_map (rules_of rules) (drop n operations))) all in
    record {
      places_are = sym (append-nil places) ∙ ap (λ (ws : List ℕ). places ++ ws) (sym places_left) ∙ h.places_are;
      counts_are = sym (append-nil counts) ∙ ap (λ (ws : List ℕ). counts ++ ws) (sym counts_left) ∙ h.counts_are;
      records_are = sym (append-nil words) ∙ ap (λ (ws : List ℕ). words ++ ws) (sym records_left) ∙ h.records_are;
    }
