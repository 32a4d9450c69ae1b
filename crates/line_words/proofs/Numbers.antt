-- When a word is a number without leading zeros.
use Rattle.std.proofs.Common.{◌≡◌, ℕ, zero, suc, ◌^◌, ◌<◌, ◌≤◌, Bool, true, false, not, ◌&&◌, ◌||◌, ◌==◌, nat_le, List, length, get_or, Some, None, cond, eq-eqb, refl, sym, ap, ◌∙◌, subst, arith, rules}
use Rattle.std.specs.List.{list_all}
use Rattle.std.specs.Fmt.{decimal}
use Rattle.std.proofs.lemmas.Bool.{false≢true, eqb-true}
use Rattle.std.proofs.lemmas.Bool.Decides.{nat_tests}
use Rattle.std.proofs.lemmas.Str.Parse.{IsNumeralModel, numerals_by_fold}
use Rattle.std.proofs.lemmas.Option.{same_Some, none-some}
use Rattle.std.proofs.lemmas.Fmt.{digits_decimal, digits_value-decimal, decimal-digits_value, decimal_digit, first_decimal, decimal_nonempty, length-decimal-le}
use Rattle.line_words.specs.Words.{digits_onto, is_digit, is_number, number_of}

abbrev all_digits : List ℕ → Type 0
all_digits word = list_all is_digit word ≡ true

own : IsNumeralModel all_digits (digits_onto 0)
own = numerals_by_fold all_digits (search rules) digits_onto (search rules)

-- a number's text has no zero in front, unless it is that zero
plain : (word : List ℕ) (n : ℕ) → n < 2 ^ 64 → word ≡ decimal n → get_or word 0 0 ≡ 48 → length word ≡ 1
plain word zero small e lead = ap length (e ∙ decimal_digit 0 (omega arith))
plain word (suc n) small e lead =
    let first : 48 < get_or (decimal (suc n)) 0 0 = first_decimal (suc n) (omega arith) small in
    let same : get_or word 0 0 ≡ get_or (decimal (suc n)) 0 0 = ap (λ (ds : List ℕ). get_or ds 0 0) e in
    absurd (omega arith)

tested : (low high digits one lead : Bool) → low ≡ true → high ≡ true → digits ≡ true → (lead ≡ true → one ≡ true) → (low && high && digits && (one || not lead)) ≡ true
tested low high digits true lead a b c d = rw (a, b, c)
tested low high digits false true a b c d = absurd (false≢true (d refl))
tested low high digits false false a b c d = rw (a, b, c)

parts : (low high digits one lead : Bool) → (low && high && digits && (one || not lead)) ≡ true → (low ≡ true) × (digits ≡ true) × (lead ≡ true → one ≡ true)
parts false high digits one lead h = absurd (false≢true h)
parts true false digits one lead h = absurd (false≢true h)
parts true true false one lead h = absurd (false≢true h)
parts true true true true lead h = (refl, refl, λ _. refl)
parts true true true false true h = absurd (false≢true h)
parts true true true false false h = (refl, refl, λ e. absurd (false≢true e))

chosen : (number within : Bool) (value n : ℕ) → number ≡ true → within ≡ true → value ≡ n → cond (number && within) (Some value) None ≡ Some n
chosen number within value n a b e = rw (a, b) (ap Some e)

-- where a value is given, both tests held, and it is that value
taken : (number within : Bool) (value n : ℕ) → cond (number && within) (Some value) None ≡ Some n
    → (number ≡ true) × (within ≡ true) × (value ≡ n)
taken true true value n e = (refl, refl, same_Some value n e)
taken true false value n e = absurd (none-some n e)
taken false within value n e = absurd (none-some n e)

refused : (number within : Bool) (value : ℕ) → (number ≡ true → within ≡ true → ⊥) → cond (number && within) (Some value) None ≡ None
refused true true value never = absurd (never refl refl)
refused true false value never = refl
refused false within value never = refl

pub is_number-decimal : (word : List ℕ) (n : ℕ) → n < 2 ^ 64 → word ≡ decimal n → is_number word ≡ true
is_number-decimal word n small e =
    let some : 0 < length (decimal n) = decimal_nonempty n small in
    let few : length (decimal n) ≤ 20 = length-decimal-le 20 n (omega arith) (omega arith) small in
    let same : length word ≡ length (decimal n) = ap length e in
    let digits : list_all is_digit word ≡ true = subst all_digits (sym e) (digits_decimal own n small) in
    let first : get_or word 0 0 ≡ 48 → length word ≡ 1 = plain word n small e in
    let low : nat_le 1 (length word) ≡ true = grind (arith, nat_tests) in
    let high : nat_le (length word) 20 ≡ true = grind (arith, nat_tests) in
    tested (nat_le 1 (length word)) (nat_le (length word) 20) (list_all is_digit word) (length word == 1) (get_or word 0 0 == 48) low high digits (λ lead. eq-eqb (length word) 1 (first (eqb-true (get_or word 0 0) 48 lead)))

pub number_of-decimal : (word : List ℕ) (most n : ℕ) → most < 2 ^ 64 → n ≤ most → word ≡ decimal n → number_of most word ≡ Some n
unfolding number_of
number_of-decimal word most n small below e =
    let number : is_number word ≡ true = is_number-decimal word n (omega arith) e in
    let value : digits_onto 0 word ≡ n = ap (digits_onto 0) e ∙ digits_value-decimal own n (omega arith) in
    let within : nat_le (digits_onto 0 word) most ≡ true = grind (arith, nat_tests) in
    chosen (is_number word) (nat_le (digits_onto 0 word) most) (digits_onto 0 word) n number within value

pub number_of-none : (word : List ℕ) (most : ℕ) → most < 2 ^ 64 → ((n : ℕ) → n ≤ most → word ≡ decimal n → ⊥) → number_of most word ≡ None
unfolding number_of
number_of-none word most small none =
    refused (is_number word) (nat_le (digits_onto 0 word) most) (digits_onto 0 word) (λ number within.
    let told : (nat_le 1 (length word) ≡ true) × (list_all is_digit word ≡ true) × ((get_or word 0 0 == 48) ≡ true → (length word == 1) ≡ true) = parts (nat_le 1 (length word)) (nat_le (length word) 20) (list_all is_digit word) (length word == 1) (get_or word 0 0 == 48) number in
    let some : 0 < length word = grind (arith, nat_tests, told.0) in
    let below : digits_onto 0 word ≤ most = grind (arith, nat_tests) in
    let first : get_or word 0 0 ≡ 48 → length word ≡ 1 = λ lead. eqb-true (length word) 1 (told.2 (eq-eqb (get_or word 0 0) 48 lead)) in
    none (digits_onto 0 word) below (sym (decimal-digits_value own word told.1 some first (omega arith))))

-- a word that is a number is the number's text
pub number_of-is : (word : List ℕ) (most n : ℕ) → most < 2 ^ 64 → number_of most word ≡ Some n → word ≡ decimal n
unfolding number_of
number_of-is word most n small e =
    let number : (is_number word ≡ true) × (nat_le (digits_onto 0 word) most ≡ true) × (digits_onto 0 word ≡ n) =
    taken (is_number word) (nat_le (digits_onto 0 word) most) (digits_onto 0 word) n e in
    let told = parts (nat_le 1 (length word)) (nat_le (length word) 20) (list_all is_digit word) (length word == 1)
    (get_or word 0 0 == 48) number.0 in
    let some : 0 < length word = grind (arith, nat_tests, told.0) in
    let below : digits_onto 0 word ≤ most = grind (arith, nat_tests, number.1) in
    let first : get_or word 0 0 ≡ 48 → length word ≡ 1 =
    λ lead. eqb-true (length word) 1 (told.2 (eq-eqb (get_or word 0 0) 48 lead)) in
    sym (decimal-digits_value own word told.1 some first (omega arith)) ∙ ap decimal number.2
