-- When bytes are what std writes of a number in decimal.
use Rattle.std.proofs.Common.{◌≡◌, ℕ, zero, suc, ◌+◌, ◌-◌, ◌*◌, ◌^◌, ◌<◌, ◌≤◌, List, length, get_or, take, sym, ap, ◌∙◌, subst, arith, rules}
use Rattle.std.specs.Char.{digit_value}
use Rattle.std.specs.Int.{IsInRange}
use Rattle.std.specs.Fmt.{decimal}
use Rattle.std.specs.Str.Parse.{AllDigits, digits_value, IsNumeral}
use Rattle.std.proofs.lemmas.Str.Parse.{IsNumeralModel, numerals_by_value, tells_digits, digit_at, digits_value-take-le}
use Rattle.std.proofs.lemmas.Fmt.{decimal_is_IsNumeral, decimal-digits_value, decimal_digit, first_decimal, decimal_nonempty}
use Rattle.std.proofs.lemmas.Int.Digits.{digits_value_more, digits_more}

-- std's own words for digits and their value
own : IsNumeralModel (AllDigits 10) (digits_value 10)
own = numerals_by_value (AllDigits 10) tells_digits

-- the value of a decimal digit
digit_value-digit : (c : ℕ) → 48 ≤ c → c ≤ 57 → digit_value c ≡ c - 48
digit_value-digit c low high = search rules

-- a number's text is not empty
pub nonempty-from_decimal : (bs : List ℕ) (n : ℕ) → n < 2 ^ 64 → bs ≡ decimal n → 0 < length bs
nonempty-from_decimal bs n small e = let h : 0 < length (decimal n) = decimal_nonempty n small in omega (arith, ap length e)

-- a number's text has no zero in front, unless it is that zero
pub plain-from_decimal : (bs : List ℕ) (n : ℕ) → n < 2 ^ 64 → bs ≡ decimal n → get_or bs 0 0 ≡ 48 → length bs ≡ 1
plain-from_decimal bs zero small e lead = ap length (e ∙ decimal_digit 0 (omega arith))
plain-from_decimal bs (suc n) small e lead =
    let first : 48 < get_or (decimal (suc n)) 0 0 = first_decimal (suc n) (omega arith) small in
    let same : get_or bs 0 0 ≡ get_or (decimal (suc n)) 0 0 = ap (λ (ds : List ℕ). get_or ds 0 0) e in
    absurd (omega arith)

-- a byte of a number's text is a digit, and the text up to it writes no more than the number
pub record Continues (bs : List ℕ) (i max : ℕ) : Type 0 where
  pub low : 48 ≤ get_or bs i 0
  pub high : get_or bs i 0 ≤ 57
  pub within : digits_value 10 (take i bs) * 10 + (get_or bs i 0 - 48) ≤ max

pub Continues-from_decimal : (bs : List ℕ) (n max i : ℕ) → max < 2 ^ 64 → n ≤ max → bs ≡ decimal n → i < length bs → Continues bs i max
Continues-from_decimal bs n max i small below e inside =
    let numeral : IsNumeral 10 (decimal n) × (digits_value 10 (decimal n) ≡ n) = decimal_is_IsNumeral n (omega arith) in
    let P : List ℕ → Type 0 = λ ds. AllDigits 10 ds in
    let all : AllDigits 10 bs = subst P (sym e) numeral.0.1 in
    let value : digits_value 10 bs ≡ n = ap (λ (ds : List ℕ). digits_value 10 ds) e ∙ numeral.1 in
    let range : IsInRange 48 57 (get_or bs i 0) = digit_at bs i all inside in
    let digit : digit_value (get_or bs i 0) ≡ get_or bs i 0 - 48 = digit_value-digit (get_or bs i 0) range.0 range.1 in
    let front : digits_value 10 (take (i + 1) bs) ≤ digits_value 10 bs = digits_value-take-le 10 bs (i + 1) (omega arith) in
    let next : digits_value 10 (take (i + 1) bs) ≡ digits_value 10 (take i bs) * 10 + digit_value (get_or bs i 0) = digits_value_more 10 bs i inside in
    record { low = range.0; high = range.1; within = omega arith }

-- one digit more
pub record Longer (bs : List ℕ) (i value : ℕ) : Type 0 where
  pub digits : AllDigits 10 (take (i + 1) bs)
  pub value_is : value ≡ digits_value 10 (take (i + 1) bs)

pub Longer-from_digit : (bs : List ℕ) (i value next : ℕ) → i < length bs → AllDigits 10 (take i bs) → value ≡ digits_value 10 (take i bs) → 48 ≤ get_or bs i 0 → get_or bs i 0 ≤ 57 → next ≡ value * 10 + (get_or bs i 0 - 48) → Longer bs i next
Longer-from_digit bs i value next inside digits is low high e =
    let digit : digit_value (get_or bs i 0) ≡ get_or bs i 0 - 48 = digit_value-digit (get_or bs i 0) low high in
    let more : digits_value 10 (take (i + 1) bs) ≡ digits_value 10 (take i bs) * 10 + digit_value (get_or bs i 0) = digits_value_more 10 bs i inside in
    record { digits = digits_more 10 bs i inside digits (omega arith); value_is = omega arith }

-- digits without a zero in front are the text of their value
pub decimal-from_digits : (bs : List ℕ) (value : ℕ) → AllDigits 10 bs → value ≡ digits_value 10 bs → value < 2 ^ 64 → 0 < length bs → (get_or bs 0 0 ≡ 48 → length bs ≡ 1) → bs ≡ decimal value
decimal-from_digits bs value digits is small some plain =
    let fits : digits_value 10 bs < 2 ^ 64 = omega arith in
    sym (ap decimal is ∙ decimal-digits_value own bs digits some plain fits)
