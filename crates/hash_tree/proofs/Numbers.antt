-- Quotients that are rounded up.
use Rattle.std.proofs.Common.{◌≡◌, ℕ, zero, suc, ◌+◌, ◌-◌, ◌*◌, ◌/◌, ◌%◌, ◌^◌, ◌<◌, ◌≤◌, min, ap, sym, ◌∙◌, arith, inl, inr}
use Rattle.std.specs.Int.{div_ceil}
use Rattle.std.proofs.lemmas.Bool.{cases_lt}
use Rattle.std.proofs.lemmas.Nat.{div-mul-add, div-add-mod', mod_below, le-div}
use Rattle.std.proofs.Math.Nat.{add-div_right, div-eq_of_lt, div-lt_self, div-div-eq-div-mul, pow-succ', pow-suc, pow-zero, one-le-pow, suc-mul, div-one, div-mul-le_self}

-- the same, where the number is given by its quotient and its remainder
from_parts : (q r n d : ℕ) → q * d + r ≡ n → r < d → 0 < n → q + min 1 r ≡ (n - 1) / d + 1
from_parts zero zero n d split below some = absurd (omega arith)
from_parts zero (suc r) n d split below some =
    let small : n - 1 < d = omega arith in
    let none : (n - 1) / d ≡ 0 = div-eq_of_lt small in
    omega arith
from_parts (suc q) zero n d split below some =
    let product : suc q * d ≡ q * d + d = suc-mul q d in
    let before : n - 1 ≡ q * d + (d - 1) = omega arith in
    let quotient : (n - 1) / d ≡ q = ap (λ (x : ℕ). x / d) before ∙ div-mul-add q d (d - 1) (omega arith) in
    omega arith
from_parts (suc q) (suc r) n d split below some =
    let before : n - 1 ≡ suc q * d + r = omega arith in
    let quotient : (n - 1) / d ≡ suc q = ap (λ (x : ℕ). x / d) before ∙ div-mul-add (suc q) d r (omega arith) in
    omega arith

-- a quotient that is rounded up is one more than the quotient of the number below
pub div_ceil_is : (n d : ℕ) → 0 < d → 0 < n → div_ceil n d ≡ (n - 1) / d + 1
div_ceil_is n d positive some = from_parts (n / d) (n % d) n d (div-add-mod' n d) (mod_below n d positive) some

-- of nothing it is nothing
pub div_ceil_none : (d : ℕ) → 0 < d → div_ceil 0 d ≡ 0
div_ceil_none d positive =
    let quotient : 0 / d ≡ 0 = div-eq_of_lt positive in
    let rest : 0 % d < d = mod_below 0 d positive in
    let split : 0 / d * d + 0 % d ≡ 0 = div-add-mod' 0 d in
    omega arith

-- of something it is something
pub div_ceil_some : (n d : ℕ) → 0 < d → 0 < n → 0 < div_ceil n d
div_ceil_some n d positive some = let is = div_ceil_is n d positive some in omega (arith, is)

-- of two and more, by two and more, it is less
pub div_ceil_less : (n d : ℕ) → 2 ≤ d → 2 ≤ n → div_ceil n d < n
div_ceil_less n d many more =
    let is = div_ceil_is n d (omega arith) (omega arith) in
    let less : (n - 1) / d < n - 1 = div-lt_self (omega arith) (omega arith) in
    omega (arith, is)

-- with one divisor's worth taken off it is one less
pub div_ceil_more : (n d : ℕ) → 0 < d → 0 < n → div_ceil n d ≡ suc (div_ceil (n - d) d)
div_ceil_more n d positive some =
    let is = div_ceil_is n d positive some in
    elim (cases_lt d n) [
      | inl above ↦
          let rest = div_ceil_is (n - d) d positive (omega arith) in
          let before : n - 1 ≡ (n - d - 1) + d = omega arith in
          let quotient : (n - 1) / d ≡ (n - d - 1) / d + 1 = ap (λ (x : ℕ). x / d) before
          ∙ add-div_right (n - d - 1) positive in
          omega (arith, is, rest)
      | inr within ↦
          let none : n - d ≡ 0 = omega arith in
          let rest : div_ceil (n - d) d ≡ 0 = ap (λ (x : ℕ). div_ceil x d) none ∙ div_ceil_none d positive in
          let quotient : (n - 1) / d ≡ 0 = div-eq_of_lt (omega arith) in
          omega (arith, is, rest)
    ]

-- of something within one divisor's worth it is one
pub div_ceil_one : (n d : ℕ) → 0 < n → n ≤ d → div_ceil n d ≡ 1
div_ceil_one n d some within =
    let is = div_ceil_is n d (omega arith) some in
    let quotient : (n - 1) / d ≡ 0 = div-eq_of_lt (omega arith) in
    omega (arith, is)

-- powers of a number that isn't 0 are not 0
pub power_some : (h k : ℕ) → 0 < h → 0 < h ^ k
power_some h k positive = omega (arith, one-le-pow k h positive)

-- a quotient by the next power
pub div_power_more : (n h k : ℕ) → n / h ^ suc k ≡ n / h / h ^ k
div_power_more n h k = ap (λ (x : ℕ). n / x) (pow-succ' h k) ∙ sym (div-div-eq-div-mul n h (h ^ k))

-- the same, with the power first
pub div_power_then : (n h k : ℕ) → n / h ^ suc k ≡ n / h ^ k / h
div_power_then n h k = ap (λ (x : ℕ). n / x) (pow-suc h k) ∙ sym (div-div-eq-div-mul n (h ^ k) h)

-- a quotient that is rounded up, and then divided by a power and rounded up again
pub div_ceil_power : (n h k : ℕ) → 0 < h → 0 < n → div_ceil (div_ceil n h) (h ^ k) ≡ div_ceil n (h ^ suc k)
div_ceil_power n h k positive some =
    let first = div_ceil_is n h positive some in
    let second = div_ceil_is (div_ceil n h) (h ^ k) (power_some h k positive) (div_ceil_some n h positive some) in
    let both = div_ceil_is n (h ^ suc k) (power_some h (suc k) positive) some in
    let before : div_ceil n h - 1 ≡ (n - 1) / h = omega (arith, first) in
    let quotient : (div_ceil n h - 1) / h ^ k ≡ (n - 1) / h ^ suc k = ap (λ (x : ℕ). x / h ^ k) before
    ∙ sym (div_power_more (n - 1) h k) in
    second ∙ (ap (λ (x : ℕ). x + 1) quotient ∙ sym both)

-- quotients by a power of a number below another are below that other's quotient, rounded up
pub div_below_ceil : (i n d : ℕ) → 0 < d → i < n → i / d < div_ceil n d
div_below_ceil i n d positive within =
    let is = div_ceil_is n d positive (omega arith) in
    let order : i / d ≤ (n - 1) / d = le-div (i / d) (n - 1) d positive (omega (arith, div-mul-le_self i d)) in
    omega (arith, is)

-- a quotient that is rounded up, by 1
pub div_ceil_by_one : (n h : ℕ) → 0 < n → div_ceil n (h ^ 0) ≡ n
div_ceil_by_one n h some =
    let by_one : div_ceil n 1 ≡ (n - 1) / 1 + 1 = div_ceil_is n 1 (omega arith) some in
    let quotient : (n - 1) / 1 ≡ n - 1 = div-one (n - 1) in
    ap (λ (x : ℕ). div_ceil n x) (pow-zero h) ∙ omega (arith, by_one)

-- a quotient that is divided by a power and rounded up, and then divided once more and rounded up
pub div_ceil_power_then : (n h k : ℕ) → 0 < h → 0 < n → div_ceil (div_ceil n (h ^ k)) h ≡ div_ceil n (h ^ suc k)
div_ceil_power_then n h k positive some =
    let first = div_ceil_is n (h ^ k) (power_some h k positive) some in
    let second = div_ceil_is (div_ceil n (h ^ k)) h positive (div_ceil_some n (h ^ k) (power_some h k positive) some) in
    let both = div_ceil_is n (h ^ suc k) (power_some h (suc k) positive) some in
    let before : div_ceil n (h ^ k) - 1 ≡ (n - 1) / h ^ k = omega (arith, first) in
    let quotient : (div_ceil n (h ^ k) - 1) / h ≡ (n - 1) / h ^ suc k =
    ap (λ (x : ℕ). x / h) before ∙ sym (div_power_then (n - 1) h k) in
    second ∙ (ap (λ (x : ℕ). x + 1) quotient ∙ sym both)
