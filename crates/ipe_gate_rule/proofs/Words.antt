-- The word ACTIVE and its parts.
use Rattle.std.proofs.Common.{◌≡◌, ℕ, ◌+◌, ◌/◌, ◌%◌, ◌^◌, ◌<◌, ◌≤◌, ◌==◌, Bool, true, false, arith, eq-eqb, ne_eqb}
use Rattle.ipe_gate_rule.specs.Active.{bit, packed_word, slot_in, enforce_in, success_in}

bit_small : (b : Bool) → bit b ≤ 1
bit_small true = omega arith
bit_small false = omega arith

pub word_more : (c e s : ℕ) (x y : Bool) → packed_word c e s x y + 1 ≡ packed_word (c + 1) e s x y
word_more c e s x y = omega arith

pub word_small : (c e s : ℕ) (x y : Bool) → c < 2 ^ 40 → e < 2 ^ 16 → s < 64 → packed_word c e s x y < 2 ^ 64
word_small c e s x y hc he hs = omega (arith, bit_small x, bit_small y)

pub word_added : (c e s : ℕ) (x y : Bool) → c + 1 < 2 ^ 40 → e < 2 ^ 16 → s < 64 → (packed_word c e s x y + 1) % 2 ^ 64 ≡ packed_word (c + 1) e s x y
word_added c e s x y hc he hs = let a = word_small (c + 1) e s x y hc he hs in let b = word_more c e s x y in omega arith

test_bit : (x : Bool) (n : ℕ) → n ≡ bit x → (n == 1) ≡ x
test_bit true n e = eq-eqb n 1 e
test_bit false n e = ne_eqb n 1 (omega arith)

pub count_part : (c e s : ℕ) (x y : Bool) → c < 2 ^ 40 → packed_word c e s x y % 2 ^ 40 ≡ c
count_part c e s x y hc = omega arith

pub epoch_part : (c e s : ℕ) (x y : Bool) → c < 2 ^ 40 → e < 2 ^ 16 → packed_word c e s x y / 2 ^ 40 % 2 ^ 16 ≡ e
epoch_part c e s x y hc he = omega arith

pub slot_part : (c e s : ℕ) (x y : Bool) → c < 2 ^ 40 → e < 2 ^ 16 → s < 64 → slot_in (packed_word c e s x y) ≡ s
slot_part c e s x y hc he hs = omega arith

pub enforce_part : (c e s : ℕ) (x y : Bool) → c < 2 ^ 40 → e < 2 ^ 16 → s < 64 → enforce_in (packed_word c e s x y) ≡ x
enforce_part c e s x y hc he hs = test_bit x (packed_word c e s x y / 2 ^ 62 % 2) (omega (arith, bit_small x))

pub success_part : (c e s : ℕ) (x y : Bool) → c < 2 ^ 40 → e < 2 ^ 16 → s < 64 → success_in (packed_word c e s x y) ≡ y
success_part c e s x y hc he hs = test_bit y (packed_word c e s x y / 2 ^ 63 % 2) (omega (arith, bit_small x, bit_small y))
