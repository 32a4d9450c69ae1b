-- The words of numbers.
use Rattle.std.proofs.Common.{◌≡◌, ℕ, ◌<◌, ◌≤◌, ◌^◌, true, List, [], ◌∷◌, length, refl, arith}
use Rattle.std.specs.Fmt.{decimal}
use Rattle.std.specs.List.{list_all}
use Rattle.std.proofs.lemmas.Bool.{and_from, and_parts}
use Rattle.std.proofs.lemmas.Bool.Decides.{nat_tests}
use Rattle.std.proofs.lemmas.Fmt.{length-decimal-le}
use Rattle.line_words.specs.Words.{is_digit, is_word}
use Rattle.line_words.proofs.Numbers.{is_number-decimal}
use Rattle.ipe_sim.proofs.Says.{is_in_word}

digit_plain : (byte : ℕ) → is_digit byte ≡ true → is_in_word byte ≡ true
digit_plain byte e = grind (arith, nat_tests)

all_plain : (xs : List ℕ) → list_all is_digit xs ≡ true → list_all is_in_word xs ≡ true
all_plain [] e = refl
all_plain (x ∷ xs) e =
    let parts = and_parts (is_digit x) (list_all is_digit xs) e in
    and_from (is_in_word x) (list_all is_in_word xs) (digit_plain x parts.0) (all_plain xs parts.1)

-- digits are no blanks and no line feeds
pub decimal_plain : (n : ℕ) → n < 2 ^ 64 → list_all is_in_word (decimal n) ≡ true
decimal_plain n small =
    let word = and_parts (is_word 1 20 is_digit (decimal n)) _ (is_number-decimal (decimal n) n small refl) in
    all_plain (decimal n) (and_parts _ (list_all is_digit (decimal n)) word.0).1

pub decimal_short : (n : ℕ) → n < 2 ^ 64 → length (decimal n) ≤ 20
decimal_short n small = length-decimal-le 20 n (omega arith) (omega (arith, small)) small
