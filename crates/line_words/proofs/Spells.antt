-- A word of a line that is taken for something is the one spelling of it.
use Rattle.std.proofs.Common.{◌≡◌, inl, inr, ℕ, zero, suc, ◌+◌, ◌-◌, ◌*◌, ◌/◌, ◌%◌, ◌<◌, Bool, true, false, cond, not, ◌&&◌, ◌||◌, ◌==◌, nat_le, List, [], ◌∷◌, ◌++◌, length, slice_index, Option, Some, refl, sym, ap, ◌∙◌, subst, arith}
use Rattle.std.specs.Cmp.Lexicographic.{same_text}
use Rattle.std.specs.List.{list_all, join_with_byte}
use Rattle.std.specs.Result.{result_ok}
use Rattle.std.proofs.lemmas.Bool.{and_parts, cases_lt, eqb-true}
use Rattle.std.proofs.lemmas.Bool.Decides.{nat_tests}
use Rattle.std.proofs.lemmas.Option.{same_Some}
use Rattle.std.proofs.lemmas.List.Splits.{join_with_byte-slice_split}
use Rattle.hex.specs.Hex.{IsBytes, decode_of, encode_lower, encode_with, lower_digits}
use Rattle.hex.proofs.HexLemmas.{decode_of-encode_lower}
use Rattle.line_words.specs.Lines.{joined, words_of}
use Rattle.line_words.specs.Words.{hex_of, is_hex, is_lower_hex, is_text}
use Rattle.line_words.proofs.Steps.{when-parts, if-cases}

-- ---- the words of a line

-- to part words by a blank is to join them by that byte
joined-is : (words : List (List ℕ)) → joined words ≡ join_with_byte 32 words
joined-is [] = refl
joined-is (word ∷ []) = refl
joined-is (word ∷ next ∷ words) = ap (λ (rest : List ℕ). word ++ 32 ∷ rest) (joined-is (next ∷ words))

-- the words of a line, parted by blanks, are the line
pub joined-words_of : (line : List ℕ) → joined (words_of line) ≡ line
joined-words_of line = joined-is (words_of line) ∙ join_with_byte-slice_split 32 line

-- a word that is a text by test is the text
pub text-is : (text word : List ℕ) → is_text text word ≡ true → word ≡ text
text-is text word e = same_text word text (sym e)

-- a word that is one of the words spells what that word names
pub named-is : {X : Type 0} (spelled : X → List ℕ) (text word : List ℕ) (x y : X) (o : Option X)
    → spelled x ≡ text → cond (is_text text word) (Some x) o ≡ Some y → (o ≡ Some y → word ≡ spelled y)
    → word ≡ spelled y
named-is spelled text word x y o own e others =
    if-cases (is_text text word) (Some x) o y e
    (λ is_it same. text-is text word is_it ∙ sym own ∙ ap spelled (same_Some x y same)) others

-- ---- digits that spell bytes

-- the value of a lower case digit
abbrev value_of : ℕ → ℕ
value_of digit = cond (nat_le digit 57) (digit - 48) (digit - 87)

-- the test that the table has a digit at the digit's value
abbrev is_written_back : ℕ → Bool
is_written_back digit = not (is_lower_hex digit) || (slice_index lower_digits (value_of digit) == digit)

-- the test of all below a number
abbrev all_written_back : ℕ → Bool
all_written_back zero = true
all_written_back (suc n) = is_written_back n && all_written_back n

-- where the test of all below a number holds, it holds of each
written_back-at : (n digit : ℕ) → all_written_back n ≡ true → digit < n → is_written_back digit ≡ true
written_back-at zero digit h below = absurd (omega arith)
written_back-at (suc n) digit h below =
    let parts = and_parts (is_written_back n) (all_written_back n) h in
    elim (cases_lt digit n) [
      | inl less ↦ written_back-at n digit parts.1 less
      | inr top ↦
          let e : digit ≡ n = omega arith in
          rw e parts.0
    ]

-- a lower case digit is the digit of its value
digit-is : (digit : ℕ) → is_lower_hex digit ≡ true
    → (value_of digit < 16) × (slice_index lower_digits (value_of digit) ≡ digit)
digit-is digit lower =
    let below : digit < 103 = grind (arith, nat_tests) in
    (grind (arith, nat_tests), written (is_lower_hex digit) lower (written_back-at 103 digit refl below))
  where
    written : (b : Bool) → b ≡ true → (not b || (slice_index lower_digits (value_of digit) == digit)) ≡ true
        → slice_index lower_digits (value_of digit) ≡ digit
    written true e h = eqb-true (slice_index lower_digits (value_of digit)) digit h
    written false e h = absurd (cc)

-- a byte in front of bytes
IsBytes-cons : (byte : ℕ) (bytes : List ℕ) → byte < 256 → IsBytes bytes → IsBytes (byte ∷ bytes)
IsBytes-cons byte bytes below rest zero = below
IsBytes-cons byte bytes below rest (suc i) = rest i

-- an even number of lower case digits is the text of some bytes
digits-are : (word : List ℕ) → length word % 2 ≡ 0 → list_all is_lower_hex word ≡ true
    → (bytes : List ℕ) × IsBytes bytes × (word ≡ encode_lower bytes)
unfolding encode_with
digits-are [] even lower = ([], λ i. omega arith, refl)
digits-are (high ∷ []) even lower = absurd (omega arith)
digits-are (high ∷ low ∷ word) even lower =
    let front = and_parts (is_lower_hex high) (list_all is_lower_hex (low ∷ word)) lower in
    let back = and_parts (is_lower_hex low) (list_all is_lower_hex word) front.1 in
    let one = digit-is high front.0 in
    let two = digit-is low back.0 in
    let rest = digits-are word (omega arith) back.1 in
    let byte : ℕ = value_of high * 16 + value_of low in
    let upper : byte / 16 ≡ value_of high = omega (arith, one.0, two.0) in
    let under : byte % 16 ≡ value_of low = omega (arith, one.0, two.0) in
    let below : byte < 256 = omega (arith, one.0, two.0) in
    (byte ∷ rest.0, IsBytes-cons byte rest.0 below rest.1, rw (upper, under, one.1, two.1, ← rest.2))

-- a word that spells bytes is the text of the bytes
pub hex_of-is : (low high : ℕ) (word bytes : List ℕ) → hex_of low high word ≡ Some bytes → word ≡ encode_lower bytes
unfolding hex_of
hex_of-is low high word bytes e =
    let given = when-parts (is_hex low high word) (result_ok (decode_of word)) bytes e in
    let test = and_parts _ (length word % 2 == 0) given.0 in
    let each = and_parts _ (list_all is_lower_hex word) test.0 in
    let found = digits-are word (eqb-true (length word % 2) 0 test.1) each.1 in
    let read = ap decode_of found.2 ∙ decode_of-encode_lower found.0 found.1 in
    found.2 ∙ ap encode_lower (same_Some found.0 bytes (sym (ap result_ok read) ∙ given.1))

-- two digits or more spell at least one byte
pub hex_of-some : (high : ℕ) (word : List ℕ) → hex_of 2 high word ≡ Some [] → ⊥
unfolding hex_of encode_with
hex_of-some high word e =
    let empty : word ≡ [] = hex_of-is 2 high word [] e in
    let given : hex_of 2 high [] ≡ Some [] = subst (λ (w : List ℕ). hex_of 2 high w ≡ Some []) empty e in
    cc
