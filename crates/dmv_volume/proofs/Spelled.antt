-- What words say.
use Rattle.std.proofs.Common.{◌≡◌, ℕ, ◌*◌, ◌<◌, ◌≤◌, ◌^◌, ◌⊎◌, List, [], length, None, Some, Result, Ok, Err, ap, refl, sym, ◌∙◌, arith, inl, inr}
use Rattle.std.specs.Prelude.{MatchResult, codes}
use Rattle.std.specs.Result.{result_ok}
use Rattle.dmv_tree.specs.Words.{block_size_of, salt_of}
use Rattle.dmv_tree.specs.Law.{TextsOfSizesSayThem}
use Rattle.std.proofs.lemmas.Slice.Eq.{bytes_eq-Decides}
use Rattle.std.specs.Fmt.{decimal}
use Rattle.std.proofs.lemmas.Fmt.{decimal_injective}
use Rattle.hex.specs.declared.error.FromHexError.{FromHexError}
use Rattle.hex.specs.Hex.{decode_of, decode_sized}
use Rattle.hex.proofs.HexLemmas.{decode_of-ok, decode_of-digits, decode_sized-ok, decode_sized-twice}
use Rattle.dmv_volume.specs.Words.{AreDigits, Meets}
use Rattle.dmv_volume.specs.Words.Rule.{BlockSize, Salt}

-- two numbers in one word are one
pub same_number : (word : List ℕ) (a b : ℕ) → a < 2 ^ 64 → b < 2 ^ 64 → word ≡ decimal a → word ≡ decimal b → a ≡ b
same_number word a b low high first second = decimal_injective a b low high (sym first ∙ second)

-- what decodes into room for 32 bytes
pub sized_digits : (word bytes : List ℕ) → decode_sized word 32 ≡ Ok bytes →
    AreDigits 64 64 word × (decode_of word ≡ Ok bytes)
sized_digits word bytes is =
    let count : length word ≡ 2 * 32 = decode_sized-ok word 32 bytes is in
    let whole : decode_of word ≡ Ok bytes = sym (decode_sized-twice word 32 count) ∙ is in
    let digits = decode_of-ok word bytes whole in
    ((omega arith, omega arith, digits.0, digits.1), whole)

pub sized_refused : (word : List ℕ) (e : FromHexError) → decode_sized word 32 ≡ Err e → AreDigits 64 64 word → ⊥
sized_refused word e is digits =
    let count : length word ≡ 2 * 32 = omega (arith, digits.0, digits.1) in
    let bytes = decode_of-digits word digits.2 digits.3 in
    let both : Ok bytes.0 ≡ Err e = sym bytes.1 ∙ (sym (decode_sized-twice word 32 count) ∙ is) in
    cc both

-- a slice was decoded into
pub written : (d : Result (List ℕ) FromHexError) (r : Result (Unit {0}) FromHexError) (out : List ℕ) →
    MatchResult d (λ bytes. (r ≡ Ok tt) × (out ≡ bytes)) (λ e. r ≡ Err e) → result_ok r ≡ Some tt → d ≡ Ok out
written (Ok bytes) r out is ok = ap Ok (sym is.1)
written (Err e) r out is ok = let none : result_ok r ≡ None = ap result_ok is in cc

pub not_written : (d : Result (List ℕ) FromHexError) (r : Result (Unit {0}) FromHexError) (out : List ℕ) →
    MatchResult d (λ bytes. (r ≡ Ok tt) × (out ≡ bytes)) (λ e. r ≡ Err e) → result_ok r ≡ None →
    (e : FromHexError) × (d ≡ Err e)
not_written (Ok bytes) r out is none = let some : result_ok r ≡ Some tt = ap result_ok is.0 in cc
not_written (Err e) r out is none = (e, refl)

-- a word that says no size of blocks is the text of none
pub size_none : TextsOfSizesSayThem → (word : List ℕ) → block_size_of word ≡ None → Meets [] word BlockSize → ⊥
size_none text_says word none (n, is, spelled) = let said = text_says n is in cc

-- a word that says a salt is a dash, or short enough and decoded
dash_or_decoded : (word salt : List ℕ) → salt_of 512 word ≡ Some salt →
    (word ≡ codes "-") ⊎ ((2 ≤ length word) × (length word ≤ 512) × (decode_of word ≡ Ok salt))
dash_or_decoded word salt is = grind (arith, bytes_eq-Decides)

-- so it meets the rule of salts
pub salt_some : (word salt : List ℕ) → salt_of 512 word ≡ Some salt → Meets [] word Salt
salt_some word salt is = elim (dash_or_decoded word salt is) [
  | inl dash ↦ inl dash
  | inr (low, high, decoded) ↦ let parts = decode_of-ok word salt decoded in inr (low, high, parts.0, parts.1)
]

-- and a word that says none doesn't
pub salt_none : (word : List ℕ) → salt_of 512 word ≡ None → Meets [] word Salt → ⊥
salt_none word none meets = grind (arith, decode_of-digits)
