-- What is printed of a value is read as that value.
use Rattle.std.proofs.Common.{◌≡◌, ℕ, zero, suc, ◌*◌, ◌<◌, ◌≤◌, true, not, codes, List, [], ◌∷◌, ◌++◌, length, Some, Ok, refl, ap, ◌∙◌, arith, rules, append_assoc}
use Rattle.std.specs.List.{list_all, before_first, after_first, AllByRecursion}
use Rattle.std.specs.Fmt.{decimal}
use Rattle.std.proofs.lemmas.Bool.{le-leb}
use Rattle.std.proofs.lemmas.Bool.Decides.{nat_tests}
use Rattle.std.proofs.lemmas.Fmt.{decimal_nonempty, digits_decimal, digits_value-decimal, length-decimal-le}
use Rattle.std.proofs.lemmas.Str.Parse.{IsNumeralModel, numerals_by_fold}
use Rattle.hex.specs.Hex.{IsBytes, decode_of, encode_lower}
use Rattle.hex.proofs.HexLemmas.{decode_of-encode_lower, decode_of-ok}
use Rattle.ipe_policy.specs.declared.version.Version.{Version}
use Rattle.line_words.specs.Words.{is_digit, digits_onto}
use Rattle.ipe_policy.specs.Version.{is_dot, part_of, version_of}
use Rattle.ipe_policy.specs.Spelling.{version_text}
use Rattle.ipe_parse.specs.Tokens.{hex_bytes}
use Rattle.ipe_parse.proofs.Bytes.{after-at, all-weaker, before-at}

-- ---- versions

-- digits and what they stand for, as the library knows them
own : IsNumeralModel (λ digits. list_all is_digit digits ≡ true) (digits_onto 0)
own = numerals_by_fold _ (search rules) digits_onto (search rules)

-- the digits of a number
pub decimal-digits : (n : ℕ) → n < 65536 → list_all is_digit (decimal n) ≡ true
decimal-digits n h = digits_decimal own n (omega arith)

-- a text that keeps the rules of a part is read as its number
part-read : (text : List ℕ) (n : ℕ) → 1 ≤ length text → length text ≤ 5 → list_all is_digit text ≡ true → digits_onto 0 text ≡ n → n ≤ 65535 → part_of text ≡ Some n
part-read text n low high digits value small =
    rw (value, le-leb 1 (length text) low, le-leb (length text) 5 high, digits, le-leb n 65535 small)

-- a number below 65,536 is read as a part of a version
part_of-decimal : (n : ℕ) → n < 65536 → part_of (decimal n) ≡ Some n
part_of-decimal n h =
    let some : 0 < length (decimal n) = decimal_nonempty n (omega arith) in
    let few : length (decimal n) ≤ 5 = length-decimal-le 5 n (omega arith) (omega arith) (omega arith) in
    part-read (decimal n) n (omega arith) few (decimal-digits n h) (digits_value-decimal own n (omega arith)) (omega arith)

-- a digit is no dot
digit-no_dot : (byte : ℕ) → is_digit byte ≡ true → not (is_dot byte) ≡ true
digit-no_dot byte h = grind (arith, nat_tests)

-- the three parts with two dots between
version_text-parts : (a b c : List ℕ) → (((a ++ codes ".") ++ b) ++ codes ".") ++ c ≡ a ++ 46 ∷ (b ++ 46 ∷ c)
version_text-parts a b c = simp append_assoc

-- a word of three parts is cut at its two dots
version-read : (a b c : List ℕ) (x y z : ℕ) → list_all is_digit a ≡ true → list_all is_digit b ≡ true → part_of a ≡ Some x → part_of b ≡ Some y → part_of c ≡ Some z
    → version_of (a ++ 46 ∷ (b ++ 46 ∷ c)) ≡ Some (record { major = x; minor = y; rev = z })
version-read a b c x y z da db ea eb ec =
    let na = all-weaker is_digit (λ byte. not (is_dot byte)) digit-no_dot a da in
    let nb = all-weaker is_digit (λ byte. not (is_dot byte)) digit-no_dot b db in
    let first : before_first is_dot (a ++ 46 ∷ (b ++ 46 ∷ c)) ≡ a = before-at is_dot a 46 (b ++ 46 ∷ c) na refl in
    let rest : after_first is_dot (a ++ 46 ∷ (b ++ 46 ∷ c)) ≡ b ++ 46 ∷ c = after-at is_dot a 46 (b ++ 46 ∷ c) na refl in
    let second : before_first is_dot (b ++ 46 ∷ c) ≡ b = before-at is_dot b 46 c nb refl in
    let third : after_first is_dot (b ++ 46 ∷ c) ≡ c = after-at is_dot b 46 c nb refl in
    rw (first, rest, second, third, ea, eb, ec)

-- each part of the version fits into 16 bits
pub record IsSmall (version : Version) : Type 0 where
  pub major : version.major < 65536
  pub minor : version.minor < 65536
  pub rev : version.rev < 65536

-- a version is read as itself
pub version_of-text : (version : Version) → IsSmall version → version_of (version_text version) ≡ Some version
version_of-text version h =
    ap version_of (version_text-parts (decimal version.major) (decimal version.minor) (decimal version.rev))
    ∙ version-read (decimal version.major) (decimal version.minor) (decimal version.rev) version.major version.minor version.rev
    (decimal-digits version.major h.major) (decimal-digits version.minor h.minor)
    (part_of-decimal version.major h.major) (part_of-decimal version.minor h.minor) (part_of-decimal version.rev h.rev)

-- ---- digests

-- bytes by cases on the list are bytes by index
pub bytes-by_index : (bytes : List ℕ) → AllByRecursion (λ byte. byte < 256) bytes → IsBytes bytes
bytes-by_index [] h i = omega arith
bytes-by_index (byte ∷ bytes) h zero = h.0
bytes-by_index (byte ∷ bytes) h (suc i) = bytes-by_index bytes h.1 i

-- one to 64 bytes are read as themselves
pub hex_bytes-encode_lower : (bytes : List ℕ) → IsBytes bytes → 1 ≤ length bytes → length bytes ≤ 64 → hex_bytes (encode_lower bytes) ≡ Some bytes
hex_bytes-encode_lower bytes h low high =
    let read : decode_of (encode_lower bytes) ≡ Ok bytes = decode_of-encode_lower bytes h in
    let ok = decode_of-ok (encode_lower bytes) bytes read in
    let twice : length (encode_lower bytes) ≡ 2 * length bytes = ok.2 in
    rw (le-leb 2 (length (encode_lower bytes)) (omega arith), le-leb (length (encode_lower bytes)) 128 (omega arith), read)
