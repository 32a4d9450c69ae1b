-- Texts that stand within a line: none of their bytes is a line feed.
use Rattle.std.proofs.Common.{◌≡◌, ℕ, ℤ, pos, negsuc, zero, suc, ◌+◌, ◌/◌, ◌%◌, ◌<◌, ◌&&◌, Bool, true, false, cond, not, List, [], ◌∷◌, ◌++◌, get_or, refl, subst, ap, ◌∙◌, arith}
use Rattle.std.specs.Prelude.{codes, ◌==◌, nat_le, length}
use Rattle.std.specs.List.{AllByRecursion, list_all}
use Rattle.std.specs.Fmt.{decimal, digit_glyph, digits, digits_onto, signed_decimal}
use Rattle.std.proofs.lemmas.Bool.{and_parts, eqb-true, false≢true, false_from_ne_true, lt-ltb, ne_eqb}
use Rattle.hex.specs.Hex.{encode_lower, encode_with, lower_digits}
use Rattle.ipe_policy.specs.declared.version.Version.{Version}
use Rattle.line_words.specs.Words.{is_word}
use Rattle.line_words.specs.Lines.{joined, is_line_feed}
use Rattle.ipe_policy.specs.Spelling.{version_text}

-- no byte of a text passes a test
abbrev pub Lacks : (ℕ → Bool) → List ℕ → Type 0
Lacks test text = AllByRecursion (λ (byte : ℕ). test byte ≡ false) text

-- so it is for two texts, one after the other
Lacks-append : (test : ℕ → Bool) (one two : List ℕ) → Lacks test one → Lacks test two → Lacks test (one ++ two)
Lacks-append test [] two h k = k
Lacks-append test (byte ∷ one) two h k = (h.0, Lacks-append test one two h.1 k)

-- a text within a line
abbrev pub Whole : List ℕ → Type 0
Whole text = Lacks is_line_feed text

-- two texts within a line
pub both : (one two : List ℕ) → Whole one → Whole two → Whole (one ++ two)
both one two h k = Lacks-append is_line_feed one two h k

-- a text and parts after it, one after another
abbrev pub chain : List ℕ → List (List ℕ) → List ℕ
chain text [] = text
chain text (part ∷ parts) = chain (text ++ part) parts

-- so it is for parts after a text
pub chain_whole : (text : List ℕ) (parts : List (List ℕ)) → Whole text → AllByRecursion Whole parts → Whole (chain text parts)
chain_whole text [] h all = h
chain_whole text (part ∷ parts) h all = chain_whole (text ++ part) parts (both text part h all.0) all.1

-- what follows from a test and from its denial
either : (P : List ℕ → Type 0) (test : Bool) (one two : List ℕ) → P one → P two → P (cond test one two)
either P true one two h k = h
either P false one two h k = k

-- a digit that is written is 48 and its value
glyph_is : (digit : ℕ) → digit < 10 → digit_glyph false digit ≡ 48 + digit
glyph_is digit small = rw (lt-ltb digit 10 small) refl

module _ (test : ℕ → Bool) (fails : (digit : ℕ) → digit < 10 → test (48 + digit) ≡ false) where
  -- digits that are written before others
  digits_lack : (most n : ℕ) (behind : List ℕ) → Lacks test behind → Lacks test (digits_onto most 10 false n behind)
  digits_lack zero n behind h = h
  digits_lack (suc most) n behind h =
      let small : n % 10 < 10 = omega arith in
      let glyph : test (digit_glyph false (n % 10)) ≡ false = ap test (glyph_is (n % 10) small) ∙ fails (n % 10) small in
      let next : List ℕ = digit_glyph false (n % 10) ∷ behind in
      either (Lacks test) (n / 10 == 0) next (digits_onto most 10 false (n / 10) next) (glyph, h) (digits_lack most (n / 10) next (glyph, h))

  -- a decimal number
  pub decimal_lacks : (n : ℕ) → Lacks test (decimal n)
  unfolding digits
  decimal_lacks n = digits_lack 64 n [] tt

-- no digit is a line feed
digit_no_feed : (digit : ℕ) → digit < 10 → is_line_feed (48 + digit) ≡ false
digit_no_feed digit small = ne_eqb (48 + digit) 10 (λ e. omega arith)

-- a number stands within a line
pub decimal_whole : (n : ℕ) → Whole (decimal n)
decimal_whole n = decimal_lacks is_line_feed digit_no_feed n

-- so does a number with its sign
pub signed_whole : (z : ℤ) → Whole (signed_decimal z)
signed_whole (pos n) = decimal_whole n
signed_whole (negsuc n) = (refl, decimal_whole (suc n))

-- the two sides of a test that holds
sides : (feed others : Bool) → (not feed && others) ≡ true → (feed ≡ false) × (others ≡ true)
sides true others h = absurd (false≢true h)
sides false others h = (refl, h)

-- fixed words stand within a line, where a test of each byte says so
pub words_whole : (text : List ℕ) → list_all (λ byte. not (is_line_feed byte)) text ≡ true → Whole text
words_whole [] h = tt
words_whole (byte ∷ text) h =
    let parts = sides (is_line_feed byte) (list_all (λ byte. not (is_line_feed byte)) text) h in
    (parts.0, words_whole text parts.1)

-- fixed words and a part after a text within a line
pub then_part : (text words part : List ℕ) → Whole text → list_all (λ byte. not (is_line_feed byte)) words ≡ true → Whole part → Whole (text ++ words ++ part)
then_part text words part h k p = both (text ++ words) part (both text words h (words_whole words k)) p

-- a byte that may stand where a line feed may not is none
no_feed : (may_stand : ℕ → Bool) (byte : ℕ) → may_stand 10 ≡ false → may_stand byte ≡ true → is_line_feed byte ≡ false
no_feed may_stand byte feed stands =
    false_from_ne_true (is_line_feed byte) (λ same. false≢true (subst (λ (b : Bool). b ≡ true) feed (subst (λ (x : ℕ). may_stand x ≡ true) (eqb-true byte 10 same) stands)))

-- bytes that may all stand where a line feed may not
bytes_whole : (may_stand : ℕ → Bool) (text : List ℕ) → may_stand 10 ≡ false → list_all may_stand text ≡ true → Whole text
bytes_whole may_stand [] feed all = tt
bytes_whole may_stand (byte ∷ text) feed all =
    let parts = and_parts (may_stand byte) (list_all may_stand text) all in
    (no_feed may_stand byte feed parts.0, bytes_whole may_stand text feed parts.1)

-- a word of bytes that are no line feeds
pub word_whole : (low high : ℕ) (may_stand : ℕ → Bool) (word : List ℕ) → may_stand 10 ≡ false → is_word low high may_stand word ≡ true → Whole word
word_whole low high may_stand word feed is =
    bytes_whole may_stand word feed (and_parts (nat_le low (length word) && nat_le (length word) high) (list_all may_stand word) is).1

-- an element of a text within a line, and what stands for one past its end, is no line feed
get_whole : (text : List ℕ) (place : ℕ) → Whole text → is_line_feed (get_or text place 0) ≡ false
get_whole [] place h = refl
get_whole (byte ∷ text) zero h = h.0
get_whole (byte ∷ text) (suc place) h = get_whole text place h.1

-- hexadecimal digits stand within a line
pub hex_whole : (bytes : List ℕ) → Whole (encode_lower bytes)
unfolding encode_with
hex_whole [] = tt
hex_whole (byte ∷ bytes) =
    let table : Whole lower_digits = words_whole lower_digits refl in
    (get_whole lower_digits (byte / 16) table, (get_whole lower_digits (byte % 16) table, hex_whole bytes))

-- so does a version
pub version_whole : (version : Version) → Whole (version_text version)
version_whole version =
    let dot : Whole (codes ".") = words_whole (codes ".") refl in
    chain_whole (decimal version.major) (codes "." ∷ decimal version.minor ∷ codes "." ∷ decimal version.rev ∷ []) (decimal_whole version.major)
    (dot, (decimal_whole version.minor, (dot, (decimal_whole version.rev, tt))))

-- so do words parted by one blank
pub joined_whole : (words : List (List ℕ)) → AllByRecursion Whole words → Whole (joined words)
joined_whole [] all = tt
joined_whole (word ∷ []) all = all.0
joined_whole (word ∷ next ∷ words) all = both word (32 ∷ joined (next ∷ words)) all.0 (refl, joined_whole (next ∷ words) all.1)
