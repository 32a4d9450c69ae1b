-- What the words of a volume's table say is what a table that is read of them says.
use Rattle.std.proofs.Common.{◌≡◌, inl, inr, ℕ, zero, suc, ◌-◌, ◌%◌, ◌<◌, ◌≤◌, ◌^◌, Bool, true, false, cond, ◌&&◌, ◌||◌, ◌==◌, nat_le, eq-eqb, List, [], length, Option, Some, None, is_some, unwrap_or, codes, refl, sym, ap, ◌∙◌, subst, arith}
use Rattle.std.specs.Prelude.{IsTrue, IfSome}
use Rattle.std.specs.Fmt.{decimal, digits}
use Rattle.std.specs.List.{list_all, slice_get}
use Rattle.std.specs.Result.{result_ok}
use Rattle.std.proofs.lemmas.Bool.{and_parts, eqb-true, false≢true, leb-true, le-leb, or_cases}
use Rattle.std.proofs.lemmas.Option.{same_Some}
use Rattle.std.proofs.lemmas.List.Sums.{AllPass-from_list_all, list_all-from_AllPass}
use Rattle.std.proofs.lemmas.Slice.Eq.{bytes_eq-Decides}
use Rattle.hex.specs.Hex.{is_hex_digit}
use Rattle.line_words.specs.Words.{digits_onto, is_number, is_text, number_of}
use Rattle.line_words.proofs.Numbers.{number_of-decimal, number_of-is}
use Rattle.line_words.proofs.Spells.{text-is}
use Rattle.dmv_tree.specs.Blocks.{is_block_size}
use Rattle.dmv_tree.specs.Words.{block_size_of}
use Rattle.dmv_tree.proofs.Bytes.{at_most as size_at_most, size_cases}
use Rattle.dmv_volume.specs.Table.{HasLimits, Say, TableParts}
use Rattle.dmv_volume.specs.Words.{AreDigits, AreWhole, IsFirstBad, Meets, MeetsIts, WholeOrBad, WordsFit, Rule, Text, Name, BlockSize, SameAs, Number, Digits, Salt, may_end, rules, word_at}
use Rattle.ipe_requests.specs.Words.{at_least}
use Rattle.ipe_requests.specs.TableWords.{are_digits, meets, meets_its, table_of, table_said, words_fit}

-- ---- tests

both : (a b : Bool) → a ≡ true → b ≡ true → (a && b) ≡ true
both true b x y = y
both false b x y = x

either-first : (a b : Bool) → a ≡ true → (a || b) ≡ true
either-first true b x = refl
either-first false b x = absurd (false≢true x)

either-second : (a b : Bool) → b ≡ true → (a || b) ≡ true
either-second true b x = refl
either-second false b x = x

same-text : (text word : List ℕ) → word ≡ text → is_text text word ≡ true
same-text text word e = (bytes_eq-Decides word text).1 e

some-is : {A : Type 0} (o : Option A) (x : A) → o ≡ Some x → is_some o ≡ true
some-is o x e = ap is_some e

some-value : {A : Type 0} (o : Option A) → is_some o ≡ true → (x : A) × (o ≡ Some x)
some-value None e = absurd (false≢true e)
some-value (Some x) e = (x, refl)

-- ---- numbers

taken : (number within : Bool) (value n most : ℕ) → within ≡ nat_le value most
    → cond (number && within) (Some value) None ≡ Some n → (value ≡ n) × (n ≤ most)
taken true true value n most is e =
    let same : value ≡ n = same_Some value n e in
    (same, subst (λ (x : ℕ). x ≤ most) same (leb-true value most (sym is)))
taken true false value n most is e = absurd (cc)
taken false within value n most is e = absurd (cc)

-- a number that a word says is the value of its digits, and at most the most
number_of-parts : (word : List ℕ) (most n : ℕ) → number_of most word ≡ Some n → (digits_onto 0 word ≡ n) × (n ≤ most)
unfolding number_of
number_of-parts word most n e =
    taken (is_number word) (nat_le (digits_onto 0 word) most) (digits_onto 0 word) n most refl e

digits-said : (word : List ℕ) (n : ℕ) → n < 2 ^ 64 → word ≡ decimal n → digits_onto 0 word ≡ n
digits-said word n small e = (number_of-parts word n n (number_of-decimal word n n small (omega arith) e)).0

at_least-some : (low n : ℕ) (o : Option ℕ) → o ≡ Some n → low ≤ n → is_some (at_least low o) ≡ true
at_least-some low n o e below =
    ap (λ (p : Option ℕ). is_some (at_least low p)) e ∙ chosen (nat_le low n) (le-leb low n below)
  where
    chosen : (b : Bool) → b ≡ true → is_some (cond b (Some n) None) ≡ true
    chosen true e = refl
    chosen false e = absurd (false≢true e)

at_least-value : (low : ℕ) (o : Option ℕ) → is_some (at_least low o) ≡ true → (n : ℕ) × (o ≡ Some n) × (low ≤ n)
at_least-value low None e = absurd (false≢true e)
at_least-value low (Some n) e = (n, refl, leb-true low n (chosen (nat_le low n) e))
  where
    chosen : (b : Bool) → is_some (cond {A = Option ℕ} b (Some n) None) ≡ true → b ≡ true
    chosen true e = refl
    chosen false e = e

-- ---- a word and its rule

size_said : (n : ℕ) → IsTrue (is_block_size n) → block_size_of (decimal n) ≡ Some n
unfolding digits
size_said n is = size_cases n (λ (x : ℕ). block_size_of (decimal x) ≡ Some x) refl refl refl refl is

size_parts : (word : List ℕ) → IfSome (block_size_of word) (λ n. IsTrue (is_block_size n) × (word ≡ decimal n))
unfolding digits
size_parts word = grind (arith, bytes_eq-Decides)

size-value : (word : List ℕ) (o : Option ℕ) → IfSome o (λ n. IsTrue (is_block_size n) × (word ≡ decimal n))
    → is_some o ≡ true → (n : ℕ) × IsTrue (is_block_size n) × (word ≡ decimal n)
size-value word None parts e = absurd (false≢true e)
size-value word (Some n) parts e = (n, parts.0, parts.1)

digits-true : (low high : ℕ) (word : List ℕ) → AreDigits low high word → are_digits low high word ≡ true
digits-true low high word (least, most, even, all) =
    both (nat_le low (length word) && nat_le (length word) high && (length word % 2 == 0)) (list_all is_hex_digit word)
    (both (nat_le low (length word) && nat_le (length word) high) (length word % 2 == 0)
    (both (nat_le low (length word)) (nat_le (length word) high) (le-leb low (length word) least)
    (le-leb (length word) high most)) (eq-eqb (length word % 2) 0 even))
    (list_all-from_AllPass is_hex_digit word all)

digits-are : (low high : ℕ) (word : List ℕ) → are_digits low high word ≡ true → AreDigits low high word
digits-are low high word e =
    let last = and_parts (nat_le low (length word) && nat_le (length word) high && (length word % 2 == 0))
    (list_all is_hex_digit word) e in
    let mid = and_parts (nat_le low (length word) && nat_le (length word) high) (length word % 2 == 0) last.0 in
    let front = and_parts (nat_le low (length word)) (nat_le (length word) high) mid.0 in (
      leb-true low (length word) front.0,
      leb-true (length word) high front.1,
      eqb-true (length word % 2) 0 mid.1,
      AllPass-from_list_all is_hex_digit word last.1,
    )

-- numbers in the rules are of 64 bits
abbrev is_small : Rule → Bool
is_small (Number low high) = nat_le high 18446744073709551615
is_small other = true

abbrev all_small : Option Rule → Bool
all_small None = true
all_small (Some rule) = is_small rule

smalls : (count : ℕ) → all_small (slice_get rules count) ≡ true
smalls zero = refl
smalls (suc zero) = refl
smalls (suc (suc zero)) = refl
smalls (suc (suc (suc zero))) = refl
smalls (suc (suc (suc (suc zero)))) = refl
smalls (suc (suc (suc (suc (suc zero))))) = refl
smalls (suc (suc (suc (suc (suc (suc zero)))))) = refl
smalls (suc (suc (suc (suc (suc (suc (suc zero))))))) = refl
smalls (suc (suc (suc (suc (suc (suc (suc (suc zero)))))))) = refl
smalls (suc (suc (suc (suc (suc (suc (suc (suc (suc zero))))))))) = refl
smalls (suc (suc (suc (suc (suc (suc (suc (suc (suc (suc zero)))))))))) = refl
smalls (suc (suc (suc (suc (suc (suc (suc (suc (suc (suc (suc zero))))))))))) = refl
smalls (suc (suc (suc (suc (suc (suc (suc (suc (suc (suc (suc (suc zero)))))))))))) = refl
smalls (suc (suc (suc (suc (suc (suc (suc (suc (suc (suc (suc (suc (suc n))))))))))))) = refl

meets-true : (words : List (List ℕ)) (word : List ℕ) (rule : Rule) → is_small rule ≡ true → Meets words word rule
    → meets words word rule ≡ true
meets-true words word (Text text) small m = same-text text word m
meets-true words word Name small m = m
meets-true words word BlockSize small (n, is, spelled) =
    ap (λ (w : List ℕ). is_some (block_size_of w)) spelled ∙ some-is (block_size_of (decimal n)) n (size_said n is)
meets-true words word (SameAs number) small m = same-text (word_at words number) word m
meets-true words word (Number low high) small (n, least, most, spelled) =
    at_least-some low n (number_of high word)
    (number_of-decimal word high n (omega (arith, leb-true high 18446744073709551615 small)) most spelled) least
meets-true words word (Digits low high) small m = digits-true low high word m
meets-true words word Salt small (inl dash) =
    either-first (is_text (codes "-") word) (are_digits 2 512 word) (same-text (codes "-") word dash)
meets-true words word Salt small (inr m) =
    either-second (is_text (codes "-") word) (are_digits 2 512 word) (digits-true 2 512 word m)

meets-is : (words : List (List ℕ)) (word : List ℕ) (rule : Rule) → is_small rule ≡ true → meets words word rule ≡ true
    → Meets words word rule
meets-is words word (Text text) small e = text-is text word e
meets-is words word Name small e = e
meets-is words word BlockSize small e = size-value word (block_size_of word) (size_parts word) e
meets-is words word (SameAs number) small e = text-is (word_at words number) word e
meets-is words word (Number low high) small e =
    let found = at_least-value low (number_of high word) e in (
      found.0,
      found.2,
      (number_of-parts word high found.0 found.1).1,
      number_of-is word high found.0 (omega (arith, leb-true high 18446744073709551615 small)) found.1,
    )
meets-is words word (Digits low high) small e = digits-are low high word e
meets-is words word Salt small e = elim (or_cases (is_text (codes "-") word) (are_digits 2 512 word) e) [
  | inl dash ↦ inl (text-is (codes "-") word dash)
  | inr more ↦ inr (digits-are 2 512 word more)
]

its-true : (words : List (List ℕ)) (word : List ℕ) (o : Option Rule) → all_small o ≡ true → MeetsIts words word o
    → meets_its words word o ≡ true
its-true words word None small m = absurd m
its-true words word (Some rule) small m = meets-true words word rule small m

its-is : (words : List (List ℕ)) (word : List ℕ) (o : Option Rule) → all_small o ≡ true
    → meets_its words word o ≡ true → MeetsIts words word o
its-is words word None small e = false≢true e
its-is words word (Some rule) small e = meets-is words word rule small e

before : (count : ℕ) → suc count - 1 ≡ count
before count = omega arith

fit-true : (words : List (List ℕ)) (count : ℕ) → WordsFit words count → words_fit words count ≡ true
fit-true words zero fit = refl
fit-true words (suc count) fit =
    both (words_fit words count) (meets_its words (word_at words (suc count)) (slice_get rules count))
    (fit-true words count fit.0)
    (its-true words (word_at words (suc count)) (slice_get rules count) (smalls count)
    (subst (λ (k : ℕ). MeetsIts words (word_at words (suc count)) (slice_get rules k)) (before count) fit.1))

fit-is : (words : List (List ℕ)) (count : ℕ) → words_fit words count ≡ true → WordsFit words count
fit-is words zero e = tt
fit-is words (suc count) e =
    let parts = and_parts (words_fit words count)
    (meets_its words (word_at words (suc count)) (slice_get rules count)) e in (
      fit-is words count parts.0,
      subst (λ (k : ℕ). MeetsIts words (word_at words (suc count)) (slice_get rules k)) (sym (before count))
          (its-is words (word_at words (suc count)) (slice_get rules count) (smalls count) parts.1),
    )

-- ---- the table

small_size : (n : ℕ) → IsTrue (is_block_size n) → n < 2 ^ 64
small_size n is = omega (arith, size_at_most n is)

-- the words of a table say it
said-is : (words : List (List ℕ)) (table : TableParts) → Say words table → HasLimits table → table ≡ table_said words
said-is words table say limits i = record {
  device = sym say.device i;
  hash_device = sym say.hash_device i;
  block_size = sym (digits-said (word_at words 4) table.block_size (small_size table.block_size limits.block_size)
      say.block_size) i;
  blocks = sym (digits-said (word_at words 6) table.blocks (omega (arith, limits.few)) say.blocks) i;
  hash_start = sym (digits-said (word_at words 7) table.hash_start (omega (arith, limits.hash_start)) say.hash_start) i;
  root = sym (ap (λ r. unwrap_or (result_ok r) []) say.root) i;
  salt = sym (ap (λ (o : Option (List ℕ)). unwrap_or o []) say.salt) i;
  has_option = say.has_option i;
}

pub table-read : (words : List (List ℕ)) (table : TableParts) → AreWhole words → Say words table → HasLimits table
    → Some table ≡ table_of words
unfolding table_of
table-read words table whole say limits =
    chosen (may_end (length words)) (words_fit words (length words)) whole.at_end
    (fit-true words (length words) whole.fit)
  where
    chosen : (a b : Bool) → a ≡ true → b ≡ true → Some table ≡ cond (a && b) (Some (table_said words)) None
    chosen true true x y = ap Some (said-is words table say limits)
    chosen true false x y = absurd (false≢true y)
    chosen false b x y = absurd (false≢true x)

pub table-refused : (words : List (List ℕ)) (number : ℕ) → WholeOrBad → IsFirstBad words number → None ≡ table_of words
unfolding table_of
table-refused words number law bad =
    chosen (may_end (length words)) (words_fit words (length words)) (λ ends fit.
    law words number (record { fit = fit-is words (length words) fit; at_end = ends }) bad)
  where
    chosen : (a b : Bool) → (a ≡ true → b ≡ true → ⊥)
        → None ≡ cond {A = Option TableParts} (a && b) (Some (table_said words)) None
    chosen true true never = absurd (never refl refl)
    chosen true false never = refl
    chosen false b never = refl
