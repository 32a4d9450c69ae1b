-- The words of a verity target's table line, as the Linux kernel's admin-guide/device-mapper/verity.rst has them.
use Rattle.std.specs.Prelude.{◌≡◌, ℕ, zero, suc, ◌-◌, ◌%◌, ◌≤◌, ◌==◌, ◌||◌, ◌⊎◌, Bool, IsTrue, codes, List, [], ◌∷◌, length, slice_index_or, Option, Some, None}
use Rattle.std.specs.Fmt.{decimal}
use Rattle.std.specs.List.{AllPass, slice_get}
use Rattle.line_words.specs.Words.{is_visible, is_word}
use Rattle.hex.specs.Hex.{is_hex_digit}
use Rattle.dmv_tree.specs.Blocks.{is_block_size}

-- the word of a number, counted from 1; one that is missing is empty
abbrev pub word_at : List (List ℕ) → ℕ → List ℕ
word_at words number = slice_index_or words (number - 1) []

-- what a word may be: this text, a name, a size of blocks, the same as the word of this number, a number between two
-- others, hexadecimal digits that are between so many, or a salt, which is a dash or 2 to 512 digits
pub data Rule : Type 0 where
  Text : List ℕ → Rule
  Name : Rule
  BlockSize : Rule
  SameAs : ℕ → Rule
  Number : ℕ → ℕ → Rule
  Digits : ℕ → ℕ → Rule
  Salt : Rule

-- the rules of the words, in order
abbrev pub rules : List Rule
rules =
    Text (codes "1") ∷ Name ∷ Name ∷ BlockSize ∷ SameAs 4 ∷ Number 1 4096 ∷ Number 0 1048576
    ∷ Text (codes "sha256") ∷ Digits 64 64 ∷ Salt
    ∷ Text (codes "2") ∷ Text (codes "root_hash_sig_key_desc") ∷ Name ∷ []

-- after so many words a line may end: the option's three may be left out
abbrev pub may_end : ℕ → Bool
may_end count = (count == 10) || (count == 13)

-- a name: 1 to 255 visible bytes
abbrev pub is_name : List ℕ → Bool
is_name word = is_word 1 255 is_visible word

-- hexadecimal digits of either case, an even number of them, between two others
abbrev pub AreDigits : ℕ → ℕ → List ℕ → Type 0
AreDigits low high word =
    (low ≤ length word) × (length word ≤ high) × (length word % 2 ≡ 0) × AllPass is_hex_digit word

-- a word meets a rule
abbrev pub Meets : List (List ℕ) → List ℕ → Rule → Type 0
Meets words word (Text text) = word ≡ text
Meets words word Name = IsTrue (is_name word)
Meets words word BlockSize = (n : ℕ) × IsTrue (is_block_size n) × (word ≡ decimal n)
Meets words word (SameAs number) = word ≡ word_at words number
Meets words word (Number low high) = (n : ℕ) × (low ≤ n) × (n ≤ high) × (word ≡ decimal n)
Meets words word (Digits low high) = AreDigits low high word
Meets words word Salt = (word ≡ codes "-") ⊎ AreDigits 2 512 word

-- a word meets its rule, where it has one
abbrev pub MeetsIts : List (List ℕ) → List ℕ → Option Rule → Type 0
MeetsIts words word None = ⊥
MeetsIts words word (Some rule) = Meets words word rule

-- the word of a number meets its rule; a word that is missing doesn't, where the words before it meet theirs
abbrev pub WordFits : List (List ℕ) → ℕ → Type 0
WordFits words number = MeetsIts words (word_at words number) (slice_get rules (number - 1))

-- the first words, so many, meet their rules
abbrev pub WordsFit : List (List ℕ) → ℕ → Type 0
WordsFit words zero = Unit {0}
WordsFit words (suc count) = WordsFit words count × WordFits words (suc count)

-- the word of this number is the first that is bad or missing or one too many
pub record IsFirstBad (words : List (List ℕ)) (number : ℕ) : Type 0 where
  pub counted : 1 ≤ number
  pub before : WordsFit words (number - 1)
  pub bad : WordFits words number → ⊥
  pub not_at_end : IsTrue (may_end (number - 1)) → length words ≡ number - 1 → ⊥

-- all the words meet their rules, and the line ends where it may
pub record AreWhole (words : List (List ℕ)) : Type 0 where
  pub fit : WordsFit words (length words)
  pub at_end : IsTrue (may_end (length words))

-- no line that is whole has a first bad word
abbrev pub WholeOrBad : Type 0
WholeOrBad = (words : List (List ℕ)) (number : ℕ) → AreWhole words → IsFirstBad words number → ⊥

-- no line has two first bad words
abbrev pub OneFirstBad : Type 0
OneFirstBad =
    (words : List (List ℕ)) (number other : ℕ) → IsFirstBad words number → IsFirstBad words other → number ≡ other
