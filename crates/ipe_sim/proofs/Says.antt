-- A line that is spelled of what it says is read as it, and so are lines one after another.
use Rattle.std.proofs.Common.{◌≡◌, ℕ, zero, suc, ◌+◌, ◌<◌, Bool, true, false, not, ◌&&◌, ◌==◌, List, [], ◌∷◌, ◌++◌, length, Option, Some, Result, Ok, Err, refl, sym, ap, ◌∙◌, arith}
use Rattle.std.specs.List.{All, list_all, slice_split}
use Rattle.std.proofs.lemmas.Bool.{and_from, and_parts, not-true}
use Rattle.std.proofs.lemmas.List.{append_assoc}
use Rattle.std.proofs.lemmas.List.Elements.{All-cons, All-nil}
use Rattle.std.proofs.lemmas.List.Folds.{list_all-append}
use Rattle.std.proofs.lemmas.List.Splits.{length-slice_split, slice_split_at, slice_split_none}
use Rattle.line_words.specs.Lines.{is_blank, is_line_feed, joined, line_text, words_of}
use Rattle.ipe_requests.specs.declared.known.Known.{Known}
use Rattle.ipe_requests.specs.declared.line.Line.{Line}
use Rattle.ipe_requests.specs.declared.line.ScriptKind.{ScriptKind}
use Rattle.ipe_requests.specs.declared.line.Shape.{Shape}
use Rattle.ipe_requests.specs.Known.{is_out_of_range, is_within_limits, with_line, with_raw}
use Rattle.ipe_requests.specs.Table.{Rule, Cell, Fixed, By, Table, cells, may_follow, ValueOf, Values, line_of}
use Rattle.ipe_requests.specs.Reading.{FirstBad, and_then, counted, read_cells, read_line, read_pieces, read_shape, read_word, reads, shape_of, spell_cells, spell_word, take, take_due, take_line}
use Rattle.ipe_requests.specs.Spelling.{said_text, shape_for, values_of}

-- ---- words without blanks and line feeds

-- a byte that may stand in a word
abbrev pub is_in_word : ℕ → Bool
is_in_word byte = not (byte == 32) && not (byte == 10)

-- a byte that may stand in a line
abbrev pub is_inline : ℕ → Bool
is_inline byte = not (byte == 10)

abbrev pub are_plain : List (List ℕ) → Bool
are_plain words = list_all (λ (word : List ℕ). list_all is_in_word word) words

none-of : (p q : ℕ → Bool) → ((x : ℕ) → q x ≡ true → p x ≡ false) → (xs : List ℕ) → list_all q xs ≡ true
    → All (λ x. p x ≡ false) xs
none-of p q gives [] e = All-nil (λ x. p x ≡ false)
none-of p q gives (x ∷ xs) e =
    let parts = and_parts (q x) (list_all q xs) e in
    All-cons (λ x. p x ≡ false) x xs (gives x parts.0) (none-of p q gives xs parts.1)

plain-blank : (x : ℕ) → is_in_word x ≡ true → is_blank x ≡ false
plain-blank x e = not-true (x == 32) (and_parts (not (x == 32)) (not (x == 10)) e).0

plain-inline : (x : ℕ) → is_in_word x ≡ true → is_inline x ≡ true
plain-inline x e = (and_parts (not (x == 32)) (not (x == 10)) e).1

inline-feed : (x : ℕ) → is_inline x ≡ true → is_line_feed x ≡ false
inline-feed x e = not-true (x == 10) e

all-inline : (xs : List ℕ) → list_all is_in_word xs ≡ true → list_all is_inline xs ≡ true
all-inline [] e = refl
all-inline (x ∷ xs) e =
    let parts = and_parts (is_in_word x) (list_all is_in_word xs) e in
    and_from (is_inline x) (list_all is_inline xs) (plain-inline x parts.0) (all-inline xs parts.1)

-- the words of joined words are these
pub words_of-joined : (word : List ℕ) (words : List (List ℕ)) → are_plain (word ∷ words) ≡ true
    → words_of (joined (word ∷ words)) ≡ word ∷ words
words_of-joined word [] e =
    slice_split_none is_blank word
    (none-of is_blank is_in_word plain-blank word (and_parts (list_all is_in_word word) true e).0)
words_of-joined word (next ∷ words) e =
    let parts = and_parts (list_all is_in_word word) (are_plain (next ∷ words)) e in
    slice_split_at is_blank word 32 (joined (next ∷ words)) (none-of is_blank is_in_word plain-blank word parts.0) refl
    ∙ ap (λ (ws : List (List ℕ)). word ∷ ws) (words_of-joined next words parts.1)

joined-inline : (words : List (List ℕ)) → are_plain words ≡ true → list_all is_inline (joined words) ≡ true
joined-inline [] e = refl
joined-inline (word ∷ []) e = all-inline word (and_parts (list_all is_in_word word) true e).0
joined-inline (word ∷ next ∷ words) e =
    let parts = and_parts (list_all is_in_word word) (are_plain (next ∷ words)) e in
    list_all-append is_inline word (32 ∷ joined (next ∷ words))
    ∙ and_from (list_all is_inline word) (list_all is_inline (joined (next ∷ words))) (all-inline word parts.0)
    (joined-inline (next ∷ words) parts.1)

-- ---- what words say

-- each word is read as what it spells
abbrev pub AreSaid : Known → (row : List Cell) → Values row → Type 0
AreSaid known [] values = Unit {0}
AreSaid known (Fixed text ∷ row) values = AreSaid known row values
AreSaid known (By rule ∷ row) values =
    (read_word known rule (spell_word rule values.0) ≡ Ok values.0) × AreSaid known row values.1
AreSaid known (Table ∷ row) values = ⊥

read-both : (known : Known) (rule : Rule) (row : List Cell) (first : Result (ValueOf rule) ScriptKind)
    (last : Result (Values row) ScriptKind) (a : ValueOf rule) (b : Values row) → first ≡ Ok a → last ≡ Ok b
    → and_then {A = ValueOf rule} {B = Values (By rule ∷ row)} (λ value.
    and_then {A = Values row} {B = Values (By rule ∷ row)} (λ values. Ok (value, values)) last) first ≡ Ok (a, b)
read-both known rule row first last a b e f = rw (e, f) refl

pub cells-said : (known : Known) (row : List Cell) (values : Values row) → AreSaid known row values
    → read_cells known row (spell_cells row values) ≡ Ok values
cells-said known [] values said = refl
cells-said known (Fixed text ∷ row) values said = cells-said known row values said
cells-said known (Table ∷ row) values said = absurd said
cells-said known (By rule ∷ row) (value, values) said =
    read-both known rule row (read_word known rule (spell_word rule value)) (read_cells known row (spell_cells row values)) value values
    said.0 (cells-said known row values said.1)

-- the words of a line
abbrev pub words_said : Line → List (List ℕ)
words_said said = spell_cells (cells (shape_for said)) (values_of said)

-- a line of words may stand after the lines before it, and says this
pub record MayStand (known : Known) (said : Line) (word : List ℕ) (words : List (List ℕ)) : Type 0 where
  pub spelled : words_said said ≡ word ∷ words
  pub plain : are_plain (word ∷ words) ≡ true
  pub placed : shape_of (may_follow known.section) (word ∷ words) ≡ Some (shape_for said)
  pub says : AreSaid known (cells (shape_for said)) (values_of said)
  pub told : line_of known.count (shape_for said) (values_of said) ≡ said
  pub ranged : is_out_of_range known said ≡ false
  pub within : is_within_limits (with_line known said) ≡ true

reads-said : (known : Known) (said : Line) → AreSaid known (cells (shape_for said)) (values_of said)
    → line_of known.count (shape_for said) (values_of said) ≡ said
    → reads known (shape_for said) (words_said said) ≡ Ok said
reads-said known said says told =
    ap (λ (r : Result (Values (cells (shape_for said))) ScriptKind).
    and_then (λ values. Ok (line_of known.count (shape_for said) values)) r)
    (cells-said known (cells (shape_for said)) (values_of said) says)
    ∙ ap (λ (l : Line). Ok l) told

line-read : (known : Known) (said : Line) (word : List ℕ) (words : List (List ℕ)) → MayStand known said word words
    → read_line known (joined (words_said said)) ≡ Ok said
line-read known said word words stands =
    let cut : words_of (joined (words_said said)) ≡ words_said said =
    ap (λ (ws : List (List ℕ)). words_of (joined ws)) stands.spelled ∙ words_of-joined word words stands.plain
    ∙ sym stands.spelled in
    let placed : shape_of (may_follow known.section) (words_said said) ≡ Some (shape_for said) =
    ap (λ (ws : List (List ℕ)). shape_of (may_follow known.section) ws) stands.spelled ∙ stands.placed in
    ap (λ (ws : List (List ℕ)). read_shape known ws known.section (shape_of (may_follow known.section) ws)) cut
    ∙ ap (λ (o : Option Shape). read_shape known (words_said said) known.section o) placed
    ∙ reads-said known said stands.says stands.told

line-taken : (known : Known) (said : Line) → is_out_of_range known said ≡ false
    → is_within_limits (with_line known said) ≡ true → take_line known said ≡ Ok (with_line known said)
line-taken known said ranged within = rw (ranged, within) refl

due-taken : (due : ℕ) (known : Known) (bytes : List ℕ) (said : Line) → due ≡ 0 → read_line known bytes ≡ Ok said
    → take_due due known bytes ≡ take_line known said
due-taken due known bytes said none e =
    ap (λ (d : ℕ). take_due d known bytes) none ∙ ap (λ (r : Result Line ScriptKind). and_then (take_line known) r) e

-- ---- bytes, after which the reading goes on

-- after these bytes the next lines are read where this is known
abbrev pub Comes : Known → List ℕ → Known → Type 0
Comes known bytes more =
    (rest : List ℕ) → read_pieces known (slice_split is_line_feed (bytes ++ rest))
    ≡ read_pieces more (slice_split is_line_feed rest)

pub comes-nothing : (known : Known) → Comes known [] known
comes-nothing known rest = refl

pub comes-then : (known next last : Known) (first second : List ℕ) → Comes known first next → Comes next second last
    → Comes known (first ++ second) last
comes-then known next last first second a b rest =
    ap (λ (bs : List ℕ). read_pieces known (slice_split is_line_feed bs)) (append_assoc first second rest)
    ∙ a (second ++ rest) ∙ b rest

-- what follows what a line comes to
abbrev reads_on : ℕ → Result Known ScriptKind → List (List ℕ) → Result Known FirstBad
reads_on number r pieces = elim r [
  | Ok more ↦ read_pieces more pieces
  | Err fault ↦ Err (record { line = number + 1; fault = fault })
]

first-read : (known : Known) (bytes : List ℕ) (pieces : List (List ℕ)) → 0 < length pieces
    → read_pieces known (bytes ∷ pieces) ≡ reads_on known.count (take known bytes) pieces
first-read known bytes [] some = absurd (omega (arith, some))
first-read known bytes (piece ∷ pieces) some = refl

pieces-are : (rest : List ℕ) → 0 < length (slice_split is_line_feed rest)
pieces-are rest = let e : length (slice_split is_line_feed rest) ≡ _ = length-slice_split is_line_feed rest in omega arith

comes-line : (known more : Known) (line : List ℕ) → list_all is_inline line ≡ true → take known line ≡ Ok more
    → Comes known (line_text line) more
comes-line known more line inline e rest =
    ap (λ (bs : List ℕ). read_pieces known (slice_split is_line_feed bs)) (append_assoc line (10 ∷ []) rest)
    ∙ ap (λ (pieces : List (List ℕ)). read_pieces known pieces)
    (slice_split_at is_line_feed line 10 rest (none-of is_line_feed is_inline inline-feed line inline) refl)
    ∙ first-read known line (slice_split is_line_feed rest) (pieces-are rest)
    ∙ ap (λ (r : Result Known ScriptKind). reads_on known.count r (slice_split is_line_feed rest)) e

-- a line that may stand there and says this
pub comes-said : (known : Known) (said : Line) (word : List ℕ) (words : List (List ℕ)) → known.due ≡ 0
    → MayStand (counted known) said word words → Comes known (said_text said) (with_line (counted known) said)
comes-said known said word words none stands =
    comes-line known (with_line (counted known) said) (joined (words_said said))
    (ap (λ (ws : List (List ℕ)). list_all is_inline (joined ws)) stands.spelled
    ∙ joined-inline (word ∷ words) stands.plain)
    (due-taken known.due (counted known) (joined (words_said said)) said none
    (line-read (counted known) said word words stands)
    ∙ line-taken (counted known) said stands.ranged stands.within)

due-raw : (due : ℕ) (known : Known) (bytes : List ℕ) → 0 < due → take_due due known bytes ≡ Ok (with_raw known known.text bytes)
due-raw zero known bytes some = absurd (omega arith)
due-raw (suc due) known bytes some = refl

-- a line of an open text
pub comes-raw : (known : Known) (line : List ℕ) → 0 < known.due → list_all is_inline line ≡ true
    → Comes known (line_text line) (with_raw (counted known) known.text line)
comes-raw known line some inline =
    comes-line known (with_raw (counted known) known.text line) line inline (due-raw known.due (counted known) line some)
