-- Each declared volume has blocks of a size that blocks may have.
use Rattle.std.proofs.Common.{◌≡◌, ◌∙◌, ℕ, zero, suc, ◌+◌, ◌<◌, Bool, true, false, cond, ◌&&◌, ◌==◌, List, [], ◌∷◌, ◌++◌, length, Option, Some, None, is_some, codes, ok_or, Result, Ok, Err, refl, sym, subst, arith, inl, inr}
use Rattle.std.specs.Prelude.{IsTrue, bytes_eq}
use Rattle.std.specs.List.{AllByRecursion, slice_get, slice_split}
use Rattle.std.specs.Option.{option_map}
use Rattle.std.proofs.lemmas.Bool.{and_parts, cases_lt, eqb-true, false≢true, or_cases}
use Rattle.std.proofs.lemmas.Slice.Eq.{bytes_eq-Decides}
use Rattle.line_words.specs.Lines.{is_line_feed, joined, words_of}
use Rattle.line_words.specs.Words.{digits_onto}
use Rattle.dmv_tree.specs.Blocks.{is_block_size}
use Rattle.dmv_tree.specs.Words.{block_size_of}
use Rattle.dmv_volume.specs.Table.{TableParts}
use Rattle.dmv_volume.specs.Words.{may_end, rules, word_at}
use Rattle.ipe_requests.specs.declared.script.PhaseLine.{PhaseLine}
use Rattle.ipe_requests.specs.declared.script.PhaseLine.TheVariants as asked
use Rattle.ipe_requests.specs.declared.script.VolumeLine.{VolumeLine}
use Rattle.ipe_requests.specs.declared.line.Line.{Line}
use Rattle.ipe_requests.specs.declared.line.Line.TheVariants as line
use Rattle.ipe_requests.specs.declared.line.ScriptKind.{ScriptKind}
use Rattle.ipe_requests.specs.declared.line.ScriptKind.TheVariants as fault
use Rattle.ipe_requests.specs.declared.line.Section.{Section}
use Rattle.ipe_requests.specs.declared.line.Section.TheVariants as section
use Rattle.ipe_requests.specs.declared.line.Shape.{Shape}
use Rattle.ipe_requests.specs.declared.line.Shape.TheVariants as shape
use Rattle.ipe_requests.specs.declared.known.Known.{Known}
use Rattle.ipe_requests.specs.declared.known.OpenText.{OpenText}
use Rattle.ipe_requests.specs.Known.{at_first, is_out_of_range, is_within_limits, with_asked, with_line, with_open, with_raw}
use Rattle.ipe_requests.specs.Reading.{FirstBad, and_then, counted, end_with, file_read, last_piece, read_cells, read_line, read_pieces, read_shape, read_word, rest, shape_of, take, take_due, take_line}
use Rattle.ipe_requests.specs.Requests.{Script, requests_of, script_of, script_or_bad}
use Rattle.ipe_requests.specs.Table.{Cell, Fixed, By, Table, Values, cells, line_of, may_follow}
use Rattle.ipe_requests.specs.TableWords.{meets_its, table_of, table_said, words_fit}

-- ---- results that go on

ok_or-is : {A : Type 0} (o : Option A) (f : ScriptKind) (x : A) → ok_or o f ≡ Ok x → o ≡ Some x
ok_or-is None f x e = absurd (cc)
ok_or-is (Some y) f x e = cc

and_then-is : {A B : Type 0} (more : A → Result B ScriptKind) (r : Result A ScriptKind) (y : B) → and_then more r ≡ Ok y
    → (x : A) × (r ≡ Ok x) × (more x ≡ Ok y)
and_then-is more (Ok x) y e = (x, refl, e)
and_then-is more (Err f) y e = absurd (cc)

abbrev good : {A : Type 0} → A → Result A ScriptKind
good x = Ok x

ok-is : {A : Type 0} (x y : A) → good x ≡ good y → x ≡ y
ok-is x y e = cc

end-is : (known last : Known) (o : Option ScriptKind) → end_with known o ≡ Ok last → known ≡ last
end-is known last None e = cc
end-is known last (Some fault) e = absurd (cc)

take_line-is : (known now : Known) (said : Line) → take_line known said ≡ Ok now → with_line known said ≡ now
take_line-is known now said e =
    by (is_out_of_range known said) (is_within_limits (with_line known said)) e
  where
    by : (a b : Bool) → cond a (Err fault.Range) (cond b (Ok (with_line known said)) (Err fault.Limit)) ≡ Ok now
        → with_line known said ≡ now
    by true b e = absurd (cc)
    by false true e = cc
    by false false e = absurd (cc)

abbrev pub IsSized : TableParts → Type 0
IsSized table = IsTrue (is_block_size table.block_size)

-- ---- the words of a table

said-size : (word text : List ℕ) → bytes_eq word text ≡ true → IsTrue (is_block_size (digits_onto 0 text))
    → IsTrue (is_block_size (digits_onto 0 word))
said-size word text same is =
    subst (λ (w : List ℕ). IsTrue (is_block_size (digits_onto 0 w))) (sym ((bytes_eq-Decides word text).0 same)) is

-- a word that says a size of blocks is one in its digits
size-is : (word : List ℕ) → is_some (block_size_of word) ≡ true → IsTrue (is_block_size (digits_onto 0 word))
size-is word some =
    by (bytes_eq word (codes "512")) (bytes_eq word (codes "1024")) (bytes_eq word (codes "2048"))
    (bytes_eq word (codes "4096")) refl refl refl refl some
  where
    by : (a b c d : Bool) → bytes_eq word (codes "512") ≡ a → bytes_eq word (codes "1024") ≡ b
        → bytes_eq word (codes "2048") ≡ c → bytes_eq word (codes "4096") ≡ d
        → is_some {T = ℕ} (cond a (Some 512) (cond b (Some 1024) (cond c (Some 2048) (cond d (Some 4096) None)))) ≡ true
        → IsTrue (is_block_size (digits_onto 0 word))
    by true b c d first second third last some = said-size word (codes "512") first refl
    by false true c d first second third last some = said-size word (codes "1024") second refl
    by false false true d first second third last some = said-size word (codes "2048") third refl
    by false false false true first second third last some = said-size word (codes "4096") last refl
    by false false false false first second third last some = absurd (false≢true some)

-- each of the words that fit meets its rule
fits-at : (words : List (List ℕ)) (count k : ℕ) → k < count → words_fit words count ≡ true
    → meets_its words (word_at words (suc k)) (slice_get rules k) ≡ true
fits-at words zero k within e = absurd (omega (arith, within))
fits-at words (suc count) k within e =
    let parts = and_parts (words_fit words count)
    (meets_its words (word_at words (suc count)) (slice_get rules count)) e in
    elim (cases_lt k count) [
      | inl lt ↦ fits-at words count k lt parts.0
      | inr le ↦
          let same : count ≡ k = omega (arith, le, within) in
          subst (λ (n : ℕ). meets_its words (word_at words (suc n)) (slice_get rules n) ≡ true) same parts.1
    ]

ends-late : (count : ℕ) → may_end count ≡ true → 3 < count
ends-late count is =
    elim (or_cases (count == 10) (count == 13) is) [
      | inl ten ↦ omega (arith, eqb-true count 10 ten)
      | inr more ↦ omega (arith, eqb-true count 13 more)
    ]

table-sized : (words : List (List ℕ)) (o : Option TableParts) (table : TableParts) → table_of words ≡ o → o ≡ Some table
    → IsSized table
unfolding table_of
table-sized words o table is e = by (may_end (length words)) (words_fit words (length words)) refl refl (is ∙ e)
  where
    by : (a b : Bool) → may_end (length words) ≡ a → words_fit words (length words) ≡ b
        → cond (a && b) (Some (table_said words)) None ≡ Some table → IsSized table
    by true true ends fits e =
        let same : table_said words ≡ table = cc in
        subst IsSized same (size-is (word_at words 4) (fits-at words (length words) 3 (ends-late (length words) ends) fits))
    by true false ends fits e = absurd (cc)
    by false b ends fits e = absurd (cc)

-- ---- the words of a line by its cells

-- the tables among the values of a line's words have such a size
abbrev pub AreSized : (row : List Cell) → Values row → Type 0
AreSized [] values = Unit {0}
AreSized (Fixed text ∷ row) values = AreSized row values
AreSized (By rule ∷ row) values = AreSized row values.1
AreSized (Table ∷ row) values = IsSized values.1

read_table-sized : (words : List (List ℕ)) (o : Option TableParts) (values : List ℕ × TableParts) → table_of words ≡ o
    → option_map (λ table. (joined words, table)) o ≡ Some values → IsSized values.1
read_table-sized words None values is e = absurd (cc)
read_table-sized words (Some table) values is e =
    let pair : List ℕ × TableParts = (joined words, table) in
    let same : pair ≡ values = cc in
    subst (λ (v : List ℕ × TableParts). IsSized v.1) same (table-sized words (Some table) table is refl)

cells-sized : (known : Known) (row : List Cell) (words : List (List ℕ)) (values : Values row)
    → read_cells known row words ≡ Ok values → AreSized row values
cells-sized known [] words values e = tt
cells-sized known (Fixed text ∷ row) words values e = cells-sized known row (rest words) values e
cells-sized known (Table ∷ row) words values e =
    read_table-sized words (table_of words) values refl
    (ok_or-is (option_map (λ table. (joined words, table)) (table_of words)) fault.Table values e)
cells-sized known (By rule ∷ row) [] values e = absurd (cc)
cells-sized known (By rule ∷ row) (word ∷ words) values e =
    let one = and_then-is (λ value. and_then (λ values. Ok (value, values)) (read_cells known row words))
    (read_word known rule word) values e in
    let two = and_then-is {A = Values row} {B = Values (By rule ∷ row)} (λ values. Ok (one.0, values))
    (read_cells known row words) values one.2 in
    let same : (one.0, two.0) ≡ values = ok-is {A = Values (By rule ∷ row)} (one.0, two.0) values two.2 in
    subst (λ (vs : Values (By rule ∷ row)). AreSized (By rule ∷ row) vs) same (cells-sized known row words two.0 two.1)

-- ---- a line

-- the table of a volume's line has such a size
abbrev pub Said : Line → Type 0
Said (line.Volume volume) = IsSized volume.table
Said other = Unit {0}

shape-sized : (number : ℕ) (s : Shape) (values : Values (cells s)) → AreSized (cells s) values → Said (line_of number s values)
shape-sized number shape.Volume values are = are
shape-sized number other values are = tt

read_shape-sized : (known : Known) (words : List (List ℕ)) (place : Section) (o : Option Shape) (said : Line)
    → read_shape known words place o ≡ Ok said → Said said
read_shape-sized known words place None said e = absurd (cc)
read_shape-sized known words place (Some s) said e =
    let two = and_then-is (λ values. good (line_of known.count s values)) (read_cells known (cells s) words) said e in
    subst (λ (l : Line). Said l) (ok-is (line_of known.count s two.0) said two.2)
    (shape-sized known.count s two.0 (cells-sized known (cells s) words two.0 two.1))

-- ---- line by line

-- the tables of the volumes that are declared have such sizes
abbrev pub VolumesAre : List VolumeLine → Type 0
VolumesAre volumes = AllByRecursion (λ (volume : VolumeLine). IsSized volume.table) volumes

one-more : (volumes : List VolumeLine) (volume : VolumeLine) → VolumesAre volumes → IsSized volume.table
    → VolumesAre (volumes ++ volume ∷ [])
one-more [] volume are one = (one, tt)
one-more (other ∷ volumes) volume are one = (are.0, one-more volumes volume are.1 one)

open-keeps : (known : Known) (text : OpenText) (due : ℕ) → VolumesAre known.volumes.items
    → VolumesAre (with_open known text due).volumes.items
open-keeps known text zero are = are
open-keeps known text (suc due) are = are

raw-keeps : (known : Known) (o : Option OpenText) (bytes : List ℕ) → VolumesAre known.volumes.items
    → VolumesAre (with_raw known o bytes).volumes.items
raw-keeps known None bytes are = are
raw-keeps known (Some text) bytes are = open-keeps known _ _ are

asked-keeps : (known : Known) (what : PhaseLine) → VolumesAre known.volumes.items
    → VolumesAre (with_asked known what).volumes.items
asked-keeps known (asked.Write number may node what) are = are
asked-keeps known (asked.Read number node) are = are
asked-keeps known (asked.Hook number worker what subject path) are = are

line-keeps : (known : Known) (said : Line) → VolumesAre known.volumes.items → Said said
    → VolumesAre (with_line known said).volumes.items
line-keeps known line.Header are one = are
line-keeps known (line.Workers count) are one = are
line-keeps known (line.Text text) are one =
    open-keeps (record known {
      section = section.Texts;
      texts = record { names = known.texts.names ++ text.id ∷ []; items = known.texts.items };
    }) text text.lines are
line-keeps known (line.Volume volume) are one = one-more known.volumes.items volume are one
line-keeps known (line.File file) are one = are
line-keeps known (line.Seal seal) are one = are
line-keeps known (line.Mark mark) are one = are
line-keeps known (line.Phase number) are one = are
line-keeps known (line.Asked what) are one = asked-keeps known what are
line-keeps known line.End are one = are

take-keeps : (due : ℕ) (known now : Known) (bytes : List ℕ) → VolumesAre known.volumes.items
    → take_due due known bytes ≡ Ok now → VolumesAre now.volumes.items
take-keeps zero known now bytes are e =
    let taken = and_then-is (take_line known) (read_line known bytes) now e in
    subst (λ (k : Known). VolumesAre k.volumes.items) (take_line-is known now taken.0 taken.2)
    (line-keeps known taken.0 are
    (read_shape-sized known (words_of bytes) known.section (shape_of (may_follow known.section) (words_of bytes)) taken.0 taken.1))
take-keeps (suc due) known now bytes are e =
    subst (λ (k : Known). VolumesAre k.volumes.items) (ok-is (with_raw known known.text bytes) now e)
    (raw-keeps known known.text bytes are)

-- what follows what a line comes to
abbrev go_on : ℕ → Result Known ScriptKind → List (List ℕ) → Result Known FirstBad
go_on count r pieces = elim r [
  | Ok more ↦ read_pieces more pieces
  | Err fault ↦ Err (record { line = count + 1; fault = fault })
]

pieces-keep : (known last : Known) (pieces : List (List ℕ)) → VolumesAre known.volumes.items
    → read_pieces known pieces ≡ Ok last → VolumesAre last.volumes.items
pieces-keep known last [] are e = absurd (cc)
pieces-keep known last (piece ∷ []) are e =
    subst (λ (k : Known). VolumesAre k.volumes.items) (end-is known last (last_piece known.section piece) e) are
pieces-keep known last (bytes ∷ piece ∷ pieces) are e =
    by (take known bytes) refl (λ more. pieces-keep more last (piece ∷ pieces)) e
  where
    by : (r : Result Known ScriptKind) → take known bytes ≡ r
        → ((more : Known) → VolumesAre more.volumes.items → read_pieces more (piece ∷ pieces) ≡ Ok last
        → VolumesAre last.volumes.items)
        → go_on known.count r (piece ∷ pieces) ≡ Ok last → VolumesAre last.volumes.items
    by (Ok more) is later e = later more (take-keeps known.due (counted known) more bytes are is) e
    by (Err fault) is later e = absurd (cc)

read-keeps : (input : List ℕ) (last : Known) → file_read input ≡ Ok last → VolumesAre last.volumes.items
unfolding file_read
read-keeps input last e = pieces-keep at_first last (slice_split is_line_feed input) tt e

of-read : (input : List ℕ) (script : Script) (r : Result Known FirstBad) → file_read input ≡ r → script_or_bad r ≡ Ok script
    → VolumesAre script.volumes
of-read input script (Ok last) is e =
    let same : script_of last ≡ script = cc in
    subst (λ (s : Script). VolumesAre s.volumes) same (read-keeps input last is)
of-read input script (Err bad) is e = absurd (cc)

-- the volumes of a request file
pub volumes-sized : (input : List ℕ) (script : Script) → requests_of input ≡ Ok script → VolumesAre script.volumes
volumes-sized input script e = of-read input script (file_read input) refl e
