-- A line that is read declares no name that is declared before.
use Rattle.std.proofs.Common.{◌≡◌, ℕ, false, List, [], ◌∷◌, Option, Some, None, is_some, Ok, position, refl, ap, ◌∙◌, subst}
use Rattle.std.specs.Prelude.{codes}
use Rattle.line_words.specs.Words.{is_text}
use Rattle.line_words.specs.Lines.{words_of}
use Rattle.ipe_policy.specs.Words.{is_path}
use Rattle.ipe_requests.specs.declared.known.Known.{Known}
use Rattle.ipe_requests.specs.declared.line.Shape.{Shape}
use Rattle.ipe_requests.specs.declared.line.Shape.TheVariants as shape
use Rattle.ipe_requests.specs.declared.line.Section.{Section}
use Rattle.ipe_requests.specs.declared.line.ScriptKind.TheVariants as fault
use Rattle.ipe_requests.specs.declared.line.Line.{Line}
use Rattle.ipe_requests.specs.Known.{Thing, a_text, a_volume, a_file, a_seal, is_declared, names_of, IsNew}
use Rattle.ipe_requests.specs.Table.{Rule, New, Unsealed, Cell, Fixed, By, cells, may_follow, ValueOf, Values, line_of}
use Rattle.ipe_requests.specs.Reading.{and_then, is_name_of, read_word, read_cells, read_shape, read_line, shape_of}
use Rattle.ipe_requests.proofs.Results.{and_then-is, good, new-ok, ok-is, unsealed-ok}

none-not_some : {A : Type 0} (o : Option A) → is_some o ≡ false → o ≡ None
none-not_some None e = refl
none-not_some (Some x) e = absurd (cc)

-- what the word of a rule says is read of that word
cell-parts : (known : Known) (text : List ℕ) (rule : Rule) (row : List Cell) (words : List (List ℕ))
    (values : Values (Fixed text ∷ By rule ∷ row)) → read_cells known (Fixed text ∷ By rule ∷ row) words ≡ Ok values
    → (word : List ℕ) × (read_word known rule word ≡ Ok values.0)
cell-parts known text rule row [] values e = absurd (cc)
cell-parts known text rule row (key ∷ []) values e = absurd (cc)
cell-parts known text rule row (key ∷ word ∷ words) values e =
    let one = and_then-is (λ value. and_then (λ values. Ok (value, values)) (read_cells known row words))
    (read_word known rule word) values e in
    let two = and_then-is {A = Values row} {B = Values (By rule ∷ row)} (λ values. Ok (one.0, values))
    (read_cells known row words) values one.2 in
    let same : (one.0, two.0) ≡ values = ok-is {A = Values (By rule ∷ row)} (one.0, two.0) values two.2 in
    (word, one.1 ∙ ap (λ (vs : Values (By rule ∷ row)). good {A = ValueOf rule} vs.0) same)

new-cell : (known : Known) (thing : Thing) (text : List ℕ) (row : List Cell) (words : List (List ℕ))
    (values : Values (Fixed text ∷ By (New thing) ∷ row))
    → read_cells known (Fixed text ∷ By (New thing) ∷ row) words ≡ Ok values
    → position (is_text values.0) (names_of thing known) ≡ None
new-cell known thing text row words values e =
    let read = cell-parts known text (New thing) row words values e in
    let test = new-ok (is_name_of thing read.0) (is_declared thing known read.0) read.0 values.0 fault.Twice fault.Name
    read.1 in
    subst (λ (w : List ℕ). position (is_text w) (names_of thing known) ≡ None) test.2
    (none-not_some (position (is_text read.0) (names_of thing known)) test.1)

seal-cell : (known : Known) (text : List ℕ) (row : List Cell) (words : List (List ℕ))
    (values : Values (Fixed text ∷ By Unsealed ∷ row))
    → read_cells known (Fixed text ∷ By Unsealed ∷ row) words ≡ Ok values
    → position (is_text values.0) known.seals.names ≡ None
seal-cell known text row words values e =
    let read = cell-parts known text Unsealed row words values e in
    let test = unsealed-ok (is_path read.0) (is_declared a_seal known read.0) (is_declared a_file known read.0) read.0
    values.0 fault.Twice fault.Unknown fault.Name read.1 in
    subst (λ (w : List ℕ). position (is_text w) known.seals.names ≡ None) test.3
    (none-not_some (position (is_text read.0) known.seals.names) test.1)

-- the cells after the first
abbrev behind : List Cell → List Cell
behind [] = []
behind (cell ∷ row) = row

shape-new : (known : Known) (s : Shape) (words : List (List ℕ)) (values : Values (cells s))
    → read_cells known (cells s) words ≡ Ok values → IsNew known (line_of known.count s values)
shape-new known shape.Header words values e = tt
shape-new known shape.Workers words values e = tt
shape-new known shape.Text words values e =
    new-cell known a_text (codes "text") (behind (behind (cells shape.Text))) words values e
shape-new known shape.Volume words values e =
    new-cell known a_volume (codes "volume") (behind (behind (cells shape.Volume))) words values e
shape-new known shape.FileBoot words values e =
    new-cell known a_file (codes "file") (behind (behind (cells shape.FileBoot))) words values e
shape-new known shape.FileVolume words values e =
    new-cell known a_file (codes "file") (behind (behind (cells shape.FileVolume))) words values e
shape-new known shape.FilePlain words values e =
    new-cell known a_file (codes "file") (behind (behind (cells shape.FilePlain))) words values e
shape-new known shape.Seal words values e =
    seal-cell known (codes "seal") (behind (behind (cells shape.Seal))) words values e
shape-new known shape.MarkText words values e = tt
shape-new known shape.MarkHex words values e = tt
shape-new known shape.Phase words values e = tt
shape-new known shape.WriteText words values e = tt
shape-new known shape.WriteEcho words values e = tt
shape-new known shape.WriteHex words values e = tt
shape-new known shape.Read words values e = tt
shape-new known shape.Exec words values e = tt
shape-new known shape.Mmap words values e = tt
shape-new known shape.Mprotect words values e = tt
shape-new known shape.KernelRead words values e = tt
shape-new known shape.KernelLoad words values e = tt
shape-new known shape.End words values e = tt

read_shape-new : (known : Known) (words : List (List ℕ)) (place : Section) (o : Option Shape) (said : Line)
    → read_shape known words place o ≡ Ok said → IsNew known said
read_shape-new known words place None said e = absurd (cc)
read_shape-new known words place (Some s) said e =
    let two = and_then-is (λ values. good (line_of known.count s values)) (read_cells known (cells s) words) said e in
    subst (λ (l : Line). IsNew known l) (ok-is (line_of known.count s two.0) said two.2)
    (shape-new known s words two.0 two.1)

pub read_line-new : (known : Known) (bytes : List ℕ) (said : Line) → read_line known bytes ≡ Ok said → IsNew known said
read_line-new known bytes said e =
    read_shape-new known (words_of bytes) known.section (shape_of (may_follow known.section) (words_of bytes)) said e
