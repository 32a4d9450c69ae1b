-- The shape that is found for words, and words that are too many for any.
use Rattle.std.proofs.Common.{◌≡◌, ℕ, suc, ◌+◌, ◌<◌, ◌≤◌, Bool, true, false, cond, nat_le, List, [], ◌∷◌, length, Option, Some, None, Err, find, count_by, refl, sym, ap, ◌∙◌, subst, arith}
use Rattle.std.proofs.lemmas.Bool.{and_parts, false≢true}
use Rattle.std.proofs.lemmas.Option.{same_Some}
use Rattle.std.proofs.lemmas.List.Splits.{length-slice_split}
use Rattle.line_words.specs.Lines.{is_blank, words_of}
use Rattle.line_words.specs.Words.{is_text}
use Rattle.ipe_requests.specs.declared.line.Shape.{Shape}
use Rattle.ipe_requests.specs.declared.line.Shape.TheVariants as shape
use Rattle.ipe_requests.specs.declared.line.Section.{Section}
use Rattle.ipe_requests.specs.declared.known.Known.{Known}
use Rattle.ipe_requests.specs.Table.{Cell, Fixed, By, Table, cells, may_follow}
use Rattle.ipe_requests.specs.Reading.{has_form, may_be, misplaced, read_line, read_shape, shape_of}

pub find-holds : {X : Type 0} (test : X → Bool) (xs : List X) (x : X) → find test xs ≡ Some x → test x ≡ true
find-holds test [] x e = absurd (cc)
find-holds test (y ∷ ys) x e = chosen (test y) refl (find-holds test ys x) e
  where
    chosen : (b : Bool) → test y ≡ b → (find test ys ≡ Some x → test x ≡ true)
        → cond b (Some y) (find test ys) ≡ Some x → test x ≡ true
    chosen true is later e = let same : y ≡ x = same_Some y x e in subst (λ z. test z ≡ true) same is
    chosen false is later e = later e

-- a shape that is found is that of the words
pub found-fits : (place : Section) (words : List (List ℕ)) (o : Option Shape) (s : Shape)
    → o ≡ shape_of (may_follow place) words → o ≡ Some s → has_form (cells s) words ≡ true
found-fits place words o s is some =
    find-holds (λ shape. has_form (cells shape) words) (may_follow place) s (sym is ∙ some)

-- the most words that a row may have
abbrev pub most_words : List Cell → ℕ
most_words [] = 0
most_words (Fixed text ∷ row) = suc (most_words row)
most_words (By rule ∷ row) = suc (most_words row)
most_words (Table ∷ row) = 13

-- words that have the form of a row are no more
pub form-few : (row : List Cell) (words : List (List ℕ)) → has_form row words ≡ true → length words ≤ most_words row
form-few [] [] form = omega arith
form-few [] (word ∷ words) form = absurd (false≢true form)
form-few (Fixed text ∷ row) [] form = absurd (false≢true form)
form-few (By rule ∷ row) [] form = absurd (false≢true form)
form-few (Fixed text ∷ row) (word ∷ words) form =
    let parts = and_parts (is_text text word) (has_form row words) form in
    let more = form-few row words parts.1 in
    omega arith
form-few (By rule ∷ row) (word ∷ words) form =
    let parts = and_parts (may_be rule word) (has_form row words) form in
    let more = form-few row words parts.1 in
    omega arith
form-few (Table ∷ row) words form = grind arith

pub table_few : (s : Shape) → nat_le (most_words (cells s)) 15 ≡ true
table_few shape.Header = refl
table_few shape.Workers = refl
table_few shape.Text = refl
table_few shape.Volume = refl
table_few shape.FileBoot = refl
table_few shape.FileVolume = refl
table_few shape.FilePlain = refl
table_few shape.Seal = refl
table_few shape.MarkText = refl
table_few shape.MarkHex = refl
table_few shape.Phase = refl
table_few shape.WriteText = refl
table_few shape.WriteEcho = refl
table_few shape.WriteHex = refl
table_few shape.Read = refl
table_few shape.Exec = refl
table_few shape.Mmap = refl
table_few shape.Mprotect = refl
table_few shape.KernelRead = refl
table_few shape.KernelLoad = refl
table_few shape.End = refl

-- so no shape is found for more than fifteen
shape-none : (words : List (List ℕ)) (o : Option Shape) (place : Section) → 15 < length words
    → shape_of (may_follow place) words ≡ o → o ≡ None
shape-none words None place many is = refl
shape-none words (Some s) place many is =
    let few = form-few (cells s) words (found-fits place words (Some s) s (sym is) refl) in
    let most = table_few s in
    absurd (grind arith)

pub line-many : (known : Known) (line : List ℕ) → 15 ≤ count_by is_blank line
    → Err (misplaced known.section) ≡ read_line known line
line-many known line many =
    let count : length (words_of line) ≡ count_by is_blank line + 1 = length-slice_split is_blank line in
    sym (ap (λ (o : Option Shape). read_shape known (words_of line) known.section o)
    (shape-none (words_of line) (shape_of (may_follow known.section) (words_of line)) known.section (omega arith) refl))
