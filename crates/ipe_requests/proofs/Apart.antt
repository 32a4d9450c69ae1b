-- No two shapes that may stand in one place fit the same words.
use Rattle.std.proofs.Common.{◌≡◌, inl, inr, ℕ, Bool, true, false, not, ◌&&◌, ◌||◌, List, [], ◌∷◌, refl, sym, ◌∙◌, subst}
use Rattle.std.proofs.lemmas.Bool.{and_parts, false≢true}
use Rattle.line_words.specs.Words.{is_text}
use Rattle.line_words.proofs.Spells.{text-is}
use Rattle.ipe_requests.specs.declared.line.Shape.{Shape}
use Rattle.ipe_requests.specs.declared.line.Section.{Section}
use Rattle.ipe_requests.specs.declared.line.Section.TheVariants as section
use Rattle.ipe_requests.specs.Table.{Cell, Fixed, By, Table, cells, may_follow}
use Rattle.ipe_requests.specs.Reading.{has_form, may_be}
use Rattle.ipe_requests.specs.Law.{IsAmong, OneShape}

-- rows of different lengths, or with different texts in one place; a table may be as long as any row
abbrev pub apart : List Cell → List Cell → Bool
apart [] [] = false
apart [] (Fixed text ∷ other) = true
apart [] (By rule ∷ other) = true
apart (Fixed text ∷ row) [] = true
apart (By rule ∷ row) [] = true
apart (Fixed text ∷ row) (Fixed word ∷ other) = not (is_text text word) || apart row other
apart (Fixed text ∷ row) (By rule ∷ other) = apart row other
apart (By rule ∷ row) (Fixed text ∷ other) = apart row other
apart (By rule ∷ row) (By given ∷ other) = apart row other
apart row other = false

or-apart : (b c : Bool) → (not b || c) ≡ true → b ≡ true → c ≡ true
or-apart true c e is = e
or-apart false c e is = absurd (false≢true is)

apart-never : (row other : List Cell) (words : List (List ℕ)) → apart row other ≡ true → has_form row words ≡ true
    → has_form other words ≡ true → ⊥
apart-never [] [] words e one two = false≢true e
apart-never [] (Fixed text ∷ other) [] e one two = false≢true two
apart-never [] (By rule ∷ other) [] e one two = false≢true two
apart-never [] (Table ∷ other) words e one two = false≢true e
apart-never [] (Fixed text ∷ other) (word ∷ words) e one two = false≢true one
apart-never [] (By rule ∷ other) (word ∷ words) e one two = false≢true one
apart-never (Fixed text ∷ row) other [] e one two = false≢true one
apart-never (By rule ∷ row) other [] e one two = false≢true one
apart-never (Table ∷ row) [] words e one two = false≢true e
apart-never (Table ∷ row) (Fixed text ∷ other) words e one two = false≢true e
apart-never (Table ∷ row) (By rule ∷ other) words e one two = false≢true e
apart-never (Table ∷ row) (Table ∷ other) words e one two = false≢true e
apart-never (Fixed text ∷ row) [] (word ∷ words) e one two = false≢true two
apart-never (By rule ∷ row) [] (word ∷ words) e one two = false≢true two
apart-never (Fixed text ∷ row) (Table ∷ other) (word ∷ words) e one two = false≢true e
apart-never (By rule ∷ row) (Table ∷ other) (word ∷ words) e one two = false≢true e
apart-never (Fixed text ∷ row) (Fixed fixed ∷ other) (word ∷ words) e one two =
    let first = and_parts (is_text text word) (has_form row words) one in
    let second = and_parts (is_text fixed word) (has_form other words) two in
    let same : word ≡ fixed = text-is fixed word second.0 in
    let is : is_text text fixed ≡ true = subst (λ (w : List ℕ). is_text text w ≡ true) same first.0 in
    apart-never row other words (or-apart (is_text text fixed) (apart row other) e is) first.1 second.1
apart-never (Fixed text ∷ row) (By rule ∷ other) (word ∷ words) e one two =
    apart-never row other words e (and_parts (is_text text word) (has_form row words) one).1
    (and_parts (may_be rule word) (has_form other words) two).1
apart-never (By rule ∷ row) (Fixed text ∷ other) (word ∷ words) e one two =
    apart-never row other words e (and_parts (may_be rule word) (has_form row words) one).1
    (and_parts (is_text text word) (has_form other words) two).1
apart-never (By rule ∷ row) (By given ∷ other) (word ∷ words) e one two =
    apart-never row other words e (and_parts (may_be rule word) (has_form row words) one).1
    (and_parts (may_be given word) (has_form other words) two).1

-- each shape is apart from those after it
abbrev pub apart_from : Shape → List Shape → Bool
apart_from one [] = true
apart_from one (other ∷ shapes) = apart (cells one) (cells other) && apart_from one shapes

abbrev pub all_apart : List Shape → Bool
all_apart [] = true
all_apart (one ∷ shapes) = apart_from one shapes && all_apart shapes

table_apart : (place : Section) → all_apart (may_follow place) ≡ true
table_apart section.Start = refl
table_apart section.Header = refl
table_apart section.Workers = refl
table_apart section.Texts = refl
table_apart section.Volumes = refl
table_apart section.Files = refl
table_apart section.Seals = refl
table_apart section.Marks = refl
table_apart section.Phase = refl
table_apart section.Asked = refl
table_apart section.Ended = refl

never-behind : (one other : Shape) (shapes : List Shape) (words : List (List ℕ)) → apart_from one shapes ≡ true
    → IsAmong other shapes → has_form (cells one) words ≡ true → has_form (cells other) words ≡ true → ⊥
never-behind one other [] words e among first second = among
never-behind one other (next ∷ shapes) words e (inl is) first second =
    apart-never (cells one) (cells next) words (and_parts (apart (cells one) (cells next)) (apart_from one shapes) e).0
    first (subst (λ (s : Shape). has_form (cells s) words ≡ true) is second)
never-behind one other (next ∷ shapes) words e (inr among) first second =
    never-behind one other shapes words (and_parts (apart (cells one) (cells next)) (apart_from one shapes) e).1 among
    first second

one-of : (shapes : List Shape) (one other : Shape) (words : List (List ℕ)) → all_apart shapes ≡ true
    → IsAmong one shapes → IsAmong other shapes → has_form (cells one) words ≡ true → has_form (cells other) words ≡ true
    → one ≡ other
one-of [] one other words e first second x y = absurd first
one-of (shape ∷ shapes) one other words e (inl is) (inl same) x y = is ∙ sym same
one-of (shape ∷ shapes) one other words e (inl is) (inr among) x y =
    absurd (never-behind shape other shapes words (and_parts (apart_from shape shapes) (all_apart shapes) e).0 among
    (subst (λ (s : Shape). has_form (cells s) words ≡ true) is x) y)
one-of (shape ∷ shapes) one other words e (inr among) (inl same) x y =
    absurd (never-behind shape one shapes words (and_parts (apart_from shape shapes) (all_apart shapes) e).0 among
    (subst (λ (s : Shape). has_form (cells s) words ≡ true) same y) x)
one-of (shape ∷ shapes) one other words e (inr first) (inr second) x y =
    one-of shapes one other words (and_parts (apart_from shape shapes) (all_apart shapes) e).1 first second x y

pub one_shape : OneShape
one_shape place words one other first second x y = one-of (may_follow place) one other words (table_apart place) first second x y
