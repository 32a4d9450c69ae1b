-- The bytes of the lines so far, by what they come to.
use Rattle.std.proofs.Common.{◌≡◌, ℕ, zero, suc, ◌-◌, ◌<◌, ◌≤◌, Bool, true, false, cond, ◌&&◌, nat_le, nat_eq, List, [], ◌∷◌, ◌++◌, drop, find, Option, Some, None, is_some, refl, sym, ap, ◌∙◌, subst, arith}
use Rattle.std.specs.List.{concat, flat_map, list_all}
use Rattle.std.proofs.lemmas.Bool.{and_parts, eqb-true, false≢true, leb-true}
use Rattle.std.proofs.lemmas.List.{append_assoc, append-nil}
use Rattle.std.proofs.lemmas.List.Concat.{flat_map-append}
use Rattle.std.proofs.lemmas.Option.{same_Some}
use Rattle.ipe_policy.specs.declared.request.Request.{Request}
use Rattle.ipe_policy.specs.declared.request.Request.TheVariants as request
use Rattle.ipe_requests.specs.declared.script.FileForm.{FileForm}
use Rattle.ipe_requests.specs.declared.script.FileForm.TheVariants as form
use Rattle.ipe_requests.specs.declared.script.FileLine.{FileLine}
use Rattle.ipe_requests.specs.declared.script.MarkDigest.{MarkDigest}
use Rattle.ipe_requests.specs.declared.script.MarkDigest.TheVariants as digest
use Rattle.ipe_requests.specs.declared.script.MarkLine.{MarkLine}
use Rattle.ipe_requests.specs.declared.script.WriteContent.{WriteContent}
use Rattle.ipe_requests.specs.declared.script.WriteContent.TheVariants as content
use Rattle.ipe_requests.specs.declared.script.Phase.{Phase}
use Rattle.ipe_requests.specs.declared.script.PhaseLine.{PhaseLine}
use Rattle.ipe_requests.specs.declared.script.PhaseLine.TheVariants as asked
use Rattle.ipe_requests.specs.declared.line.Shape.{Shape}
use Rattle.ipe_requests.specs.declared.line.Shape.TheVariants as shape
use Rattle.ipe_requests.specs.declared.line.Line.{Line}
use Rattle.ipe_requests.specs.declared.line.Line.TheVariants as line
use Rattle.ipe_requests.specs.declared.line.Section.{Section}
use Rattle.ipe_requests.specs.declared.line.Section.TheVariants as section
use Rattle.ipe_requests.specs.declared.known.Known.{Known}
use Rattle.ipe_requests.specs.declared.known.OpenText.{OpenText}
use Rattle.ipe_requests.specs.Known.{phases_of, with_counts, with_line, with_open, with_opened}
use Rattle.ipe_requests.specs.Table.{cells, may_follow, Values, line_of}
use Rattle.ipe_requests.specs.Reading.{shape_of, has_form}
use Rattle.ipe_requests.specs.Spelling.{said_text, text_text, volume_text, file_text, seal_text, mark_text, asked_text, phase_text, head_text, shape_for, file_shape, mark_shape, write_shape, hook_shape}

-- ---- the parts of a file

-- the place of a section
abbrev pub rank : Section → ℕ
rank section.Start = 0
rank section.Header = 1
rank section.Workers = 2
rank section.Texts = 3
rank section.Volumes = 4
rank section.Files = 5
rank section.Seals = 6
rank section.Marks = 7
rank section.Phase = 8
rank section.Asked = 8
rank section.Ended = 9

-- a text whose lines are still to come
abbrev pub open_part : Option OpenText → List ℕ
open_part None = []
open_part (Some text) = said_text (line.Text text) ++ text.bytes

-- the bytes of each of the six lists
abbrev pub parts : Known → List (List ℕ)
parts known =
    (flat_map text_text known.texts.items ++ open_part known.text)
    ∷ flat_map volume_text known.volumes.items
    ∷ flat_map file_text known.files.items
    ∷ flat_map seal_text known.seals.items
    ∷ flat_map mark_text known.marks
    ∷ flat_map phase_text (phases_of known)
    ∷ []

-- the first lines, and the last
abbrev pub head_at : ℕ → ℕ → List ℕ
head_at zero workers = []
head_at (suc zero) workers = said_text line.Header
head_at (suc (suc n)) workers = head_text workers

abbrev pub end_at : ℕ → List ℕ
end_at n = cond (nat_le 9 n) (said_text line.End) []

-- the bytes of the lines so far
abbrev pub so_far : Known → List ℕ
so_far known =
    head_at (rank known.section) known.workers ++ (concat (parts known) ++ end_at (rank known.section))

-- the open text is that of the lines that are due
abbrev pub IsOpen : ℕ → ℕ → Option OpenText → Type 0
IsOpen place due None = due ≡ 0
IsOpen place due (Some text) = (0 < due) × (place ≡ 3)

-- what is known has come of lines in the order of sections
pub record Ordered (known : Known) : Type 0 where
  pub later : concat (drop (rank known.section - 2) (parts known)) ≡ []
  pub is_open : IsOpen (rank known.section) known.due known.text
  pub opened : is_some known.opened ≡ nat_eq (rank known.section) 8

-- ---- lists of bytes

-- one of them grows where nothing stands after it
grow : (front : List (List ℕ)) (part more : List ℕ) (back : List (List ℕ)) → concat back ≡ []
    → concat (front ++ (part ++ more) ∷ back) ≡ concat (front ++ part ∷ back) ++ more
grow [] part more back none =
    ap (λ (b : List ℕ). (part ++ more) ++ b) none ∙ append-nil (part ++ more)
    ∙ ap (λ (b : List ℕ). b ++ more) (sym (append-nil part) ∙ ap (λ (b : List ℕ). part ++ b) (sym none))
grow (first ∷ front) part more back none =
    ap (λ (b : List ℕ). first ++ b) (grow front part more back none)
    ∙ sym (append_assoc first (concat (front ++ part ∷ back)) more)

nil-right : (a b : List ℕ) → a ++ b ≡ [] → b ≡ []
nil-right [] b e = e
nil-right (x ∷ a) b e = absurd (cc)

drop-nil : (i : ℕ) → concat (drop i []) ≡ []
drop-nil zero = refl
drop-nil (suc i) = refl

-- what stands farther after is empty too
later-less : (a b : ℕ) (lists : List (List ℕ)) → a ≤ b → concat (drop a lists) ≡ [] → concat (drop b lists) ≡ []
later-less a b [] below none = drop-nil b
later-less zero zero (first ∷ lists) below none = none
later-less zero (suc b) (first ∷ lists) below none =
    later-less zero b lists (omega arith) (nil-right first (concat lists) none)
later-less (suc a) zero (first ∷ lists) below none = absurd (omega arith)
later-less (suc a) (suc b) (first ∷ lists) below none = later-less a b lists (omega arith) none

flat_map-one : {A : Type 0} (f : A → List ℕ) (xs : List A) (x : A) → flat_map f (xs ++ x ∷ []) ≡ flat_map f xs ++ f x
flat_map-one f xs x = flat_map-append f xs (x ∷ []) ∙ ap (λ (b : List ℕ). flat_map f xs ++ b) (append-nil (f x))

-- ---- which lines may stand where

-- the first and the last place of a section after which a line of this shape may stand
abbrev pub first_place : Shape → ℕ
first_place shape.Header = 0
first_place shape.Workers = 1
first_place shape.WriteText = 8
first_place shape.WriteEcho = 8
first_place shape.WriteHex = 8
first_place shape.Read = 8
first_place shape.Exec = 8
first_place shape.Mmap = 8
first_place shape.Mprotect = 8
first_place shape.KernelRead = 8
first_place shape.KernelLoad = 8
first_place other = 2

abbrev pub last_place : Shape → ℕ
last_place shape.Header = 0
last_place shape.Workers = 1
last_place shape.Text = 3
last_place shape.Volume = 4
last_place shape.FileBoot = 5
last_place shape.FileVolume = 5
last_place shape.FilePlain = 5
last_place shape.Seal = 6
last_place shape.MarkText = 7
last_place shape.MarkHex = 7
last_place other = 8

abbrev pub stands : Section → Shape → Bool
stands place s = nat_le (first_place s) (rank place) && nat_le (rank place) (last_place s)

table_stands : (place : Section) → list_all (stands place) (may_follow place) ≡ true
table_stands section.Start = refl
table_stands section.Header = refl
table_stands section.Workers = refl
table_stands section.Texts = refl
table_stands section.Volumes = refl
table_stands section.Files = refl
table_stands section.Seals = refl
table_stands section.Marks = refl
table_stands section.Phase = refl
table_stands section.Asked = refl
table_stands section.Ended = refl

find-all : {X : Type 0} (test p : X → Bool) (xs : List X) (x : X) → list_all p xs ≡ true → find test xs ≡ Some x
    → p x ≡ true
find-all test p [] x all e = absurd (cc)
find-all test p (y ∷ ys) x all e =
    let both = and_parts (p y) (list_all p ys) all in chosen (test y) (find-all test p ys x both.1) both.0 e
  where
    chosen : (b : Bool) → (find test ys ≡ Some x → p x ≡ true) → p y ≡ true → cond b (Some y) (find test ys) ≡ Some x
        → p x ≡ true
    chosen true later here e = let same : y ≡ x = same_Some y x e in subst (λ z. p z ≡ true) same here
    chosen false later here e = later e

-- a line may stand after one of this section, between two places
pub record Stands (place : Section) (said : Line) : Type 0 where
  pub from : first_place (shape_for said) ≤ rank place
  pub upto : rank place ≤ last_place (shape_for said)

shape-same : (number : ℕ) (s : Shape) (values : Values (cells s)) → shape_for (line_of number s values) ≡ s
shape-same number shape.Header values = refl
shape-same number shape.Workers values = refl
shape-same number shape.Text values = refl
shape-same number shape.Volume values = refl
shape-same number shape.FileBoot values = refl
shape-same number shape.FileVolume values = refl
shape-same number shape.FilePlain values = refl
shape-same number shape.Seal values = refl
shape-same number shape.MarkText values = refl
shape-same number shape.MarkHex values = refl
shape-same number shape.Phase values = refl
shape-same number shape.WriteText values = refl
shape-same number shape.WriteEcho values = refl
shape-same number shape.WriteHex values = refl
shape-same number shape.Read values = refl
shape-same number shape.Exec values = refl
shape-same number shape.Mmap values = refl
shape-same number shape.Mprotect values = refl
shape-same number shape.KernelRead values = refl
shape-same number shape.KernelLoad values = refl
shape-same number shape.End values = refl

-- a text begins without lines
abbrev pub Begins : Line → Type 0
Begins (line.Text text) = text.bytes ≡ []
Begins other = Unit {0}

table_begins : (number : ℕ) (s : Shape) (values : Values (cells s)) → Begins (line_of number s values)
table_begins number shape.Header values = tt
table_begins number shape.Workers values = tt
table_begins number shape.Text values = refl
table_begins number shape.Volume values = tt
table_begins number shape.FileBoot values = tt
table_begins number shape.FileVolume values = tt
table_begins number shape.FilePlain values = tt
table_begins number shape.Seal values = tt
table_begins number shape.MarkText values = tt
table_begins number shape.MarkHex values = tt
table_begins number shape.Phase values = tt
table_begins number shape.WriteText values = tt
table_begins number shape.WriteEcho values = tt
table_begins number shape.WriteHex values = tt
table_begins number shape.Read values = tt
table_begins number shape.Exec values = tt
table_begins number shape.Mmap values = tt
table_begins number shape.Mprotect values = tt
table_begins number shape.KernelRead values = tt
table_begins number shape.KernelLoad values = tt
table_begins number shape.End values = tt

pub said-begins : (number : ℕ) (s : Shape) (values : Values (cells s)) (said : Line)
    → line_of number s values ≡ said → Begins said
said-begins number s values said is = subst (λ (l : Line). Begins l) is (table_begins number s values)

pub said-stands : (place : Section) (words : List (List ℕ)) (number : ℕ) (s : Shape) (values : Values (cells s))
    (said : Line) → shape_of (may_follow place) words ≡ Some s → line_of number s values ≡ said → Stands place said
said-stands place words number s values said found is =
    let test = find-all (λ shape. has_form (cells shape) words) (stands place) (may_follow place) s (table_stands place)
    found in
    let both = and_parts (nat_le (first_place s) (rank place)) (nat_le (rank place) (last_place s)) test in
    let same : s ≡ shape_for said = sym (shape-same number s values) ∙ ap shape_for is in
    record {
      from = subst (λ (x : Shape). first_place x ≤ rank place) same (leb-true (first_place s) (rank place) both.0);
      upto = subst (λ (x : Shape). rank place ≤ last_place x) same (leb-true (rank place) (last_place s) both.1);
    }

-- ---- one line

-- a line more
pub record Stepped (known now : Known) (more : List ℕ) : Type 0 where
  pub bytes : so_far now ≡ so_far known ++ more
  pub ordered : Ordered now

not-true : {A : Type 0} (b : Bool) (x y : A) → (b ≡ true → ⊥) → cond b x y ≡ y
not-true true x y never = absurd (never refl)
not-true false x y never = refl

-- between the workers and the end
mid-far : (n workers : ℕ) (body : List ℕ) → 2 ≤ n → n ≤ 8
    → head_at n workers ++ (body ++ end_at n) ≡ head_text workers ++ body
mid-far zero workers body low high = absurd (omega arith)
mid-far (suc zero) workers body low high = absurd (omega arith)
mid-far (suc (suc n)) workers body low high =
    ap (λ (b : List ℕ). head_text workers ++ b)
    (ap (λ (b : List ℕ). body ++ b) (not-true (nat_le 9 (suc (suc n))) (said_text line.End) []
    (λ h. absurd (omega (arith, leb-true 9 (suc (suc n)) h))))
    ∙ append-nil body)

mid-grow : (known now : Known) (more : List ℕ) → 2 ≤ rank known.section → rank known.section ≤ 8
    → 2 ≤ rank now.section → rank now.section ≤ 8 → now.workers ≡ known.workers
    → concat (parts now) ≡ concat (parts known) ++ more → so_far now ≡ so_far known ++ more
mid-grow known now more low high now_low now_high workers body =
    mid-far (rank now.section) now.workers (concat (parts now)) now_low now_high
    ∙ ap (λ (w : ℕ). head_text w ++ concat (parts now)) workers
    ∙ ap (λ (b : List ℕ). head_text known.workers ++ b) body
    ∙ sym (append_assoc (head_text known.workers) (concat (parts known)) more)
    ∙ ap (λ (b : List ℕ). b ++ more) (sym (mid-far (rank known.section) known.workers (concat (parts known)) low high))

open-keep : (p q due : ℕ) (text : Option OpenText) → due ≡ 0 → IsOpen p due text → IsOpen q due text
open-keep p q due None none is = is
open-keep p q due (Some text) none is = absurd (omega (arith, is.0))

not-eight : (n : ℕ) → n < 8 → nat_eq n 8 ≡ false
not-eight n below = chosen (nat_eq n 8) refl
  where
    chosen : (b : Bool) → nat_eq n 8 ≡ b → nat_eq n 8 ≡ false
    chosen true e = let same : n ≡ 8 = eqb-true n 8 e in absurd (omega arith)
    chosen false e = e

-- nothing stands after a place that isn't before
behind : (known : Known) (place : ℕ) → Ordered known → rank known.section ≤ place
    → concat (drop (place - 2) (parts known)) ≡ []
behind known place ordered upto =
    later-less (rank known.section - 2) (place - 2) (parts known) (omega arith) ordered.later

-- a declaration or a mark
mid-step : (known now : Known) (more : List ℕ) → Ordered known → known.due ≡ 0 → 2 ≤ rank known.section
    → rank known.section ≤ rank now.section → rank now.section < 8 → now.workers ≡ known.workers
    → now.due ≡ known.due → now.text ≡ known.text → now.opened ≡ known.opened
    → concat (drop (rank now.section - 2) (parts now)) ≡ [] → concat (parts now) ≡ concat (parts known) ++ more
    → Stepped known now more
mid-step known now more ordered none low upto high workers due text opened later body = record {
  bytes = mid-grow known now more low (omega arith) (omega arith) (omega arith) workers body;
  ordered = record {
    later = later;
    is_open = subst (λ (o : Option OpenText). IsOpen (rank now.section) now.due o) (sym text)
        (subst (λ (n : ℕ). IsOpen (rank now.section) n known.text) (sym due)
        (open-keep (rank known.section) (rank now.section) known.due known.text none ordered.is_open));
    opened = ap (λ (o : Option ℕ). is_some o) opened ∙ ordered.opened ∙ not-eight (rank known.section) (omega arith)
        ∙ sym (not-eight (rank now.section) high);
  };
}

-- the part of the texts
text-part : (known : Known) (text : OpenText) (due : ℕ)
    → flat_map text_text (with_open known text due).texts.items ++ open_part (with_open known text due).text
    ≡ flat_map text_text known.texts.items ++ (said_text (line.Text text) ++ text.bytes)
text-part known text zero = append-nil _ ∙ flat_map-one text_text known.texts.items _
text-part known text (suc due) = refl

-- what a text leaves as it is
record Leaves (known : Known) (text : OpenText) (due : ℕ) : Type 0 where
  others : drop 1 (parts (with_open known text due)) ≡ drop 1 (parts known)
  place : (with_open known text due).section ≡ known.section
  workers : (with_open known text due).workers ≡ known.workers
  opened : (with_open known text due).opened ≡ known.opened
  is_open : IsOpen 3 (with_open known text due).due (with_open known text due).text

leaves : (known : Known) (text : OpenText) (due : ℕ) → Leaves known text due
leaves known text zero = record { others = refl; place = refl; workers = refl; opened = refl; is_open = refl }
leaves known text (suc due) = record {
  others = refl;
  place = refl;
  workers = refl;
  opened = refl;
  is_open = (omega arith, refl);
}

-- a text begins, or has a line more
pub text-step : (known last : Known) (text : OpenText) (due : ℕ) (more : List ℕ) → Ordered known
    → 2 ≤ rank known.section → rank known.section ≤ 3 → last.section ≡ section.Texts
    → drop 1 (parts last) ≡ drop 1 (parts known) → last.workers ≡ known.workers → last.opened ≡ known.opened
    → flat_map text_text last.texts.items ++ (said_text (line.Text text) ++ text.bytes)
    ≡ (flat_map text_text known.texts.items ++ open_part known.text) ++ more
    → Stepped known (with_open last text due) more
text-step known last text due more ordered low upto place others workers opened first =
    let now = with_open last text due in
    let same = leaves last text due in
    let at_texts : rank now.section ≡ 3 = ap rank (same.place ∙ place) in
    let back : concat (drop 1 (parts known)) ≡ [] = behind known 3 ordered upto in
    let rest : drop 1 (parts now) ≡ drop 1 (parts known) = same.others ∙ others in
    let part : flat_map text_text now.texts.items ++ open_part now.text
    ≡ (flat_map text_text known.texts.items ++ open_part known.text) ++ more = text-part last text due ∙ first in
    let body : concat (parts now) ≡ concat (parts known) ++ more =
    ap (λ (ps : List (List ℕ)). (flat_map text_text now.texts.items ++ open_part now.text) ++ concat ps) rest
    ∙ ap (λ (p : List ℕ). p ++ concat (drop 1 (parts known))) part
    ∙ grow [] (flat_map text_text known.texts.items ++ open_part known.text) more (drop 1 (parts known)) back in
    record {
      bytes = mid-grow known now more low (omega arith) (omega arith) (omega arith) (same.workers ∙ workers) body;
      ordered = record {
        later = ap (λ (n : ℕ). concat (drop (n - 2) (parts now))) at_texts ∙ ap concat rest ∙ back;
        is_open = subst (λ (n : ℕ). IsOpen n now.due now.text) (sym at_texts) same.is_open;
        opened = ap (λ (o : Option ℕ). is_some o) (same.opened ∙ opened) ∙ ordered.opened
            ∙ not-eight (rank known.section) (omega arith) ∙ sym (ap (λ (n : ℕ). nat_eq n 8) at_texts);
      };
    }

no-text : (place due : ℕ) (text : Option OpenText) → due ≡ 0 → IsOpen place due text → text ≡ None
no-text place due None none is = refl
no-text place due (Some text) none is = absurd (omega (arith, is.0))

-- a line goes onto the phase that has begun last
asked-part : (phases : List Phase) (o : Option ℕ) (lines : List PhaseLine) (what : PhaseLine) → is_some o ≡ true
    → flat_map phase_text (with_opened phases o (lines ++ what ∷ []))
    ≡ flat_map phase_text (with_opened phases o lines) ++ asked_text what
asked-part phases None lines what some = absurd (false≢true some)
asked-part phases (Some number) lines what some =
    flat_map-one phase_text phases (record { line = number; lines = lines ++ what ∷ [] })
    ∙ ap (λ (b : List ℕ). flat_map phase_text phases ++ (said_text (line.Phase number) ++ b))
    (flat_map-one asked_text lines what)
    ∙ ap (λ (b : List ℕ). flat_map phase_text phases ++ b)
    (sym (append_assoc (said_text (line.Phase number)) (flat_map asked_text lines) (asked_text what)))
    ∙ sym (append_assoc (flat_map phase_text phases) (said_text (line.Phase number) ++ flat_map asked_text lines)
    (asked_text what))
    ∙ ap (λ (b : List ℕ). b ++ asked_text what)
    (sym (flat_map-one phase_text phases (record { line = number; lines = lines })))

-- the first five parts
abbrev front : Known → List (List ℕ)
front known =
    (flat_map text_text known.texts.items ++ open_part known.text)
    ∷ flat_map volume_text known.volumes.items
    ∷ flat_map file_text known.files.items
    ∷ flat_map seal_text known.seals.items
    ∷ flat_map mark_text known.marks
    ∷ []

asked-step : (known : Known) (what : PhaseLine) → Ordered known → known.due ≡ 0 → rank known.section ≡ 8
    → Stepped known (record known { section = section.Asked; asked = known.asked ++ what ∷ [] }) (asked_text what)
asked-step known what ordered none place =
    let open_phase : is_some known.opened ≡ true = ordered.opened ∙ ap (λ (n : ℕ). nat_eq n 8) place in
    record {
      bytes = mid-grow known (record known { section = section.Asked; asked = known.asked ++ what ∷ [] })
          (asked_text what) (omega arith) (omega arith) (omega arith) (omega arith) refl
          (ap (λ (p : List ℕ). concat (front known ++ p ∷ [])) (asked-part known.phases known.opened known.asked what
          open_phase)
          ∙ grow (front known) (flat_map phase_text (phases_of known)) (asked_text what) [] refl);
      ordered = record {
        later = refl;
        is_open = open-keep (rank known.section) 8 known.due known.text none ordered.is_open;
        opened = open_phase;
      };
    }

-- the places of lines that have more shapes than one
file-places : (form : FileForm) (place : Section) → first_place (file_shape form) ≤ rank place
    → rank place ≤ last_place (file_shape form) → (2 ≤ rank place) × (rank place ≤ 5)
file-places (form.Boot dev ino text) place from upto = (from, upto)
file-places (form.Volume volume first size ino) place from upto = (from, upto)
file-places (form.Plain device at size dev ino) place from upto = (from, upto)

mark-places : (of : MarkDigest) (place : Section) → first_place (mark_shape of) ≤ rank place
    → rank place ≤ last_place (mark_shape of) → (2 ≤ rank place) × (rank place ≤ 7)
mark-places (digest.Text text) place from upto = (from, upto)
mark-places (digest.Hex bytes) place from upto = (from, upto)

write-places : (what : WriteContent) (place : Section) → first_place (write_shape what) ≤ rank place
    → rank place ≤ last_place (write_shape what) → rank place ≡ 8
write-places (content.Text text) place from upto = omega arith
write-places (content.Echo word) place from upto = omega arith
write-places (content.Hex bytes) place from upto = omega arith

hook-places : (what : Request) (place : Section) → first_place (hook_shape what) ≤ rank place
    → rank place ≤ last_place (hook_shape what) → rank place ≡ 8
hook-places request.ExecCheck place from upto = omega arith
hook-places (request.Mmap prot) place from upto = omega arith
hook-places (request.Mprotect was prot) place from upto = omega arith
hook-places (request.KernelRead kind) place from upto = omega arith
hook-places (request.KernelLoad kind) place from upto = omega arith

file-from : (known : Known) (file : FileLine) → Stands known.section (line.File file) → 2 ≤ rank known.section
file-from known file stands = (file-places file.form known.section stands.from stands.upto).0

file-upto : (known : Known) (file : FileLine) → Stands known.section (line.File file) → rank known.section ≤ 5
file-upto known file stands = (file-places file.form known.section stands.from stands.upto).1

mark-from : (known : Known) (mark : MarkLine) → Stands known.section (line.Mark mark) → 2 ≤ rank known.section
mark-from known mark stands = (mark-places mark.digest known.section stands.from stands.upto).0

mark-upto : (known : Known) (mark : MarkLine) → Stands known.section (line.Mark mark) → rank known.section ≤ 7
mark-upto known mark stands = (mark-places mark.digest known.section stands.from stands.upto).1

pub asked-place : (known : Known) (what : PhaseLine) → Stands known.section (line.Asked what) → rank known.section ≡ 8
asked-place known (asked.Write number may node what) stands = write-places what known.section stands.from stands.upto
asked-place known (asked.Read number node) stands = omega (arith, stands.from, stands.upto)
asked-place known (asked.Hook number worker what subject path) stands =
    hook-places what known.section stands.from stands.upto

-- what is said after the lines so far goes after their bytes
pub step : (known : Known) (said : Line) → Ordered known → known.due ≡ 0 → Stands known.section said → Begins said
    → Stepped known (with_line known said) (said_text said)
step known line.Header ordered none stands begins =
    let place : rank known.section ≡ 0 = omega (arith, stands.upto) in
    let empty : concat (parts known) ≡ [] = behind known 2 ordered (omega arith) in
    let nothing : so_far known ≡ [] =
    ap (λ (n : ℕ). head_at n known.workers ++ (concat (parts known) ++ end_at n)) place
    ∙ ap (λ (b : List ℕ). b ++ []) empty in
    record {
      bytes = ap (λ (b : List ℕ). said_text line.Header ++ (b ++ [])) empty ∙ append-nil (said_text line.Header)
          ∙ ap (λ (b : List ℕ). b ++ said_text line.Header) (sym nothing);
      ordered = record {
        later = empty;
        is_open = open-keep (rank known.section) 1 known.due known.text none ordered.is_open;
        opened = ordered.opened ∙ not-eight (rank known.section) (omega arith);
      };
    }
step known (line.Workers count) ordered none stands begins =
    let place : rank known.section ≡ 1 = omega (arith, stands.upto, stands.from) in
    let empty : concat (parts known) ≡ [] = behind known 2 ordered (omega arith) in
    let header : so_far known ≡ said_text line.Header =
    ap (λ (n : ℕ). head_at n known.workers ++ (concat (parts known) ++ end_at n)) place
    ∙ ap (λ (b : List ℕ). said_text line.Header ++ (b ++ [])) empty ∙ append-nil (said_text line.Header) in
    record {
      bytes = ap (λ (b : List ℕ). head_text count ++ (b ++ [])) empty ∙ append-nil (head_text count)
          ∙ ap (λ (b : List ℕ). b ++ said_text (line.Workers count)) (sym header);
      ordered = record {
        later = empty;
        is_open = open-keep (rank known.section) 2 known.due known.text none ordered.is_open;
        opened = ordered.opened ∙ not-eight (rank known.section) (omega arith);
      };
    }
step known (line.Text text) ordered none stands begins =
    let closed : known.text ≡ None = no-text (rank known.section) known.due known.text none ordered.is_open in
    text-step known (record known {
      section = section.Texts;
      texts = record { names = known.texts.names ++ text.id ∷ []; items = known.texts.items };
    }) text text.lines (said_text (line.Text text)) ordered stands.from stands.upto refl refl refl refl
    (ap (λ (b : List ℕ). flat_map text_text known.texts.items ++ (said_text (line.Text text) ++ b)) begins
    ∙ ap (λ (b : List ℕ). flat_map text_text known.texts.items ++ b) (append-nil (said_text (line.Text text)))
    ∙ ap (λ (b : List ℕ). b ++ said_text (line.Text text))
    (sym (append-nil (flat_map text_text known.texts.items))
    ∙ ap (λ (o : Option OpenText). flat_map text_text known.texts.items ++ open_part o) (sym closed)))
step known (line.Volume volume) ordered none stands begins =
    let back : concat (drop 2 (parts known)) ≡ [] = behind known 4 ordered stands.upto in
    mid-step known (with_line known (line.Volume volume)) (volume_text volume) ordered none stands.from stands.upto
    (omega arith) refl refl refl refl back
    (ap (λ (p : List ℕ). concat ((flat_map text_text known.texts.items ++ open_part known.text) ∷ p
    ∷ drop 2 (parts known))) (flat_map-one volume_text known.volumes.items volume)
    ∙ grow ((flat_map text_text known.texts.items ++ open_part known.text) ∷ [])
    (flat_map volume_text known.volumes.items) (volume_text volume) (drop 2 (parts known)) back)
step known (line.File file) ordered none stands begins =
    let back : concat (drop 3 (parts known)) ≡ [] = behind known 5 ordered (file-upto known file stands) in
    mid-step known (with_line known (line.File file)) (file_text file) ordered none (file-from known file stands)
    (file-upto known file stands) (omega arith) refl refl refl refl back
    (ap (λ (p : List ℕ). concat ((flat_map text_text known.texts.items ++ open_part known.text)
    ∷ flat_map volume_text known.volumes.items ∷ p ∷ drop 3 (parts known)))
    (flat_map-one file_text known.files.items file)
    ∙ grow ((flat_map text_text known.texts.items ++ open_part known.text)
    ∷ flat_map volume_text known.volumes.items ∷ [])
    (flat_map file_text known.files.items) (file_text file) (drop 3 (parts known)) back)
step known (line.Seal seal) ordered none stands begins =
    let back : concat (drop 4 (parts known)) ≡ [] = behind known 6 ordered stands.upto in
    mid-step known (with_line known (line.Seal seal)) (seal_text seal) ordered none stands.from stands.upto
    (omega arith) refl refl refl refl back
    (ap (λ (p : List ℕ). concat ((flat_map text_text known.texts.items ++ open_part known.text)
    ∷ flat_map volume_text known.volumes.items ∷ flat_map file_text known.files.items ∷ p ∷ drop 4 (parts known)))
    (flat_map-one seal_text known.seals.items seal)
    ∙ grow ((flat_map text_text known.texts.items ++ open_part known.text)
    ∷ flat_map volume_text known.volumes.items ∷ flat_map file_text known.files.items ∷ [])
    (flat_map seal_text known.seals.items) (seal_text seal) (drop 4 (parts known)) back)
step known (line.Mark mark) ordered none stands begins =
    let back : concat (drop 5 (parts known)) ≡ [] = behind known 7 ordered (mark-upto known mark stands) in
    mid-step known (with_line known (line.Mark mark)) (mark_text mark) ordered none (mark-from known mark stands)
    (mark-upto known mark stands) (omega arith) refl refl refl refl back
    (ap (λ (p : List ℕ). concat ((flat_map text_text known.texts.items ++ open_part known.text)
    ∷ flat_map volume_text known.volumes.items ∷ flat_map file_text known.files.items
    ∷ flat_map seal_text known.seals.items ∷ p ∷ drop 5 (parts known)))
    (flat_map-one mark_text known.marks mark)
    ∙ grow ((flat_map text_text known.texts.items ++ open_part known.text)
    ∷ flat_map volume_text known.volumes.items ∷ flat_map file_text known.files.items
    ∷ flat_map seal_text known.seals.items ∷ [])
    (flat_map mark_text known.marks) (mark_text mark) (drop 5 (parts known)) back)
step known (line.Phase number) ordered none stands begins = record {
  bytes = mid-grow known (with_line known (line.Phase number)) (said_text (line.Phase number)) stands.from stands.upto
      (omega arith) (omega arith) refl
      (ap (λ (p : List ℕ). concat (front known ++ p ∷ []))
      (flat_map-one phase_text (phases_of known) (record { line = number; lines = [] })
      ∙ ap (λ (b : List ℕ). flat_map phase_text (phases_of known) ++ b) (append-nil (said_text (line.Phase number))))
      ∙ grow (front known) (flat_map phase_text (phases_of known)) (said_text (line.Phase number)) [] refl);
  ordered = record {
    later = refl;
    is_open = open-keep (rank known.section) 8 known.due known.text none ordered.is_open;
    opened = refl;
  };
}
step known (line.Asked (asked.Write number may node what)) ordered none stands begins =
    let place : rank known.section ≡ 8 = asked-place known (asked.Write number may node what) stands in
    let stepped = asked-step (with_counts known (asked.Write number may node what)) (asked.Write number may node what)
    (record { later = ordered.later; is_open = ordered.is_open; opened = ordered.opened }) none place in
    record { bytes = stepped.bytes; ordered = stepped.ordered }
step known (line.Asked (asked.Read number node)) ordered none stands begins =
    let place : rank known.section ≡ 8 = asked-place known (asked.Read number node) stands in
    let stepped = asked-step (with_counts known (asked.Read number node)) (asked.Read number node)
    (record { later = ordered.later; is_open = ordered.is_open; opened = ordered.opened }) none place in
    record { bytes = stepped.bytes; ordered = stepped.ordered }
step known (line.Asked (asked.Hook number worker what subject path)) ordered none stands begins =
    let place : rank known.section ≡ 8 = asked-place known (asked.Hook number worker what subject path) stands in
    let stepped = asked-step (with_counts known (asked.Hook number worker what subject path))
    (asked.Hook number worker what subject path)
    (record { later = ordered.later; is_open = ordered.is_open; opened = ordered.opened }) none place in
    record { bytes = stepped.bytes; ordered = stepped.ordered }
step known line.End ordered none stands begins = record {
  bytes = sym (append_assoc (head_text known.workers) (concat (parts known)) (said_text line.End))
      ∙ ap (λ (b : List ℕ). b ++ said_text line.End)
      (sym (mid-far (rank known.section) known.workers (concat (parts known)) stands.from stands.upto));
  ordered = record {
    later = refl;
    is_open = open-keep (rank known.section) 9 known.due known.text none ordered.is_open;
    opened = refl;
  };
}
