-- A request file that is read is the one spelling of what it declares and asks.
use Rattle.std.proofs.Common.{◌≡◌, ℕ, zero, suc, ◌-◌, ◌<◌, List, [], ◌∷◌, ◌++◌, Option, Some, None, Result, Ok, Err, refl, sym, ap, ◌∙◌, subst, arith}
use Rattle.std.specs.List.{concat, flat_map, join_with_byte, slice_split}
use Rattle.std.proofs.lemmas.List.{append_assoc, append-nil}
use Rattle.std.proofs.lemmas.List.Splits.{join_with_byte-slice_split}
use Rattle.line_words.specs.Lines.{is_line_feed, line_text, words_of}
use Rattle.ipe_requests.specs.declared.line.Section.{Section}
use Rattle.ipe_requests.specs.declared.line.Section.TheVariants as section
use Rattle.ipe_requests.specs.declared.line.ScriptKind.{ScriptKind}
use Rattle.ipe_requests.specs.declared.line.Line.TheVariants as line
use Rattle.ipe_requests.specs.declared.known.Known.{Known}
use Rattle.ipe_requests.specs.declared.known.OpenText.{OpenText}
use Rattle.ipe_requests.specs.Known.{at_first, phases_of, with_raw}
use Rattle.ipe_requests.specs.Reading.{counted, end_with, file_read, last_piece, read_line, read_pieces, take, take_due, take_line}
use Rattle.ipe_requests.specs.Requests.{script_of}
use Rattle.ipe_requests.specs.Spelling.{body_text, file_text, head_text, mark_text, phase_text, request_text, said_text, seal_text, text_text, volume_text}
use Rattle.ipe_requests.proofs.Results.{and_then-is, ok-is}
use Rattle.ipe_requests.proofs.Pieces.{go_on, take_line-is}
use Rattle.ipe_requests.proofs.Spelled.{Read, read_line-spelled}
use Rattle.ipe_requests.proofs.SoFar.{IsOpen, Ordered, Stepped, end_at, head_at, open_part, parts, rank, said-begins, said-stands, so_far, step, text-step}

-- a line of an open text goes after the bytes so far
raw-step : (known : Known) (o : Option OpenText) (bytes : List ℕ) → Ordered known → known.text ≡ o → 0 < known.due
    → IsOpen (rank known.section) known.due o → Stepped known (with_raw known o bytes) (line_text bytes)
raw-step known None bytes ordered is due open_text = absurd (omega (arith, open_text))
raw-step known (Some text) bytes ordered is due open_text =
    text-step known known (record text { bytes = text.bytes ++ bytes ++ 10 ∷ [] }) (known.due - 1) (line_text bytes)
    ordered (omega (arith, open_text.1)) (omega (arith, open_text.1)) (texts_place known.section open_text.1) refl refl refl
    (ap (λ (b : List ℕ). flat_map text_text known.texts.items ++ (said_text (line.Text text) ++ b))
    (append_assoc text.bytes bytes (10 ∷ []))
    ∙ ap (λ (b : List ℕ). flat_map text_text known.texts.items ++ b)
    (sym (append_assoc (said_text (line.Text text)) text.bytes (line_text bytes)))
    ∙ sym (append_assoc (flat_map text_text known.texts.items) (said_text (line.Text text) ++ text.bytes)
    (line_text bytes))
    ∙ ap (λ (p : Option OpenText). (flat_map text_text known.texts.items ++ open_part p) ++ line_text bytes) (sym is))
  where
    texts_place : (place : Section) → rank place ≡ 3 → place ≡ section.Texts
    texts_place section.Start e = absurd (omega arith)
    texts_place section.Header e = absurd (omega arith)
    texts_place section.Workers e = absurd (omega arith)
    texts_place section.Texts e = refl
    texts_place section.Volumes e = absurd (omega arith)
    texts_place section.Files e = absurd (omega arith)
    texts_place section.Seals e = absurd (omega arith)
    texts_place section.Marks e = absurd (omega arith)
    texts_place section.Phase e = absurd (omega arith)
    texts_place section.Asked e = absurd (omega arith)
    texts_place section.Ended e = absurd (omega arith)

due-step : (due : ℕ) (known now : Known) (bytes : List ℕ) → known.due ≡ due → Ordered known
    → take_due due known bytes ≡ Ok now → Stepped known now (line_text bytes)
due-step zero known now bytes none ordered e =
    let taken = and_then-is (take_line known) (read_line known bytes) now e in
    let read : Read known bytes taken.0 = read_line-spelled known bytes taken.0 taken.1 in
    let stepped = step known taken.0 ordered none
    (said-stands known.section (words_of bytes) known.count read.shape read.values taken.0 read.found read.says)
    (said-begins known.count read.shape read.values taken.0 read.says) in
    subst (λ (b : List ℕ). Stepped known now (line_text b)) (sym read.spelled)
    (subst (λ (k : Known). Stepped known k (said_text taken.0)) (take_line-is known now taken.0 taken.2) stepped)
due-step (suc due) known now bytes is ordered e =
    subst (λ (k : Known). Stepped known k (line_text bytes)) (ok-is (with_raw known known.text bytes) now e)
    (raw-step known known.text bytes ordered refl (omega arith) ordered.is_open)

pub take-step : (known now : Known) (bytes : List ℕ) → Ordered known → take known bytes ≡ Ok now
    → Stepped known now (line_text bytes)
take-step known now bytes ordered e =
    let stepped = due-step known.due (counted known) now bytes refl
    (record { later = ordered.later; is_open = ordered.is_open; opened = ordered.opened }) e in
    record { bytes = stepped.bytes; ordered = stepped.ordered }

pub last-none : (place : Section) (rest : List ℕ) → last_piece place rest ≡ None → (place ≡ section.Ended) × (rest ≡ [])
last-none section.Ended [] e = (refl, refl)
last-none section.Start [] e = absurd (cc)
last-none section.Header [] e = absurd (cc)
last-none section.Workers [] e = absurd (cc)
last-none section.Texts [] e = absurd (cc)
last-none section.Volumes [] e = absurd (cc)
last-none section.Files [] e = absurd (cc)
last-none section.Seals [] e = absurd (cc)
last-none section.Marks [] e = absurd (cc)
last-none section.Phase [] e = absurd (cc)
last-none section.Asked [] e = absurd (cc)
last-none section.Ended (byte ∷ rest) e = absurd (cc)
last-none section.Start (byte ∷ rest) e = absurd (cc)
last-none section.Header (byte ∷ rest) e = absurd (cc)
last-none section.Workers (byte ∷ rest) e = absurd (cc)
last-none section.Texts (byte ∷ rest) e = absurd (cc)
last-none section.Volumes (byte ∷ rest) e = absurd (cc)
last-none section.Files (byte ∷ rest) e = absurd (cc)
last-none section.Seals (byte ∷ rest) e = absurd (cc)
last-none section.Marks (byte ∷ rest) e = absurd (cc)
last-none section.Phase (byte ∷ rest) e = absurd (cc)
last-none section.Asked (byte ∷ rest) e = absurd (cc)

pub end-is : (known last : Known) (o : Option ScriptKind) → end_with known o ≡ Ok last → (o ≡ None) × (known ≡ last)
end-is known last None e = (refl, cc)
end-is known last (Some fault) e = absurd (cc)

-- a whole file
pub record Whole (known last : Known) (bytes : List ℕ) : Type 0 where
  pub far : so_far last ≡ so_far known ++ bytes
  pub ordered : Ordered last
  pub ended : last.section ≡ section.Ended

pub pieces-whole : (known last : Known) (pieces : List (List ℕ)) → Ordered known → read_pieces known pieces ≡ Ok last
    → Whole known last (join_with_byte 10 pieces)
pieces-whole known last [] ordered e = absurd (cc)
pieces-whole known last (rest ∷ []) ordered e =
    let end = end-is known last (last_piece known.section rest) e in
    let none = last-none known.section rest end.0 in
    subst (λ (k : Known). Whole known k rest) end.1 (record {
      far = sym (append-nil (so_far known)) ∙ ap (λ (b : List ℕ). so_far known ++ b) (sym none.1);
      ordered = ordered;
      ended = none.0;
    })
pieces-whole known last (bytes ∷ piece ∷ pieces) ordered e =
    taken (take known bytes) refl (λ more. pieces-whole more last (piece ∷ pieces)) e
  where
    taken : (r : Result Known ScriptKind) → take known bytes ≡ r
        → ((more : Known) → Ordered more → read_pieces more (piece ∷ pieces) ≡ Ok last
        → Whole more last (join_with_byte 10 (piece ∷ pieces)))
        → go_on known.count r (piece ∷ pieces) ≡ Ok last
        → Whole known last (join_with_byte 10 (bytes ∷ piece ∷ pieces))
    taken (Ok more) is later e =
        let stepped = take-step known more bytes ordered is in
        let whole = later more stepped.ordered e in
        record {
          far = whole.far ∙ ap (λ (b : List ℕ). b ++ join_with_byte 10 (piece ∷ pieces)) stepped.bytes
              ∙ append_assoc (so_far known) (line_text bytes) (join_with_byte 10 (piece ∷ pieces))
              ∙ ap (λ (b : List ℕ). so_far known ++ b)
              (append_assoc bytes (10 ∷ []) (join_with_byte 10 (piece ∷ pieces)));
          ordered = whole.ordered;
          ended = whole.ended;
        }
    taken (Err fault) is later e = absurd (cc)

-- the texts' part where no text is open
no-open : (place due : ℕ) (o : Option OpenText) → place ≡ 9 → IsOpen place due o → o ≡ None
no-open place due None at is = refl
no-open place due (Some text) at is = absurd (omega (arith, is.1))

whole-text : (last : Known) → Ordered last → last.section ≡ section.Ended → request_text (script_of last) ≡ so_far last
whole-text last ordered ended =
    let place : rank last.section ≡ 9 = ap rank ended in
    let closed : last.text ≡ None = no-open (rank last.section) last.due last.text place ordered.is_open in
    let texts : flat_map text_text last.texts.items ≡ flat_map text_text last.texts.items ++ open_part last.text =
    sym (append-nil (flat_map text_text last.texts.items))
    ∙ ap (λ (o : Option OpenText). flat_map text_text last.texts.items ++ open_part o) (sym closed) in
    let ending : concat (parts last) ++ said_text line.End ≡ concat (parts last) ++ end_at (rank last.section) =
    ap (λ (n : ℕ). concat (parts last) ++ end_at n) (sym place) in
    let body : body_text (script_of last) ≡ concat (parts last) =
    ap (λ (b : List ℕ). concat (b ∷ flat_map volume_text last.volumes.items
    ∷ flat_map file_text last.files.items ∷ flat_map seal_text last.seals.items ∷ flat_map mark_text last.marks
    ∷ flat_map phase_text (phases_of last) ∷ [])) texts in
    let front : head_text last.workers ≡ head_at (rank last.section) last.workers =
    ap (λ (n : ℕ). head_at n last.workers) (sym place) in
    append_assoc (head_text last.workers) (body_text (script_of last)) (said_text line.End)
    ∙ ap (λ (b : List ℕ). head_text last.workers ++ (b ++ said_text line.End)) body
    ∙ ap (λ (b : List ℕ). head_text last.workers ++ b) ending
    ∙ ap (λ (b : List ℕ). b ++ (concat (parts last) ++ end_at (rank last.section))) front

pub first-ordered : Ordered at_first
first-ordered = record { later = refl; is_open = refl; opened = refl }

-- a file that is read is the spelling of what it comes to
pub file-spelled : (bytes : List ℕ) (last : Known) → file_read bytes ≡ Ok last → request_text (script_of last) ≡ bytes
unfolding file_read
file-spelled bytes last e =
    let whole = pieces-whole at_first last (slice_split is_line_feed bytes) first-ordered e in
    whole-text last whole.ordered whole.ended ∙ whole.far ∙ join_with_byte-slice_split 10 bytes
