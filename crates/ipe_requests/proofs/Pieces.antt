-- A request file, line by line.
use Rattle.std.proofs.Common.{◌≡◌, ℕ, zero, suc, ◌+◌, ◌-◌, ◌<◌, ◌≤◌, Bool, true, false, cond, List, [], ◌∷◌, ◌++◌, length, Option, Some, None, Result, Ok, Err, refl, sym, ap, ◌∙◌, arith}
use Rattle.std.specs.List.{slice_split}
use Rattle.std.proofs.lemmas.List.Splits.{length-slice_split}
use Rattle.line_words.specs.Lines.{is_line_feed, CutsLine}
use Rattle.ipe_requests.specs.declared.known.Known.{Known}
use Rattle.ipe_requests.specs.declared.known.OpenText.{OpenText}
use Rattle.ipe_requests.specs.declared.script.PhaseLine.{PhaseLine}
use Rattle.ipe_requests.specs.declared.script.PhaseLine.TheVariants as asked
use Rattle.ipe_requests.specs.declared.line.ScriptKind.{ScriptKind}
use Rattle.ipe_requests.specs.declared.line.ScriptKind.TheVariants as fault
use Rattle.ipe_requests.specs.declared.line.Line.{Line}
use Rattle.ipe_requests.specs.declared.line.Line.TheVariants as line
use Rattle.ipe_requests.specs.declared.line.Section.TheVariants as section
use Rattle.ipe_requests.specs.Known.{is_out_of_range, is_within_limits, with_counts, with_line, with_open, with_raw}
use Rattle.ipe_requests.specs.Reading.{FirstBad, and_then, counted, end_with, last_piece, read_line, read_pieces, take, take_due, take_line}
use Rattle.ipe_requests.specs.Answers.{Takes}
use Rattle.ipe_requests.proofs.Results.{and_then-is, ok-is}

-- ---- one line

pub due-some : (due : ℕ) (known : Known) (bytes : List ℕ) → 0 < due
    → take_due due known bytes ≡ Ok (with_raw known known.text bytes)
due-some zero known bytes some = absurd (omega arith)
due-some (suc due) known bytes some = refl

pub due-none : (due : ℕ) (known : Known) (bytes : List ℕ) → due ≤ 0
    → take_due due known bytes ≡ and_then (take_line known) (read_line known bytes)
due-none zero known bytes none = refl
due-none (suc due) known bytes none = absurd (omega arith)

-- where a line is read, it is taken
pub due-read : (due : ℕ) (known : Known) (bytes : List ℕ) (said : Line) → due ≤ 0 → read_line known bytes ≡ Ok said
    → take_line known said ≡ take_due due known bytes
due-read due known bytes said none read =
    sym (due-none due known bytes none ∙ ap (λ (r : Result Line ScriptKind). and_then (take_line known) r) read)

pub due-refused : (due : ℕ) (known : Known) (bytes : List ℕ) (fault : ScriptKind) → due ≤ 0
    → read_line known bytes ≡ Err fault → take_due due known bytes ≡ Err fault
due-refused due known bytes fault none read =
    due-none due known bytes none ∙ ap (λ (r : Result Line ScriptKind). and_then (take_line known) r) read

-- ---- the number of a line

open-count : (known : Known) (text : OpenText) (due : ℕ) → (with_open known text due).count ≡ known.count
open-count known text zero = refl
open-count known text (suc due) = refl

raw-count : (known : Known) (text : Option OpenText) (bytes : List ℕ) → (with_raw known text bytes).count ≡ known.count
raw-count known None bytes = refl
raw-count known (Some text) bytes =
    open-count known (record text { bytes = text.bytes ++ bytes ++ 10 ∷ [] }) (known.due - 1)

asked-count : (known : Known) (what : PhaseLine) → (with_counts known what).count ≡ known.count
asked-count known (asked.Write number may node what) = refl
asked-count known (asked.Read number node) = refl
asked-count known (asked.Hook number worker what subject path) = refl

line-count : (known : Known) (said : Line) → (with_line known said).count ≡ known.count
line-count known line.Header = refl
line-count known (line.Workers count) = refl
line-count known (line.Text text) =
    open-count (record known {
      section = section.Texts;
      texts = record { names = known.texts.names ++ text.id ∷ []; items = known.texts.items };
    }) text text.lines
line-count known (line.Volume volume) = refl
line-count known (line.File file) = refl
line-count known (line.Seal seal) = refl
line-count known (line.Mark mark) = refl
line-count known (line.Phase number) = refl
line-count known (line.Asked what) = asked-count known what
line-count known line.End = refl

pub take_line-is : (known now : Known) (said : Line) → take_line known said ≡ Ok now → with_line known said ≡ now
take_line-is known now said e =
    chosen (is_out_of_range known said) (is_within_limits (with_line known said)) e
  where
    chosen : (a b : Bool) → cond a (Err fault.Range) (cond b (Ok (with_line known said)) (Err fault.Limit)) ≡ Ok now
        → with_line known said ≡ now
    chosen true b e = absurd (cc)
    chosen false true e = ok-is (with_line known said) now e
    chosen false false e = absurd (cc)

due-count : (due : ℕ) (known now : Known) (bytes : List ℕ) → take_due due known bytes ≡ Ok now → now.count ≡ known.count
due-count zero known now bytes e =
    let read = and_then-is (take_line known) (read_line known bytes) now e in
    ap (λ (k : Known). k.count) (sym (take_line-is known now read.0 read.2)) ∙ line-count known read.0
due-count (suc due) known now bytes e =
    ap (λ (k : Known). k.count) (sym (ok-is (with_raw known known.text bytes) now e)) ∙ raw-count known known.text bytes

pub take-count : (known now : Known) (bytes : List ℕ) → take known bytes ≡ Ok now → now.count ≡ known.count + 1
take-count known now bytes e = due-count known.due (counted known) now bytes e

-- ---- pieces

-- what follows what a line comes to
abbrev pub go_on : ℕ → Result Known ScriptKind → List (List ℕ) → Result Known FirstBad
go_on number r pieces = elim r [
  | Ok more ↦ read_pieces more pieces
  | Err fault ↦ Err (record { line = number + 1; fault = fault })
]

read_pieces-line : (known : Known) (bytes : List ℕ) (pieces : List (List ℕ)) → 0 < length pieces
    → read_pieces known (bytes ∷ pieces) ≡ go_on known.count (take known bytes) pieces
read_pieces-line known bytes [] some = absurd (omega arith)
read_pieces-line known bytes (piece ∷ pieces) some = refl

pieces_are : (rest : List ℕ) → 0 < length (slice_split is_line_feed rest)
pieces_are rest = let e : length (slice_split is_line_feed rest) ≡ _ = length-slice_split is_line_feed rest in omega arith

at_line : (known : Known) (bytes line rest : List ℕ) → CutsLine bytes line rest
    → read_pieces known (slice_split is_line_feed bytes)
    ≡ go_on known.count (take known line) (slice_split is_line_feed rest)
at_line known bytes line rest cut =
    ap (λ (pieces : List (List ℕ)). read_pieces known pieces) cut.pieces
    ∙ read_pieces-line known line (slice_split is_line_feed rest) (pieces_are rest)

-- a line that was taken
pub record Taken (asked : Result Known FirstBad) (known now : Known) (rest : List ℕ) : Type 0 where
  pub asks : asked ≡ read_pieces now (slice_split is_line_feed rest)
  pub counts : now.count ≡ known.count + 1

pub taken : (asked : Result Known FirstBad) (known now : Known) (bytes line rest : List ℕ) (found : Option ScriptKind)
    → asked ≡ read_pieces known (slice_split is_line_feed bytes) → CutsLine bytes line rest → found ≡ None
    → Takes (take known line) now found → Taken asked known now rest
taken asked known now bytes line rest (Some fault) e cut none takes = absurd (cc)
taken asked known now bytes line rest None e cut none takes = record {
  asks = e ∙ at_line known bytes line rest cut
      ∙ ap (λ (r : Result Known ScriptKind). go_on known.count r (slice_split is_line_feed rest)) takes;
  counts = take-count known now line takes;
}

pub refused : (asked : Result Known FirstBad) (known now : Known) (bytes line rest : List ℕ) (found : Option ScriptKind)
    (fault : ScriptKind) → asked ≡ read_pieces known (slice_split is_line_feed bytes) → CutsLine bytes line rest
    → found ≡ Some fault → Takes (take known line) now found
    → asked ≡ Err (record { line = known.count + 1; fault = fault })
refused asked known now bytes line rest None fault e cut some takes = absurd (cc)
refused asked known now bytes line rest (Some other) fault e cut some read =
    let same : other ≡ fault = cc in
    e ∙ at_line known bytes line rest cut
    ∙ ap (λ (r : Result Known ScriptKind). go_on known.count r (slice_split is_line_feed rest)) read
    ∙ ap (λ (f : ScriptKind). Err (record { line = known.count + 1; fault = f })) same

-- after the last line
pub ended : (asked : Result Known FirstBad) (known : Known) (rest : List ℕ) (found : Option ScriptKind)
    → asked ≡ read_pieces known (slice_split is_line_feed rest) → slice_split is_line_feed rest ≡ rest ∷ []
    → found ≡ last_piece known.section rest → found ≡ None → asked ≡ Ok known
ended asked known rest found e one is none =
    e ∙ ap (λ (pieces : List (List ℕ)). read_pieces known pieces) one
    ∙ ap (λ (o : Option ScriptKind). end_with known o) (sym is ∙ none)
