-- Whatever a request file declares and asks keeps the rules of its words.
use Rattle.std.proofs.Common.{◌≡◌, ℕ, zero, suc, ◌+◌, ◌<◌, ◌≤◌, Bool, true, false, cond, List, [], ◌∷◌, length, Option, Some, None, Result, Ok, Err, refl, sym, ap, subst, arith}
use Rattle.std.specs.List.{AllByRecursion, slice_split}
use Rattle.std.proofs.lemmas.List.Splits.{length-slice_split}
use Rattle.std.proofs.lemmas.List.Sums.{count_by-le-length}
use Rattle.line_words.specs.Lines.{is_line_feed, words_of}
use Rattle.ipe_requests.specs.declared.script.PhaseLine.{PhaseLine}
use Rattle.ipe_requests.specs.declared.script.Phase.{Phase}
use Rattle.ipe_requests.specs.declared.line.ScriptKind.{ScriptKind}
use Rattle.ipe_requests.specs.declared.line.ScriptKind.TheVariants as fault
use Rattle.ipe_requests.specs.declared.line.Section.TheVariants as section
use Rattle.ipe_requests.specs.declared.line.Line.{Line}
use Rattle.ipe_requests.specs.declared.known.Known.{Known}
use Rattle.ipe_requests.specs.declared.known.OpenText.{OpenText}
use Rattle.ipe_requests.specs.Known.{at_first, is_out_of_range, is_within_limits, with_line, with_raw}
use Rattle.ipe_requests.specs.Reading.{FirstBad, counted, file_read, last_piece, read_line, read_pieces, take, take_due, take_line}
use Rattle.ipe_requests.specs.Requests.{Script, requests_of, script_of, script_or_bad}
use Rattle.ipe_requests.specs.Rules.{EachLine, HasWorkers, IsFileOf, IsMarkOf, IsSealOf, LinesRise, PhasesRise, count_lines, line_number}
use Rattle.ipe_requests.proofs.Results.{and_then-is, ok-is}
use Rattle.ipe_requests.proofs.Pieces.{go_on, take-count, take_line-is}
use Rattle.ipe_requests.proofs.Spelled.{Read, read_line-spelled}
use Rattle.ipe_requests.proofs.SoFar.{IsOpen, Ordered, rank, said-stands}
use Rattle.ipe_requests.proofs.Files.{end-is, first-ordered, pieces-whole, take-step}
use Rattle.ipe_requests.proofs.RuleLists.{all-map}
use Rattle.ipe_requests.proofs.RuleWords.{read_line-good}
use Rattle.ipe_requests.proofs.RuleKept.{Keeps, KeptLine, KeptPhase, more-keeps}
use Rattle.ipe_requests.proofs.RuleSteps.{line-keeps, opened-all, opened-few, raw-keeps}

-- ---- line by line

take_line-within : (known now : Known) (said : Line) → take_line known said ≡ Ok now → is_out_of_range known said ≡ false
take_line-within known now said e =
    chosen (is_out_of_range known said) (is_within_limits (with_line known said)) e
  where
    chosen : (a b : Bool) → cond a (Err fault.Range) (cond b (Ok (with_line known said)) (Err fault.Limit)) ≡ Ok now
        → a ≡ false
    chosen true b e = absurd (cc)
    chosen false b e = refl

not-open : (place due : ℕ) (o : Option OpenText) → due ≡ 0 → IsOpen place due o → o ≡ None
not-open place due None none is = refl
not-open place due (Some text) none is = absurd (omega (arith, none, is.0))

due-keeps : (due most : ℕ) (known now : Known) (bytes : List ℕ) → known.due ≡ due → Ordered known → Keeps most known
    → most < known.count → take_due due known bytes ≡ Ok now → Keeps known.count now
due-keeps zero most known now bytes none ordered keeps next e =
    let taken = and_then-is (take_line known) (read_line known bytes) now e in
    let read : Read known bytes taken.0 = read_line-spelled known bytes taken.0 taken.1 in
    let stands = said-stands known.section (words_of bytes) known.count read.shape read.values taken.0 read.found read.says
    in
    subst (λ (k : Known). Keeps known.count k) (take_line-is known now taken.0 taken.2)
    (line-keeps most known taken.0 keeps (not-open (rank known.section) known.due known.text none ordered.is_open) next
    stands (read_line-good known bytes taken.0 taken.1) (take_line-within known now taken.0 taken.2))
due-keeps (suc due) most known now bytes is ordered keeps next e =
    subst (λ (k : Known). Keeps known.count k) (ok-is (with_raw known known.text bytes) now e)
    (raw-keeps known.count known known.text bytes refl (more-keeps most known.count known (omega (arith, next)) keeps))

take-keeps : (known now : Known) (bytes : List ℕ) → Ordered known → Keeps known.count known → take known bytes ≡ Ok now
    → Keeps now.count now
take-keeps known now bytes ordered keeps e =
    subst (λ (n : ℕ). Keeps n now) (sym (take-count known now bytes e))
    (due-keeps known.due known.count (counted known) now bytes refl
    (record { later = ordered.later; is_open = ordered.is_open; opened = ordered.opened }) keeps (omega arith) e)

-- ---- a whole file

-- what is known after the last line, of so many pieces
record Last (count pieces : ℕ) (last : Known) : Type 0 where
  pub keeps : Keeps last.count last
  pub counts : last.count + 1 ≡ count + pieces

pieces-keep : (known last : Known) (pieces : List (List ℕ)) → Ordered known → Keeps known.count known
    → read_pieces known pieces ≡ Ok last → Last known.count (length pieces) last
pieces-keep known last [] ordered keeps e = absurd (cc)
pieces-keep known last (rest ∷ []) ordered keeps e =
    let end = end-is known last (last_piece known.section rest) e in
    subst (λ (k : Known). Last known.count 1 k) end.1 (record { keeps = keeps; counts = refl })
pieces-keep known last (bytes ∷ piece ∷ pieces) ordered keeps e =
    taken (take known bytes) refl (λ more. pieces-keep more last (piece ∷ pieces)) e
  where
    taken : (r : Result Known ScriptKind) → take known bytes ≡ r
        → ((more : Known) → Ordered more → Keeps more.count more → read_pieces more (piece ∷ pieces) ≡ Ok last
        → Last more.count (length (piece ∷ pieces)) last)
        → go_on known.count r (piece ∷ pieces) ≡ Ok last
        → Last known.count (length (bytes ∷ piece ∷ pieces)) last
    taken (Ok more) is later e =
        let stepped = take-step known more bytes ordered is in
        let done = later more stepped.ordered (take-keeps known more bytes ordered keeps is) e in
        record { keeps = done.keeps; counts = omega (arith, done.counts, take-count known more bytes is) }
    taken (Err fault) is later e = absurd (cc)

first-keeps : Keeps 0 at_first
first-keeps = record {
  text_names = refl;
  volume_names = refl;
  file_names = refl;
  early = λ early. refl;
  workers = λ late. absurd (omega (arith, late));
  held = record {
    files_of = tt;
    seals_of = tt;
    marks_of = tt;
    phases_of = tt;
    last_of = (tt, tt);
    few = omega arith;
  };
}

-- what is declared and asked keeps the rules, in lines whose count is at most this
pub record ScriptKeeps (most : ℕ) (script : Script) : Type 0 where
  pub workers : HasWorkers script
  pub files : AllByRecursion (IsFileOf script) script.files
  pub seals : AllByRecursion (IsSealOf script) script.seals
  pub marks : AllByRecursion (IsMarkOf script) script.marks
  pub phases : AllByRecursion (KeptPhase most script) script.phases
  pub few : count_lines script ≤ most

known-keeps : (most : ℕ) (last : Known) → Keeps most last → last.section ≡ section.Ended
    → ScriptKeeps most (script_of last)
known-keeps most last keeps ended =
    let place : rank last.section ≡ 9 = ap rank ended in
    record {
      workers = keeps.workers (omega (arith, place));
      files = keeps.held.files_of;
      seals = keeps.held.seals_of;
      marks = keeps.held.marks_of;
      phases = opened-all (KeptPhase most (script_of last)) last.phases last.opened last.asked keeps.held.phases_of
          (λ number. keeps.held.last_of);
      few = omega (arith, keeps.held.few, opened-few last.phases last.opened last.asked);
    }

read-keeps : (input : List ℕ) (last : Known) → file_read input ≡ Ok last → ScriptKeeps (length input) (script_of last)
unfolding file_read
read-keeps input last e =
    let done = pieces-keep at_first last (slice_split is_line_feed input) first-ordered first-keeps e in
    let whole = pieces-whole at_first last (slice_split is_line_feed input) first-ordered e in
    let upto : last.count ≤ length input =
    omega (arith, done.counts, length-slice_split is_line_feed input, count_by-le-length is_line_feed input) in
    known-keeps (length input) last (more-keeps last.count (length input) last upto done.keeps) whole.ended

-- whatever a request file declares and asks keeps the rules
pub requests-keep : (input : List ℕ) (script : Script) → requests_of input ≡ Ok script → ScriptKeeps (length input) script
requests-keep input script e = by (file_read input) refl e
  where
    by : (r : Result Known FirstBad) → file_read input ≡ r → script_or_bad r ≡ Ok script → ScriptKeeps (length input) script
    by (Ok last) is e =
        let same : script_of last ≡ script = cc in
        subst (λ (s : Script). ScriptKeeps (length input) s) same (read-keeps input last is)
    by (Err bad) is e = absurd (cc)

-- ---- the lines of phases

pub phases-rise : (most : ℕ) (script : Script) → ScriptKeeps most script → PhasesRise script
phases-rise most script keeps =
    all-map (KeptPhase most script) (λ (phase : Phase). LinesRise line_number phase.lines) script.phases
    (λ phase kept. kept.0) keeps.phases

pub each-line : (most : ℕ) (script : Script) (rule : PhaseLine → Type 0) → ScriptKeeps most script
    → ((what : PhaseLine) → KeptLine most script what → rule what) → EachLine rule script
each-line most script rule keeps more =
    all-map (KeptPhase most script) (λ (phase : Phase). AllByRecursion rule phase.lines) script.phases
    (λ phase kept. all-map (KeptLine most script) rule phase.lines more kept.1) keeps.phases
