-- What a run on a gate tells, once it is put in order, tells an order of the lines.
use Rattle.std.proofs.Common.{◌≡◌, ℕ, zero, suc, ◌+◌, ◌<◌, ◌==◌, false, List, [], ◌∷◌, ◌++◌, length, map, slice_get, Option, Some, append-nil, refl, sym, ap, subst, ◌∙◌, arith}
use Rattle.std.specs.List.{AllByRecursion, AllZip}
use Rattle.std.proofs.lemmas.Bool.{eq-eqb, ne_eqb}
use Rattle.std.proofs.lemmas.List.{length-map}
use Rattle.std.proofs.lemmas.List.Elements.{filter-append}
use Rattle.ipe_machine.specs.Answer.{Verdicts}
use Rattle.ipe_machine.specs.Machine.{Machine}
use Rattle.ipe_machine.specs.Policies.{Policies, first_policies}
use Rattle.ipe_requests.specs.Requests.{Script}
use Rattle.ipe_transcript.specs.declared.transcript.Content.{Content}
use Rattle.ipe_transcript.specs.declared.transcript.Entry.{Entry}
use Rattle.ipe_transcript.specs.Entries as transcript
use Rattle.ipe_transcript.specs.Filing.{AreFiled, LinesRise}
use Rattle.ipe_transcript.specs.Keys.{own_of}
use Rattle.ipe_transcript.specs.Order.{AreOrdered}
use Rattle.ipe_gate_rule.specs.declared.event.Event.{Event}
use Rattle.ipe_gate_rule.specs.Legal.{Legal}
use Rattle.ipe_weave.specs.Basis.{Basis}
use Rattle.ipe_weave.specs.Gate.{gate_basis}
use Rattle.ipe_weave.specs.Lines.{Line, LineReply, wrote, told, ruled, Acted, NumbersRise, actor_in, after_lines, entries_of, line_in, task_in, own_entries, own_lines, phases_entries}
use Rattle.ipe_weave.specs.Phases.{IsOrderOf, IsPrinted, PhasesRan, order_of}
use Rattle.ipe_weave.specs.Standing.{policies_then}
use Rattle.ipe_weave.specs.Told.{IsFit, entry_of, told_entry}
use Rattle.ipe_lines.specs.Asked.{Files, at_the_start, phases_of, verdicts_of}
use Rattle.ipe_lines.specs.Told.{TellInOrder, content_of_line, one_list, told_phase, told_phases}
use Rattle.ipe_lines.proofs.Each.{each_same}

-- what is told of a line is of its phase
told_of_phase : (content : Option Content) (phase : ℕ) (line : Line) (reply : LineReply)
    → transcript.phase_of (told_entry phase content line reply) ≡ phase
told_of_phase content phase line (wrote epoch switched answer records) = refl
told_of_phase content phase line (told epoch answer) = refl
told_of_phase content phase line (ruled ruling access) = refl

-- each one's own entries of a phase are of that one's own lines
abbrev OfLines : List Line → List Acted → Type 0
OfLines lines entries = (actor : ℕ) → map line_in (own_entries actor entries) ≡ own_lines actor lines

-- so it is in each phase that ran
ran_of_lines : (basis : Basis) (workers : ℕ) (whole : List Event) (policies : Policies) (before : List Event) (script : List (List Line)) (phases : List (List Acted))
    → PhasesRan basis workers policies before whole script phases → AllZip OfLines script phases
ran_of_lines basis workers whole policies before [] [] ran = tt
ran_of_lines basis workers whole policies before [] (entries ∷ phases) ran = absurd ran
ran_of_lines basis workers whole policies before (lines ∷ script) [] ran = absurd ran
ran_of_lines basis workers whole policies before (lines ∷ script) (entries ∷ phases) ran =
    (ran.1.all, ran_of_lines basis workers whole (policies_then basis.verdicts policies (map task_in (own_entries 0 entries))) ran.0 script phases ran.2)

module _ (files : Files) where
  -- what is told of a phase is of that phase
  all_of_phase : (phase : ℕ) (entries : List Acted)
      → transcript.of_phase phase (told_phase files phase entries) ≡ told_phase files phase entries
  all_of_phase phase [] = refl
  all_of_phase phase (entry ∷ entries) =
      rw (told_of_phase (content_of_line files entry) phase entry.line entry.reply, eq-eqb phase phase refl)
      (ap (λ (others : List Entry). entry_of (content_of_line files) phase entry ∷ others) (all_of_phase phase entries))

  -- and of no other
  none_of_phase : (other phase : ℕ) (entries : List Acted) → (phase == other) ≡ false
      → transcript.of_phase other (told_phase files phase entries) ≡ []
  none_of_phase other phase [] differ = refl
  none_of_phase other phase (entry ∷ entries) differ =
      rw (told_of_phase (content_of_line files entry) phase entry.line entry.reply, differ)
      (none_of_phase other phase entries differ)

  -- phases from a number on have nothing of a lower one
  none_before : (other phase : ℕ) (phases : List (List Acted)) → other < phase
      → transcript.of_phase other (one_list (told_phases files phase phases)) ≡ []
  none_before other phase [] lower = refl
  none_before other phase (entries ∷ phases) lower =
      filter-append (λ entry. transcript.phase_of entry == other) (told_phase files phase entries) (one_list (told_phases files (phase + 1) phases))
      ∙ ap (λ (first : List Entry). first ++ transcript.of_phase other (one_list (told_phases files (phase + 1) phases)))
      (none_of_phase other phase entries (ne_eqb phase other (λ e. omega arith)))
      ∙ none_before other (phase + 1) phases (omega arith)

  -- the entries of the phase at a place
  found_at : (phase : ℕ) (phases : List (List Acted)) (i : ℕ) (entries : List Acted) → slice_get phases i ≡ Some entries
      → transcript.of_phase (i + phase) (one_list (told_phases files phase phases)) ≡ told_phase files (i + phase) entries
  found_at phase [] i entries is = absurd cc
  found_at phase (first ∷ phases) zero entries is =
      let none : 0 + phase ≡ phase = omega arith in
      rw none (
      filter-append (λ entry. transcript.phase_of entry == phase) (told_phase files phase first) (one_list (told_phases files (phase + 1) phases))
      ∙ ap (λ (later : List Entry). transcript.of_phase phase (told_phase files phase first) ++ later) (none_before phase (phase + 1) phases (omega arith))
      ∙ append-nil (transcript.of_phase phase (told_phase files phase first))
      ∙ all_of_phase phase first
      ∙ ap (told_phase files phase) cc)
  found_at phase (first ∷ phases) (suc i) entries is =
      let same : suc i + phase ≡ i + (phase + 1) = omega arith in
      filter-append (λ entry. transcript.phase_of entry == suc i + phase) (told_phase files phase first) (one_list (told_phases files (phase + 1) phases))
      ∙ ap (λ (early : List Entry). early ++ transcript.of_phase (suc i + phase) (one_list (told_phases files (phase + 1) phases)))
      (none_of_phase (suc i + phase) phase first (ne_eqb phase (suc i + phase) (λ e. omega arith)))
      ∙ rw same (found_at (phase + 1) phases i entries is)

  -- with the laws of how entries are told and filed
  module _
      (fits : (verdicts : Verdicts) (machine : Machine) (lines : List Line) → AllByRecursion IsFit (entries_of verdicts machine lines))
      (prints : (contents : Acted → Option Content) (phase : ℕ) (entries printed : List Acted)
      → AllByRecursion IsFit entries → AllByRecursion IsFit printed → IsPrinted entries printed
      → transcript.IsPrinted (map (entry_of contents phase) entries) (map (entry_of contents phase) printed))
      (rising : (contents : Acted → Option Content) (phase : ℕ) (lines : List Line) (entries printed : List Acted)
      → NumbersRise lines → ((actor : ℕ) → map line_in (own_entries actor entries) ≡ own_lines actor lines)
      → AllByRecursion IsFit printed → IsPrinted entries printed
      → (actor : ℕ) → LinesRise transcript.line_of (own_of transcript.actor_of actor (map (entry_of contents phase) printed)))
      (filed : (entries ordered printed : List Entry)
      → AreFiled transcript.actor_of transcript.line_of transcript.key_of entries ordered
      → transcript.IsPrinted entries printed
      → ((actor : ℕ) → LinesRise transcript.line_of (own_of transcript.actor_of actor printed)) → ordered ≡ printed) where
    -- the machine's replies to phases are of the kinds of their lines
    fits_all : (verdicts : Verdicts) (machine : Machine) (order : List (List Line))
        → AllByRecursion (AllByRecursion IsFit) (phases_entries verdicts machine order)
    fits_all verdicts machine [] = tt
    fits_all verdicts machine (lines ∷ order) =
        (fits verdicts machine lines, fits_all verdicts (after_lines verdicts machine lines) order)

    -- the filed entries of a phase are what is told of it as it is printed
    phase_told : (phase : ℕ) (lines : List Line) (entries printed : List Acted) (entered part : List Entry)
        → NumbersRise lines → OfLines lines entries → IsPrinted entries printed → AllByRecursion IsFit printed
        → entered ≡ told_phase files phase entries
        → AreFiled transcript.actor_of transcript.line_of transcript.key_of entered part
        → part ≡ told_phase files phase printed
    phase_told phase lines entries printed entered part rise own is fit same are =
        filed (told_phase files phase entries) part (told_phase files phase printed)
        (subst (λ (given : List Entry). AreFiled transcript.actor_of transcript.line_of transcript.key_of given part) same are)
        (prints (content_of_line files) phase entries printed (each_same IsFit actor_in entries printed (λ actor. sym (is.own actor)) fit) fit is)
        (rising (content_of_line files) phase lines entries printed rise own fit is)

    -- so it is of all phases, from one on
    all_told : (whole : List Entry) (phase : ℕ) (script : List (List Line)) (phases printed : List (List Acted)) (ordered : List (List Entry))
        → AllByRecursion NumbersRise script → AllZip OfLines script phases → AllZip IsPrinted phases printed
        → AllByRecursion (AllByRecursion IsFit) printed
        → ((i : ℕ) (entries : List Acted) → slice_get phases i ≡ Some entries
        → transcript.of_phase (i + phase) whole ≡ told_phase files (i + phase) entries)
        → ((i : ℕ) (part : List Entry) → slice_get ordered i ≡ Some part
        → AreFiled transcript.actor_of transcript.line_of transcript.key_of (transcript.of_phase (i + phase) whole) part)
        → length ordered ≡ length script → ordered ≡ told_phases files phase printed
    all_told whole phase [] [] [] [] rise own is fit at each count = refl
    all_told whole phase [] [] [] (part ∷ ordered) rise own is fit at each count = absurd cc
    all_told whole phase [] [] (one ∷ printed) ordered rise own is fit at each count = absurd is
    all_told whole phase [] (entries ∷ phases) printed ordered rise own is fit at each count = absurd own
    all_told whole phase (lines ∷ script) [] printed ordered rise own is fit at each count = absurd own
    all_told whole phase (lines ∷ script) (entries ∷ phases) [] ordered rise own is fit at each count = absurd is
    all_told whole phase (lines ∷ script) (entries ∷ phases) (one ∷ printed) [] rise own is fit at each count = absurd cc
    all_told whole phase (lines ∷ script) (entries ∷ phases) (one ∷ printed) (part ∷ ordered) rise own is fit at each count =
        let none : 0 + phase ≡ phase = omega arith in
        let first : part ≡ told_phase files phase one =
        phase_told phase lines entries one (transcript.of_phase phase whole) part rise.0 own.0 is.0 fit.0
        (rw (← none) (at 0 entries refl)) (rw (← none) (each 0 part refl)) in
        let later : ordered ≡ told_phases files (phase + 1) printed =
        all_told whole (phase + 1) script phases printed ordered rise.1 own.1 is.1 fit.1
        (λ i others there. rw (← moved i) (at (suc i) others there))
        (λ i given there. rw (← moved i) (each (suc i) given there))
        cc in
        rw (first, later) refl
      where
        moved : (i : ℕ) → suc i + phase ≡ i + (phase + 1)
        moved i = omega arith

    -- the whole run
    pub run_told : (script : Script) (history : List Event) (phases printed : List (List Acted)) (ordered : List (List Entry))
        → AllByRecursion NumbersRise (phases_of script files) → Legal history
        → PhasesRan (gate_basis (verdicts_of script)) script.workers first_policies [] history (phases_of script files) phases
        → AllZip IsPrinted phases printed
        → IsOrderOf (gate_basis (verdicts_of script)) (at_the_start script) history (phases_of script files) printed
        → AreOrdered (length script.phases) (one_list (told_phases files 1 phases)) ordered
        → TellInOrder script files history ordered
    run_told script history phases printed ordered rise legal ran is order are =
        let fit : AllByRecursion (AllByRecursion IsFit) printed =
        subst (AllByRecursion (AllByRecursion IsFit)) order.along.replies
        (fits_all (verdicts_of script) (at_the_start script) (order_of printed)) in
        record {
          printed = printed;
          legal = legal;
          order = order;
          told = all_told (one_list (told_phases files 1 phases)) 1 (phases_of script files) phases printed ordered rise
              (ran_of_lines (gate_basis (verdicts_of script)) script.workers history first_policies [] (phases_of script files) phases ran)
              is fit (found_at 1 phases) are.each (are.count ∙ sym (length-map script.phases _));
        }
