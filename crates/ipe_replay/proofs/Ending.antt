-- A new gate's workers, and the end of a gate whose phases ran.
use Rattle.std.proofs.Common.{◌≡◌, ℕ, zero, suc, ◌+◌, ◌<◌, ◌≤◌, ◌==◌, inl, inr, Bool, true, false, cond, List, [], ◌∷◌, length, map, get_or, slice_get, is_some, Option, Some, None, refl, sym, ap, subst, ◌∙◌, arith, true≢false}
use Rattle.std.specs.Prelude.{unwrap_or}
use Rattle.std.specs.List.{filter}
use Rattle.std.specs.Option.{option_map}
use Rattle.std.proofs.lemmas.Bool.{cases_lt}
use Rattle.std.proofs.lemmas.List.{length-map}
use Rattle.std.proofs.lemmas.Option.{get_or_from_slice_get, slice_get-get_or, slice_get-map, slice_get_within}
use Rattle.blk_device.specs.Contents.{Contents}
use Rattle.ipe_machine.specs.Answer.{Verdicts}
use Rattle.ipe_machine.specs.Policies.{Policies, first_policies}
use Rattle.ipe_gate_rule.specs.declared.event.Event.{Event}
use Rattle.ipe_gate_rule.specs.History.{GoesOnFrom}
use Rattle.ipe_gate_rule.specs.Legal.{PassesBelow}
use Rattle.ipe_gate_rule.specs.Owners.{administrator_events, own_events}
use Rattle.ipe_gate_rule.proofs.Frees.{below_before, later_chain}
use Rattle.ipe_gate.specs.declared.meeting.Closed.{Closed}
use Rattle.ipe_gate.specs.declared.pass.Pass.{Pass}
use Rattle.ipe_gate.specs.Meeting.{AreAllPasses, IsClosing, history}
use Rattle.ipe_gate.specs.Seats.{admin_gate, gate_of, passes_made, seen, slot_held}
use Rattle.ipe_admin.specs.declared.admin.Admin.{Admin}
use Rattle.ipe_admin.specs.Outcomes.{gate_in, policies_in}
use Rattle.ipe_admin.specs.Starting.{IsFirst}
use Rattle.ipe_requests.specs.declared.script.Phase.{Phase}
use Rattle.ipe_requests.specs.declared.script.PhaseLine.{PhaseLine}
use Rattle.ipe_objects.specs.Ready.{Ready}
use Rattle.ipe_transcript.specs.declared.transcript.Entry.{Entry}
use Rattle.ipe_weave.specs.Gate.{gate_basis}
use Rattle.ipe_weave.specs.Lines.{Acted, Line, actor_of}
use Rattle.ipe_weave.specs.Phases.{PhasesRan}
use Rattle.ipe_weave.specs.Seats.{Closes, PhasesDone}
use Rattle.ipe_weave.specs.Standing.{policies_then}
use Rattle.ipe_lines.specs.Asked.{line_of, lines_of, verdicts_of}
use Rattle.ipe_workers.specs.declared.worker.Worker.{Worker}
use Rattle.ipe_workers.specs.Beside.{AllReady}
use Rattle.ipe_workers.specs.Making.{AreMade, IsMade}
use Rattle.ipe_workers.specs.Phases.{AreLevel}
use Rattle.ipe_workers.specs.Prepared.{files_in}
use Rattle.ipe_workers.specs.Workers.{pass_of}
use Rattle.ipe_workers.proofs.Phasing.{none_below}
use Rattle.ipe_replay.specs.Ends.{commands_in, last_policies}
use Rattle.ipe_replay.specs.Phases.{HavePhases, IsWholeRun, asked_in}
use Rattle.ipe_replay.proofs.Ends.{through_own}
use Rattle.ipe_replay.proofs.Running.{each_at, within}

-- what passes a test is no more than there is
few_pass : {X : Type 0} (test : X → Bool) (xs : List X) → length (filter test xs) ≤ length xs
few_pass test [] = omega arith
few_pass {X} test (x ∷ xs) = by (test x) (few_pass test xs)
  where
    by : (passes : Bool) → length (filter test xs) ≤ length xs → length (cond passes (x ∷ filter test xs) (filter test xs)) ≤ length (x ∷ xs)
    by true few = omega (arith, few)
    by false few = omega (arith, few)

-- nothing isn't something
none_some : {X : Type 0} {x : X} → None ≡ Some x → ⊥
none_some {X} {x} e = true≢false (ap (λ (found : Option X). is_some found) (sym e))

module _ (objects : Ready) (images : Contents) (workers : ℕ) where
  -- the pass of a worker at a place
  pass_at : (passes : List Pass) (ws : List Worker) (k : ℕ) (w : Worker) → map pass_of ws ≡ passes → k < length ws → w ≡ get_or ws k w → slice_get passes k ≡ Some (pass_of w)
  pass_at passes ws k w are lt is =
      ap (λ (ps : List Pass). slice_get ps k) (sym are)
      ∙ slice_get-map pass_of ws k
      ∙ ap (option_map pass_of) (slice_get-get_or ws k w lt ∙ ap (λ (v : Worker). Some v) (sym is))

  -- the worker of the pass at a place
  worker_at : (ws : List Worker) (k : ℕ) (p : Pass) → slice_get (map pass_of ws) k ≡ Some p → (w : Worker) × (slice_get ws k ≡ Some w) × (pass_of w ≡ p)
  worker_at [] zero p is = absurd (none_some is)
  worker_at [] (suc k) p is = absurd (none_some is)
  worker_at (w ∷ ws) zero p is = (w, refl, ap (λ (found : Option Pass). unwrap_or found p) is)
  worker_at (w ∷ ws) (suc k) p is = worker_at ws k p is

  -- a new gate has as many workers as passes
  pub new_long : (admin : Admin) (passes : List Pass) (ws : List Worker) → IsFirst workers admin passes → AreMade objects passes ws → length ws ≡ workers
  new_long admin passes ws first made = sym (length-map ws pass_of) ∙ ap length made.passes_are ∙ first.gate.count

  -- the workers of a new gate may run as many lines as a request file has
  pub new_ready : (admin : Admin) (passes : List Pass) (ws : List Worker) (lines : List PhaseLine) → workers ≤ 30 → length lines ≤ 16777216
      → IsFirst workers admin passes → AreMade objects passes ws → AllReady objects images lines ws
  new_ready admin passes ws lines most few first made = record {
    few = subst (λ (n : ℕ). n ≤ 30) (sym (new_long admin passes ws first made)) most;
    each = λ k w lt is.
        let new = first.gate.each k (pass_of w) (pass_at passes ws k w made.passes_are lt is) in
        let none = new.calls in
        let own = few_pass (λ (line : Line). actor_of line == k + 1) (lines_of objects.script (files_in objects images) lines) in
        let all = length-map lines (line_of objects.script (files_in objects images)) in
        record {
          number = ap (λ (n : ℕ). n + 1) new.number_is;
          held = new.held;
          few = omega (arith, none, own, all, few);
          view = (each_at (IsMade objects) ws k w lt is made.each).view;
        };
  }

  -- nothing has happened on a new gate
  pub new_level : (admin : Admin) (passes : List Pass) (ws : List Worker) → IsFirst workers admin passes → AreMade objects passes ws → AreLevel [] admin ws
  new_level admin passes ws first made = record {
    later = ([], first.gate.admin);
    own = ap administrator_events first.gate.admin;
    each = λ k w lt is.
        let new = first.gate.each k (pass_of w) (pass_at passes ws k w made.passes_are lt is) in
        record {
          gate = new.gate_is;
          later = ([], new.nothing);
          own = ap (own_events k) new.nothing;
          empty = (each_at (IsMade objects) ws k w lt is made.each).empty;
        };
  }

  -- all that is known where the last phase has ended
  pub record Ran (admin : Admin) (passes : List Pass) (phases : List Phase) (last : Admin) (ws vs : List Worker) (entries : List Entry) : Type 0 where
    pub first : IsFirst workers admin passes
    pub made : AreMade objects passes ws
    pub ran : HavePhases objects images phases admin last ws vs entries

  -- the number of the pass of a worker, its gate, and that it holds nothing
  rests_at : (admin : Admin) (passes : List Pass) (phases : List Phase) (last : Admin) (ws vs : List Worker) (entries : List Entry)
      → Ran admin passes phases last ws vs entries → (k : ℕ) (v : Worker) → k < length vs → v ≡ get_or vs k v
      → ((pass_of v).number ≡ k) × (gate_of (pass_of v) ≡ admin_gate (gate_in last)) × (slot_held (pass_of v) ≡ 0)
  rests_at admin passes phases last ws vs entries all k v lt is =
      let here : k < length ws = subst (λ (n : ℕ). k < n) all.ran.long lt in
      let w = get_or ws k v in
      let kept = all.ran.each k v here in
      let new = all.first.gate.each k (pass_of w) (pass_at passes ws k w all.made.passes_are here (within ws k v w here)) in (
        ap (λ (u : Worker). (pass_of u).number) is ∙ kept.number ∙ new.number_is,
        (all.ran.level.each k v lt is).gate,
        ap (λ (u : Worker). slot_held (pass_of u)) is ∙ kept.held,
      )

  -- the gate may be closed with the passes of its workers
  pub all_passes : (admin : Admin) (passes : List Pass) (phases : List Phase) (last : Admin) (ws vs : List Worker) (entries : List Entry)
      → Ran admin passes phases last ws vs entries → AreAllPasses (gate_in last) (map pass_of vs)
  all_passes admin passes phases last ws vs entries all = record {
    all =
        length-map vs pass_of ∙ all.ran.long ∙ new_long admin passes ws all.first all.made
        ∙ sym (all.ran.same.passes ∙ all.first.gate.made);
    each = λ k p is.
        let found = worker_at vs k p is in
        let v = found.0 in
        let lt = slice_get_within vs k v found.1 in
        subst (λ (q : Pass). (q.number ≡ k) × (gate_of q ≡ admin_gate (gate_in last)) × (slot_held q ≡ 0)) found.2
        (rests_at admin passes phases last ws vs entries all k v lt (sym (get_or_from_slice_get vs k v v found.1)));
  }

  -- the history of the closed gate has no more of anyone's than all had seen
  closes : (admin : Admin) (passes : List Pass) (phases : List Phase) (last : Admin) (ws vs : List Worker) (entries : List Entry) (closed : Closed)
      → (all : Ran admin passes phases last ws vs entries) → IsClosing (gate_in last) (map pass_of vs) closed
      → Closes all.ran.now (history closed)
  closes admin passes phases last ws vs entries closed all closing = record {
    later = later;
    admin = closing.admin_own ∙ all.ran.level.own;
    passes = λ p. elim (cases_lt p (length vs)) [
      | inl lt ↦ own p lt
      | inr le ↦ none_below (length vs) p (history closed) le below ∙ sym (none_below (length vs) p all.ran.now le (below_before (length vs) later.0 all.ran.now (subst (PassesBelow (length vs)) later.1 below)))
    ];
  }
    where
      later : GoesOnFrom (history closed) all.ran.now
      later = later_chain (history closed) _ all.ran.now closing.later all.ran.level.later

      below : PassesBelow (length vs) (history closed)
      below = subst (λ (n : ℕ). PassesBelow n (history closed)) (sym (all_passes admin passes phases last ws vs entries all).all ∙ length-map vs pass_of) closing.below

      own : (p : ℕ) → p < length vs → own_events p (history closed) ≡ own_events p all.ran.now
      own p lt =
          let v = at p lt in
          let is : v ≡ get_or vs p v = at_is p lt in
          let theirs = closing.each p (pass_of v) (slice_get-map pass_of vs p ∙ ap (option_map pass_of) (slice_get-get_or vs p v lt ∙ ap (λ (u : Worker). Some u) (sym is))) in
          theirs.1
          ∙ ap (λ (n : ℕ). own_events n (seen (pass_of v))) (rests_at admin passes phases last ws vs entries all p v lt is).0
          ∙ (all.ran.level.each p v lt is).own
        where
          one : (us : List Worker) (k : ℕ) → k < length us → (u : Worker) × (u ≡ get_or us k u)
          one [] k inside = absurd (omega (arith, inside))
          one (u ∷ us) zero inside = (u, refl)
          one (u ∷ us) (suc k) inside = one us k (omega (arith, inside))

          at : (k : ℕ) → k < length vs → Worker
          at k inside = (one vs k inside).0

          at_is : (k : ℕ) (inside : k < length vs) → at k inside ≡ get_or vs k (at k inside)
          at_is k inside = (one vs k inside).1

  -- all phases are done, where the gate is closed
  phases_done : (admin : Admin) (passes : List Pass) (phases : List Phase) (last : Admin) (ws vs : List Worker) (entries : List Entry) (closed : Closed)
      → (all : Ran admin passes phases last ws vs entries) → IsClosing (gate_in last) (map pass_of vs) closed
      → PhasesDone (gate_basis (verdicts_of objects.script)) (length ws) (policies_in admin) [] all.ran.now (map (asked_in objects images) phases) all.ran.acted
  phases_done admin passes phases last ws vs entries closed all closing =
      let shut = closes admin passes phases last ws vs entries closed all closing in
      let long : length ws ≡ workers = new_long admin passes ws all.first all.made in
      let many : passes_made (gate_in last) ≡ length ws = all.ran.same.passes ∙ all.first.gate.made ∙ sym long in
      all.ran.done
      (below_before (length ws) shut.later.0 all.ran.now (subst (PassesBelow (length ws)) shut.later.1
      (subst (λ (n : ℕ). PassesBelow n (history closed)) many closing.below)))

  -- the policies then are those after the administrator's lines alone
  pub ends : (admin : Admin) (passes : List Pass) (phases : List Phase) (last : Admin) (ws vs : List Worker) (entries : List Entry) (closed : Closed)
      → (all : Ran admin passes phases last ws vs entries) → IsClosing (gate_in last) (map pass_of vs) closed
      → objects.script.phases ≡ phases → policies_in last ≡ last_policies objects.script (files_in objects images)
  ends admin passes phases last ws vs entries closed all closing phases_are =
      let v : Verdicts = verdicts_of objects.script in
      all.ran.policies
      ∙ through_own (gate_basis v) (length ws) (policies_in admin) [] all.ran.now (map (asked_in objects images) phases) all.ran.acted
      (phases_done admin passes phases last ws vs entries closed all closing)
      ∙ ap (λ (p : Policies). policies_then v p (commands_in (map (asked_in objects images) phases))) all.first.policies
      ∙ ap (λ (ps : List Phase). policies_then v first_policies (commands_in (map (asked_in objects images) ps))) (sym phases_are)

  -- so all phases ran up to the whole history
  pub whole_run : ((v : Verdicts) (workers : ℕ) (policies : Policies) (before now whole : List Event) (script : List (List Line)) (phases : List (List Acted))
      → PhasesDone (gate_basis v) workers policies before now script phases → Closes now whole → PhasesRan (gate_basis v) workers policies before whole script phases)
      → (admin : Admin) (passes : List Pass) (phases : List Phase) (last : Admin) (ws vs : List Worker) (entries : List Entry) (closed : Closed)
      → (all : Ran admin passes phases last ws vs entries) → IsClosing (gate_in last) (map pass_of vs) closed
      → objects.script.phases ≡ phases → objects.script.workers ≡ workers → IsWholeRun objects images entries closed
  whole_run law admin passes phases last ws vs entries closed all closing phases_are workers_are =
      let v : Verdicts = verdicts_of objects.script in
      let shut = closes admin passes phases last ws vs entries closed all closing in
      let long : length ws ≡ workers = new_long admin passes ws all.first all.made in
      let all_done = phases_done admin passes phases last ws vs entries closed all closing in
      let done = law v (length ws) (policies_in admin) [] all.ran.now (history closed) (map (asked_in objects images) phases) all.ran.acted all_done shut in
      record {
        acted = all.ran.acted;
        legal = closing.legal;
        ran =
            subst (λ (n : ℕ). PhasesRan (gate_basis v) n first_policies [] (history closed) (map (asked_in objects images) objects.script.phases) all.ran.acted) (long ∙ sym workers_are)
            (subst (λ (p : Policies). PhasesRan (gate_basis v) (length ws) p [] (history closed) (map (asked_in objects images) objects.script.phases) all.ran.acted) all.first.policies
            (subst (λ (ps : List Phase). PhasesRan (gate_basis v) (length ws) (policies_in admin) [] (history closed) (map (asked_in objects images) ps) all.ran.acted) (sym phases_are) done));
        told = all.ran.told;
      }
