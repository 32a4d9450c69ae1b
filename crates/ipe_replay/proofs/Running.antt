-- Phases that ran on a gate, one phase more, and the gate's end.
use Rattle.std.proofs.Common.{◌≡◌, ℕ, zero, suc, ◌+◌, ◌<◌, ◌≤◌, ◌^◌, ◌==◌, List, [], ◌∷◌, ◌++◌, length, map, take, drop, get_or, refl, sym, ap, subst, ◌∙◌, append_assoc, append-nil, length-append, arith}
use Rattle.std.specs.List.{AllByRecursion}
use Rattle.std.proofs.lemmas.Grind.{flat_map-append}
use Rattle.std.proofs.lemmas.List.{map-append, take-append-drop, take_more}
use Rattle.std.proofs.lemmas.List.Elements.{All-from_recursion, All-get_or, filter-append}
use Rattle.blk_device.specs.Contents.{Contents}
use Rattle.ipe_machine.specs.Answer.{Verdicts}
use Rattle.ipe_machine.specs.Policies.{Policies, first_policies}
use Rattle.ipe_gate_rule.specs.declared.event.Event.{Event}
use Rattle.ipe_gate_rule.specs.Legal.{Legal, PassesBelow}
use Rattle.ipe_gate_rule.proofs.Frees.{below_before}
use Rattle.ipe_gate.specs.declared.meeting.Closed.{Closed}
use Rattle.ipe_gate.specs.Meeting.{history}
use Rattle.ipe_admin.specs.declared.admin.Admin.{Admin}
use Rattle.ipe_admin.specs.Outcomes.{policies_in}
use Rattle.ipe_requests.specs.Requests.{Script}
use Rattle.ipe_requests.specs.declared.script.Phase.{Phase}
use Rattle.ipe_requests.specs.declared.script.PhaseLine.{PhaseLine}
use Rattle.ipe_requests.specs.Rules.{EachLine, IsHookOf}
use Rattle.ipe_objects.specs.Ready.{Ready}
use Rattle.ipe_transcript.specs.declared.transcript.Entry.{Entry}
use Rattle.ipe_weave.specs.Gate.{gate_basis}
use Rattle.ipe_weave.specs.Lines.{Acted, Line, NumbersRise, actor_of, own_entries, own_lines, task_in}
use Rattle.ipe_weave.specs.Phases.{PhaseRan, PhasesRan}
use Rattle.ipe_weave.specs.Seats.{PhasesDone, policies_through}
use Rattle.ipe_weave.specs.Standing.{policies_then}
use Rattle.ipe_lines.specs.Asked.{Files, line_of, lines_of, phases_of, verdicts_of}
use Rattle.ipe_lines.specs.Files.{files_of}
use Rattle.ipe_lines.specs.Told.{one_list, told_phase, told_phases}
use Rattle.ipe_workers.specs.declared.worker.Worker.{Worker}
use Rattle.ipe_workers.specs.Beside.{AllReady}
use Rattle.ipe_workers.specs.Phases.{AreLevel, HasPhase, IsKept}
use Rattle.ipe_workers.specs.Prepared.{ArePrepared, files_in}
use Rattle.ipe_workers.specs.Workers.{IsReady, lines_for}
use Rattle.ipe_replay.specs.Phases.{HavePhases, IsWholeRun, MayRun, asked_in, lines_in}

-- the first elements and the next one are one more
take_next : {X : Type 0} (xs : List X) (i : ℕ) (x : X) → i < length xs → x ≡ get_or xs i x → take (i + 1) xs ≡ take i xs ++ x ∷ []
take_next xs i x lt is = take_more xs i x lt ∙ ap (λ y. take i xs ++ y ∷ []) (sym is)

-- what holds of each holds of the one at a place
pub each_at : {X : Type 0} (P : X → Type 0) (xs : List X) (i : ℕ) (x : X) → i < length xs → x ≡ get_or xs i x → AllByRecursion P xs → P x
each_at P xs i x lt is all = subst P (sym is) (All-get_or P xs i x lt (All-from_recursion P xs all))

-- an element within the list is there whatever stands for one past it
pub within : {X : Type 0} (xs : List X) (i : ℕ) (d e : X) → i < length xs → get_or xs i d ≡ get_or xs i e
within [] i d e lt = absurd (omega (arith, lt))
within (x ∷ xs) zero d e lt = refl
within (x ∷ xs) (suc i) d e lt = within xs i d e (omega (arith, lt))

-- a list that takes the place of all of another is what is there
pub whole_list : {X : Type 0} (vs xs : List X) (n : ℕ) → length vs ≡ length xs → length xs ≡ n → take n (vs ++ drop (length vs) xs) ≡ vs
whole_list {X} [] [] n long all = subst (λ (m : ℕ). take {A = X} m [] ≡ []) all refl
whole_list {X} [] (x ∷ xs) n long all = absurd (omega (arith, long))
whole_list {X} (v ∷ vs) [] n long all = absurd (omega (arith, long))
whole_list {X} (v ∷ vs) (x ∷ xs) n long all =
    subst (λ (m : ℕ). take m (v ∷ (vs ++ drop (length vs) xs)) ≡ v ∷ vs) all (ap (λ (us : List X). v ∷ us) (whole_list vs xs (length xs) (omega (arith, long)) refl))

-- the policies after one phase more
through_last : (v : Verdicts) (p : Policies) (phases : List (List Acted)) (entries : List Acted)
    → policies_through v p (phases ++ entries ∷ []) ≡ policies_then v (policies_through v p phases) (map task_in (own_entries 0 entries))
through_last v p [] entries = refl
through_last v p (first ∷ phases) entries = through_last v (policies_then v p (map task_in (own_entries 0 first))) phases entries

-- what is told of one phase more
told_last : (files : Files) (number : ℕ) (phases : List (List Acted)) (entries : List Acted)
    → one_list (told_phases files number (phases ++ entries ∷ [])) ≡ one_list (told_phases files number phases) ++ told_phase files (number + length phases) entries
told_last files number [] entries =
    append-nil (told_phase files number entries) ∙ ap (λ (n : ℕ). told_phase files n entries) (omega arith)
told_last files number (first ∷ phases) entries =
    ap (λ (later : List Entry). told_phase files number first ++ later) (told_last files (number + 1) phases entries)
    ∙ sym (append_assoc (told_phase files number first) (one_list (told_phases files (number + 1) phases)) (told_phase files (number + 1 + length phases) entries))
    ∙ ap (λ (n : ℕ). (told_phase files number first ++ one_list (told_phases files (number + 1) phases)) ++ told_phase files n entries) (omega arith)

-- the lines of the first phases and of the next one
lines_next : (phases : List Phase) (i : ℕ) (phase : Phase) → i < length phases → phase ≡ get_or phases i phase
    → lines_in (take (i + 1) phases) ≡ lines_in (take i phases) ++ phase.lines
lines_next phases i phase lt is =
    ap lines_in (take_next phases i phase lt is)
    ∙ flat_map-append (λ (p : Phase). p.lines) (take i phases) (phase ∷ [])
    ∙ ap (λ (ls : List PhaseLine). lines_in (take i phases) ++ ls) (append-nil phase.lines)

-- all lines are those of the first phases, of the next one, and of the others
lines_cut : (phases : List Phase) (i : ℕ) (phase : Phase) → i < length phases → phase ≡ get_or phases i phase
    → lines_in phases ≡ (lines_in (take i phases) ++ phase.lines) ++ lines_in (drop (i + 1) phases)
lines_cut phases i phase lt is =
    ap lines_in (sym (take-append-drop (i + 1) phases))
    ∙ flat_map-append (λ (p : Phase). p.lines) (take (i + 1) phases) (drop (i + 1) phases)
    ∙ ap (λ (ls : List PhaseLine). ls ++ lines_in (drop (i + 1) phases)) (lines_next phases i phase lt is)

module _ (objects : Ready) (images : Contents) where
  abbrev files : Files
  files = files_in objects images

  abbrev verdicts : Verdicts
  verdicts = verdicts_of objects.script

  -- a worker's own of lines and of others
  lines_both : (worker : ℕ) (xs ys : List PhaseLine) → lines_for objects images worker (xs ++ ys) ≡ lines_for objects images worker xs ++ lines_for objects images worker ys
  lines_both worker xs ys =
      ap (own_lines worker) (map-append (line_of objects.script files) xs ys)
      ∙ filter-append (λ (line : Line). actor_of line == worker) (lines_of objects.script files xs) (lines_of objects.script files ys)

  -- so they are as many as both
  long_both : (worker : ℕ) (xs ys : List PhaseLine) → length (lines_for objects images worker (xs ++ ys)) ≡ length (lines_for objects images worker xs) + length (lines_for objects images worker ys)
  long_both worker xs ys = ap length (lines_both worker xs ys) ∙ length-append (lines_for objects images worker xs) (lines_for objects images worker ys)

  -- a worker that ran no line is as it was
  kept_none : (k worker : ℕ) (lines : List PhaseLine) (w : Worker) → IsReady objects images worker lines w → IsKept objects images [] k w w
  kept_none k worker lines w ready = record { number = refl; held = ready.held; calls = omega arith; view = refl }

  -- one that ran lines and then others
  kept_both : (k : ℕ) (xs ys : List PhaseLine) (w u v : Worker) → IsKept objects images xs k w u → IsKept objects images ys k u v → IsKept objects images (xs ++ ys) k w v
  kept_both k xs ys w u v one two =
      let first = one.calls in
      let second = two.calls in
      let long = long_both (k + 1) xs ys in
      record {
        number = two.number ∙ one.number;
        held = two.held;
        calls = omega (arith, first, second, long);
        view = two.view ∙ one.view;
      }

  -- a worker of the first phases may run the lines of the next one
  ready_next : (phases : List Phase) (i : ℕ) (phase : Phase) (k : ℕ) (w v : Worker) → i < length phases → phase ≡ get_or phases i phase
      → IsReady objects images (k + 1) (lines_in phases) w → IsKept objects images (lines_in (take i phases)) k w v → IsReady objects images (k + 1) phase.lines v
  ready_next phases i phase k w v lt is ready kept =
      let most = kept.calls in
      let room = ready.few in
      let before = lines_in (take i phases) in
      let after = lines_in (drop (i + 1) phases) in
      let all : length (lines_for objects images (k + 1) (lines_in phases)) ≡ length (lines_for objects images (k + 1) before) + length (lines_for objects images (k + 1) phase.lines) + length (lines_for objects images (k + 1) after) =
      ap (λ (ls : List PhaseLine). length (lines_for objects images (k + 1) ls)) (lines_cut phases i phase lt is)
      ∙ long_both (k + 1) (before ++ phase.lines) after
      ∙ ap (λ (n : ℕ). n + length (lines_for objects images (k + 1) after)) (long_both (k + 1) before phase.lines) in
      record {
        number = ap (λ (n : ℕ). n + 1) kept.number ∙ ready.number;
        held = kept.held;
        few = omega (arith, most, room, all);
        view = kept.view ∙ ready.view;
      }

  -- the phases of a request file may be run
  pub may_run : (phases : List Phase) → phases ≡ objects.script.phases → ArePrepared objects images → EachLine (IsHookOf objects.script) objects.script
      → AllByRecursion (λ (phase : Phase). (actor : ℕ) → NumbersRise (own_lines actor (asked_in objects images phase))) objects.script.phases
      → MayRun objects images phases
  may_run phases are prepared hooks rising = record {
    prepared = prepared;
    hooks = subst (AllByRecursion (λ (phase : Phase). AllByRecursion (IsHookOf objects.script) phase.lines)) (sym are) hooks;
    rising =
        subst (AllByRecursion (λ (phase : Phase). NumbersRise (own_lines 0 (asked_in objects images phase)))) (sym are)
        (administrators objects.script.phases rising);
  }
    where
      administrators : (phases : List Phase) → AllByRecursion (λ (phase : Phase). (actor : ℕ) → NumbersRise (own_lines actor (asked_in objects images phase))) phases
          → AllByRecursion (λ (phase : Phase). NumbersRise (own_lines 0 (asked_in objects images phase))) phases
      administrators [] all = tt
      administrators (phase ∷ phases) all = (all.0 0, administrators phases all.1)

  -- no phase ran yet
  pub phases_none : (a : Admin) (ws : List Worker) (lines : List PhaseLine) → AllReady objects images lines ws → AreLevel [] a ws → HavePhases objects images [] a a ws ws []
  phases_none a ws lines ready level = record {
    now = [];
    acted = [];
    count = refl;
    level = level;
    same = record { gate = refl; passes = refl };
    policies = refl;
    done = λ below. refl;
    long = refl;
    each = λ k d lt. kept_none k (k + 1) lines (get_or ws k d) (ready.each k (get_or ws k d) lt (within ws k d (get_or ws k d) lt));
    serials = omega arith;
    told = refl;
  }

  -- all workers may run the lines of the next phase
  pub all_ready : (phases : List Phase) (i : ℕ) (phase : Phase) (a b : Admin) (ws vs : List Worker) (entries : List Entry) → i < length phases → phase ≡ get_or phases i phase
      → AllReady objects images (lines_in phases) ws → HavePhases objects images (take i phases) a b ws vs entries → AllReady objects images phase.lines vs
  all_ready phases i phase a b ws vs entries lt is ready ran =
      let long = ran.long in
      let few = ready.few in
      record {
        few = omega (arith, long, few);
        each = λ k v inside there.
            let here : k < length ws = omega (arith, inside, long) in
            ready_next phases i phase k (get_or ws k v) v lt is
            (ready.each k (get_or ws k v) here (within ws k v (get_or ws k v) here))
            (subst (λ (u : Worker). IsKept objects images (lines_in (take i phases)) k (get_or ws k v) u) (sym there) (ran.each k v here));
      }

  -- there are serials for the lines of the next phase
  pub serials_next : (phases : List Phase) (i : ℕ) (phase : Phase) (a b : Admin) (ws vs : List Worker) (entries : List Entry) → i < length phases → phase ≡ get_or phases i phase
      → (policies_in a).next + length (lines_in phases) ≤ 2 ^ 62 → HavePhases objects images (take i phases) a b ws vs entries
      → (policies_in b).next + length phase.lines ≤ 2 ^ 62
  serials_next phases i phase a b ws vs entries lt is room ran =
      let most = ran.serials in
      let before = lines_in (take i phases) in
      let after = lines_in (drop (i + 1) phases) in
      let all : length (lines_in phases) ≡ length before + length phase.lines + length after =
      ap length (lines_cut phases i phase lt is)
      ∙ length-append (before ++ phase.lines) after
      ∙ ap (λ (n : ℕ). n + length after) (length-append before phase.lines) in
      omega (arith, most, room, all)

  module _
      (more : (workers : ℕ) (policies : Policies) (before now after : List Event) (script : List (List Line)) (phases : List (List Acted)) (lines : List Line) (entries : List Acted)
      → PhasesDone (gate_basis verdicts) workers policies before now script phases
      → PhaseRan (gate_basis verdicts) workers (policies_through verdicts policies phases) now after lines entries
      → PhasesDone (gate_basis verdicts) workers policies before after (script ++ lines ∷ []) (phases ++ entries ∷ [])) where
    -- one phase more
    pub phases_next : (phases : List Phase) (i : ℕ) (phase : Phase) (a b c : Admin) (ws vs us : List Worker) (entries told all : List Entry) → i < length phases → phase ≡ get_or phases i phase
        → (ran : HavePhases objects images (take i phases) a b ws vs entries)
        → HasPhase objects images (i + 1) phase.lines ran.now b c vs us told → all ≡ entries ++ told
        → HavePhases objects images (take (i + 1) phases) a c ws us all
    phases_next phases i phase a b c ws vs us entries told all lt is ran one both =
        let first = ran.serials in
        let second = one.serials in
        let lines = lines_next phases i phase lt is in
        let long : length (lines_in (take (i + 1) phases)) ≡ length (lines_in (take i phases)) + length phase.lines =
        ap length lines ∙ length-append (lines_in (take i phases)) phase.lines in
        let many : length ran.acted ≡ i = ran.count ∙ length-take-within phases i lt in
        let number : i + 1 ≡ 1 + length ran.acted = omega (arith, many) in
        record {
          now = one.after;
          acted = ran.acted ++ one.acted ∷ [];
          count =
              length-append ran.acted (one.acted ∷ []) ∙ ap (λ (n : ℕ). n + 1) ran.count
              ∙ sym (ap length (take_next phases i phase lt is) ∙ length-append (take i phases) (phase ∷ []));
          level = one.level;
          same = record { gate = one.same.gate ∙ ran.same.gate; passes = one.same.passes ∙ ran.same.passes };
          policies =
              one.policies ∙ ap (λ (p : Policies). policies_then verdicts p (map task_in (own_entries 0 one.acted))) ran.policies
              ∙ sym (through_last verdicts (policies_in a) ran.acted one.acted);
          done = λ below. one_more below (one.ran (subst (λ (n : ℕ). PassesBelow n one.after) (sym ran.long) below));
          long = one.long ∙ ran.long;
          each = λ k d here.
              subst (λ (ls : List PhaseLine). IsKept objects images ls k (get_or ws k d) (get_or us k d)) (sym lines)
              (kept_both k (lines_in (take i phases)) phase.lines (get_or ws k d) (get_or vs k d) (get_or us k d) (ran.each k d here) (one.each k d (subst (λ (n : ℕ). k < n) (sym ran.long) here)));
          serials = omega (arith, first, second, long);
          told =
              both ∙ ap (λ (es : List Entry). es ++ told) ran.told
              ∙ ap (λ (es : List Entry). one_list (told_phases files 1 ran.acted) ++ es) (one.told ∙ ap (λ (n : ℕ). told_phase files n one.acted) number)
              ∙ sym (told_last files 1 ran.acted one.acted);
        }
      where
        length-take-within : {X : Type 0} (xs : List X) (n : ℕ) → n < length xs → length (take n xs) ≡ n
        length-take-within [] n inside = absurd (omega (arith, inside))
        length-take-within (x ∷ xs) zero inside = refl
        length-take-within (x ∷ xs) (suc n) inside = ap suc (length-take-within xs n (omega (arith, inside)))

        one_more : PassesBelow (length ws) one.after
            → PhaseRan (gate_basis verdicts) (length vs) (policies_in b) ran.now one.after (lines_of objects.script files phase.lines) one.acted
            → PhasesDone (gate_basis verdicts) (length ws) (policies_in a) [] one.after (map (asked_in objects images) (take (i + 1) phases)) (ran.acted ++ one.acted ∷ [])
        one_more below did =
            let same : PhaseRan (gate_basis verdicts) (length ws) (policies_through verdicts (policies_in a) ran.acted) ran.now one.after (asked_in objects images phase) one.acted =
            subst (λ (n : ℕ). PhaseRan (gate_basis verdicts) n (policies_through verdicts (policies_in a) ran.acted) ran.now one.after (asked_in objects images phase) one.acted) ran.long
            (subst (λ (p : Policies). PhaseRan (gate_basis verdicts) (length vs) p ran.now one.after (asked_in objects images phase) one.acted) ran.policies did) in
            let before : PassesBelow (length ws) ran.now =
            below_before (length ws) did.later.0 ran.now (subst (PassesBelow (length ws)) did.later.1 below) in
            subst (λ (script : List (List Line)). PhasesDone (gate_basis verdicts) (length ws) (policies_in a) [] one.after script (ran.acted ++ one.acted ∷ []))
            (sym (ap (map (asked_in objects images)) (take_next phases i phase lt is) ∙ map-append (asked_in objects images) (take i phases) (phase ∷ [])))
            (more (length ws) (policies_in a) [] ran.now one.after (map (asked_in objects images) (take i phases)) ran.acted (asked_in objects images phase) one.acted (ran.done before) same)

-- a whole run of a request file, told of the file alone
pub script_run : (objects : Ready) (images : Contents) (script : Script) (entries : List Entry) (closed : Closed) → objects.script ≡ script → IsWholeRun objects images entries closed
    → (acted : List (List Acted)) × Legal (history closed)
    × PhasesRan (gate_basis (verdicts_of script)) script.workers first_policies [] (history closed) (phases_of script (files_of script images)) acted
    × (entries ≡ one_list (told_phases (files_of script images) 1 acted))
script_run objects images script entries closed is run =
    subst (λ (s : Script). (acted : List (List Acted)) × Legal (history closed)
    × PhasesRan (gate_basis (verdicts_of s)) s.workers first_policies [] (history closed) (phases_of s (files_of s images)) acted
    × (entries ≡ one_list (told_phases (files_of s images) 1 acted))) is (run.acted, run.legal, run.ran, run.told)
