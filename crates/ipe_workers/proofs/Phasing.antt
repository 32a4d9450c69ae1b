-- What was done by all, and the meetings after it, are a phase.
use Rattle.std.proofs.Common.{◌≡◌, ◌≢◌, ℕ, zero, suc, ◌+◌, ◌<◌, ◌≤◌, inl, inr, Bool, true, cond, List, [], ◌∷◌, ◌++◌, length, map, get_or, refl, sym, ap, subst, ◌∙◌, append-nil, length-append, arith, ne_eqb}
use Rattle.std.specs.List.{AllByRecursion, filter, flat_map}
use Rattle.std.proofs.lemmas.Bool.{cases_lt}
use Rattle.std.proofs.lemmas.List.{length-map, map-append, nil_from_length}
use Rattle.std.proofs.lemmas.List.Elements.{filter-append}
use Rattle.blk_device.specs.Contents.{Contents}
use Rattle.ipe_machine.specs.Answer.{Verdicts}
use Rattle.ipe_machine.specs.Policies.{Policies}
use Rattle.ipe_gate_rule.specs.declared.event.Event.{Event}
use Rattle.ipe_gate_rule.specs.declared.event.Event.TheVariants.{Store, Switch, Claim, Return, Look}
use Rattle.ipe_gate_rule.specs.History.{GoesOnFrom}
use Rattle.ipe_gate_rule.specs.Legal.{PassesBelow}
use Rattle.ipe_gate_rule.specs.Owners.{administrator_events, is_administrators, is_by_pass, is_switch, own_events}
use Rattle.ipe_gate_rule.proofs.Frees.{later_same, later_chain}
use Rattle.ipe_gate.specs.declared.pass.Pass.{Pass}
use Rattle.ipe_gate.specs.Seats.{admin_seen, calls_made, gate_of, seen, slot_held}
use Rattle.ipe_admin.specs.declared.admin.Admin.{Admin}
use Rattle.ipe_admin.specs.Outcomes.{gate_in, policies_in}
use Rattle.ipe_requests.specs.declared.script.PhaseLine.{PhaseLine}
use Rattle.ipe_requests.specs.declared.script.PhaseLine.TheVariants as asked
use Rattle.ipe_requests.specs.Requests.{Script}
use Rattle.ipe_requests.specs.Rules.{IsHookOf}
use Rattle.ipe_objects.specs.Ready.{Ready}
use Rattle.ipe_transcript.specs.declared.transcript.Entry.{Entry}
use Rattle.ipe_weave.specs.Acts.{Act, is_claim_of}
use Rattle.ipe_weave.specs.Gate.{gate_basis}
use Rattle.ipe_weave.specs.Lines.{Acted, Line, NumbersRise, actor_of, line_in, own_entries, own_lines, task_in}
use Rattle.ipe_weave.specs.Phases.{PhaseRan}
use Rattle.ipe_weave.specs.Seats.{AdminRan, PhaseMet, WorkerRan}
use Rattle.ipe_weave.specs.Standing.{policies_then}
use Rattle.ipe_weave.specs.Told.{entry_of}
use Rattle.ipe_weave.proofs.Quiet.{acts_quiet, claims_own, switches_own}
use Rattle.ipe_lines.specs.Asked.{Files, line_of, lines_of, verdicts_of}
use Rattle.ipe_lines.specs.Told.{content_of_line, told_phase}
use Rattle.ipe_workers.specs.declared.worker.Worker.{Worker}
use Rattle.ipe_workers.specs.Administering.{HasAdministered}
use Rattle.ipe_workers.specs.Beside.{AllRan, AllReady}
use Rattle.ipe_workers.specs.Phases.{AreDone, AreLevel, AreTaken, HasPhase, IsKept, IsLevel, IsTaken}
use Rattle.ipe_workers.specs.Prepared.{files_in}
use Rattle.ipe_workers.specs.Rounds.{AdminHeard, AllHeard, WorkerHeard}
use Rattle.ipe_workers.specs.Workers.{HasRun, entries_in, lines_for, pass_of}
use Rattle.ipe_workers.proofs.Parts.{Parts, all_own, joined, nth, own_both, own_none, own_same, part_of, parts_at, parts_of, parts_other, parts_own, parts_told}
use Rattle.ipe_workers.proofs.Rounds.{any_default}

-- what stands between two histories with the same of a kind has the same
squeeze : (f : Event → Bool) (top mid low : List Event) → GoesOnFrom top mid → GoesOnFrom mid low → filter f top ≡ filter f low → filter f mid ≡ filter f low
squeeze f top mid low x y same =
    let m : filter f mid ≡ filter f y.0 ++ filter f low = ap (filter f) y.1 ∙ filter-append f y.0 low in
    let t : filter f top ≡ filter f x.0 ++ filter f mid = ap (filter f) x.1 ∙ filter-append f x.0 mid in
    let lm : length (filter f mid) ≡ length (filter f y.0) + length (filter f low) = ap length m ∙ length-append (filter f y.0) (filter f low) in
    let lt : length (filter f top) ≡ length (filter f x.0) + length (filter f mid) = ap length t ∙ length-append (filter f x.0) (filter f mid) in
    let ls : length (filter f top) ≡ length (filter f low) = ap length same in
    m ∙ ap (λ (es : List Event). es ++ filter f low) (nil_from_length (filter f y.0) (omega (arith, lm, lt, ls)))

-- no event of a pass that the gate hasn't
pub none_below : (n p : ℕ) (h : List Event) → n ≤ p → PassesBelow n h → own_events p h ≡ []
none_below n p [] le below = refl
none_below n p (Store s i w ∷ h) le below = none_below n p h le below.1
none_below n p (Switch s e u ∷ h) le below = none_below n p h le below.1
none_below n p (Claim q ∷ h) le below =
    let lt = below.0 in
    ap (λ (b : Bool). cond b (Claim q ∷ own_events p h) (own_events p h)) (ne_eqb p q (λ e. omega (arith, e, le, lt))) ∙ none_below n p h le below.1
none_below n p (Return q ∷ h) le below =
    let lt = below.0 in
    ap (λ (b : Bool). cond b (Return q ∷ own_events p h) (own_events p h)) (ne_eqb p q (λ e. omega (arith, e, le, lt))) ∙ none_below n p h le below.1
none_below n p (Look s ∷ h) le below = none_below n p h le below.1

-- no line of a worker that the file hasn't
lines_few : (script : Script) (files : Files) (lines : List PhaseLine) → AllByRecursion (IsHookOf script) lines → (j : ℕ) → script.workers < j → own_lines j (lines_of script files lines) ≡ []
lines_few script files [] all j lt = refl
lines_few script files (line ∷ lines) all j lt =
    ap (λ (b : Bool). cond b (line_of script files line ∷ own_lines j (lines_of script files lines)) (own_lines j (lines_of script files lines)))
    (ne_eqb (actor_of (line_of script files line)) j (other line all.0))
    ∙ lines_few script files lines all.1 j lt
  where
    other : (line : PhaseLine) → IsHookOf script line → actor_of (line_of script files line) ≢ j
    other (asked.Write number may node content) is e = omega (arith, e, lt)
    other (asked.Read number node) is e = omega (arith, e, lt)
    other (asked.Hook number worker request subject path) is e = let most = is.1 in omega (arith, e, lt, most)

-- a run that began level may be told from the history to which it was level
worker_from : (v : Verdicts) (p : ℕ) (now first last : List Event) (entries : List Acted) → GoesOnFrom first now → own_events p first ≡ own_events p now
    → WorkerRan (gate_basis v) p first last entries → WorkerRan (gate_basis v) p now last entries
worker_from v p now first last entries later same r = record {
  since = record {
    acts = r.since.acts;
    came = r.since.came ∙ ap (λ (acts : List Act). acts ++ r.since.acts) (acts_quiet (is_claim_of p) (is_by_pass p) (claims_own p) first now later same);
  };
  ran = r.ran;
}

admin_from : (v : Verdicts) (policies : Policies) (now first last : List Event) (entries : List Acted) → GoesOnFrom first now → administrator_events first ≡ administrator_events now
    → AdminRan (gate_basis v) policies first last entries → AdminRan (gate_basis v) policies now last entries
admin_from v policies now first last entries later same r = record {
  since = record {
    acts = r.since.acts;
    came = r.since.came ∙ ap (λ (acts : List Act). acts ++ r.since.acts) (acts_quiet is_switch is_administrators switches_own first now later same);
  };
  ran = r.ran;
  switches = r.switches;
}

-- what each worker had seen
abbrev last_of : List Worker → ℕ → List Event
last_of [] k = []
last_of (u ∷ us) zero = seen (pass_of u)
last_of (u ∷ us) (suc k) = last_of us k

last_at : (us : List Worker) (k : ℕ) (d : Worker) → k < length us → last_of us k ≡ seen (pass_of (get_or us k d))
last_at [] k d lt = absurd (omega (arith, lt))
last_at (u ∷ us) zero d lt = refl
last_at (u ∷ us) (suc k) d lt = last_at us k d (omega (arith, lt))

one_of : (ws : List Worker) (k : ℕ) → k < length ws → Worker
one_of [] k lt = absurd (omega (arith, lt))
one_of (w ∷ ws) k lt = w

flat_same : (us ys : List Worker) → length ys ≡ length us → ((k : ℕ) (d : Worker) → k < length us → entries_in (get_or ys k d) ≡ entries_in (get_or us k d)) → flat_map entries_in ys ≡ flat_map entries_in us
flat_same [] [] long same = refl
flat_same [] (y ∷ ys) long same = absurd (omega (arith, long))
flat_same (u ∷ us) [] long same = absurd (omega (arith, long))
flat_same (u ∷ us) (y ∷ ys) long same =
    ap (λ (es : List Entry). es ++ flat_map entries_in ys) (same 0 u (omega arith))
    ∙ ap (λ (es : List Entry). entries_in u ++ es) (flat_same us ys (omega (arith, long)) (λ k d lt. same (suc k) d (omega (arith, lt))))

-- a worker's own events stay in both rounds
own_kept : (a m b : Admin) (u x y : Worker) (k : ℕ) → (pass_of u).number ≡ k → WorkerHeard a m u x → WorkerHeard m b x y → own_events k (seen (pass_of y)) ≡ own_events k (seen (pass_of u))
own_kept a m b u x y k is one two =
    ap (λ (n : ℕ). own_events n (seen (pass_of y))) (sym (two.same.number ∙ one.same.number ∙ is))
    ∙ two.owned ∙ one.owned
    ∙ ap (λ (n : ℕ). own_events n (seen (pass_of u))) is

-- and between the rounds the administrator has seen all of them
own_met : (a m b : Admin) (u x y : Worker) (k : ℕ) → (pass_of u).number ≡ k → WorkerHeard a m u x → WorkerHeard m b x y → own_events k (admin_seen (gate_in m)) ≡ own_events k (seen (pass_of u))
own_met a m b u x y k is one two =
    squeeze (is_by_pass k) (seen (pass_of y)) (admin_seen (gate_in m)) (seen (pass_of u)) two.heard
    (later_chain (admin_seen (gate_in m)) (seen (pass_of x)) (seen (pass_of u)) one.told one.later) (own_kept a m b u x y k is one two)

-- all that is known where a phase ends
pub record Ended (objects : Ready) (images : Contents) (phase : ℕ) (lines : List PhaseLine) (now : List Event) (a a0 m b : Admin) (ws us xs ys zs : List Worker) (told entries : List Entry) : Type 0 where
  pub hooks : AllByRecursion (IsHookOf objects.script) lines
  pub ready : AllReady objects images lines ws
  pub all : length ws ≡ objects.script.workers
  pub rising : NumbersRise (own_lines 0 (lines_of objects.script (files_in objects images) lines))
  pub level : AreLevel now a ws
  pub administered : HasAdministered objects images phase true lines a a0 [] told
  pub ran : AllRan objects images phase lines ws us
  pub done : AreDone us
  pub admin_one : AdminHeard a0 m
  pub one : AllHeard a0 m us xs
  pub admin_two : AdminHeard m b
  pub two : AllHeard m b xs ys
  pub collected : entries ≡ told ++ flat_map entries_in ys
  pub taken : AreTaken ys zs
  pub long_us : length us ≡ length ws
  pub long_xs : length xs ≡ length ws
  pub long_ys : length ys ≡ length ws
  pub long_zs : length zs ≡ length ws

-- the worker at a place, before and after its lines
number_at : (objects : Ready) (images : Contents) (lines : List PhaseLine) (ws : List Worker) → AllReady objects images lines ws → (k : ℕ) (d : Worker) → k < length ws → (pass_of (get_or ws k d)).number ≡ k
number_at objects images lines ws ready k d lt =
    let is = (ready.each k (get_or ws k d) lt (any_default ws k d (get_or ws k d) lt)).number in
    omega (arith, is)

level_at : (now : List Event) (a : Admin) (ws : List Worker) → AreLevel now a ws → (k : ℕ) (d : Worker) → k < length ws → IsLevel now a k (get_or ws k d)
level_at now a ws level k d lt = level.each k (get_or ws k d) lt (any_default ws k d (get_or ws k d) lt)

run_at : (objects : Ready) (images : Contents) (phase : ℕ) (lines : List PhaseLine) (ws us : List Worker) → AllRan objects images phase lines ws us → AreDone us → length us ≡ length ws
    → (k : ℕ) (d : Worker) → k < length ws → HasRun objects images phase true lines (get_or ws k d) (get_or us k d)
run_at objects images phase lines ws us ran done long k d lt =
    subst (λ (on : Bool). HasRun objects images phase on lines (get_or ws k d) (get_or us k d)) (done k d (omega (arith, long, lt))) (ran k d lt)

ended_number : (objects : Ready) (images : Contents) (phase : ℕ) (lines : List PhaseLine) (now : List Event) (a a0 m b : Admin) (ws us xs ys zs : List Worker) (told entries : List Entry)
    → Ended objects images phase lines now a a0 m b ws us xs ys zs told entries → (k : ℕ) (d : Worker) → k < length ws → (pass_of (get_or us k d)).number ≡ k
ended_number objects images phase lines now a a0 m b ws us xs ys zs told entries e k d lt =
    (run_at objects images phase lines ws us e.ran e.done e.long_us k d lt).answered.number ∙ number_at objects images lines ws e.ready k d lt

-- afterwards all are level
ended_level : (objects : Ready) (images : Contents) (phase : ℕ) (lines : List PhaseLine) (now : List Event) (a a0 m b : Admin) (ws us xs ys zs : List Worker) (told entries : List Entry)
    → Ended objects images phase lines now a a0 m b ws us xs ys zs told entries → AreLevel (admin_seen (gate_in m)) b zs
ended_level objects images phase lines now a a0 m b ws us xs ys zs told entries e = record {
  later = e.admin_two.later;
  own = e.admin_two.owned;
  each = λ k z lt is.
      let here : k < length ws = omega (arith, lt, e.long_zs) in
      let u = get_or us k z in
      let x = get_or xs k z in
      let y = get_or ys k z in
      let one : WorkerHeard a0 m u x = e.one k z (omega (arith, here, e.long_us)) in
      let two : WorkerHeard m b x y = e.two k z (omega (arith, here, e.long_xs)) in
      let taken : IsTaken y (get_or zs k z) = e.taken k z (omega (arith, here, e.long_ys)) in
      let number = ended_number objects images phase lines now a a0 m b ws us xs ys zs told entries e k z here in
      let start = level_at now a ws e.level k z here in
      let ran = (run_at objects images phase lines ws us e.ran e.done e.long_us k z here).answered in
      let pass : pass_of z ≡ pass_of y = ap pass_of is ∙ taken.pass in
      record {
        gate =
            ap gate_of pass ∙ two.same.gate ∙ one.same.gate ∙ ran.gate ∙ start.gate
            ∙ sym (e.admin_two.same.gate ∙ e.admin_one.same.gate ∙ e.administered.same.gate);
        later = subst (λ (p : Pass). GoesOnFrom (seen p) (admin_seen (gate_in m))) (sym pass) two.heard;
        own =
            ap (λ (p : Pass). own_events k (seen p)) pass
            ∙ own_kept a0 m b u x y k number one two ∙ sym (own_met a0 m b u x y k number one two);
        empty = ap entries_in is ∙ taken.empty;
      };
}

-- and each may go on
ended_kept : (objects : Ready) (images : Contents) (phase : ℕ) (lines : List PhaseLine) (now : List Event) (a a0 m b : Admin) (ws us xs ys zs : List Worker) (told entries : List Entry)
    → Ended objects images phase lines now a a0 m b ws us xs ys zs told entries → (k : ℕ) (d : Worker) → k < length ws → IsKept objects images lines k (get_or ws k d) (get_or zs k d)
ended_kept objects images phase lines now a a0 m b ws us xs ys zs told entries e k d lt =
    let w = get_or ws k d in
    let u = get_or us k d in
    let x = get_or xs k d in
    let y = get_or ys k d in
    let z = get_or zs k d in
    let one : WorkerHeard a0 m u x = e.one k d (omega (arith, lt, e.long_us)) in
    let two : WorkerHeard m b x y = e.two k d (omega (arith, lt, e.long_xs)) in
    let taken : IsTaken y z = e.taken k d (omega (arith, lt, e.long_ys)) in
    let ran = run_at objects images phase lines ws us e.ran e.done e.long_us k d lt in
    let part = part_of objects images phase lines k w u (number_at objects images lines ws e.ready k d lt) ran in
    let calls : calls_made (pass_of z) ≡ calls_made (pass_of u) = ap calls_made taken.pass ∙ two.same.calls ∙ one.same.calls in
    let most = ran.answered.calls in
    let long : length ran.acted ≡ length (lines_for objects images (k + 1) lines) = sym (length-map ran.acted line_in) ∙ ap length part.lines_are in
    record {
      number = ap (λ (p : Pass). p.number) taken.pass ∙ two.same.number ∙ one.same.number ∙ ran.answered.number;
      held = ap slot_held taken.pass ∙ two.same.held ∙ one.same.held ∙ ran.answered.held;
      calls = omega (arith, calls, most, long);
      view = taken.view ∙ two.view ∙ one.view ∙ ran.view;
    }

-- the phase that ended
pub ended_phase : ((v : Verdicts) (workers : ℕ) (policies : Policies) (before after : List Event) (lines : List Line) (entries : List Acted)
    → PhaseMet (gate_basis v) workers policies before after lines entries → PhaseRan (gate_basis v) workers policies before after lines entries)
    → (objects : Ready) (images : Contents) (phase : ℕ) (lines : List PhaseLine) (now : List Event) (a a0 m b : Admin) (ws us xs ys zs : List Worker) (told entries : List Entry)
    → Ended objects images phase lines now a a0 m b ws us xs ys zs told entries → HasPhase objects images phase lines now a b ws zs entries
ended_phase law objects images phase lines now a a0 m b ws us xs ys zs told entries e =
    let v : Verdicts = verdicts_of objects.script in
    let files : Files = files_in objects images in
    let after : List Event = admin_seen (gate_in m) in
    let adm = e.administered in
    let whole = adm.whole refl in
    let all : lines ≡ adm.some = adm.cut ∙ ap (λ (ls : List PhaseLine). adm.some ++ ls) whole.0 ∙ append-nil adm.some in
    let commanded : map line_in adm.acted ≡ lines_for objects images 0 lines = adm.lines_are ∙ ap (lines_for objects images 0) (sym all) in
    let both = parts_of objects images phase lines 0 ws us e.long_us (λ k d lt. number_at objects images lines ws e.ready k d lt ∙ omega arith) (run_at objects images phase lines ws us e.ran e.done e.long_us) in
    let parts : List (List Acted) = both.0 in
    let are = both.1 in
    let acted : List Acted = adm.acted ++ joined parts in
    let of_admin = all_own 0 (lines_of objects.script files lines) adm.acted commanded in
    let own0 : own_entries 0 acted ≡ adm.acted =
    own_both 0 adm.acted (joined parts)
    ∙ ap (λ (zs : List Acted). zs ++ own_entries 0 (joined parts)) (own_same 0 adm.acted of_admin)
    ∙ ap (λ (zs : List Acted). adm.acted ++ zs) (parts_other objects images phase lines 0 ws us parts are 0 (λ k lt e. omega (arith, e)))
    ∙ append-nil adm.acted in
    let others : (p : ℕ) → own_entries (p + 1) acted ≡ own_entries (p + 1) (joined parts) = λ p.
    own_both (p + 1) adm.acted (joined parts)
    ∙ ap (λ (zs : List Acted). zs ++ own_entries (p + 1) (joined parts)) (own_none 0 (p + 1) adm.acted (λ same. omega (arith, same)) of_admin) in
    let own_at : (p : ℕ) → p < length ws → own_entries (p + 1) acted ≡ nth parts p = λ p lt.
    others p ∙ parts_own objects images phase lines 0 ws us parts are p (p + 1) lt (omega arith) in
    let none : (p : ℕ) → length ws ≤ p → own_entries (p + 1) acted ≡ [] = λ p le.
    others p ∙ parts_other objects images phase lines 0 ws us parts are (p + 1) (λ k lt e. omega (arith, le, lt, e)) in
    record {
      after = after;
      acted = acted;
      level = ended_level objects images phase lines now a a0 m b ws us xs ys zs told entries e;
      same = record {
        gate = e.admin_two.same.gate ∙ e.admin_one.same.gate ∙ adm.same.gate;
        passes = e.admin_two.same.passes ∙ e.admin_one.same.passes ∙ adm.same.passes;
      };
      policies =
          e.admin_two.policies ∙ e.admin_one.policies ∙ adm.policies
          ∙ ap (λ (zs : List Acted). policies_then v (policies_in a) (map task_in zs)) (sym own0);
      ran = λ below. law v (length ws) (policies_in a) now after (lines_of objects.script files lines) acted (record {
        later =
            later_chain after (admin_seen (gate_in a0)) now e.admin_one.later
            (later_chain (admin_seen (gate_in a0)) (admin_seen (gate_in a)) now adm.later e.level.later);
        admin_last = admin_seen (gate_in a0);
        admin =
            subst (AdminRan (gate_basis v) (policies_in a) now (admin_seen (gate_in a0))) (sym own0)
            (admin_from v (policies_in a) now (admin_seen (gate_in a)) (admin_seen (gate_in a0)) adm.acted e.level.later e.level.own adm.ran);
        admin_met = (e.admin_one.later, e.admin_one.owned);
        pass_first = λ p. now;
        pass_last = last_of us;
        passes = λ p lt.
            let d = one_of ws p lt in
            let part = parts_at objects images phase lines 0 ws us parts are p p d lt (omega arith) in
            let start = level_at now a ws e.level p d lt in
            let number = number_at objects images lines ws e.ready p d lt in
            subst (WorkerRan (gate_basis v) p now (last_of us p)) (sym (own_at p lt))
            (subst (λ (h : List Event). WorkerRan (gate_basis v) p now h (nth parts p)) (sym (last_at us p d (omega (arith, lt, e.long_us))))
            (worker_from v p now (seen (pass_of (get_or ws p d))) (seen (pass_of (get_or us p d))) (nth parts p) start.later start.own
            (subst (λ (n : ℕ). WorkerRan (gate_basis v) n (seen (pass_of (get_or ws p d))) (seen (pass_of (get_or us p d))) (nth parts p)) number part.answered.ran)));
        began = λ p lt. (later_same now, refl);
        met = λ p lt.
            let d = one_of ws p lt in
            let u = get_or us p d in
            let x = get_or xs p d in
            let y = get_or ys p d in
            let one : WorkerHeard a0 m u x = e.one p d (omega (arith, lt, e.long_us)) in
            let two : WorkerHeard m b x y = e.two p d (omega (arith, lt, e.long_xs)) in
            let number = ended_number objects images phase lines now a a0 m b ws us xs ys zs told entries e p d lt in
            subst (λ (h : List Event). GoesOnFrom after h × (own_events p after ≡ own_events p h)) (sym (last_at us p d (omega (arith, lt, e.long_us))))
            (later_chain after (seen (pass_of x)) (seen (pass_of u)) one.told one.later, own_met a0 m b u x y p number one two);
        others = λ p le. (none_below (length ws) p after le below, none p le);
        all = λ actor. each_actor objects images phase lines ws us e.hooks e.all adm.acted parts are commanded own0 own_at none actor;
        numbers = e.rising;
      });
      long = e.long_zs;
      each = ended_kept objects images phase lines now a a0 m b ws us xs ys zs told entries e;
      serials = subst (λ (p : Policies). p.next ≤ (policies_in a).next + length lines) (sym (e.admin_two.policies ∙ e.admin_one.policies)) adm.serials;
      told =
          e.collected
          ∙ ap (λ (zs : List Entry). zs ++ flat_map entries_in ys) whole.1
          ∙ ap (λ (zs : List Entry). told_phase files phase adm.acted ++ zs)
          (flat_same us ys (e.long_ys ∙ sym e.long_us) (λ k d lt. (e.two k d (omega (arith, lt, e.long_us, e.long_xs))).entries ∙ (e.one k d lt).entries)
          ∙ parts_told objects images phase lines 0 ws us parts are (λ k d lt. (level_at now a ws e.level k d lt).empty) e.long_us)
          ∙ sym (map-append (entry_of (content_of_line files) phase) adm.acted (joined parts));
    }
  where
    each_actor : (objects : Ready) (images : Contents) (phase : ℕ) (lines : List PhaseLine) (ws us : List Worker) → AllByRecursion (IsHookOf objects.script) lines → length ws ≡ objects.script.workers
        → (acted : List Acted) (parts : List (List Acted)) → Parts objects images phase lines 0 ws us parts → map line_in acted ≡ lines_for objects images 0 lines
        → own_entries 0 (acted ++ joined parts) ≡ acted
        → ((p : ℕ) → p < length ws → own_entries (p + 1) (acted ++ joined parts) ≡ nth parts p)
        → ((p : ℕ) → length ws ≤ p → own_entries (p + 1) (acted ++ joined parts) ≡ [])
        → (actor : ℕ) → map line_in (own_entries actor (acted ++ joined parts)) ≡ own_lines actor (lines_of objects.script (files_in objects images) lines)
    each_actor objects images phase lines ws us hooks all acted parts are commanded own0 own_at none zero = ap (map line_in) own0 ∙ commanded
    each_actor objects images phase lines ws us hooks all acted parts are commanded own0 own_at none (suc p) =
        subst (λ (n : ℕ). map line_in (own_entries n (acted ++ joined parts)) ≡ own_lines n (lines_of objects.script (files_in objects images) lines)) (omega arith) (elim (cases_lt p (length ws)) [
          | inl lt ↦
              let d = one_of ws p lt in
              ap (map line_in) (own_at p lt) ∙ (parts_at objects images phase lines 0 ws us parts are p p d lt (omega arith)).lines_are
          | inr le ↦
              ap (map line_in) (none p le) ∙ sym (lines_few objects.script (files_in objects images) lines hooks (p + 1) (omega (arith, le, all)))
        ])
