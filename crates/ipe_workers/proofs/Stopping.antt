-- What ran up to some line still did so after meetings, where a phase ends early.
use Rattle.std.proofs.Common.{◌≡◌, ℕ, ◌+◌, ◌≤◌, Bool, false, List, length, Result, Ok, Err, get_or, sym, ap, subst, ◌∙◌, arith, true≢false}
use Rattle.std.specs.Result.{OnErr}
use Rattle.blk_device.specs.Contents.{Contents}
use Rattle.ipe_machine.specs.Answer.{Verdicts}
use Rattle.ipe_machine.specs.Policies.{Policies}
use Rattle.ipe_gate_rule.specs.declared.event.Event.{Event}
use Rattle.ipe_gate_rule.specs.History.{GoesOnFrom}
use Rattle.ipe_gate_rule.specs.Owners.{administrator_events, is_administrators, is_by_pass, is_switch, own_events}
use Rattle.ipe_gate_rule.proofs.Frees.{later_chain}
use Rattle.ipe_gate.specs.declared.pass.Pass.{Pass}
use Rattle.ipe_gate.specs.Seats.{SamePass, admin_seen, mine, seen}
use Rattle.ipe_admin.specs.declared.admin.Admin.{Admin}
use Rattle.ipe_admin.specs.Outcomes.{gate_in, policies_in}
use Rattle.ipe_requests.specs.declared.script.PhaseLine.{PhaseLine}
use Rattle.ipe_objects.specs.Ready.{Ready}
use Rattle.ipe_transcript.specs.declared.transcript.Entry.{Entry}
use Rattle.ipe_weave.specs.Acts.{is_claim_of}
use Rattle.ipe_weave.specs.Gate.{gate_basis}
use Rattle.ipe_weave.specs.Lines.{Acted}
use Rattle.ipe_weave.specs.Seats.{AdminRan, WorkerRan}
use Rattle.ipe_weave.proofs.Quiet.{acts_quiet, claims_own, switches_own}
use Rattle.ipe_lines.specs.Asked.{verdicts_of}
use Rattle.ipe_workers.specs.declared.worker.Worker.{Worker}
use Rattle.ipe_workers.specs.Administering.{HasAdministered}
use Rattle.ipe_workers.specs.Beside.{AllBegan, AllRan}
use Rattle.ipe_workers.specs.Passes.{HasAnswered}
use Rattle.ipe_workers.specs.Phases.{AreSame, IsSame}
use Rattle.ipe_workers.specs.Rounds.{AdminHeard, AllHeard, WorkerHeard}
use Rattle.ipe_workers.specs.Workers.{HasRun, is_done, pass_of}
use Rattle.ipe_workers.proofs.Commanding.{same_both}

-- what holds anyway holds where there is an error
pub on_err : {T E : Type 0} (r : Result T E) (P : Type 0) → P → OnErr r P
on_err (Ok x) P p = tt
on_err (Err e) P p = p

-- a run may be told up to a later history that has none of the pass's own events more
worker_to : (v : Verdicts) (p : ℕ) (first last after : List Event) (entries : List Acted) → GoesOnFrom after last → own_events p after ≡ own_events p last
    → WorkerRan (gate_basis v) p first last entries → WorkerRan (gate_basis v) p first after entries
worker_to v p first last after entries later same r = record {
  since = record {
    acts = r.since.acts;
    came = acts_quiet (is_claim_of p) (is_by_pass p) (claims_own p) after last later same ∙ r.since.came;
  };
  ran = r.ran;
}

-- so may the administrator's
admin_to : (v : Verdicts) (policies : Policies) (first last after : List Event) (entries : List Acted) → GoesOnFrom after last → administrator_events after ≡ administrator_events last
    → AdminRan (gate_basis v) policies first last entries → AdminRan (gate_basis v) policies first after entries
admin_to v policies first last after entries later same r = record {
  since = record {
    acts = r.since.acts;
    came = acts_quiet is_switch is_administrators switches_own after last later same ∙ r.since.came;
  };
  ran = r.ran;
  switches = r.switches;
}

-- a pass answered the same lines after it heard of others
answered_heard : (v : Verdicts) (p q r : Pass) (entries : List Acted) → SamePass q r → mine r ≡ mine q → GoesOnFrom (seen r) (seen q)
    → HasAnswered v p q entries → HasAnswered v p r entries
answered_heard v p q r entries same owned later h =
    let most = h.calls in
    let calls = same.calls in
    record {
      gate = same.gate ∙ h.gate;
      number = same.number ∙ h.number;
      held = same.held ∙ h.held;
      calls = omega (arith, most, calls);
      later = later_chain (seen r) (seen q) (seen p) later h.later;
      ran =
          worker_to v p.number (seen p) (seen q) (seen r) entries later
          (ap (λ (n : ℕ). own_events n (seen r)) (sym (same.number ∙ h.number)) ∙ owned ∙ ap (λ (n : ℕ). own_events n (seen q)) h.number)
          h.ran;
    }

-- a worker began its lines, whether or not it ran them all
run_began : (objects : Ready) (images : Contents) (phase : ℕ) (done : Bool) (lines : List PhaseLine) (w v : Worker) → HasRun objects images phase done lines w v
    → HasRun objects images phase false lines w v
run_began objects images phase done lines w v r = record {
  some = r.some;
  rest = r.rest;
  cut = r.cut;
  acted = r.acted;
  answered = r.answered;
  lines_are = r.lines_are;
  view = r.view;
  whole = λ e. absurd (true≢false (sym e));
}

-- and still did after a round of meetings
run_heard : (objects : Ready) (images : Contents) (phase : ℕ) (lines : List PhaseLine) (a b : Admin) (w v u : Worker) → WorkerHeard a b v u → HasRun objects images phase false lines w v
    → HasRun objects images phase false lines w u
run_heard objects images phase lines a b w v u heard r = record {
  some = r.some;
  rest = r.rest;
  cut = r.cut;
  acted = r.acted;
  answered = answered_heard (verdicts_of objects.script) (pass_of w) (pass_of v) (pass_of u) r.acted heard.same heard.owned heard.later r.answered;
  lines_are = r.lines_are;
  view = heard.view ∙ r.view;
  whole = λ e. absurd (true≢false (sym e));
}

-- and where its pass and its view are as they were
run_same : (objects : Ready) (images : Contents) (phase : ℕ) (lines : List PhaseLine) (w v u : Worker) → IsSame v u → HasRun objects images phase false lines w v
    → HasRun objects images phase false lines w u
run_same objects images phase lines w v u same r = record {
  some = r.some;
  rest = r.rest;
  cut = r.cut;
  acted = r.acted;
  answered = subst (λ (p : Pass). HasAnswered (verdicts_of objects.script) (pass_of w) p r.acted) (sym same.pass) r.answered;
  lines_are = r.lines_are;
  view = same.view ∙ r.view;
  whole = λ e. absurd (true≢false (sym e));
}

-- each worker began its lines
pub all_began : (objects : Ready) (images : Contents) (phase : ℕ) (lines : List PhaseLine) (ws us : List Worker) → AllRan objects images phase lines ws us
    → AllBegan objects images phase lines ws us
all_began objects images phase lines ws us ran = λ k d lt.
    run_began objects images phase (is_done (get_or us k d)) lines (get_or ws k d) (get_or us k d) (ran k d lt)

-- and still did after a round of meetings
pub began_heard : (objects : Ready) (images : Contents) (phase : ℕ) (lines : List PhaseLine) (a b : Admin) (ws us xs : List Worker) → length us ≡ length ws → AllHeard a b us xs
    → AllBegan objects images phase lines ws us → AllBegan objects images phase lines ws xs
began_heard objects images phase lines a b ws us xs long heard began = λ k d lt.
    run_heard objects images phase lines a b (get_or ws k d) (get_or us k d) (get_or xs k d) (heard k d (omega (arith, lt, long))) (began k d lt)

-- and where each one's pass and view are as they were
pub began_same : (objects : Ready) (images : Contents) (phase : ℕ) (lines : List PhaseLine) (ws us xs : List Worker) → length us ≡ length ws → AreSame us xs
    → AllBegan objects images phase lines ws us → AllBegan objects images phase lines ws xs
began_same objects images phase lines ws us xs long same began = λ k d lt.
    run_same objects images phase lines (get_or ws k d) (get_or us k d) (get_or xs k d) (same k d (omega (arith, lt, long))) (began k d lt)

-- the administrator began its lines, whether or not it ran them all and whatever its entries are
pub administered_began : (objects : Ready) (images : Contents) (phase : ℕ) (done : Bool) (lines : List PhaseLine) (a b : Admin) (old new others more : List Entry)
    → HasAdministered objects images phase done lines a b old new → HasAdministered objects images phase false lines a b others more
administered_began objects images phase done lines a b old new others more r = record {
  some = r.some;
  rest = r.rest;
  cut = r.cut;
  acted = r.acted;
  same = r.same;
  later = r.later;
  ran = r.ran;
  policies = r.policies;
  serials = r.serials;
  lines_are = r.lines_are;
  whole = λ e. absurd (true≢false (sym e));
}

-- and still did after a round of meetings
pub administered_heard : (objects : Ready) (images : Contents) (phase : ℕ) (lines : List PhaseLine) (a b c : Admin) (old new : List Entry) → AdminHeard b c
    → HasAdministered objects images phase false lines a b old new → HasAdministered objects images phase false lines a c old new
administered_heard objects images phase lines a b c old new heard r = record {
  some = r.some;
  rest = r.rest;
  cut = r.cut;
  acted = r.acted;
  same = same_both a b c r.same heard.same;
  later = later_chain (admin_seen (gate_in c)) (admin_seen (gate_in b)) (admin_seen (gate_in a)) heard.later r.later;
  ran =
      admin_to (verdicts_of objects.script) (policies_in a) (admin_seen (gate_in a)) (admin_seen (gate_in b)) (admin_seen (gate_in c)) r.acted heard.later heard.owned
      r.ran;
  policies = heard.policies ∙ r.policies;
  serials = subst (λ (p : Policies). p.next ≤ (policies_in a).next + length lines) (sym heard.policies) r.serials;
  lines_are = r.lines_are;
  whole = λ e. absurd (true≢false (sym e));
}
