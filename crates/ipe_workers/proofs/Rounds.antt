-- The administrator meets the workers' passes, one by one.
use Rattle.std.proofs.Common.{◌≡◌, ℕ, zero, suc, ◌+◌, ◌<◌, ◌≤◌, List, [], ◌∷◌, length, get_or, set, refl, sym, ◌∙◌, subst, arith, get_or-set_same, get_or-set_other}
use mathlib.Core.Logic.{dite}
use native.Mathlib.Decide.{ℕ_discrete}
use Rattle.ipe_gate_rule.specs.History.{GoesOnFrom}
use Rattle.ipe_gate_rule.proofs.Frees.{later_chain}
use Rattle.ipe_gate.specs.declared.pass.Pass.{Pass}
use Rattle.ipe_gate.specs.Meeting.{IsMeeting}
use Rattle.ipe_gate.specs.Seats.{admin_seen, seen}
use Rattle.ipe_admin.specs.declared.admin.Admin.{Admin}
use Rattle.ipe_admin.specs.Outcomes.{gate_in, policies_in}
use Rattle.ipe_workers.specs.declared.worker.Worker.{Worker}
use Rattle.ipe_workers.specs.Workers.{pass_of}
use Rattle.ipe_workers.specs.Rounds.{AdminHeard, WorkerHeard}

heard_more : (o a b : Admin) (p q : Pass) → AdminHeard o a → IsMeeting p q (gate_in a) (gate_in b) → policies_in b ≡ policies_in a → AdminHeard o b
heard_more o a b p q h m policies = record {
  same = record { gate = m.1.keeps.gate ∙ h.same.gate; passes = m.1.keeps.passes ∙ h.same.passes };
  policies = policies ∙ h.policies;
  later = later_chain (admin_seen (gate_in b)) (admin_seen (gate_in a)) (admin_seen (gate_in o)) m.1.later h.later;
  owned = m.1.owned ∙ h.owned;
}

-- the first of the workers were met, and the others are as they were
pub record Gathering (o a : Admin) (ws vs : List Worker) (i : ℕ) : Type 0 where
  pub admin : AdminHeard o a
  pub met : (k : ℕ) (d : Worker) → k < i → k < length ws → WorkerHeard o a (get_or ws k d) (get_or vs k d)
  pub rest : (k : ℕ) (d : Worker) → i ≤ k → get_or vs k d ≡ get_or ws k d

worker_told : (o a b : Admin) (w v : Worker) → GoesOnFrom (admin_seen (gate_in b)) (admin_seen (gate_in a)) → WorkerHeard o a w v → WorkerHeard o b w v
worker_told o a b w v later h = record {
  same = h.same;
  owned = h.owned;
  later = h.later;
  heard = h.heard;
  told = later_chain (admin_seen (gate_in b)) (admin_seen (gate_in a)) (seen (pass_of v)) later h.told;
  entries = h.entries;
  view = h.view;
  done = h.done;
}

worker_met : (o a b : Admin) (w : Worker) (q : Pass) → AdminHeard o a → IsMeeting (pass_of w) q (gate_in a) (gate_in b) → WorkerHeard o b w (record w { pass = q })
worker_met o a b w q h m = record {
  same = m.0.same;
  owned = m.0.owned;
  later = m.0.later;
  heard = later_chain (seen q) (admin_seen (gate_in a)) (admin_seen (gate_in o)) m.0.later_told h.later;
  told = m.1.later_told;
  entries = refl;
  view = refl;
  done = refl;
}

pub any_default : {A : Type 0} (xs : List A) (i : ℕ) (d e : A) → i < length xs → get_or xs i d ≡ get_or xs i e
any_default [] i d e lt = absurd (omega arith)
any_default (x ∷ xs) zero d e lt = refl
any_default (x ∷ xs) (suc i) d e lt = any_default xs i d e (omega arith)

pub gathering_more : (o a b : Admin) (ws vs : List Worker) (i : ℕ) (w : Worker) (q : Pass) → i < length ws → i < length vs → w ≡ get_or vs i w → Gathering o a ws vs i
    → IsMeeting (pass_of w) q (gate_in a) (gate_in b) → policies_in b ≡ policies_in a → Gathering o b ws (set vs i (record w { pass = q })) (i + 1)
gathering_more o a b ws vs i w q lt lv is g m policies =
    let u : Worker = record w { pass = q } in
    let same : (d : Worker) → w ≡ get_or ws i d = λ d. is ∙ any_default vs i w d lv ∙ g.rest i d (omega arith) in
    record {
      admin = heard_more o a b (pass_of w) q g.admin m policies;
      met = λ k d below inside. dite (ℕ_discrete k i)
          (λ e.
          subst (λ (n : ℕ). WorkerHeard o b (get_or ws n d) (get_or (set vs i u) n d)) (sym e)
          (subst (λ (z : Worker × Worker). WorkerHeard o b z.0 z.1) (λ j. (same d j, sym (get_or-set_same vs i u d lv) j)) (worker_met o a b w q g.admin m)))
          (λ ne.
          subst (λ (z : Worker). WorkerHeard o b (get_or ws k d) z) (sym (get_or-set_other vs i k u d ne))
          (worker_told o a b (get_or ws k d) (get_or vs k d) m.1.later (g.met k d (omega arith) inside)));
      rest = λ k d le. get_or-set_other vs i k u d (λ e. absurd (omega arith)) ∙ g.rest k d (omega arith);
    }
