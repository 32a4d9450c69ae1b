-- The machine and the history agree, step by step.
use Rattle.std.proofs.Common.{◌≡◌, ℕ, ◌+◌, ◌-◌, inl, inr, ◌==◌, Bool, true, false, cond, List, ◌∷◌, Option, Some, None, Result, Ok, Err, refl, sym, ap, subst, ◌∙◌, arith}
use Rattle.std.specs.Prelude.{is_some}
use Rattle.std.proofs.lemmas.Bool.{eq-eqb, ne_eqb, true≢false}
use Rattle.ipe_policy.specs.declared.op.Op.{Op}
use Rattle.ipe_machine.specs.declared.command.Command.{Command}
use Rattle.ipe_machine.specs.declared.answer.Refusal.{Refusal}
use Rattle.ipe_machine.specs.declared.event.Event.TheVariants as event
use Rattle.ipe_machine.specs.Policies.{Policies, Loaded, active_entry}
use Rattle.ipe_machine.specs.Answer.{Verdicts}
use Rattle.ipe_machine.specs.Machine.{Machine, claimed, after_event, with_policies}
use Rattle.ipe_machine.specs.Epochs.{ActiveIsLoaded, StaysOrBegins, CommandsStayOrBegin}
use Rattle.ipe_gate_rule.specs.declared.event.Event.{Event}
use Rattle.ipe_gate_rule.specs.declared.event.Event.TheVariants.{Store, Switch, Claim, Return, Look}
use Rattle.ipe_weave.specs.Lines.{Access, after_write, after_hook, hook_reply}
use Rattle.ipe_weave.specs.Standing.{IsLike, Agree}
use Rattle.ipe_weave.proofs.Founded.{Founded}

-- what a write asks for
abbrev pub Asked : Type 0
Asked = Result Command Refusal

-- the machine after a write
abbrev pub after_asked : Verdicts → Machine → Asked → Machine
after_asked verdicts machine asked = with_policies machine (after_write verdicts machine.policies asked)

-- a write leaves the epoch, or begins the next
pub write_near : CommandsStayOrBegin → (verdicts : Verdicts) (policies : Policies) (asked : Asked) → ActiveIsLoaded policies
    → StaysOrBegins policies (after_write verdicts policies asked) × ActiveIsLoaded (after_write verdicts policies asked)
write_near law verdicts policies (Err refusal) sound = (inl (refl, (refl, refl, refl)), sound)
write_near law verdicts policies (Ok command) sound = law verdicts policies command sound

-- a claim after the history is answered as the machine answers
pub claim_answer : (g : Founded) (machine : Machine) (h : List Event) (op : Op) (access : Access) → Agree g.basis machine h → g.basis.claimed h op access ≡ hook_reply machine (Some op) access
claim_answer g machine h op access agree = g.laws.answers machine h op access agree.like agree.shows

-- what a claim does to the machine
pub claim_counts : (verdicts : Verdicts) (machine : Machine) (pass : ℕ) (entry : Option Loaded)
    → ((cond (is_some entry) (after_event verdicts (claimed machine pass entry) (event.Return pass)) (claimed machine pass entry)).policies ≡ machine.policies)
    × ((cond (is_some entry) (after_event verdicts (claimed machine pass entry) (event.Return pass)) (claimed machine pass entry)).count ≡ machine.count + 1)
claim_counts verdicts machine pass None = (refl, refl)
claim_counts verdicts machine pass (Some entry) = (refl, refl)

pub claim_agrees : (g : Founded) (machine : Machine) (h : List Event) (p worker : ℕ) (op : Op) → Agree g.basis machine h → Agree g.basis (after_hook g.basis.verdicts machine worker (Some op)) (Claim p ∷ h)
claim_agrees g machine h p worker op agree =
    let c = claim_counts g.basis.verdicts machine (worker - 1) (active_entry machine.policies) in record {
      like = record {
        epoch = agree.like.epoch ∙ sym (ap (λ (q : Policies). q.epoch) c.0);
        count = ap (λ (n : ℕ). n + 1) agree.like.count ∙ sym c.1;
        enforce = agree.like.enforce ∙ sym (ap (λ (q : Policies). q.enforce) c.0);
        success = agree.like.success ∙ sym (ap (λ (q : Policies). q.success) c.0);
      };
      shows = subst (λ (q : Policies). g.basis.Shows (Claim p ∷ h) (active_entry q)) (sym c.0) (g.laws.at_claim p h (active_entry machine.policies) agree.shows);
      sound = subst ActiveIsLoaded (sym c.0) agree.sound;
    }

-- a write that leaves the epoch leaves the agreement
pub calm_agrees : (g : Founded) (machine : Machine) (h : List Event) (asked : Asked) → Agree g.basis machine h → ((after_write g.basis.verdicts machine.policies asked).epoch == machine.policies.epoch) ≡ true → Agree g.basis (after_asked g.basis.verdicts machine asked) h
calm_agrees g machine h asked agree same = by near.0 near.1
  where
    next : Policies
    next = after_write g.basis.verdicts machine.policies asked

    near : StaysOrBegins machine.policies next × ActiveIsLoaded next
    near = write_near g.commands g.basis.verdicts machine.policies asked agree.sound

    by : StaysOrBegins machine.policies next → ActiveIsLoaded next → Agree g.basis (after_asked g.basis.verdicts machine asked) h
    by (inl near) sound = record {
      like = record {
        epoch = agree.like.epoch ∙ sym near.0;
        count = rw same agree.like.count;
        enforce = agree.like.enforce ∙ sym near.1.1;
        success = agree.like.success ∙ sym near.1.2;
      };
      shows = subst (λ (entry : Option Loaded). g.basis.Shows h entry) (sym near.1.0) agree.shows;
      sound = sound;
    }
    by (inr near) sound = absurd (true≢false (sym same ∙ ne_eqb _ _ (λ (e : next.epoch ≡ machine.policies.epoch). omega (arith, near, e))))

-- a write that begins an epoch and its switch keep the agreement
pub switch_agrees : (g : Founded) (machine : Machine) (h : List Event) (asked : Asked) (slot : ℕ) (e u : Bool) → Agree g.basis machine h → ((after_write g.basis.verdicts machine.policies asked).epoch == machine.policies.epoch) ≡ false → g.basis.Begins (Switch slot e u) h (after_write g.basis.verdicts machine.policies asked)
    → Agree g.basis (after_asked g.basis.verdicts machine asked) (Switch slot e u ∷ h)
switch_agrees g machine h asked slot e u agree raises begins = by near.0 near.1
  where
    next : Policies
    next = after_write g.basis.verdicts machine.policies asked

    near : StaysOrBegins machine.policies next × ActiveIsLoaded next
    near = write_near g.commands g.basis.verdicts machine.policies asked agree.sound

    shown : g.basis.Shows (Switch slot e u ∷ h) (active_entry next) × (e ≡ next.enforce) × (u ≡ next.success)
    shown = g.laws.at_switch slot e u h next begins

    by : StaysOrBegins machine.policies next → ActiveIsLoaded next → Agree g.basis (after_asked g.basis.verdicts machine asked) (Switch slot e u ∷ h)
    by (inl near) sound = absurd (true≢false (sym (eq-eqb _ _ near.0) ∙ raises))
    by (inr near) sound = record {
      like = record {
        epoch = ap (λ (n : ℕ). n + 1) agree.like.epoch ∙ sym near;
        count = rw raises refl;
        enforce = shown.1;
        success = shown.2;
      };
      shows = shown.0;
      sound = sound;
    }

-- a step that isn't printed leaves the machine
still_like : (machine : Machine) (h : List Event) (e : Event) → IsLike machine (e ∷ h) → (g : Founded) → g.basis.Shows (e ∷ h) (active_entry machine.policies) → ActiveIsLoaded machine.policies → Agree g.basis machine (e ∷ h)
still_like machine h e like g shows sound = record { like = like; shows = shows; sound = sound }

pub store_agrees : (g : Founded) (machine : Machine) (h : List Event) (slot index word : ℕ) → g.basis.Allows h (Store slot index word) → Agree g.basis machine h → Agree g.basis machine (Store slot index word ∷ h)
store_agrees g machine h slot index word allowed agree =
    still_like machine h (Store slot index word) (record { epoch = agree.like.epoch; count = agree.like.count; enforce = agree.like.enforce; success = agree.like.success }) g (g.laws.at_store slot index word h (active_entry machine.policies) allowed agree.shows) agree.sound

pub return_agrees : (g : Founded) (machine : Machine) (h : List Event) (p : ℕ) → Agree g.basis machine h → Agree g.basis machine (Return p ∷ h)
return_agrees g machine h p agree =
    still_like machine h (Return p) (record { epoch = agree.like.epoch; count = agree.like.count; enforce = agree.like.enforce; success = agree.like.success }) g (g.laws.at_return p h (active_entry machine.policies) agree.shows) agree.sound

pub look_agrees : (g : Founded) (machine : Machine) (h : List Event) (s : ℕ) → Agree g.basis machine h → Agree g.basis machine (Look s ∷ h)
look_agrees g machine h s agree =
    still_like machine h (Look s) (record { epoch = agree.like.epoch; count = agree.like.count; enforce = agree.like.enforce; success = agree.like.success }) g (g.laws.at_look s h (active_entry machine.policies) agree.shows) agree.sound
