-- All phases: the history stands for the order in which they are printed.
use Rattle.std.proofs.Common.{◌≡◌, ℕ, ◌-◌, ◌==◌, inl, inr, Bool, true, false, cond, List, [], ◌∷◌, ◌++◌, map, Option, Some, None, refl, sym, ap, subst, ◌∙◌, append_assoc, append-nil, reverse}
use Rattle.std.specs.List.{AllZip, AllByRecursion}
use Rattle.std.proofs.lemmas.Bool.{eqb-false, eq-eqb, cases_Bool}
use Rattle.std.proofs.lemmas.Option.{none-some}
use Rattle.ipe_policy.specs.declared.op.Op.{Op}
use Rattle.ipe_machine.specs.Policies.{Policies, active_entry, first_policies}
use Rattle.ipe_machine.specs.Machine.{Machine, first_machine}
use Rattle.ipe_gate_rule.specs.declared.event.Event.{Event}
use Rattle.ipe_gate_rule.specs.History.{GoesOnFrom}
use Rattle.ipe_gate_rule.specs.Owners.{is_switch}
use Rattle.ipe_gate_rule.specs.Places.{claims_in}
use Rattle.ipe_transcript.specs.Keys.{AreInPlace}
use Rattle.ipe_weave.specs.Lines.{Access, Task, Line, task_of, actor_of_task, after_task, after_line, after_lines, Acted, line_in, task_in, actor_in, phases_entries, own_entries, key_of, IsWeave, joined, Write, Read, Hook}
use Rattle.ipe_weave.specs.Acts.{Act, acts_of, is_claim_of, Since}
use Rattle.ipe_weave.specs.Basis.{MayBe}
use Rattle.ipe_weave.specs.Standing.{policies_after, raised, policies_then, BeginsWith, claim_by, claims_by, Agree}
use Rattle.ipe_weave.specs.Phases.{PhaseRan, PhasesRan, IsPrinted, order_of, IsOrderOf}
use Rattle.ipe_weave.proofs.Founded.{Founded}
use Rattle.ipe_weave.proofs.Agree.{claim_counts}
use Rattle.ipe_weave.proofs.Future.{legal_before, coming}
use Rattle.ipe_weave.proofs.Phase.{phase_stands, phase_prints}

-- a hook changes no policies, so it may be left out
hook_skipped : (g : Founded) (policies : Policies) (tasks : List Task) (worker : ℕ) (op : Option Op) (access : Access) → raised g.basis.verdicts policies (Hook worker op access ∷ tasks) ≡ raised g.basis.verdicts policies tasks
hook_skipped g policies tasks worker op access = rw (eq-eqb policies.epoch policies.epoch refl) refl

-- a task that isn't the administrator's
other_task : (g : Founded) (policies : Policies) (tasks : List Task) (task : Task) → (actor_of_task task == 0) ≡ false → (raised g.basis.verdicts policies (task ∷ tasks) ≡ raised g.basis.verdicts policies tasks) × (policies_after g.basis.verdicts policies task ≡ policies)
other_task g policies tasks (Write may asked) other = absurd (eqb-false 0 0 other refl)
other_task g policies tasks (Read node) other = absurd (eqb-false 0 0 other refl)
other_task g policies tasks (Hook worker op access) other = (hook_skipped g policies tasks worker op access, refl)

-- what is raised in all entries is raised in the administrator's own
raised_own : (g : Founded) (policies : Policies) (xs : List Acted) → raised g.basis.verdicts policies (map task_of (map line_in xs)) ≡ raised g.basis.verdicts policies (map task_in (own_entries 0 xs))
raised_own g policies [] = refl
raised_own g policies (x ∷ xs) = elim (cases_Bool (actor_in x == 0)) [
  | inl is ↦
      rw is (ap (λ (rest : List Policies). cond ((policies_after g.basis.verdicts policies x.line.task).epoch == policies.epoch) rest (policies_after g.basis.verdicts policies x.line.task ∷ rest)) (raised_own g (policies_after g.basis.verdicts policies x.line.task) xs))
  | inr is ↦ rw is ((other_task g policies (map task_of (map line_in xs)) x.line.task is).0 ∙ raised_own g policies xs)
]

-- so are the policies at the end
pub then_own : (g : Founded) (policies : Policies) (xs : List Acted) → policies_then g.basis.verdicts policies (map task_of (map line_in xs)) ≡ policies_then g.basis.verdicts policies (map task_in (own_entries 0 xs))
then_own g policies [] = refl
then_own g policies (x ∷ xs) = elim (cases_Bool (actor_in x == 0)) [
  | inl is ↦ rw is (then_own g (policies_after g.basis.verdicts policies x.line.task) xs)
  | inr is ↦ rw is (ap (λ (p : Policies). policies_then g.basis.verdicts p (map task_of (map line_in xs))) (other_task g policies [] x.line.task is).1 ∙ then_own g policies xs)
]

-- the policies of the machine after a task
hook_policies : (g : Founded) (machine : Machine) (worker : ℕ) (op : Option Op) (access : Access) → (after_task g.basis.verdicts machine (Hook worker op access)).policies ≡ machine.policies
hook_policies g machine worker None access = refl
hook_policies g machine worker (Some op) access = (claim_counts g.basis.verdicts machine (worker - 1) (active_entry machine.policies)).0

pub task_policies : (g : Founded) (machine : Machine) (task : Task) → (after_task g.basis.verdicts machine task).policies ≡ policies_after g.basis.verdicts machine.policies task
task_policies g machine (Write may asked) = refl
task_policies g machine (Read node) = refl
task_policies g machine (Hook worker op access) = hook_policies g machine worker op access

pub lines_policies : (g : Founded) (machine : Machine) (lines : List Line) → (after_lines g.basis.verdicts machine lines).policies ≡ policies_then g.basis.verdicts machine.policies (map task_of lines)
lines_policies g machine [] = refl
lines_policies g machine (line ∷ lines) = lines_policies g (after_line g.basis.verdicts machine line) lines ∙ ap (λ (p : Policies). policies_then g.basis.verdicts p (map task_of lines)) (task_policies g machine line.task)

-- two parts, one after the other
raised_both : (g : Founded) (policies : Policies) (xs ys : List Task) → raised g.basis.verdicts policies (xs ++ ys) ≡ raised g.basis.verdicts policies xs ++ raised g.basis.verdicts (policies_then g.basis.verdicts policies xs) ys
raised_both g policies [] ys = refl
raised_both g policies (x ∷ xs) ys = by ((policies_after g.basis.verdicts policies x).epoch == policies.epoch) (raised_both g (policies_after g.basis.verdicts policies x) xs ys)
  where
    next : Policies
    next = policies_after g.basis.verdicts policies x

    by : (b : Bool) → raised g.basis.verdicts next (xs ++ ys) ≡ raised g.basis.verdicts next xs ++ raised g.basis.verdicts (policies_then g.basis.verdicts next xs) ys
        → cond b (raised g.basis.verdicts next (xs ++ ys)) (next ∷ raised g.basis.verdicts next (xs ++ ys)) ≡ cond b (raised g.basis.verdicts next xs) (next ∷ raised g.basis.verdicts next xs) ++ raised g.basis.verdicts (policies_then g.basis.verdicts next xs) ys
    by true e = e
    by false e = ap (λ (ps : List Policies). next ∷ ps) e

claims_both : (g : Founded) (machine : Machine) (xs ys : List Line) → claims_by g.basis.verdicts machine (xs ++ ys) ≡ claims_by g.basis.verdicts machine xs ++ claims_by g.basis.verdicts (after_lines g.basis.verdicts machine xs) ys
claims_both g machine [] ys = refl
claims_both g machine (x ∷ xs) ys =
    ap (λ (cs : List (ℕ × ℕ × ℕ)). claim_by machine x.task ++ cs) (claims_both g (after_line g.basis.verdicts machine x) xs ys)
    ∙ sym (append_assoc (claim_by machine x.task) (claims_by g.basis.verdicts (after_line g.basis.verdicts machine x) xs) (claims_by g.basis.verdicts (after_lines g.basis.verdicts (after_line g.basis.verdicts machine x) xs) ys))

zip_both : {A B : Type 0} (R : A → B → Type 0) (xs zs : List A) (ys ws : List B) → AllZip R xs ys → AllZip R zs ws → AllZip R (xs ++ zs) (ys ++ ws)
zip_both R [] zs [] ws h k = k
zip_both R [] zs (y ∷ ys) ws h k = absurd h
zip_both R (x ∷ xs) zs [] ws h k = absurd h
zip_both R (x ∷ xs) zs (y ∷ ys) ws h k = (h.0, zip_both R xs zs ys ws h.1 k)

pub map_both : {X Y : Type 0} (f : X → Y) (xs ys : List X) → map f (xs ++ ys) ≡ map f xs ++ map f ys
map_both f [] ys = refl
map_both {Y = Y} f (x ∷ xs) ys = ap (λ (zs : List Y). f x ∷ zs) (map_both f xs ys)

pub later_chain : (a b c : List Event) → GoesOnFrom a b → GoesOnFrom b c → GoesOnFrom a c
later_chain a b c h k = (h.0 ++ k.0, h.1 ∙ ap (λ (es : List Event). h.0 ++ es) k.1 ∙ sym (append_assoc h.0 k.0 c))

-- the whole history goes on from where the phases begin
phases_later : (g : Founded) (workers : ℕ) (policies : Policies) (before whole : List Event) (script : List (List Line)) (phases : List (List Acted)) → PhasesRan g.basis workers policies before whole script phases → GoesOnFrom whole before
phases_later g workers policies before whole [] [] ran = ran.0
phases_later g workers policies before whole [] (entries ∷ phases) ran = absurd ran
phases_later g workers policies before whole (lines ∷ script) [] ran = absurd ran
phases_later g workers policies before whole (lines ∷ script) (entries ∷ phases) ran =
    later_chain whole ran.0 before (phases_later g workers (policies_then g.basis.verdicts policies (map task_in (own_entries 0 entries))) ran.0 whole script phases ran.2) ran.1.later

legal_then : (g : Founded) (whole before : List Event) → GoesOnFrom whole before → MayBe g.basis whole → MayBe g.basis before
legal_then g whole before later legal =
    let come = coming before later.0 in
    legal_before g before come.0 (subst (MayBe g.basis) (sym (come.1 ∙ sym later.1)) legal)

-- from a phase on
record FromHere (g : Founded) (machine : Machine) (before whole : List Event) (script : List (List Line)) (printed : List (List Acted)) : Type 0 where
  weave : IsWeave script (order_of printed)
  in_place : AllByRecursion (AreInPlace actor_in key_of) printed
  replies : phases_entries g.basis.verdicts machine (order_of printed) ≡ printed
  claims : reverse (claims_in whole) ≡ reverse (claims_in before) ++ claims_by g.basis.verdicts machine (joined (order_of printed))
  switches : (since : Since is_switch before whole) × AllZip (BeginsWith g.basis) since.acts (raised g.basis.verdicts machine.policies (map task_of (joined (order_of printed))))

-- the last phase is followed by an empty one
no_phase : (g : Founded) (workers : ℕ) (policies : Policies) (before whole : List Event) → PhasesRan g.basis workers policies before whole [] [] → PhaseRan g.basis workers policies before whole [] []
no_phase g workers policies before whole ran = record {
  later = ran.0;
  commands = tt;
  switches = (record { acts = []; came = ran.1 ∙ sym (append-nil (acts_of is_switch before)) }, tt);
  hooks = λ p. (record { acts = []; came = ran.2 p ∙ sym (append-nil (acts_of (is_claim_of p) before)) }, record { claims = tt; idle = tt });
  few = λ p h. refl;
  all = λ actor. refl;
  numbers = tt;
}

from_here : (g : Founded) (workers : ℕ) (machine : Machine) (before whole : List Event) (script : List (List Line)) (phases printed : List (List Acted))
    → Agree g.basis machine before → MayBe g.basis whole → PhasesRan g.basis workers machine.policies before whole script phases → AllZip IsPrinted phases printed → FromHere g machine before whole script printed
from_here g workers machine before whole [] [] [] agree legal ran is =
    let stands = phase_stands g workers machine before whole [] [] [] agree legal (no_phase g workers machine.policies before whole ran) (record { own = λ actor. refl; in_place = record { rises = tt; stand = tt } }) in record {
      weave = tt;
      in_place = tt;
      replies = refl;
      claims = stands.claims;
      switches = (record { acts = []; came = ran.1 ∙ sym (append-nil (acts_of is_switch before)) }, tt);
    }
from_here g workers machine before whole [] [] (p ∷ printed) agree legal ran is = absurd is
from_here g workers machine before whole [] (entries ∷ phases) printed agree legal ran is = absurd ran
from_here g workers machine before whole (lines ∷ script) [] printed agree legal ran is = absurd ran
from_here g workers machine before whole (lines ∷ script) (entries ∷ phases) [] agree legal ran is = absurd is
from_here g workers machine before whole (lines ∷ script) (entries ∷ phases) (p ∷ printed) agree legal ran is =
    let after : List Event = ran.0 in
    let phase = ran.1 in
    let later : GoesOnFrom whole after = phases_later g workers (policies_then g.basis.verdicts machine.policies (map task_in (own_entries 0 entries))) after whole script phases ran.2 in
    let stands = phase_stands g workers machine before after lines entries p agree (legal_then g whole after later legal) phase is.0 in
    let next : Machine = after_lines g.basis.verdicts machine (map line_in p) in
    let own : own_entries 0 p ≡ own_entries 0 entries = is.0.own 0 in
    let policies : next.policies ≡ policies_then g.basis.verdicts machine.policies (map task_in (own_entries 0 entries)) =
    lines_policies g machine (map line_in p) ∙ then_own g machine.policies p ∙ ap (λ (es : List Acted). policies_then g.basis.verdicts machine.policies (map task_in es)) own in
    let rest = from_here g workers next after whole script phases printed stands.agrees legal (subst (λ (x : Policies). PhasesRan g.basis workers x after whole script phases) (sym policies) ran.2) is.1 in
    let here : AllZip (BeginsWith g.basis) phase.switches.0.acts (raised g.basis.verdicts machine.policies (map task_of (map line_in p))) =
    subst (AllZip (BeginsWith g.basis) phase.switches.0.acts) (sym (raised_own g machine.policies p ∙ ap (λ (es : List Acted). raised g.basis.verdicts machine.policies (map task_in es)) own)) phase.switches.1 in
    let there : AllZip (BeginsWith g.basis) rest.switches.0.acts (raised g.basis.verdicts (policies_then g.basis.verdicts machine.policies (map task_of (map line_in p))) (map task_of (joined (order_of printed)))) =
    subst (λ (x : Policies). AllZip (BeginsWith g.basis) rest.switches.0.acts (raised g.basis.verdicts x (map task_of (joined (order_of printed))))) (lines_policies g machine (map line_in p)) rest.switches.1 in
    record {
      weave = (stands.weave, rest.weave);
      in_place = (is.0.in_place, rest.in_place);
      replies = ap (λ (es : List Acted). es ∷ phases_entries g.basis.verdicts next (order_of printed)) stands.replies ∙ ap (λ (ps : List (List Acted)). p ∷ ps) rest.replies;
      claims =
          rest.claims
          ∙ ap (λ (cs : List (ℕ × ℕ × ℕ)). cs ++ claims_by g.basis.verdicts next (joined (order_of printed))) stands.claims
          ∙ append_assoc (reverse (claims_in before)) (claims_by g.basis.verdicts machine (map line_in p)) (claims_by g.basis.verdicts next (joined (order_of printed)))
          ∙ ap (λ (cs : List (ℕ × ℕ × ℕ)). reverse (claims_in before) ++ cs) (sym (claims_both g machine (map line_in p) (joined (order_of printed))));
      switches = (
        record {
          acts = phase.switches.0.acts ++ rest.switches.0.acts;
          came =
              rest.switches.0.came
              ∙ ap (λ (acts : List Act). acts ++ rest.switches.0.acts) phase.switches.0.came
              ∙ append_assoc (acts_of is_switch before) phase.switches.0.acts rest.switches.0.acts;
        },
        subst (AllZip (BeginsWith g.basis) (phase.switches.0.acts ++ rest.switches.0.acts))
            (sym (ap (raised g.basis.verdicts machine.policies) (map_both task_of (map line_in p) (joined (order_of printed))) ∙ raised_both g machine.policies (map task_of (map line_in p)) (map task_of (joined (order_of printed)))))
            (zip_both (BeginsWith g.basis) phase.switches.0.acts rest.switches.0.acts _ _ here there),
      );
    }

-- at the start
pub starts : (g : Founded) (workers : ℕ) → Agree g.basis (first_machine workers) []
starts g workers = record {
  like = record { epoch = refl; count = refl; enforce = refl; success = refl };
  shows = g.laws.at_start;
  sound = λ name named. absurd (none-some name named);
}

-- one history, all phases
pub history_orders : (g : Founded) (workers : ℕ) (whole : List Event) (script : List (List Line)) (phases printed : List (List Acted))
    → MayBe g.basis whole → PhasesRan g.basis workers first_policies [] whole script phases → AllZip IsPrinted phases printed → IsOrderOf g.basis (first_machine workers) whole script printed
history_orders g workers whole script phases printed legal ran is =
    let all = from_here g workers (first_machine workers) [] whole script phases printed (starts g workers) legal ran is in record {
      along = record {
        weave = all.weave;
        in_place = subst (AllByRecursion (AreInPlace actor_in key_of)) (sym all.replies) all.in_place;
        replies = all.replies;
      };
      stands = record {
        switches = subst (λ (acts : List Act). AllZip (BeginsWith g.basis) acts (raised g.basis.verdicts first_policies (map task_of (joined (order_of printed))))) (sym all.switches.0.came) all.switches.1;
        claims = all.claims;
      };
    }

-- there is such an order of all phases
there_from : (g : Founded) (workers : ℕ) (machine : Machine) (before whole : List Event) (script : List (List Line)) (phases : List (List Acted))
    → Agree g.basis machine before → MayBe g.basis whole → PhasesRan g.basis workers machine.policies before whole script phases → (printed : List (List Acted)) × AllZip IsPrinted phases printed
there_from g workers machine before whole [] [] agree legal ran = ([], tt)
there_from g workers machine before whole [] (entries ∷ phases) agree legal ran = absurd ran
there_from g workers machine before whole (lines ∷ script) [] agree legal ran = absurd ran
there_from g workers machine before whole (lines ∷ script) (entries ∷ phases) agree legal ran =
    let after : List Event = ran.0 in
    let phase = ran.1 in
    let later : GoesOnFrom whole after = phases_later g workers (policies_then g.basis.verdicts machine.policies (map task_in (own_entries 0 entries))) after whole script phases ran.2 in
    let legal_here : MayBe g.basis after = legal_then g whole after later legal in
    let first = phase_prints g workers machine before after lines entries agree legal_here phase in
    let stands = phase_stands g workers machine before after lines entries first.0 agree legal_here phase first.1 in
    let policies : (after_lines g.basis.verdicts machine (map line_in first.0)).policies ≡ policies_then g.basis.verdicts machine.policies (map task_in (own_entries 0 entries)) =
    lines_policies g machine (map line_in first.0) ∙ then_own g machine.policies first.0 ∙ ap (λ (es : List Acted). policies_then g.basis.verdicts machine.policies (map task_in es)) (first.1.own 0) in
    let rest = there_from g workers (after_lines g.basis.verdicts machine (map line_in first.0)) after whole script phases stands.agrees legal (subst (λ (x : Policies). PhasesRan g.basis workers x after whole script phases) (sym policies) ran.2) in
    (first.0 ∷ rest.0, (first.1, rest.1))

pub orders_are_there : (g : Founded) (workers : ℕ) (whole : List Event) (script : List (List Line)) (phases : List (List Acted))
    → MayBe g.basis whole → PhasesRan g.basis workers first_policies [] whole script phases → (printed : List (List Acted)) × AllZip IsPrinted phases printed
orders_are_there g workers whole script phases legal ran = there_from g workers (first_machine workers) [] whole script phases (starts g workers) legal ran
