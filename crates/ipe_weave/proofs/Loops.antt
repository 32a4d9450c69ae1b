-- What one more line adds, as the loops over a worker's and over the administrator's lines need it.
use Rattle.std.proofs.Common.{◌≡◌, ℕ, ◌==◌, Bool, true, false, cond, List, [], ◌∷◌, ◌++◌, map, refl, sym, ap, subst, ◌∙◌, append_assoc, append-nil}
use Rattle.std.specs.List.{AllZip, AllByRecursion, filter}
use Rattle.std.proofs.lemmas.Bool.{eq-eqb}
use Rattle.ipe_machine.specs.Policies.{Policies}
use Rattle.ipe_machine.specs.Answer.{Verdicts}
use Rattle.ipe_gate_rule.specs.declared.event.Event.{Event}
use Rattle.ipe_gate_rule.specs.declared.event.Event.TheVariants.{Claim, Return}
use Rattle.ipe_gate_rule.specs.History.{GoesOnFrom}
use Rattle.ipe_gate_rule.specs.Owners.{is_by_pass, is_administrators, is_switch, own_events, administrator_events}
use Rattle.ipe_weave.specs.Lines.{Acted, task_in}
use Rattle.ipe_weave.specs.Acts.{Act, Since, acts_of, is_claim_of}
use Rattle.ipe_weave.specs.Standing.{is_active, ClaimedAt, IsIdle, AnsweredBy, policies_after, CommandsRan, raised, policies_then, BeginsWith}
use Rattle.ipe_weave.specs.Seats.{WorkerRan, AdminRan}
use Rattle.ipe_weave.proofs.Founded.{Founded}
use Rattle.ipe_weave.proofs.Quiet.{acts_quiet, claims_own, switches_own}

all_last : {X : Type 0} (P : X → Type 0) (xs : List X) (x : X) → AllByRecursion P xs → P x → AllByRecursion P (xs ++ x ∷ [])
all_last P [] x all one = (one, tt)
all_last P (y ∷ ys) x all one = (all.0, all_last P ys x all.1 one)

zip_last : {A B : Type 0} (R : A → B → Type 0) (xs : List A) (ys : List B) (x : A) (y : B) → AllZip R xs ys → R x y → AllZip R (xs ++ x ∷ []) (ys ++ y ∷ [])
zip_last R [] [] x y zip one = (one, tt)
zip_last R [] (b ∷ bs) x y zip one = absurd zip
zip_last R (a ∷ xs) [] x y zip one = absurd zip
zip_last R (a ∷ xs) (b ∷ bs) x y zip one = (zip.0, zip_last R xs bs x y zip.1 one)

filter_last : (xs : List Acted) (x : Acted) → filter is_active (xs ++ x ∷ []) ≡ filter is_active xs ++ cond (is_active x) (x ∷ []) []
filter_last [] x = refl
filter_last (y ∷ ys) x = by (is_active y) (filter_last ys x)
  where
    by : (b : Bool) → filter is_active (ys ++ x ∷ []) ≡ filter is_active ys ++ cond (is_active x) (x ∷ []) []
        → cond b (y ∷ filter is_active (ys ++ x ∷ [])) (filter is_active (ys ++ x ∷ [])) ≡ cond b (y ∷ filter is_active ys) (filter is_active ys) ++ cond (is_active x) (x ∷ []) []
    by true e = ap (λ (es : List Acted). y ∷ es) e
    by false e = e

-- nothing ran yet
pub worker_starts : (g : Founded) (p : ℕ) (first : List Event) → WorkerRan g.basis p first first []
worker_starts g p first = record { since = record { acts = []; came = sym (append-nil (acts_of (is_claim_of p) first)) }; ran = record { claims = tt; idle = tt } }

-- a hook that is evaluated, at its claim
pub worker_claims : (g : Founded) (p : ℕ) (first old before : List Event) (xs : List Acted) (x : Acted) → WorkerRan g.basis p first old xs → GoesOnFrom before old → own_events p before ≡ own_events p old
    → is_active x ≡ true → IsIdle x → ClaimedAt g.basis x (record { event = Claim p; before = before }) → WorkerRan g.basis p first (Claim p ∷ before) (xs ++ x ∷ [])
worker_claims g p first old before xs x ran later same active idle claimed =
    let act : Act = record { event = Claim p; before = before } in
    let here : acts_of (is_claim_of p) (Claim p ∷ before) ≡ acts_of (is_claim_of p) before ++ act ∷ [] = rw (eq-eqb p p refl) refl in
    let last : filter is_active (xs ++ x ∷ []) ≡ filter is_active xs ++ x ∷ [] = filter_last xs x ∙ ap (λ (b : Bool). filter is_active xs ++ cond b (x ∷ []) []) active in record {
      since = record {
        acts = ran.since.acts ++ act ∷ [];
        came =
            here
            ∙ ap (λ (acts : List Act). acts ++ act ∷ []) (acts_quiet (is_claim_of p) (is_by_pass p) (claims_own p) before old later same ∙ ran.since.came)
            ∙ append_assoc (acts_of (is_claim_of p) first) ran.since.acts (act ∷ []);
      };
      ran = record {
        claims = subst (λ (es : List Acted). AllZip (ClaimedAt g.basis) es (ran.since.acts ++ act ∷ [])) (sym last) (zip_last (ClaimedAt g.basis) (filter is_active xs) ran.since.acts x act ran.ran.claims claimed);
        idle = all_last IsIdle xs x ran.ran.idle idle;
      };
    }

-- a return
pub worker_returns : (g : Founded) (p : ℕ) (first old before : List Event) (xs : List Acted) → WorkerRan g.basis p first old xs → GoesOnFrom before old → own_events p before ≡ own_events p old → WorkerRan g.basis p first (Return p ∷ before) xs
worker_returns g p first old before xs ran later same = record {
  since = record { acts = ran.since.acts; came = acts_quiet (is_claim_of p) (is_by_pass p) (claims_own p) before old later same ∙ ran.since.came };
  ran = ran.ran;
}

-- a hook that isn't evaluated
pub worker_idles : (g : Founded) (p : ℕ) (first old : List Event) (xs : List Acted) (x : Acted) → WorkerRan g.basis p first old xs → is_active x ≡ false → IsIdle x → WorkerRan g.basis p first old (xs ++ x ∷ [])
worker_idles g p first old xs x ran calm idle =
    let last : filter is_active (xs ++ x ∷ []) ≡ filter is_active xs = filter_last xs x ∙ ap (λ (b : Bool). filter is_active xs ++ cond b (x ∷ []) []) calm ∙ append-nil (filter is_active xs) in record {
      since = ran.since;
      ran = record {
        claims = subst (λ (es : List Acted). AllZip (ClaimedAt g.basis) es ran.since.acts) (sym last) ran.ran.claims;
        idle = all_last IsIdle xs x ran.ran.idle idle;
      };
    }

-- the policies after the administrator's entries
abbrev pub policies_behind : Verdicts → Policies → List Acted → Policies
policies_behind verdicts policies xs = policies_then verdicts policies (map task_in xs)

commands_last : (g : Founded) (policies : Policies) (xs : List Acted) (x : Acted) → CommandsRan g.basis.verdicts policies xs → AnsweredBy g.basis.verdicts (policies_behind g.basis.verdicts policies xs) x.line.task x.reply → CommandsRan g.basis.verdicts policies (xs ++ x ∷ [])
commands_last g policies [] x ran answered = (answered, tt)
commands_last g policies (y ∷ ys) x ran answered = (ran.0, commands_last g (policies_after g.basis.verdicts policies y.line.task) ys x ran.1 answered)

-- what is raised with one more
raised_last : (g : Founded) (policies : Policies) (xs : List Acted) (x : Acted)
    → raised g.basis.verdicts policies (map task_in (xs ++ x ∷ [])) ≡ raised g.basis.verdicts policies (map task_in xs) ++ raised g.basis.verdicts (policies_behind g.basis.verdicts policies xs) (x.line.task ∷ [])
raised_last g policies [] x = refl
raised_last g policies (y ∷ ys) x = by ((policies_after g.basis.verdicts policies y.line.task).epoch == policies.epoch) (raised_last g (policies_after g.basis.verdicts policies y.line.task) ys x)
  where
    next : Policies
    next = policies_after g.basis.verdicts policies y.line.task

    by : (b : Bool) → raised g.basis.verdicts next (map task_in (ys ++ x ∷ [])) ≡ raised g.basis.verdicts next (map task_in ys) ++ raised g.basis.verdicts (policies_behind g.basis.verdicts next ys) (x.line.task ∷ [])
        → cond b (raised g.basis.verdicts next (map task_in (ys ++ x ∷ []))) (next ∷ raised g.basis.verdicts next (map task_in (ys ++ x ∷ []))) ≡ cond b (raised g.basis.verdicts next (map task_in ys)) (next ∷ raised g.basis.verdicts next (map task_in ys)) ++ raised g.basis.verdicts (policies_behind g.basis.verdicts next ys) (x.line.task ∷ [])
    by true e = e
    by false e = ap (λ (ps : List Policies). next ∷ ps) e

zip_both : {A B : Type 0} (R : A → B → Type 0) (xs more : List A) (ys others : List B) → AllZip R xs ys → AllZip R more others → AllZip R (xs ++ more) (ys ++ others)
zip_both R [] more [] others zip rest = rest
zip_both R [] more (y ∷ ys) others zip rest = absurd zip
zip_both R (x ∷ xs) more [] others zip rest = absurd zip
zip_both R (x ∷ xs) more (y ∷ ys) others zip rest = (zip.0, zip_both R xs more ys others zip.1 rest)

-- nothing ran yet
pub admin_starts : (g : Founded) (policies : Policies) (first : List Event) → AdminRan g.basis policies first first []
admin_starts g policies first = record { since = record { acts = []; came = sym (append-nil (acts_of is_switch first)) }; ran = tt; switches = tt }

-- a write, with its switch where it raises the epoch, or a read
pub admin_answers : (g : Founded) (policies : Policies) (first old new : List Event) (xs : List Acted) (x : Acted) → AdminRan g.basis policies first old xs → AnsweredBy g.basis.verdicts (policies_behind g.basis.verdicts policies xs) x.line.task x.reply
    → (since : Since is_switch old new) → AllZip (BeginsWith g.basis) since.acts (raised g.basis.verdicts (policies_behind g.basis.verdicts policies xs) (x.line.task ∷ [])) → AdminRan g.basis policies first new (xs ++ x ∷ [])
admin_answers g policies first old new xs x ran answered since switches = record {
  since = record {
    acts = ran.since.acts ++ since.acts;
    came = since.came ∙ ap (λ (acts : List Act). acts ++ since.acts) ran.since.came ∙ append_assoc (acts_of is_switch first) ran.since.acts since.acts;
  };
  ran = commands_last g policies xs x ran.ran answered;
  switches = subst (AllZip (BeginsWith g.basis) (ran.since.acts ++ since.acts)) (sym (raised_last g policies xs x))
      (zip_both (BeginsWith g.basis) ran.since.acts since.acts (raised g.basis.verdicts policies (map task_in xs)) (raised g.basis.verdicts (policies_behind g.basis.verdicts policies xs) (x.line.task ∷ [])) ran.switches switches);
}

-- the administrator learnt of others, and made no step
pub admin_meets : (g : Founded) (policies : Policies) (first old new : List Event) (xs : List Acted) → AdminRan g.basis policies first old xs → GoesOnFrom new old → administrator_events new ≡ administrator_events old → AdminRan g.basis policies first new xs
admin_meets g policies first old new xs ran later same = record {
  since = record { acts = ran.since.acts; came = acts_quiet is_switch is_administrators switches_own new old later same ∙ ran.since.came };
  ran = ran.ran;
  switches = ran.switches;
}
