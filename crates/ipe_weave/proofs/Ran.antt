-- What each entry adds to an order that the history stands for.
use Rattle.std.proofs.Common.{◌≡◌, ℕ, ◌+◌, ◌-◌, ◌<◌, ◌==◌, ◌⊎◌, inl, inr, not, Bool, true, false, List, [], ◌∷◌, ◌++◌, map, Option, Some, None, refl, sym, ap, subst, ◌∙◌, arith}
use Rattle.std.specs.List.{AllZip, AllByRecursion, filter_map}
use Rattle.std.proofs.lemmas.Bool.{eqb-true, eq-eqb, true≢false, false≢true, not-false, not-true}
use Rattle.ipe_policy.specs.declared.evaluation.Context.{Context}
use Rattle.ipe_policy.specs.declared.op.Op.{Op}
use Rattle.ipe_machine.specs.Policies.{Policies, Loaded, active_entry}
use Rattle.ipe_machine.specs.Machine.{Machine, first_machine, ruling_at, next_place}
use Rattle.ipe_gate_rule.specs.declared.event.Event.{Event}
use Rattle.ipe_gate_rule.specs.declared.event.Event.TheVariants.{Switch, Claim}
use Rattle.ipe_gate_rule.specs.History.{epoch_of, count_of}
use Rattle.ipe_transcript.specs.Keys.{Key, Rises, place_key, write_key}
use Rattle.ipe_weave.specs.Lines.{Access, Task, actor_of_task, LineReply, after_write, hook_reply, task_reply, after_task, after_line, after_lines, Acted, line_in, task_in, entries_of, reply_key, key_of, Write, Read, Hook}
use Rattle.ipe_weave.specs.Acts.{Act}
use Rattle.ipe_weave.specs.Standing.{has_act, is_active, AnsweredAt, AnsweredIdle, IsIdle, AnsweredBy, policies_after, CommandsRan, raised, BeginsWith, claim_by, claims_by, IsLike, Agree}
use Rattle.ipe_weave.proofs.Founded.{Founded}
use Rattle.ipe_weave.proofs.Agree.{claim_answer, claim_counts, claim_agrees, calm_agrees, switch_agrees}
use Rattle.ipe_weave.proofs.Future.{onto, claims_from}
use Rattle.ipe_weave.proofs.Groups.{EntriesRise, AllCalm}

abbrev pub at : ℕ → ℕ → ℕ → Key
at epoch rank within = record { epoch = epoch; rank = rank; within = within }

-- From this machine and history on, the entries are what the machine answers, the machine agrees with the history at the end, the claims that come are theirs, and their keys rise after each key of the epoch that R allows
pub record Ran (g : Founded) (R : ℕ → ℕ → Type 0) (machine : Machine) (s t : List Event) (entries : List Acted) : Type 0 where
  pub replies : entries_of g.basis.verdicts machine (map line_in entries) ≡ entries
  pub final : Agree g.basis (after_lines g.basis.verdicts machine (map line_in entries)) (onto s t)
  pub claims : claims_from s t ≡ claims_by g.basis.verdicts machine (map line_in entries)
  pub rises : (rank within : ℕ) → R rank within → Rises (at (epoch_of s) rank within ∷ filter_map key_of entries)

-- before each claim of the epoch that comes
abbrev pub Counted : List Event → ℕ → ℕ → Type 0
Counted s rank within = (rank < 2) ⊎ ((rank ≡ 2) × (within < count_of s))

-- one more entry
replies_more : (g : Founded) (machine : Machine) (x : Acted) (entries : List Acted) → x.reply ≡ task_reply g.basis.verdicts machine x.line.task → entries_of g.basis.verdicts (after_line g.basis.verdicts machine x.line) (map line_in entries) ≡ entries
    → entries_of g.basis.verdicts machine (map line_in (x ∷ entries)) ≡ x ∷ entries
replies_more g machine x entries reply rest =
    ap (λ (r : LineReply). record { line = x.line; reply = r } ∷ entries_of g.basis.verdicts (after_line g.basis.verdicts machine x.line) (map line_in entries)) (sym reply)
    ∙ ap (λ (more : List Acted). x ∷ more) rest

-- a hook that isn't evaluated
pub record IdleStep (g : Founded) (machine : Machine) (task : Task) (reply : LineReply) : Type 0 where
  pub still : after_task g.basis.verdicts machine task ≡ machine
  pub replied : reply ≡ task_reply g.basis.verdicts machine task
  pub nowhere : (number : ℕ) → reply_key number reply ≡ None
  pub claimless : claim_by machine task ≡ []

idle_step : (g : Founded) (machine : Machine) (task : Task) (reply : LineReply) → AnsweredIdle task reply → has_act task reply ≡ false → IdleStep g machine task reply
idle_step g machine (Write may asked) reply answered calm = absurd answered
idle_step g machine (Read node) reply answered calm = absurd answered
idle_step g machine (Hook worker None access) reply answered calm = record {
  still = refl;
  replied = answered;
  nowhere = λ number. ap (λ (r : LineReply). reply_key number r) answered;
  claimless = refl;
}
idle_step g machine (Hook worker (Some op) access) reply answered calm = absurd (true≢false calm)

-- such an entry in front
ran_idle : (g : Founded) (R : ℕ → ℕ → Type 0) (machine : Machine) (s t : List Event) (entries : List Acted) (x : Acted) → IsIdle x → is_active x ≡ false → Ran g R machine s t entries → Ran g R machine s t (x ∷ entries)
ran_idle g R machine s t entries x idle calm ran =
    let step = idle_step g machine x.line.task x.reply idle calm in
    let here : Ran g R (after_line g.basis.verdicts machine x.line) s t entries = subst (λ (m : Machine). Ran g R m s t entries) (sym step.still) ran in record {
      replies = replies_more g machine x entries step.replied here.replies;
      final = here.final;
      claims = rw step.claimless here.claims;
      rises = λ r w allowed. rw (step.nowhere x.line.number) (ran.rises r w allowed);
    }

-- it has no place
pub idle_nowhere : (g : Founded) (x : Acted) → IsIdle x → is_active x ≡ false → key_of x ≡ None
idle_nowhere g x idle calm = (idle_step g (first_machine 0) x.line.task x.reply idle calm).nowhere x.line.number

pub ran_idles : (g : Founded) (R : ℕ → ℕ → Type 0) (machine : Machine) (s t : List Event) (entries idle : List Acted) → AllByRecursion IsIdle idle → AllCalm idle → Ran g R machine s t entries → Ran g R machine s t (idle ++ entries)
ran_idles g R machine s t entries [] idle calm ran = ran
ran_idles g R machine s t entries (x ∷ xs) idle calm ran = ran_idle g R machine s t (xs ++ entries) x idle.0 calm.0 (ran_idles g R machine s t entries xs idle.1 calm.1 ran)

-- a hook that is evaluated, at its claim
pub record ClaimStep (g : Founded) (machine : Machine) (s : List Event) (p : ℕ) (task : Task) (reply : LineReply) : Type 0 where
  pub agrees : Agree g.basis (after_task g.basis.verdicts machine task) (Claim p ∷ s)
  pub policies : (after_task g.basis.verdicts machine task).policies ≡ machine.policies
  pub replied : reply ≡ task_reply g.basis.verdicts machine task
  pub place : (number : ℕ) → reply_key number reply ≡ Some (at (epoch_of s) 2 (count_of s))
  pub claim : claim_by machine task ≡ (epoch_of s, count_of s, p) ∷ []

-- each claim has the next place
claim_place : (machine : Machine) (entry : Option Loaded) (op : Op) (context : Context) → (ruling_at machine entry op context).place ≡ Some (next_place machine)
claim_place machine None op context = refl
claim_place machine (Some entry) op context = refl

placed_reply : (machine : Machine) (s : List Event) (number : ℕ) (op : Op) (access : Access) → IsLike machine s → reply_key number (hook_reply machine (Some op) access) ≡ Some (at (epoch_of s) 2 (count_of s))
placed_reply machine s number op access like =
    ap place_key (claim_place machine (active_entry machine.policies) op access.context)
    ∙ ap (λ (e : ℕ). Some (at e 2 machine.count)) (sym like.epoch)
    ∙ ap (λ (n : ℕ). Some (at (epoch_of s) 2 n)) (sym like.count)

pub claim_step : (g : Founded) (machine : Machine) (s : List Event) (p : ℕ) (task : Task) (reply : LineReply) → Agree g.basis machine s → AnsweredAt g.basis s task reply → has_act task reply ≡ true → actor_of_task task ≡ p + 1 → ClaimStep g machine s p task reply
claim_step g machine s p (Write may asked) reply agree answered active actor = absurd answered
claim_step g machine s p (Read node) reply agree answered active actor = absurd answered
claim_step g machine s p (Hook worker None access) reply agree answered active actor = absurd (false≢true active)
claim_step g machine s p (Hook worker (Some op) access) reply agree answered active actor = record {
  agrees = claim_agrees g machine s p worker op agree;
  policies = (claim_counts g.basis.verdicts machine (worker - 1) (active_entry machine.policies)).0;
  replied = answered ∙ claim_answer g machine s op access agree;
  place = λ number. ap (λ (r : LineReply). reply_key number r) (answered ∙ claim_answer g machine s op access agree) ∙ placed_reply machine s number op access agree.like;
  claim =
      let pass : worker - 1 ≡ p = omega (arith, actor) in
      rw (sym agree.like.epoch, sym agree.like.count, pass) refl;
}

pub ran_claim : (g : Founded) (machine : Machine) (s t : List Event) (p : ℕ) (entries : List Acted) (x : Acted) → ClaimStep g machine s p x.line.task x.reply
    → Ran g (Counted (Claim p ∷ s)) (after_line g.basis.verdicts machine x.line) (Claim p ∷ s) t entries
    → Ran g (Counted s) machine s (Claim p ∷ t) (x ∷ entries)
ran_claim g machine s t p entries x step ran = record {
  replies = replies_more g machine x entries step.replied ran.replies;
  final = ran.final;
  claims = rw step.claim (ap (λ (xs : List (ℕ × ℕ × ℕ)). (epoch_of s, count_of s, p) ∷ xs) ran.claims);
  rises = λ r w allowed.
      let more : Counted (Claim p ∷ s) 2 (count_of s) = inr (refl, omega arith) in
      rw (step.place x.line.number) (inr (refl, allowed), ran.rises 2 (count_of s) more);
}

-- a command that leaves the epoch
pub record CalmStep (g : Founded) (machine : Machine) (s : List Event) (task : Task) (reply : LineReply) : Type 0 where
  pub agrees : Agree g.basis (after_task g.basis.verdicts machine task) s
  pub policies : (after_task g.basis.verdicts machine task).policies ≡ policies_after g.basis.verdicts machine.policies task
  pub stays : ((policies_after g.basis.verdicts machine.policies task).epoch == machine.policies.epoch) ≡ true
  pub replied : reply ≡ task_reply g.basis.verdicts machine task
  pub place : (number : ℕ) → reply_key number reply ≡ Some (at (epoch_of s) 1 number)
  pub claimless : claim_by machine task ≡ []

calm_step : (g : Founded) (machine : Machine) (s : List Event) (task : Task) (reply : LineReply) → Agree g.basis machine s → AnsweredBy g.basis.verdicts machine.policies task reply → has_act task reply ≡ false → CalmStep g machine s task reply
calm_step g machine s (Write may asked) reply agree answered calm =
    let kept : not ((after_write g.basis.verdicts machine.policies asked).epoch == machine.policies.epoch) ≡ false = ap (λ (r : LineReply). has_act (Write may asked) r) (sym answered) ∙ calm in
    let stays : ((after_write g.basis.verdicts machine.policies asked).epoch == machine.policies.epoch) ≡ true = not-false _ kept in
    let same : (after_write g.basis.verdicts machine.policies asked).epoch ≡ epoch_of s = eqb-true _ _ stays ∙ sym agree.like.epoch in record {
      agrees = calm_agrees g machine s asked agree stays;
      policies = refl;
      stays = stays;
      replied = answered;
      place = λ number. ap (λ (r : LineReply). reply_key number r) answered ∙ ap (λ (b : Bool). Some (write_key number (after_write g.basis.verdicts machine.policies asked).epoch b)) kept ∙ ap (λ (e : ℕ). Some (at e 1 number)) same;
      claimless = refl;
    }
calm_step g machine s (Read node) reply agree answered calm = record {
  agrees = agree;
  policies = refl;
  stays = eq-eqb machine.policies.epoch machine.policies.epoch refl;
  replied = answered;
  place = λ number. ap (λ (r : LineReply). reply_key number r) answered ∙ ap (λ (e : ℕ). Some (at e 1 number)) (sym agree.like.epoch);
  claimless = refl;
}
calm_step g machine s (Hook worker op access) reply agree answered calm = absurd answered

-- a command that raises the epoch, at its switch
pub record SwitchStep (g : Founded) (machine : Machine) (s : List Event) (slot : ℕ) (e u : Bool) (task : Task) (reply : LineReply) : Type 0 where
  pub agrees : Agree g.basis (after_task g.basis.verdicts machine task) (Switch slot e u ∷ s)
  pub policies : (after_task g.basis.verdicts machine task).policies ≡ policies_after g.basis.verdicts machine.policies task
  pub replied : reply ≡ task_reply g.basis.verdicts machine task
  pub place : (number : ℕ) → reply_key number reply ≡ Some (at (epoch_of s + 1) 0 0)
  pub claimless : claim_by machine task ≡ []

-- whether a task's command raises the epoch
pub raises_epoch : (g : Founded) (policies : Policies) (task : Task) (reply : LineReply) → AnsweredBy g.basis.verdicts policies task reply → has_act task reply ≡ true → ((policies_after g.basis.verdicts policies task).epoch == policies.epoch) ≡ false
raises_epoch g policies (Write may asked) reply answered active =
    not-true _ (ap (λ (r : LineReply). has_act (Write may asked) r) (sym answered) ∙ active)
raises_epoch g policies (Read node) reply answered active = absurd (false≢true active)
raises_epoch g policies (Hook worker op access) reply answered active = absurd answered

pub switch_step : (g : Founded) (machine : Machine) (s : List Event) (slot : ℕ) (e u : Bool) (task : Task) (reply : LineReply) → Agree g.basis machine s → AnsweredBy g.basis.verdicts machine.policies task reply → has_act task reply ≡ true
    → g.basis.Begins (Switch slot e u) s (policies_after g.basis.verdicts machine.policies task) → SwitchStep g machine s slot e u task reply
switch_step g machine s slot e u (Write may asked) reply agree answered active begins =
    let higher : not ((after_write g.basis.verdicts machine.policies asked).epoch == machine.policies.epoch) ≡ true = ap (λ (r : LineReply). has_act (Write may asked) r) (sym answered) ∙ active in
    let rises : ((after_write g.basis.verdicts machine.policies asked).epoch == machine.policies.epoch) ≡ false = not-true _ higher in
    let agrees = switch_agrees g machine s asked slot e u agree rises begins in record {
      agrees = agrees;
      policies = refl;
      replied = answered;
      place = λ number. ap (λ (r : LineReply). reply_key number r) answered ∙ ap (λ (b : Bool). Some (write_key number (after_write g.basis.verdicts machine.policies asked).epoch b)) higher ∙ ap (λ (e : ℕ). Some (at e 0 0)) (sym agrees.like.epoch);
      claimless = refl;
    }
switch_step g machine s slot e u (Read node) reply agree answered active begins = absurd (false≢true active)
switch_step g machine s slot e u (Hook worker op access) reply agree answered active begins = absurd answered

-- after a key of the epoch a first command belongs
abbrev pub LaterFirst : ℕ → ℕ → List Acted → Type 0
LaterFirst rank within [] = Unit {0}
LaterFirst rank within (x ∷ xs) = (rank < 1) ⊎ ((rank ≡ 1) × (within < x.line.number))

pub numbers-first : (x : Acted) (xs : List Acted) → EntriesRise (x ∷ xs) → LaterFirst 1 x.line.number xs × EntriesRise xs
numbers-first x [] rise = (tt, tt)
numbers-first x (next ∷ xs) rise = (inr (refl, rise.0), rise.1)

pub begins-first : (xs : List Acted) → LaterFirst 0 0 xs
begins-first [] = tt
begins-first (x ∷ xs) = inl (omega arith)

-- before commands: each key of a command, where the first's is after it
abbrev pub Ordered : List Acted → ℕ → ℕ → Type 0
Ordered xs rank within = (rank < 2) × LaterFirst rank within xs

-- the switch's command, before commands that leave the epoch and what comes then
pub ran_switch : (g : Founded) (machine : Machine) (s t : List Event) (slot : ℕ) (e u : Bool) (entries : List Acted) (x : Acted) (xs : List Acted) → SwitchStep g machine s slot e u x.line.task x.reply
    → Ran g (Ordered xs) (after_line g.basis.verdicts machine x.line) (Switch slot e u ∷ s) t entries
    → Ran g (Counted s) machine s (Switch slot e u ∷ t) (x ∷ entries)
ran_switch g machine s t slot e u entries x xs step ran = record {
  replies = replies_more g machine x entries step.replied ran.replies;
  final = ran.final;
  claims = rw step.claimless ran.claims;
  rises = λ r w allowed. rw (step.place x.line.number) (inl (omega arith), ran.rises 0 0 (omega arith, begins-first xs));
}

-- the administrator's entries from a machine on, and its switches
pub record Commanded (g : Founded) (machine : Machine) (s : List Event) (acts : List Act) (xs : List Acted) : Type 0 where
  pub agrees : Agree g.basis machine s
  pub ran : CommandsRan g.basis.verdicts machine.policies xs
  pub numbers : EntriesRise xs
  pub switches : AllZip (BeginsWith g.basis) acts (raised g.basis.verdicts machine.policies (map task_in xs))

-- after an entry that leaves the epoch
calmed : (g : Founded) (machine : Machine) (s : List Event) (acts : List Act) (x : Acted) (xs : List Acted) → is_active x ≡ false → Commanded g machine s acts (x ∷ xs) → Commanded g (after_line g.basis.verdicts machine x.line) s acts xs
calmed g machine s acts x xs calm go =
    let step = calm_step g machine s x.line.task x.reply go.agrees go.ran.0 calm in
    let kept : AllZip (BeginsWith g.basis) acts (raised g.basis.verdicts (policies_after g.basis.verdicts machine.policies x.line.task) (map task_in xs)) = rw step.stays at go.switches in record {
      agrees = step.agrees;
      ran = subst (λ (p : Policies). CommandsRan g.basis.verdicts p xs) (sym step.policies) go.ran.1;
      numbers = (numbers-first x xs go.numbers).1;
      switches = subst (λ (p : Policies). AllZip (BeginsWith g.basis) acts (raised g.basis.verdicts p (map task_in xs))) (sym step.policies) kept;
    }

pub calmed_all : (g : Founded) (machine : Machine) (s : List Event) (acts : List Act) (xs behind : List Acted) → AllCalm xs → Commanded g machine s acts (xs ++ behind) → Commanded g (after_lines g.basis.verdicts machine (map line_in xs)) s acts behind
calmed_all g machine s acts [] behind calm go = go
calmed_all g machine s acts (x ∷ xs) behind calm go =
    calmed_all g (after_line g.basis.verdicts machine x.line) s acts xs behind calm.1 (calmed g machine s acts x (xs ++ behind) calm.0 go)

ordered_of : (x : Acted) (xs behind : List Acted) → LaterFirst 1 x.line.number (xs ++ behind) → LaterFirst 1 x.line.number xs
ordered_of x [] behind h = tt
ordered_of x (y ∷ ys) behind h = h

-- commands that leave the epoch, before entries that begin after them
pub ran_calms : (g : Founded) (machine : Machine) (s t : List Event) (acts : List Act) (entries xs behind : List Acted) → AllCalm xs → Commanded g machine s acts (xs ++ behind)
    → Ran g (Counted s) (after_lines g.basis.verdicts machine (map line_in xs)) s t entries
    → Ran g (Ordered xs) machine s t (xs ++ entries)
ran_calms g machine s t acts entries [] behind calm go rest = record {
  replies = rest.replies;
  final = rest.final;
  claims = rest.claims;
  rises = λ r w ordered. rest.rises r w (inl ordered.0);
}
ran_calms g machine s t acts entries (x ∷ xs) behind calm go rest =
    let step = calm_step g machine s x.line.task x.reply go.agrees go.ran.0 calm.0 in
    let first = numbers-first x (xs ++ behind) go.numbers in
    let ran = ran_calms g (after_line g.basis.verdicts machine x.line) s t acts entries xs behind calm.1 (calmed g machine s acts x (xs ++ behind) calm.0 go) rest in record {
      replies = replies_more g machine x (xs ++ entries) step.replied ran.replies;
      final = ran.final;
      claims = rw step.claimless ran.claims;
      rises = λ r w ordered. rw (step.place x.line.number) (inr (refl, ordered.1), ran.rises 1 x.line.number (omega arith, ordered_of x xs behind first.0));
    }
