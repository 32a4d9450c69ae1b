-- What a seat has seen of its own is all of it, so its claims or switches are those of the whole.
use Rattle.std.proofs.Common.{◌≡◌, ℕ, ◌+◌, inl, inr, Bool, true, false, cond, List, [], ◌∷◌, ◌++◌, length, refl, sym, ap, subst, ◌∙◌, append-nil, length-append, arith}
use Rattle.std.specs.List.{filter}
use Rattle.std.proofs.lemmas.Bool.{cases_Bool, true≢false, cases_lt}
use Rattle.ipe_machine.specs.Policies.{Policies}
use Rattle.ipe_gate_rule.specs.declared.event.Event.{Event}
use Rattle.ipe_gate_rule.specs.declared.event.Event.TheVariants.{Store, Switch, Claim, Return, Look}
use Rattle.ipe_gate_rule.specs.History.{GoesOnFrom}
use Rattle.ipe_gate_rule.specs.Owners.{is_by_pass, is_administrators, is_switch, own_events}
use Rattle.ipe_weave.specs.Lines.{Line, Acted, own_entries}
use Rattle.ipe_weave.specs.Acts.{Act, acts_of, is_claim_of, Since}
use Rattle.ipe_weave.specs.Standing.{HooksRan}
use Rattle.ipe_weave.specs.Phases.{PhaseRan}
use Rattle.ipe_weave.specs.Seats.{WorkerRan, PhaseMet}
use Rattle.ipe_weave.proofs.Founded.{Founded}

-- events kept of two parts
kept_both : (f : Event → Bool) (xs ys : List Event) → filter f (xs ++ ys) ≡ filter f xs ++ filter f ys
kept_both f [] ys = refl
kept_both f (x ∷ xs) ys = by (f x) (kept_both f xs ys)
  where
    by : (b : Bool) → filter f (xs ++ ys) ≡ filter f xs ++ filter f ys → cond b (x ∷ filter f (xs ++ ys)) (filter f (xs ++ ys)) ≡ cond b (x ∷ filter f xs) (filter f xs) ++ filter f ys
    by true e = ap (λ (es : List Event). x ∷ es) e
    by false e = e

-- a list in front of another that adds nothing to it is empty
nothing_before : {X : Type 0} (xs ys : List X) → xs ++ ys ≡ ys → xs ≡ []
nothing_before [] ys same = refl
nothing_before (x ∷ xs) ys same =
    let long : length ((x ∷ xs) ++ ys) ≡ length ys = ap length same in
    absurd (omega (arith, long, length-append (x ∷ xs) ys))

-- none of a kind came since
none_since : (f : Event → Bool) (more seen : List Event) → filter f (more ++ seen) ≡ filter f seen → filter f more ≡ []
none_since f more seen same = nothing_before (filter f more) (filter f seen) (sym (kept_both f more seen) ∙ same)

-- a test that only passes what another does
abbrev pub IsOf : (Event → Bool) → (Event → Bool) → Type 0
IsOf test f = (e : Event) → f e ≡ false → test e ≡ false

acts_more : (test f : Event → Bool) → IsOf test f → (more seen : List Event) → filter f more ≡ [] → acts_of test (more ++ seen) ≡ acts_of test seen
acts_more test f of [] seen none = refl
acts_more test f of (e ∷ more) seen none = elim (cases_Bool (f e)) [
  | inl is ↦
      let some : e ∷ filter f more ≡ [] = sym (kept_front e is) ∙ none in
      cc
  | inr is ↦
      let rest : filter f more ≡ [] = sym (kept_skip e is) ∙ none in
      rw (of e is) (acts_more test f of more seen rest)
]
  where
    kept_front : (e : Event) → f e ≡ true → filter f (e ∷ more) ≡ e ∷ filter f more
    kept_front e is = rw is refl

    kept_skip : (e : Event) → f e ≡ false → filter f (e ∷ more) ≡ filter f more
    kept_skip e is = rw is refl

-- whose own events are all seen, all its claims or switches are
pub acts_quiet : (test f : Event → Bool) → IsOf test f → (h seen : List Event) → GoesOnFrom h seen → filter f h ≡ filter f seen → acts_of test h ≡ acts_of test seen
acts_quiet test f of h seen later same =
    ap (acts_of test) later.1
    ∙ acts_more test f of later.0 seen (none_since f later.0 seen (ap (filter f) (sym later.1) ∙ same))

pub claims_own : (p : ℕ) → IsOf (is_claim_of p) (is_by_pass p)
claims_own p (Store s i w) none = refl
claims_own p (Switch s e u) none = refl
claims_own p (Claim q) none = none
claims_own p (Return q) none = refl
claims_own p (Look s) none = refl

pub switches_own : IsOf is_switch is_administrators
switches_own (Store s i w) none = refl
switches_own (Switch s e u) none = absurd (true≢false none)
switches_own (Claim q) none = refl
switches_own (Return q) none = refl
switches_own (Look s) none = refl

-- a pass without events has no claims
no_claims : (test f : Event → Bool) → IsOf test f → (h : List Event) → filter f h ≡ [] → acts_of test h ≡ []
no_claims test f of h none = ap (acts_of test) (sym (append-nil h)) ∙ acts_more test f of h [] none

-- none later, none before
none_before : (f : Event → Bool) (h seen : List Event) → GoesOnFrom h seen → filter f h ≡ [] → filter f seen ≡ []
none_before f h seen later none =
    second (filter f later.0) (filter f seen) (sym (kept_both f later.0 seen) ∙ ap (filter f) (sym later.1) ∙ none)
  where
    second : (xs ys : List Event) → xs ++ ys ≡ [] → ys ≡ []
    second [] ys same = same
    second (x ∷ xs) ys same = cc

-- one worker's claims, in what the administrator has seen
worker_since : (g : Founded) (p : ℕ) (before after first last : List Event) (entries : List Acted) → WorkerRan g.basis p first last entries
    → GoesOnFrom before first × (own_events p before ≡ own_events p first) → GoesOnFrom after last × (own_events p after ≡ own_events p last)
    → (since : Since (is_claim_of p) before after) × HooksRan g.basis since.acts entries
worker_since g p before after first last entries ran began met = (
  record {
    acts = ran.since.acts;
    came =
        acts_quiet (is_claim_of p) (is_by_pass p) (claims_own p) after last met.0 met.1
        ∙ ran.since.came
        ∙ ap (λ (acts : List Act). acts ++ ran.since.acts) (sym (acts_quiet (is_claim_of p) (is_by_pass p) (claims_own p) before first began.0 began.1));
  },
  ran.ran,
)

-- a pass that isn't there
other_since : (g : Founded) (p : ℕ) (before after : List Event) (entries : List Acted) → GoesOnFrom after before → own_events p after ≡ [] → entries ≡ [] → (since : Since (is_claim_of p) before after) × HooksRan g.basis since.acts entries
other_since g p before after entries later none empty =
    let before_none : own_events p before ≡ [] = none_before (is_by_pass p) after before later none in (
      record { acts = []; came = no_claims (is_claim_of p) (is_by_pass p) (claims_own p) after none ∙ sym (append-nil []) ∙ ap (λ (acts : List Act). acts ++ []) (sym (no_claims (is_claim_of p) (is_by_pass p) (claims_own p) before before_none)) },
      subst (HooksRan g.basis []) (sym empty) (record { claims = tt; idle = tt }),
    )

-- a phase after which all have met is one in the one history
pub phase_met : (g : Founded) (workers : ℕ) (policies : Policies) (before after : List Event) (lines : List Line) (entries : List Acted) → PhaseMet g.basis workers policies before after lines entries → PhaseRan g.basis workers policies before after lines entries
phase_met g workers policies before after lines entries met = record {
  later = met.later;
  commands = met.admin.ran;
  switches = (
    record {
      acts = met.admin.since.acts;
      came = acts_quiet is_switch is_administrators switches_own after met.admin_last met.admin_met.0 met.admin_met.1 ∙ met.admin.since.came;
    },
    met.admin.switches,
  );
  hooks = λ p. elim (cases_lt p workers) [
    | inl within ↦ worker_since g p before after (met.pass_first p) (met.pass_last p) (own_entries (p + 1) entries) (met.passes p within) (met.began p within) (met.met p within)
    | inr past ↦ let other = met.others p past in other_since g p before after (own_entries (p + 1) entries) met.later other.0 other.1
  ];
  few = λ p past. (met.others p past).1;
  all = met.all;
  numbers = met.numbers;
}
