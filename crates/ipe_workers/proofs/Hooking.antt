-- What a pass did at a hook, and at one hook after another.
use Rattle.std.proofs.Common.{◌≡◌, ℕ, zero, suc, ◌+◌, ◌≤◌, ◌==◌, Bool, true, false, cond, List, [], ◌∷◌, ◌++◌, length, Option, Some, None, refl, sym, ap, subst, ◌∙◌, append_assoc, append-nil, length-append, arith}
use Rattle.std.specs.List.{AllZip, AllByRecursion, filter}
use Rattle.std.proofs.lemmas.Bool.{eq-eqb}
use Rattle.std.proofs.lemmas.List.{nil_from_length}
use Rattle.std.proofs.lemmas.List.Elements.{filter-append}
use Rattle.ipe_policy.specs.declared.op.Op.{Op}
use Rattle.ipe_policy.specs.declared.evaluation.Context.{Context}
use Rattle.ipe_policy.specs.Request.{evaluated_op}
use Rattle.ipe_image.specs.declared.hit.Ruling.{Ruling}
use Rattle.ipe_machine.specs.Answer.{Verdicts}
use Rattle.ipe_machine.specs.declared.event.CoreRuling.{CoreRuling}
use Rattle.ipe_gate_rule.specs.declared.event.Event.{Event}
use Rattle.ipe_gate_rule.specs.declared.event.Event.TheVariants.{Store, Switch, Claim, Return, Look}
use Rattle.ipe_gate_rule.specs.History.{GoesOnFrom, active_slot}
use Rattle.ipe_gate_rule.specs.Owners.{own_events}
use Rattle.ipe_gate_rule.proofs.Frees.{later_same, later_chain}
use Rattle.ipe_gate.specs.declared.pass.Pass.{Pass}
use Rattle.ipe_gate.specs.Seats.{seen, slot_held}
use Rattle.ipe_hooks.specs.Hooks.{IsHook, IsHookFor, hook_events}
use Rattle.ipe_hooks.specs.Law.{machine_ruling}
use Rattle.ipe_weave.specs.Acts.{Act, acts_of, is_claim_of}
use Rattle.ipe_weave.specs.Gate.{gate_basis, image_at, record_by_image, ruling_by_image}
use Rattle.ipe_weave.specs.Lines.{Access, Acted, Hook, ruled}
use Rattle.ipe_weave.specs.Seats.{WorkerRan}
use Rattle.ipe_weave.specs.Standing.{ClaimedAt, IsIdle, is_active}
use Rattle.ipe_weave.proofs.Quiet.{acts_quiet}
use Rattle.ipe_workers.specs.Passes.{HasAnswered}
use Rattle.ipe_workers.specs.Ruled.{IsRuled, IsRuledFor, answered}

-- a hook is ruled as a claim is where it made its own
abbrev pub RuledAtClaims : Type 0
RuledAtClaims =
    (p q : Pass) (op : Op) (context : Context) (ruling : Ruling) (is : IsHook p q op context ruling)
    → machine_ruling ruling ≡ ruling_by_image is.before (image_at (active_slot is.before) is.before) op context

-- the claims of a pass
abbrev claims : ℕ → List Event → List Event
claims n h = filter (is_claim_of n) h

-- its claims are among its own events
claims_own : (n : ℕ) (h : List Event) → claims n (own_events n h) ≡ claims n h
claims_own n [] = refl
claims_own n (Store s i w ∷ h) = claims_own n h
claims_own n (Switch s e u ∷ h) = claims_own n h
claims_own n (Claim p ∷ h) = by (n == p) refl (claims_own n h)
  where
    by : (b : Bool) → (n == p) ≡ b → claims n (own_events n h) ≡ claims n h
        → claims n (cond b (Claim p ∷ own_events n h) (own_events n h)) ≡ cond b (Claim p ∷ claims n h) (claims n h)
    by true is e = ap (λ (b : Bool). cond b (Claim p ∷ claims n (own_events n h)) (claims n (own_events n h))) is ∙ ap (λ (es : List Event). Claim p ∷ es) e
    by false is e = e
claims_own n (Return p ∷ h) = by (n == p) (claims_own n h)
  where
    by : (b : Bool) → claims n (own_events n h) ≡ claims n h → claims n (cond b (Return p ∷ own_events n h) (own_events n h)) ≡ claims n h
    by true e = e
    by false e = e
claims_own n (Look s ∷ h) = claims_own n h

-- a claim is the pass's own
claim_first : (n : ℕ) (h : List Event) → claims n (Claim n ∷ h) ≡ Claim n ∷ claims n h
claim_first n h = ap (λ (b : Bool). cond b (Claim n ∷ claims n h) (claims n h)) (eq-eqb n n refl)

-- one hook is one claim
claims_hook : (n slot : ℕ) (h : List Event) → claims n (hook_events n slot ++ h) ≡ Claim n ∷ claims n h
claims_hook n zero h = claim_first n h
claims_hook n (suc k) h = claim_first n h

-- a front that adds nothing has no claims
no_claims : (n : ℕ) (more seen : List Event) → length (claims n (more ++ seen)) ≡ length (claims n seen) → claims n (more ++ seen) ≡ claims n seen
no_claims n more seen same =
    let both = filter-append (is_claim_of n) more seen in
    let long : length (claims n (more ++ seen)) ≡ length (claims n more) + length (claims n seen) = ap length both ∙ length-append (claims n more) (claims n seen) in
    both ∙ ap (λ (es : List Event). es ++ claims n seen) (nil_from_length (claims n more) (omega (arith, same, long)))

-- at least as many claims later
claims_most : (n : ℕ) (h seen : List Event) → GoesOnFrom h seen → length (claims n seen) ≤ length (claims n h)
claims_most n h seen later =
    let both = ap (claims n) later.1 ∙ filter-append (is_claim_of n) later.0 seen in
    let long : length (claims n h) ≡ length (claims n later.0) + length (claims n seen) = ap length both ∙ length-append (claims n later.0) (claims n seen) in
    omega (arith, long)

-- a later history without a claim more has the same claims
claims_same : (n : ℕ) (h seen : List Event) → GoesOnFrom h seen → length (claims n h) ≤ length (claims n seen) → claims n h ≡ claims n seen
claims_same n h seen later few =
    let most = claims_most n h seen later in
    let same : length (claims n (later.0 ++ seen)) ≡ length (claims n seen) = ap (λ (es : List Event). length (claims n es)) (sym later.1) ∙ omega (arith, few, most) in
    ap (claims n) later.1 ∙ no_claims n later.0 seen same

-- a hook's claim, with what stood before it, is the one that is new
hook_acts : (p q : Pass) (op : Op) (context : Context) (ruling : Ruling) (is : IsHook p q op context ruling)
    → acts_of (is_claim_of p.number) (seen q) ≡ acts_of (is_claim_of p.number) (seen p) ++ record { event = Claim p.number; before = is.before } ∷ []
hook_acts p q op context ruling is =
    let n = p.number in
    let act : Act = record { event = Claim n; before = is.before } in
    let owned : own_events n (seen q) ≡ hook_events n (active_slot is.before) ++ own_events n (seen p) =
    ap (λ (k : ℕ). own_events k (seen q)) (sym is.number) ∙ is.mine_is in
    let all : claims n (seen q) ≡ Claim n ∷ claims n (seen p) =
    sym (claims_own n (seen q)) ∙ ap (claims n) owned ∙ claims_hook n (active_slot is.before) (own_events n (seen p)) ∙ ap (λ (es : List Event). Claim n ∷ es) (claims_own n (seen p)) in
    let long : length (claims n (seen q)) ≡ suc (length (claims n (seen p))) = ap length all in
    let first : length (claims n (Claim n ∷ is.before)) ≡ suc (length (claims n is.before)) = ap length (claim_first n is.before) in
    let least = claims_most n is.before (seen p) is.later in
    let most = claims_most n (seen q) (Claim n ∷ is.before) is.claim in
    let after : claims n (seen q) ≡ claims n (Claim n ∷ is.before) = claims_same n (seen q) (Claim n ∷ is.before) is.claim (omega (arith, long, first, least)) in
    let earlier : claims n is.before ≡ claims n (seen p) = claims_same n is.before (seen p) is.later (omega (arith, long, first, most)) in
    acts_quiet (is_claim_of n) (is_claim_of n) (λ e off. off) (seen q) (Claim n ∷ is.before) is.claim after
    ∙ ap (λ (b : Bool). cond b (acts_of (is_claim_of n) is.before ++ act ∷ []) (acts_of (is_claim_of n) is.before)) (eq-eqb n n refl)
    ∙ ap (λ (acts : List Act). acts ++ act ∷ []) (acts_quiet (is_claim_of n) (is_claim_of n) (λ e off. off) is.before (seen p) is.later earlier)

-- what a hook of an operation is replied, or one that isn't evaluated
abbrev answered_for : ℕ → ℕ → List Event → Option Op → Access → Ruling → Acted
answered_for number worker before op access ruling = record {
  line = record { number = number; task = Hook worker op access };
  reply = ruled (machine_ruling ruling) (record_by_image before (image_at (active_slot before) before) access op);
}

-- nothing was asked
pub answered_none : (verdicts : Verdicts) (p : Pass) → slot_held p ≡ 0 → HasAnswered verdicts p p []
answered_none verdicts p free = record {
  gate = refl;
  number = refl;
  held = free;
  calls = omega arith;
  later = later_same (seen p);
  ran = record {
    since = record { acts = []; came = sym (append-nil (acts_of (is_claim_of p.number) (seen p))) };
    ran = record { claims = tt; idle = tt };
  };
}

-- a hook that is evaluated
answered_claim : RuledAtClaims → (verdicts : Verdicts) (number worker : ℕ) (p q : Pass) (op : Op) (access : Access) (ruling : Ruling) → Some op ≡ evaluated_op access.request → (is : IsHook p q op access.context ruling)
    → HasAnswered verdicts p q (answered_for number worker is.before (Some op) access ruling ∷ [])
answered_claim at_claims verdicts number worker p q op access ruling asked is =
    let n = p.number in
    let slot = active_slot is.before in
    let same_record : record_by_image is.before (image_at slot is.before) access (Some op) ≡ record_by_image is.before (image_at slot is.before) access (evaluated_op access.request) =
    ap (record_by_image is.before (image_at slot is.before) access) asked in
    record {
      gate = is.gate;
      number = is.number;
      held = is.held;
      calls = (let calls = is.calls in omega (arith, calls));
      later = later_chain (seen q) (Claim n ∷ is.before) (seen p) is.claim (later_chain (Claim n ∷ is.before) is.before (seen p) (Claim n ∷ [], refl) is.later);
      ran = record {
        since = record { acts = record { event = Claim n; before = is.before } ∷ []; came = hook_acts p q op access.context ruling is };
        ran = record {
          claims = (
            ap (λ (r : CoreRuling). ruled r (record_by_image is.before (image_at slot is.before) access (Some op))) (at_claims p q op access.context ruling is)
                ∙ ap (λ (r : Option (List ℕ)). ruled (ruling_by_image is.before (image_at slot is.before) op access.context) r) same_record,
            tt,
          );
          idle = (tt, tt);
        };
      };
    }

-- a hook that isn't
answered_idle : (verdicts : Verdicts) (number worker : ℕ) (p q : Pass) (access : Access) (ruling : Ruling) → slot_held p ≡ 0 → IsHookFor None p q access.context ruling
    → HasAnswered verdicts p q (answered_for number worker (seen p) None access ruling ∷ [])
answered_idle verdicts number worker p q access ruling free is = record {
  gate = is.0.gate;
  number = is.0.number;
  held = is.0.held ∙ free;
  calls = (let calls = is.0.calls in omega (arith, calls));
  later = ([], is.1);
  ran = record {
    since = record { acts = []; came = ap (acts_of (is_claim_of p.number)) is.1 ∙ sym (append-nil (acts_of (is_claim_of p.number) (seen p))) };
    ran = record { claims = tt; idle = (ap (λ (r : Ruling). ruled (machine_ruling r) None) is.2, tt) };
  };
}

-- a hook, with the history that its claim stands after
pub record HookRan (verdicts : Verdicts) (number worker : ℕ) (p q : Pass) (access : Access) (ruling : Ruling) : Type 0 where
  pub before : List Event
  pub ruled_is : IsRuled before access ruling
  pub ran : HasAnswered verdicts p q (answered number worker before access ruling ∷ [])

hook_for : RuledAtClaims → (verdicts : Verdicts) (number worker : ℕ) (p q : Pass) (access : Access) (ruling : Ruling) (asked : Option Op) → asked ≡ evaluated_op access.request → slot_held p ≡ 0 → IsHookFor asked p q access.context ruling
    → (h : List Event) × IsRuledFor h asked access.context ruling × HasAnswered verdicts p q (answered_for number worker h asked access ruling ∷ [])
hook_for at_claims verdicts number worker p q access ruling None same free is = (seen p, is.2, answered_idle verdicts number worker p q access ruling free is)
hook_for at_claims verdicts number worker p q access ruling (Some op) same free is = (is.before, record { ruling_is = is.ruling_is; decision = is.decision }, answered_claim at_claims verdicts number worker p q op access ruling same is)

pub hook_ran : RuledAtClaims → (verdicts : Verdicts) (number worker : ℕ) (p q : Pass) (access : Access) (ruling : Ruling) → slot_held p ≡ 0 → IsHookFor (evaluated_op access.request) p q access.context ruling → HookRan verdicts number worker p q access ruling
hook_ran at_claims verdicts number worker p q access ruling free is =
    let ran = hook_for at_claims verdicts number worker p q access ruling (evaluated_op access.request) refl free is in
    record { before = ran.0; ruled_is = ran.1; ran = ran.2 }

all_both : {X : Type 0} (P : X → Type 0) (xs ys : List X) → AllByRecursion P xs → AllByRecursion P ys → AllByRecursion P (xs ++ ys)
all_both P [] ys a b = b
all_both P (x ∷ xs) ys a b = (a.0, all_both P xs ys a.1 b)

zip_both : {A B : Type 0} (R : A → B → Type 0) (xs more : List A) (ys others : List B) → AllZip R xs ys → AllZip R more others → AllZip R (xs ++ more) (ys ++ others)
zip_both R [] more [] others zip rest = rest
zip_both R [] more (y ∷ ys) others zip rest = absurd zip
zip_both R (x ∷ xs) more [] others zip rest = absurd zip
zip_both R (x ∷ xs) more (y ∷ ys) others zip rest = (zip.0, zip_both R xs more ys others zip.1 rest)

-- lines that ran, and then more
ran_both : (verdicts : Verdicts) (n : ℕ) (first mid last : List Event) (xs ys : List Acted) → WorkerRan (gate_basis verdicts) n first mid xs → WorkerRan (gate_basis verdicts) n mid last ys → WorkerRan (gate_basis verdicts) n first last (xs ++ ys)
ran_both verdicts n first mid last xs ys a b = record {
  since = record {
    acts = a.since.acts ++ b.since.acts;
    came =
        b.since.came
        ∙ ap (λ (acts : List Act). acts ++ b.since.acts) a.since.came
        ∙ append_assoc (acts_of (is_claim_of n) first) a.since.acts b.since.acts;
  };
  ran = record {
    claims = subst (λ (es : List Acted). AllZip (ClaimedAt (gate_basis verdicts)) es (a.since.acts ++ b.since.acts)) (sym (filter-append is_active xs ys))
        (zip_both (ClaimedAt (gate_basis verdicts)) (filter is_active xs) (filter is_active ys) a.since.acts b.since.acts a.ran.claims b.ran.claims);
    idle = all_both IsIdle xs ys a.ran.idle b.ran.idle;
  };
}

pub answered_both : (verdicts : Verdicts) (p m q : Pass) (xs ys : List Acted) → HasAnswered verdicts p m xs → HasAnswered verdicts m q ys → HasAnswered verdicts p q (xs ++ ys)
answered_both verdicts p m q xs ys a b =
    let second : WorkerRan (gate_basis verdicts) p.number (seen m) (seen q) ys = subst (λ (n : ℕ). WorkerRan (gate_basis verdicts) n (seen m) (seen q) ys) a.number b.ran in
    record {
      gate = b.gate ∙ a.gate;
      number = b.number ∙ a.number;
      held = b.held;
      calls = (let x = a.calls in let y = b.calls in omega (arith, x, y, length-append xs ys));
      later = later_chain (seen q) (seen m) (seen p) b.later a.later;
      ran = ran_both verdicts p.number (seen p) (seen m) (seen q) xs ys a.ran second;
    }
