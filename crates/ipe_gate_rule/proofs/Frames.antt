-- What a history keeps while some seat makes no step.
use Rattle.std.proofs.Common.{◌≡◌, ℕ, ◌+◌, ◌==◌, Bool, true, false, cond, List, [], ◌∷◌, ◌++◌, length, refl, sym, ap, ◌∙◌, arith, length-append, true≢false}
use Rattle.ipe_gate_rule.specs.declared.event.Event.{Event}
use Rattle.ipe_gate_rule.specs.declared.event.Event.TheVariants.{Store, Switch, Claim, Return, Look}
use Rattle.ipe_gate_rule.specs.History.{active_slot, enforce_of, success_of, epoch_of, count_of, held_by, claims_by, switched_out, content}
use Rattle.ipe_gate_rule.specs.Owners.{is_by_pass, is_administrators, own_events, administrator_events}
use Rattle.ipe_gate_rule.specs.Places.{places_of}
use Rattle.std.specs.List.{filter}
use Rattle.std.proofs.lemmas.List.Elements.{filter-append}

length-none : (xs : List Event) → length xs ≡ 0 → xs ≡ []
length-none [] e = refl
length-none (x ∷ xs) e = absurd (omega arith)

pub append_none : (xs ys : List Event) → xs ++ ys ≡ ys → xs ≡ []
append_none xs ys e = length-none xs (omega (arith, length-append xs ys, ap length e))

-- where nothing that f is_own came since
pub none_since : (f : Event → Bool) (more seen : List Event) → filter f (more ++ seen) ≡ filter f seen → filter f more ≡ []
none_since f more seen a = append_none (filter f more) (filter f seen) (sym (filter-append f more seen) ∙ a)

pub kept_cons : (b : Bool) (x : Event) (xs : List Event) → cond b (x ∷ xs) xs ≡ [] → (b ≡ false) × (xs ≡ [])
kept_cons true x xs e = absurd (cc)
kept_cons false x xs e = (refl, e)

cond_no : {A : Type 0} (b : Bool) (x y : A) → b ≡ false → cond b x y ≡ y
cond_no true x y e = absurd (true≢false e)
cond_no false x y e = refl

-- an event that isn't the pass's keeps what it holds
pub held-else : (q : ℕ) (e : Event) (h : List Event) → is_by_pass q e ≡ false → held_by q (e ∷ h) ≡ held_by q h
held-else q (Store s i w) h off = refl
held-else q (Switch s e u) h off = refl
held-else q (Claim p) h off = cond_no (q == p) (active_slot h) (held_by q h) off
held-else q (Return p) h off = cond_no (q == p) 0 (held_by q h) off
held-else q (Look s) h off = refl

pub calls-else : (q : ℕ) (e : Event) (h : List Event) → is_by_pass q e ≡ false → claims_by q (e ∷ h) ≡ claims_by q h
calls-else q (Store s i w) h off = refl
calls-else q (Switch s e u) h off = refl
calls-else q (Claim p) h off = cond_no (q == p) (claims_by q h + 1) (claims_by q h) off
calls-else q (Return p) h off = refl
calls-else q (Look s) h off = refl

pub held-quiet : (q : ℕ) (more seen : List Event) → own_events q more ≡ [] → held_by q (more ++ seen) ≡ held_by q seen
held-quiet q [] seen none = refl
held-quiet q (e ∷ more) seen none = let k = kept_cons (is_by_pass q e) e (own_events q more) none in held-else q e (more ++ seen) k.0 ∙ held-quiet q more seen k.1

pub calls-quiet : (q : ℕ) (more seen : List Event) → own_events q more ≡ [] → claims_by q (more ++ seen) ≡ claims_by q seen
calls-quiet q [] seen none = refl
calls-quiet q (e ∷ more) seen none = let k = kept_cons (is_by_pass q e) e (own_events q more) none in calls-else q e (more ++ seen) k.0 ∙ calls-quiet q more seen k.1

-- what the administrator alone changes
pub record Same (h seen : List Event) : Type 0 where
  pub slot : active_slot h ≡ active_slot seen
  pub epoch : epoch_of h ≡ epoch_of seen
  pub enforce : enforce_of h ≡ enforce_of seen
  pub success : success_of h ≡ success_of seen
  pub sums : (k : ℕ) → switched_out k h ≡ switched_out k seen
  pub words : (k i : ℕ) → content k i h ≡ content k i seen

same-else : (e : Event) (h seen : List Event) → is_administrators e ≡ false → Same h seen → Same (e ∷ h) seen
same-else (Store s i w) h seen off r = absurd (true≢false off)
same-else (Switch s e u) h seen off r = absurd (true≢false off)
same-else (Claim p) h seen off r = record { slot = r.slot; epoch = r.epoch; enforce = r.enforce; success = r.success; sums = r.sums; words = r.words }
same-else (Return p) h seen off r = record { slot = r.slot; epoch = r.epoch; enforce = r.enforce; success = r.success; sums = r.sums; words = r.words }
same-else (Look s) h seen off r = absurd (true≢false off)

pub same-quiet : (more seen : List Event) → administrator_events more ≡ [] → Same (more ++ seen) seen
same-quiet [] seen none = record { slot = refl; epoch = refl; enforce = refl; success = refl; sums = λ k. refl; words = λ k i. refl }
same-quiet (e ∷ more) seen none = let k = kept_cons (is_administrators e) e (administrator_events more) none in same-else e (more ++ seen) seen k.0 (same-quiet more seen k.1)

places-else : (q : ℕ) (e : Event) (h : List Event) → is_by_pass q e ≡ false → places_of q (e ∷ h) ≡ places_of q h
places-else q (Store s i w) h off = refl
places-else q (Switch s e u) h off = refl
places-else q (Claim p) h off = cond_no (q == p) ((epoch_of h, count_of h) ∷ places_of q h) (places_of q h) off
places-else q (Return p) h off = refl
places-else q (Look s) h off = refl

pub places-quiet : (q : ℕ) (more seen : List Event) → own_events q more ≡ [] → places_of q (more ++ seen) ≡ places_of q seen
places-quiet q [] seen none = refl
places-quiet q (e ∷ more) seen none = let k = kept_cons (is_by_pass q e) e (own_events q more) none in places-else q e (more ++ seen) k.0 ∙ places-quiet q more seen k.1
