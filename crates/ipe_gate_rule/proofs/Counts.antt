-- Sums over passes, and what bounds the counts of a legal history.
use Rattle.std.proofs.Common.{◌≡◌, ◌≢◌, ◌⊎◌, inl, inr, ⊎_elim, ℕ, zero, suc, ◌+◌, ◌*◌, ◌^◌, ◌<◌, ◌≤◌, ◌==◌, Bool, true, false, cond, List, [], ◌∷◌, refl, sym, ap, ◌∙◌, subst, arith, true≢false, ne_eqb, eq-eqb}
use mathlib.Core.Logic.{dite}
use native.Mathlib.Decide.{ℕ_discrete}
use Rattle.ipe_gate_rule.specs.declared.event.Event.{Event}
use Rattle.ipe_gate_rule.specs.declared.event.Event.TheVariants.{Store, Switch, Claim, Return, Look}
use Rattle.ipe_gate_rule.specs.History.{active_slot, epoch_of, count_of, held_by, claims_by, all_claims, claimed, returned, switched_out}
use Rattle.ipe_gate_rule.specs.Rule.{sum_below, holders}
use Rattle.ipe_gate_rule.specs.Legal.{Legal, PassesBelow}

pub sum-same : (f g : ℕ → ℕ) (n : ℕ) → ((k : ℕ) → k < n → f k ≡ g k) → sum_below f n ≡ sum_below g n
sum-same f g zero e = refl
sum-same f g (suc n) e = let a = sum-same f g n (λ k h. e k (omega arith)) in let b = e n (omega arith) in omega arith

pub sum-most : (f : ℕ → ℕ) (m n : ℕ) → ((k : ℕ) → f k ≤ m) → sum_below f n ≤ n * m
sum-most f m zero e = omega arith
sum-most f m (suc n) e = let a = sum-most f m n e in let b = e n in omega arith

-- one place has one more
pub sum-more : (f g : ℕ → ℕ) (p n : ℕ) → p < n → g p ≡ f p + 1 → ((k : ℕ) → k ≢ p → g k ≡ f k) → sum_below g n ≡ sum_below f n + 1
sum-more f g p zero h one others = absurd (omega arith)
sum-more f g p (suc n) h one others = dite (ℕ_discrete p n)
    (λ e. let a = sum-same g f n (λ k l. others k (omega arith)) in let b : g n ≡ f n + 1 = subst (λ k. g k ≡ f k + 1) e one in omega arith)
    (λ ne. let a = sum-more f g p n (omega arith) one others in let b = others n (λ e. ne (sym e)) in omega arith)

pub eqb-same : (n : ℕ) → (n == n) ≡ true
eqb-same n = eq-eqb n n refl

pub cond_yes : {A : Type 0} (b : Bool) (x y : A) → b ≡ true → cond b x y ≡ x
cond_yes true x y e = refl
cond_yes false x y e = absurd (true≢false (sym e))

pub cond_no : {A : Type 0} (b : Bool) (x y : A) → b ≡ false → cond b x y ≡ y
cond_no true x y e = absurd (true≢false e)
cond_no false x y e = refl

-- the test of two numbers, by cases
pub test : {A : Type 0} (k p : ℕ) (x y : A) → ((k ≡ p) × (cond (k == p) x y ≡ x)) ⊎ ((k ≢ p) × (cond (k == p) x y ≡ y))
test k p x y = dite (ℕ_discrete k p) (λ e. inl (e, cond_yes (k == p) x y (eq-eqb k p e))) (λ ne. inr (ne, cond_no (k == p) x y (ne_eqb k p ne)))

pub calls_few : (q : ℕ) (h : List Event) → Legal h → claims_by q h ≤ 2 ^ 35
calls_few q [] l = omega arith
calls_few q (Store s i w ∷ h) l = calls_few q h l.1
calls_few q (Switch s e u ∷ h) l = calls_few q h l.1
calls_few q (Claim p ∷ h) l = ⊎_elim
    (λ (t : (q ≡ p) × (cond (q == p) (claims_by q h + 1) (claims_by q h) ≡ claims_by q h + 1)). let a : claims_by q h < 2 ^ 35 = subst (λ k. claims_by k h < 2 ^ 35) (sym t.0) l.0.1 in let b = t.1 in omega arith)
    (λ (t : (q ≢ p) × (cond (q == p) (claims_by q h + 1) (claims_by q h) ≡ claims_by q h)). let a = calls_few q h l.1 in let b = t.1 in omega arith)
    (test q p (claims_by q h + 1) (claims_by q h))
calls_few q (Return p ∷ h) l = calls_few q h l.1
calls_few q (Look s ∷ h) l = calls_few q h l.1

pub calls_sum : (n : ℕ) (h : List Event) → PassesBelow n h → sum_below (λ q. claims_by q h) n ≡ all_claims h
calls_sum n [] b = zeros n
  where
    zeros : (n : ℕ) → sum_below (λ q. 0) n ≡ 0
    zeros zero = refl
    zeros (suc n) = let z = zeros n in omega arith
calls_sum n (Store s i w ∷ h) b = calls_sum n h b.1
calls_sum n (Switch s e u ∷ h) b = calls_sum n h b.1
calls_sum n (Claim p ∷ h) b =
    sum-more (λ q. claims_by q h) (λ q. cond (q == p) (claims_by q h + 1) (claims_by q h)) p n b.0 (cond_yes (p == p) (claims_by p h + 1) (claims_by p h) (eqb-same p)) (λ k ne. cond_no (k == p) (claims_by k h + 1) (claims_by k h) (ne_eqb k p ne))
    ∙ ap (λ k. k + 1) (calls_sum n h b.1)
calls_sum n (Return p ∷ h) b = calls_sum n h b.1
calls_sum n (Look s ∷ h) b = calls_sum n h b.1

pub all_few : (n : ℕ) (h : List Event) → Legal h → PassesBelow n h → all_claims h ≤ n * 2 ^ 35
all_few n h l b = subst (λ k. k ≤ n * 2 ^ 35) (calls_sum n h b) (sum-most (λ q. claims_by q h) (2 ^ 35) n (λ k. calls_few k h l))

pub count_all : (h : List Event) → count_of h ≤ all_claims h
count_all [] = omega arith
count_all (Store s i w ∷ h) = count_all h
count_all (Switch s e u ∷ h) = omega arith
count_all (Claim p ∷ h) = let a = count_all h in omega arith
count_all (Return p ∷ h) = count_all h
count_all (Look s ∷ h) = count_all h

pub claimed_all : (k : ℕ) (h : List Event) → claimed k h ≤ all_claims h
claimed_all k [] = omega arith
claimed_all k (Store s i w ∷ h) = claimed_all k h
claimed_all k (Switch s e u ∷ h) = claimed_all k h
claimed_all k (Claim p ∷ h) = let a = claimed_all k h in ⊎_elim
    (λ (t : (k ≡ active_slot h) × (cond {A = ℕ} (k == active_slot h) (claimed k h + 1) (claimed k h) ≡ claimed k h + 1)). let b = t.1 in omega arith)
    (λ (t : (k ≢ active_slot h) × (cond {A = ℕ} (k == active_slot h) (claimed k h + 1) (claimed k h) ≡ claimed k h)). let b = t.1 in omega arith)
    (test k (active_slot h) (claimed k h + 1) (claimed k h))
claimed_all k (Return p ∷ h) = claimed_all k h
claimed_all k (Look s ∷ h) = claimed_all k h

pub slot_small : (h : List Event) → Legal h → active_slot h < 64
slot_small [] l = omega arith
slot_small (Store s i w ∷ h) l = slot_small h l.1
slot_small (Switch s e u ∷ h) l = l.0.0
slot_small (Claim p ∷ h) l = slot_small h l.1
slot_small (Return p ∷ h) l = slot_small h l.1
slot_small (Look s ∷ h) l = slot_small h l.1

pub epoch_small : (h : List Event) → Legal h → epoch_of h < 2 ^ 16
epoch_small [] l = omega arith
epoch_small (Store s i w ∷ h) l = epoch_small h l.1
epoch_small (Switch s e u ∷ h) l = let a = l.0.1 in omega arith
epoch_small (Claim p ∷ h) l = epoch_small h l.1
epoch_small (Return p ∷ h) l = epoch_small h l.1
epoch_small (Look s ∷ h) l = epoch_small h l.1

pub held_small : (q : ℕ) (h : List Event) → Legal h → held_by q h < 64
held_small q [] l = omega arith
held_small q (Store s i w ∷ h) l = held_small q h l.1
held_small q (Switch s e u ∷ h) l = held_small q h l.1
held_small q (Claim p ∷ h) l = let a = held_small q h l.1 in let b = slot_small h l.1 in ⊎_elim
    (λ (t : (q ≡ p) × (cond (q == p) (active_slot h) (held_by q h) ≡ active_slot h)). let c = t.1 in omega arith)
    (λ (t : (q ≢ p) × (cond (q == p) (active_slot h) (held_by q h) ≡ held_by q h)). let c = t.1 in omega arith)
    (test q p (active_slot h) (held_by q h))
held_small q (Return p ∷ h) l = let a = held_small q h l.1 in ⊎_elim
    (λ (t : (q ≡ p) × (cond (q == p) 0 (held_by q h) ≡ 0)). let c = t.1 in omega arith)
    (λ (t : (q ≢ p) × (cond (q == p) 0 (held_by q h) ≡ held_by q h)). let c = t.1 in omega arith)
    (test q p 0 (held_by q h))
held_small q (Look s ∷ h) l = held_small q h l.1

-- what was claimed of a slot was returned, or a pass holds it
pub claimed_sum : (n k : ℕ) (h : List Event) → 0 < k → Legal h → PassesBelow n h → claimed k h ≡ returned k h + holders n k h
claimed_sum n k [] pos l b = let z = zeros n in omega arith
  where
    zeros : (n : ℕ) → sum_below (λ q. cond {A = ℕ} (k == 0) 1 0) n ≡ 0
    zeros zero = refl
    zeros (suc n) = let z = zeros n in let c : cond {A = ℕ} (k == 0) 1 0 ≡ 0 = cond_no (k == 0) 1 0 (ne_eqb k 0 (omega arith)) in omega arith
claimed_sum n k (Store s i w ∷ h) pos l b = claimed_sum n k h pos l.1 b.1
claimed_sum n k (Switch s e u ∷ h) pos l b = claimed_sum n k h pos l.1 b.1
claimed_sum n k (Claim p ∷ h) pos l b =
    let before = claimed_sum n k h pos l.1 b.1 in
    let here : held_by p (Claim p ∷ h) ≡ active_slot h = cond_yes (p == p) (active_slot h) (held_by p h) (eqb-same p) in
    let was : cond {A = ℕ} (k == held_by p h) 1 0 ≡ 0 = cond_no (k == held_by p h) 1 0 (ne_eqb k (held_by p h) (λ e. let z = l.0.0 in absurd (omega arith))) in
    let others : (q : ℕ) → q ≢ p → cond {A = ℕ} (k == held_by q (Claim p ∷ h)) 1 0 ≡ cond {A = ℕ} (k == held_by q h) 1 0 = λ q ne. ap (λ x. cond {A = ℕ} (k == x) 1 0) (cond_no (q == p) (active_slot h) (held_by q h) (ne_eqb q p ne)) in
    ⊎_elim
    (λ (t : (k ≡ active_slot h) × (cond {A = ℕ} (k == active_slot h) (claimed k h + 1) (claimed k h) ≡ claimed k h + 1)).
    let now : cond {A = ℕ} (k == held_by p (Claim p ∷ h)) 1 0 ≡ 1 = cond_yes (k == held_by p (Claim p ∷ h)) 1 0 (eq-eqb k (held_by p (Claim p ∷ h)) (t.0 ∙ sym here)) in
    let more = sum-more (λ q. cond {A = ℕ} (k == held_by q h) 1 0) (λ q. cond {A = ℕ} (k == held_by q (Claim p ∷ h)) 1 0) p n b.0 (omega arith) others in let c = t.1 in omega arith)
    (λ (t : (k ≢ active_slot h) × (cond {A = ℕ} (k == active_slot h) (claimed k h + 1) (claimed k h) ≡ claimed k h)).
    let now : cond {A = ℕ} (k == held_by p (Claim p ∷ h)) 1 0 ≡ 0 = cond_no (k == held_by p (Claim p ∷ h)) 1 0 (ne_eqb k (held_by p (Claim p ∷ h)) (λ e. t.0 (e ∙ here))) in
    let same = sum-same (λ q. cond {A = ℕ} (k == held_by q (Claim p ∷ h)) 1 0) (λ q. cond {A = ℕ} (k == held_by q h) 1 0) n (λ q _. dite (ℕ_discrete q p) (λ e. subst (λ x. cond {A = ℕ} (k == held_by x (Claim p ∷ h)) 1 0 ≡ cond {A = ℕ} (k == held_by x h) 1 0) (sym e) (now ∙ sym was)) (others q)) in let c = t.1 in omega arith)
    (test k (active_slot h) (claimed k h + 1) (claimed k h))
claimed_sum n k (Return p ∷ h) pos l b =
    let before = claimed_sum n k h pos l.1 b.1 in
    let here : held_by p (Return p ∷ h) ≡ 0 = cond_yes (p == p) 0 (held_by p h) (eqb-same p) in
    let now : cond {A = ℕ} (k == held_by p (Return p ∷ h)) 1 0 ≡ 0 = cond_no (k == held_by p (Return p ∷ h)) 1 0 (ne_eqb k (held_by p (Return p ∷ h)) (λ e. absurd (omega arith))) in
    let others : (q : ℕ) → q ≢ p → cond {A = ℕ} (k == held_by q (Return p ∷ h)) 1 0 ≡ cond {A = ℕ} (k == held_by q h) 1 0 = λ q ne. ap (λ x. cond {A = ℕ} (k == x) 1 0) (cond_no (q == p) 0 (held_by q h) (ne_eqb q p ne)) in
    ⊎_elim
    (λ (t : (k ≡ held_by p h) × (cond {A = ℕ} (k == held_by p h) (returned k h + 1) (returned k h) ≡ returned k h + 1)).
    let was : cond {A = ℕ} (k == held_by p h) 1 0 ≡ 1 = cond_yes (k == held_by p h) 1 0 (eq-eqb k (held_by p h) t.0) in
    let more = sum-more (λ q. cond {A = ℕ} (k == held_by q (Return p ∷ h)) 1 0) (λ q. cond {A = ℕ} (k == held_by q h) 1 0) p n b.0 (omega arith) (λ q ne. sym (others q ne)) in let c = t.1 in omega arith)
    (λ (t : (k ≢ held_by p h) × (cond {A = ℕ} (k == held_by p h) (returned k h + 1) (returned k h) ≡ returned k h)).
    let was : cond {A = ℕ} (k == held_by p h) 1 0 ≡ 0 = cond_no (k == held_by p h) 1 0 (ne_eqb k (held_by p h) t.0) in
    let same = sum-same (λ q. cond {A = ℕ} (k == held_by q (Return p ∷ h)) 1 0) (λ q. cond {A = ℕ} (k == held_by q h) 1 0) n (λ q _. dite (ℕ_discrete q p) (λ e. subst (λ x. cond {A = ℕ} (k == held_by x (Return p ∷ h)) 1 0 ≡ cond {A = ℕ} (k == held_by x h) 1 0) (sym e) (now ∙ sym was)) (others q)) in let c = t.1 in omega arith)
    (test k (held_by p h) (returned k h + 1) (returned k h))
claimed_sum n k (Look s ∷ h) pos l b = claimed_sum n k h pos l.1 b.1

-- what was claimed of a slot was switched out of it, or is in the present count
pub gone_sum : (k : ℕ) (h : List Event) → claimed k h ≡ switched_out k h + cond {A = ℕ} (k == active_slot h) (count_of h) 0
gone_sum k [] = elim (k == 0) as (λ b. 0 ≡ 0 + cond b 0 0) [ true ↦ omega arith | false ↦ omega arith ]
gone_sum k (Store s i w ∷ h) = gone_sum k h
gone_sum k (Switch s e u ∷ h) = let before = gone_sum k h in
    let none : cond {A = ℕ} (k == s) 0 0 ≡ 0 = elim (k == s) as (λ b. cond {A = ℕ} b 0 0 ≡ 0) [ true ↦ refl | false ↦ refl ] in
    ⊎_elim
    (λ (t : (k ≡ active_slot h) × (cond {A = ℕ} (k == active_slot h) (switched_out k h + count_of h) (switched_out k h) ≡ switched_out k h + count_of h)). let c = t.1 in let d = cond_yes (k == active_slot h) (count_of h) 0 (eq-eqb k (active_slot h) t.0) in omega arith)
    (λ (t : (k ≢ active_slot h) × (cond {A = ℕ} (k == active_slot h) (switched_out k h + count_of h) (switched_out k h) ≡ switched_out k h)). let c = t.1 in let d = cond_no (k == active_slot h) (count_of h) 0 (ne_eqb k (active_slot h) t.0) in omega arith)
    (test k (active_slot h) (switched_out k h + count_of h) (switched_out k h))
gone_sum k (Claim p ∷ h) = let before = gone_sum k h in
    ⊎_elim
    (λ (t : (k ≡ active_slot h) × (cond {A = ℕ} (k == active_slot h) (claimed k h + 1) (claimed k h) ≡ claimed k h + 1)). let c = t.1 in let d = cond_yes (k == active_slot h) (count_of h) 0 (eq-eqb k (active_slot h) t.0) in let f = cond_yes (k == active_slot h) (count_of h + 1) 0 (eq-eqb k (active_slot h) t.0) in omega arith)
    (λ (t : (k ≢ active_slot h) × (cond {A = ℕ} (k == active_slot h) (claimed k h + 1) (claimed k h) ≡ claimed k h)). let c = t.1 in let d = cond_no (k == active_slot h) (count_of h) 0 (ne_eqb k (active_slot h) t.0) in let f = cond_no (k == active_slot h) (count_of h + 1) 0 (ne_eqb k (active_slot h) t.0) in omega arith)
    (test k (active_slot h) (claimed k h + 1) (claimed k h))
gone_sum k (Return p ∷ h) = gone_sum k h
gone_sum k (Look s ∷ h) = gone_sum k h
