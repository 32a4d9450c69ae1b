-- The sums of the counts that were switched out.
use Rattle.std.proofs.Common.{ap, refl, ◌≡◌, ◌≢◌, ℕ, zero, suc, ◌+◌, ◌^◌, ◌<◌, ◌==◌, Bool, true, false, List, [], ◌∷◌, length, set, get_or, replicate, sym, ◌∙◌, subst, arith, eq-eqb, ne_eqb, get_or-set_same, get_or-set_other}
use Rattle.ipe_gate_rule.specs.Regions.{BeginsWithImage}
use Rattle.ipe_gate_rule.specs.Active.{bit}
use Rattle.ipe_gate_rule.specs.History.{active_slot, count_of, switched_out}
use Rattle.ipe_gate.specs.Slots.{bound_count}
use mathlib.Core.Logic.{dite}
use native.Mathlib.Decide.{ℕ_discrete}
use Rattle.ipe_gate_rule.specs.declared.event.Event.{Event}
use Rattle.ipe_gate_rule.specs.declared.event.Event.TheVariants.{Switch}
use Rattle.ipe_gate_rule.proofs.Counts.{cond_yes, cond_no}

pub sums_switch : (sums : List ℕ) (active count s : ℕ) (x y : Bool) (before old : List Event) → length sums ≡ 64 → active < 64 → active ≡ active_slot before → count ≡ count_of before
    → ((k : ℕ) → k < 64 → get_or sums k 0 ≡ switched_out k old) → ((k : ℕ) → switched_out k before ≡ switched_out k old)
    → (k : ℕ) → k < 64 → get_or (set sums active (get_or sums active 0 + count)) k 0 ≡ switched_out k (Switch s x y ∷ before)
sums_switch sums active count s x y before old wide small is is' are same k lt =
    let v = get_or sums active 0 + count in
    dite (ℕ_discrete k active)
    (λ e. subst (λ z. get_or (set sums active v) z 0 ≡ switched_out z (Switch s x y ∷ before)) (sym e)
    (get_or-set_same sums active v 0 (omega arith) ∙ (let a = are active small in let b = same active in omega arith) ∙ sym (cond_yes (active == active_slot before) (switched_out active before + count_of before) (switched_out active before) (eq-eqb active (active_slot before) is))))
    (λ ne. get_or-set_other sums active k v 0 ne ∙ are k lt ∙ sym (same k) ∙ sym (cond_no (k == active_slot before) (switched_out k before + count_of before) (switched_out k before) (ne_eqb k (active_slot before) (λ z. ne (z ∙ sym is)))))

-- the sum that grows still fits
pub sum_fits : (sums : List ℕ) (active count s : ℕ) (x y : Bool) (before old : List Event) → active < 64 → active ≡ active_slot before → count ≡ count_of before
    → ((k : ℕ) → k < 64 → get_or sums k 0 ≡ switched_out k old) → ((k : ℕ) → switched_out k before ≡ switched_out k old) → switched_out active (Switch s x y ∷ before) < 2 ^ 63 → get_or sums active 0 + count < 2 ^ 63
sum_fits sums active count s x y before old small is is' are same room =
    let a = are active small in let b = same active in
    let c = cond_yes (active == active_slot before) (switched_out active before + count_of before) (switched_out active before) (eq-eqb active (active_slot before) is) in omega arith

pub zeros_at : (n k : ℕ) → get_or {A = ℕ} (replicate n 0) k 0 ≡ 0
zeros_at zero k = refl
zeros_at (suc n) zero = refl
zeros_at (suc n) (suc k) = zeros_at n k

pub falses_at : (n k : ℕ) → get_or {A = Bool} (replicate n false) k false ≡ false
falses_at zero k = refl
falses_at (suc n) zero = refl
falses_at (suc n) (suc k) = falses_at n k

-- what is bound after one slot was
pub bound_set : (bs : List Bool) (s k : ℕ) → get_or (set bs s true) k false ≡ true → k ≢ s → get_or bs k false ≡ true
bound_set bs s k e ne = sym (get_or-set_other bs s k true false ne) ∙ e

pub bound_less : (bs : List Bool) (s k : ℕ) → get_or (set bs s false) k false ≡ true → get_or bs k false ≡ true
bound_less [] s k e = e
bound_less (b ∷ bs) zero zero e = absurd (cc)
bound_less (b ∷ bs) zero (suc k) e = e
bound_less (b ∷ bs) (suc s) zero e = e
bound_less (b ∷ bs) (suc s) (suc k) e = bound_less bs s k e

-- the same words are an image as before
pub image_moves : (f g : ℕ → ℕ) → ((i : ℕ) → f i ≡ g i) → BeginsWithImage f → BeginsWithImage g
image_moves f g same = subst BeginsWithImage (λ j i. same i j)

pub bound_more : (bs : List Bool) (s k : ℕ) → get_or bs k false ≡ true → get_or (set bs s true) k false ≡ true
bound_more [] s k e = e
bound_more (b ∷ bs) zero zero e = refl
bound_more (b ∷ bs) zero (suc k) e = e
bound_more (b ∷ bs) (suc s) zero e = e
bound_more (b ∷ bs) (suc s) (suc k) e = bound_more bs s k e

pub bound_none : (n : ℕ) → bound_count (replicate n false) ≡ 0
bound_none zero = refl
bound_none (suc n) = let a = bound_none n in omega arith

pub bound_add : (bs : List Bool) (s : ℕ) → s < length bs → get_or bs s false ≡ false → bound_count (set bs s true) ≡ bound_count bs + 1
bound_add [] s lt e = absurd (omega arith)
bound_add (b ∷ bs) zero lt e = let z : bit b ≡ 0 = ap bit e in omega arith
bound_add (b ∷ bs) (suc s) lt e = let a = bound_add bs s (omega arith) e in omega arith

pub bound_sub : (bs : List Bool) (s : ℕ) → get_or bs s false ≡ true → bound_count (set bs s false) + 1 ≡ bound_count bs
bound_sub [] s e = absurd (cc)
bound_sub (b ∷ bs) zero e = let z : bit b ≡ 1 = ap bit e in omega arith
bound_sub (b ∷ bs) (suc s) e = let a = bound_sub bs s e in omega arith
