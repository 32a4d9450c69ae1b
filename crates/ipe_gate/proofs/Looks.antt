-- What a look says of a slot.
use Rattle.std.proofs.Common.{◌≡◌, ◌≢◌, ◌⊎◌, inl, inr, ⊎_elim, ℕ, zero, suc, ◌+◌, ◌<◌, ◌≤◌, ◌==◌, Bool, true, false, List, [], ◌∷◌, length, get_or, refl, sym, ap, ◌∙◌, subst, arith}
use Rattle.std.proofs.lemmas.Bool.Decides.{nat_tests}
use Rattle.ipe_gate_rule.specs.declared.event.Event.{Event}
use Rattle.ipe_gate_rule.specs.History.{active_slot, returned, switched_out, out}
use Rattle.ipe_gate_rule.specs.Active.{bit}
use Rattle.ipe_gate_rule.specs.Legal.{Legal, PassesBelow, IsSound}
use Rattle.ipe_gate_rule.specs.Rule.{sum_below}
use Rattle.ipe_gate_rule.proofs.Frees.{drained, not_drained, slot_left}
use Rattle.ipe_gate.specs.Slots.{bound_count}

test_true : (n m : ℕ) → (n == m) ≡ true → n ≡ m
test_true n m e = grind (arith, nat_tests)

test_false : (n m : ℕ) → (n == m) ≡ false → n ≢ m
test_false n m e = grind (arith, nat_tests)

pub look_free : (k n sum : ℕ) (before old : List Event) → n ≡ returned k before → sum ≡ switched_out k old → switched_out k before ≡ switched_out k old → active_slot before ≡ active_slot old → k ≢ active_slot old → (n == sum) ≡ true → out k before ≡ 0
look_free k n sum before old found is same slot ne e = drained k before (λ z. ne (z ∙ slot)) (sym found ∙ test_true n sum e ∙ is ∙ sym same)

pub look_busy : (k n sum : ℕ) (before old : List Event) → n ≡ returned k before → sum ≡ switched_out k old → switched_out k before ≡ switched_out k old → active_slot before ≡ active_slot old → k ≢ active_slot old → 0 < k → Legal before → PassesBelow 30 before → (n == sum) ≡ false → 0 < out k before
look_busy k n sum before old found is same slot ne pos l b e =
    not_drained k before (λ z. ne (z ∙ slot)) (λ z. test_false n sum e (found ∙ z ∙ same ∙ sym is)) 30 pos l b

-- the bound slots, as a sum over all slots
sum-front : (f : ℕ → ℕ) (n : ℕ) → sum_below f (suc n) ≡ f 0 + sum_below (λ k. f (suc k)) n
sum-front f zero = omega arith
sum-front f (suc n) = let a = sum-front f n in omega arith

bound_sum : (bs : List Bool) → sum_below (λ k. bit (get_or bs k false)) (length bs) ≡ bound_count bs
bound_sum [] = refl
bound_sum (b ∷ bs) = sum-front (λ k. bit (get_or (b ∷ bs) k false)) (length bs) ∙ ap (λ n. bit b + n) (bound_sum bs)

is_bit : (b : Bool) → b ≡ true → 0 < bit b
is_bit b e = subst (λ x. 0 < bit x) (sym e) (omega arith)

-- where every slot is bound or held_by, more than 32 are bound
pub none_left : (bs : List Bool) (h : List Event) → length bs ≡ 64 → bound_count bs ≤ 32 → IsSound h → ((k : ℕ) → 0 < k → k < 64 → (get_or bs k false ≡ true) ⊎ (0 < out k h)) → ⊥
none_left bs h len few sound each =
    let sum : sum_below (λ k. bit (get_or bs k false)) (suc 63) ≡ bound_count bs = subst (λ n. sum_below (λ k. bit (get_or bs k false)) n ≡ bound_count bs) len (bound_sum bs) in
    slot_left 30 63 h (λ k. bit (get_or bs k false)) sound.legal sound.below (omega arith) (λ k pos lt. ⊎_elim (λ (t : get_or bs k false ≡ true). inl (is_bit (get_or bs k false) t)) (λ (t : 0 < out k h). inr t) (each k pos lt))
