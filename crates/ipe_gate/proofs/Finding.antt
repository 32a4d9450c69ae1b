-- The search for a slot, look by look.
use Rattle.std.proofs.Common.{◌≡◌, ◌≢◌, ◌⊎◌, inl, inr, ⊎_elim, ℕ, suc, ◌+◌, ◌-◌, ◌<◌, Bool, true, false, true≢false, List, [], ◌∷◌, ◌++◌, get_or, refl, sym, ap, ◌∙◌, subst, arith}
use mathlib.Core.Logic.{dite}
use native.Mathlib.Decide.{ℕ_discrete}
use Rattle.ipe_gate_rule.specs.declared.event.Event.{Event}
use Rattle.ipe_gate_rule.specs.declared.event.Event.TheVariants.{Look}
use Rattle.ipe_gate_rule.specs.History.{GoesOnFrom, active_slot, out}
use Rattle.ipe_gate_rule.specs.Owners.{NoSwitchSince}
use Rattle.ipe_gate_rule.proofs.Counts.{cond_yes, cond_no}
use Rattle.ipe_gate_rule.proofs.Frees.{calm_more, calm_chain, calm_out, calm_same, later_chain}
use Rattle.ipe_gate.specs.declared.administrator.GateAdmin.{GateAdmin}
use Rattle.ipe_gate.specs.Seats.{IsBound, SameAdmin, SameRegions, admin_mine, admin_seen}
use Rattle.ipe_gate.specs.Placing.{IsFound, IsLook, WasOut, looks_to}
use Rattle.ipe_gate.proofs.Keeping.{same_admin_chain, same_admin_itself}

-- how far the search has come: every slot below k is bound, or claims were out of it when it was looked at
pub record Sought (o p : GateAdmin) (k : ℕ) : Type 0 where
  pub keeps : SameAdmin o p
  pub calm : NoSwitchSince (admin_seen p) (admin_seen o)
  pub regions : SameRegions (admin_seen p) (admin_seen o)
  pub mine_is : (n : ℕ) → suc n ≡ k → admin_mine p ≡ looks_to o.bound n ++ admin_mine o
  pub each : (j : ℕ) → 0 < j → j < k → IsBound o j ⊎ WasOut j (admin_seen o) (admin_seen p)

pub sought_none : (o : GateAdmin) → Sought o o 1
sought_none o = record {
  keeps = same_admin_itself o;
  calm = calm_same (admin_seen o);
  regions = λ k i. refl;
  mine_is = λ n e. let z : n ≡ 0 = omega arith in ap (λ m. looks_to o.bound m ++ admin_mine o) (sym z);
  each = λ j pos lt. absurd (omega arith);
}

-- a slot that isn't bound isn't active
pub not_active : (p : GateAdmin) (k : ℕ) → 0 < k → get_or p.bound k false ≡ false → k ≢ p.active
not_active p k pos free e =
    true≢false (sym (p.active_bound (subst (λ z. 0 < z) e pos)) ∙ ap (λ z. get_or p.bound z false) (sym e) ∙ free)

looked_calm : (p q : GateAdmin) (k : ℕ) (r : Bool) → IsLook k p q r → NoSwitchSince (admin_seen q) (admin_seen p)
looked_calm p q k r l =
    let c = calm_more (Look k) l.before (admin_seen p) refl l.calm in (c.0, l.step.seen_is ∙ c.1, c.2)

-- the looks up to one more slot, where it was looked at
looks_more : (bound : List Bool) (n : ℕ) (mine now old : List Event) → get_or bound (suc n) false ≡ false
    → mine ≡ looks_to bound n ++ old → now ≡ Look (suc n) ∷ mine → now ≡ looks_to bound (suc n) ++ old
looks_more bound n mine now old free before step =
    step ∙ ap (λ l. Look (suc n) ∷ l) before
    ∙ sym (ap (λ l. l ++ old)
    (cond_no (get_or bound (suc n) false) (looks_to bound n) (Look (suc n) ∷ looks_to bound n) free))

-- and where it is bound
looks_same : (bound : List Bool) (n : ℕ) (mine old : List Event) → get_or bound (suc n) false ≡ true
    → mine ≡ looks_to bound n ++ old → mine ≡ looks_to bound (suc n) ++ old
looks_same bound n mine old is before =
    before ∙ sym (ap (λ l. l ++ old)
    (cond_yes (get_or bound (suc n) false) (looks_to bound n) (Look (suc n) ∷ looks_to bound n) is))

-- what was out at some moment was so also before a later one
out_later : (k : ℕ) (first mid last : List Event) → GoesOnFrom last mid → WasOut k first mid → WasOut k first last
out_later k first mid last l w =
    record { between = w.between; since = w.since; until = later_chain last mid w.between l w.until; some = w.some }

-- what is known of the slots below stays after a look
pub each_later : (o p q : GateAdmin) (k : ℕ) → GoesOnFrom (admin_seen q) (admin_seen p)
    → ((j : ℕ) → 0 < j → j < k → IsBound o j ⊎ WasOut j (admin_seen o) (admin_seen p))
    → (j : ℕ) → 0 < j → j < k → IsBound o j ⊎ WasOut j (admin_seen o) (admin_seen q)
each_later o p q k l each j pos lt = ⊎_elim
    (λ (t : IsBound o j). inl t)
    (λ (t : WasOut j (admin_seen o) (admin_seen p)). inr (out_later j (admin_seen o) (admin_seen p) (admin_seen q) l t))
    (each j pos lt)

-- the events of the administrator after a look at the slot k
mine_looked : (o p q : GateAdmin) (k : ℕ) (r : Bool) → Sought o p k → 0 < k → get_or p.bound k false ≡ false
    → IsLook k p q r → admin_mine q ≡ looks_to o.bound k ++ admin_mine o
mine_looked o p q k r s pos free l =
    let n = k - 1 in
    let e : suc n ≡ k = omega arith in
    let here : get_or o.bound (suc n) false ≡ false = ap (λ z. get_or o.bound z false) e
    ∙ ap (λ b. get_or b k false) (sym s.keeps.bound) ∙ free in
    let step : admin_mine q ≡ Look (suc n) ∷ admin_mine p = l.step.mine_is ∙ ap (λ z. Look z ∷ admin_mine p) (sym e) in
    looks_more o.bound n (admin_mine p) (admin_mine q) (admin_mine o) here (s.mine_is n e) step
    ∙ ap (λ z. looks_to o.bound z ++ admin_mine o) e

pub sought_found : (o p q : GateAdmin) (k : ℕ) (r : Bool) → Sought o p k → 0 < k → k < 64
    → get_or p.bound k false ≡ false → IsLook k p q r → r ≡ true → IsFound o q k
sought_found o p q k r s pos lt free l is =
    let calm = looked_calm p q k r l in record {
      keeps = same_admin_chain o p q s.keeps l.keeps;
      calm = calm_chain (admin_seen q) (admin_seen p) (admin_seen o) calm s.calm;
      regions = λ j i. l.regions j i ∙ s.regions j i;
      mine_is = mine_looked o p q k r s pos free l;
      some = pos;
      below = lt;
      unbound = ap (λ b. get_or b k false) (sym s.keeps.bound) ∙ free;
      free = l.when_free is;
      lower = each_later o p q k (calm.0, calm.1) s.each;
    }

below_next : (k : ℕ) (P : ℕ → Type 0) → ((j : ℕ) → 0 < j → j < k → P j) → P k → (j : ℕ) → 0 < j → j < k + 1 → P j
below_next k P before here j pos lt =
    dite (ℕ_discrete j k) (λ e. subst P (sym e) here) (λ ne. before j pos (omega arith))

pub sought_busy : (o p q : GateAdmin) (k : ℕ) (r : Bool) → Sought o p k → 0 < k → get_or p.bound k false ≡ false
    → IsLook k p q r → r ≡ false → Sought o q (k + 1)
sought_busy o p q k r s pos free l busy =
    let calm = looked_calm p q k r l in
    let was_out : WasOut k (admin_seen o) (admin_seen q) = record {
      between = l.before;
      since = calm_chain l.before (admin_seen p) (admin_seen o) l.calm s.calm;
      until = (Look k ∷ [], l.step.seen_is);
      some = l.when_busy busy;
    } in
    record {
      keeps = same_admin_chain o p q s.keeps l.keeps;
      calm = calm_chain (admin_seen q) (admin_seen p) (admin_seen o) calm s.calm;
      regions = λ j i. l.regions j i ∙ s.regions j i;
      mine_is = λ n e. mine_looked o p q k r s pos free l
          ∙ (let z : k ≡ n = omega arith in ap (λ m. looks_to o.bound m ++ admin_mine o) z);
      each = below_next k (λ j. IsBound o j ⊎ WasOut j (admin_seen o) (admin_seen q))
          (each_later o p q k (calm.0, calm.1) s.each) (inr was_out);
    }

pub sought_bound : (o p : GateAdmin) (k : ℕ) → Sought o p k → 0 < k → get_or p.bound k false ≡ true → Sought o p (k + 1)
sought_bound o p k s pos is =
    let n = k - 1 in
    let e : suc n ≡ k = omega arith in
    let here : get_or o.bound k false ≡ true = ap (λ b. get_or b k false) (sym s.keeps.bound) ∙ is in
    record {
      keeps = s.keeps;
      calm = s.calm;
      regions = s.regions;
      mine_is = λ m f. let z : suc n ≡ m = omega arith in
          looks_same o.bound n (admin_mine p) (admin_mine o) (ap (λ y. get_or o.bound y false) e ∙ here) (s.mine_is n e)
          ∙ ap (λ y. looks_to o.bound y ++ admin_mine o) z;
      each = below_next k (λ j. IsBound o j ⊎ WasOut j (admin_seen o) (admin_seen p)) s.each (inl here);
    }

-- what was out since the beginning without a switch was out at the beginning
pub out_first : (o p : GateAdmin) (k : ℕ) → k ≢ active_slot (admin_seen o) → WasOut k (admin_seen o) (admin_seen p)
    → 0 < out k (admin_seen o)
out_first o p k ne w = let b = calm_out k w.between (admin_seen o) w.since ne in let a = w.some in omega arith

-- at the end of the search every slot was bound, or claims were out of it when it began
pub all_sought : (o p : GateAdmin) → Sought o p 64 → (k : ℕ) → 0 < k → k < 64
    → (get_or o.bound k false ≡ true) ⊎ (0 < out k (admin_seen o))
all_sought o p s k pos lt = ⊎_elim
    (λ (t : IsBound o k). inl t)
    (λ (t : WasOut k (admin_seen o) (admin_seen p)). bound_or (get_or o.bound k false) refl t)
    (s.each k pos lt)
  where
    bound_or : (b : Bool) → get_or o.bound k false ≡ b → WasOut k (admin_seen o) (admin_seen p)
        → (get_or o.bound k false ≡ true) ⊎ (0 < out k (admin_seen o))
    bound_or true is w = inl is
    bound_or false is w = inr (out_first o p k (λ e. not_active o k pos is (e ∙ sym o.active_is)) w)
