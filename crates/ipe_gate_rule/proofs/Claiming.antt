-- The places of claims.
use Rattle.std.proofs.Common.{◌≡◌, inl, inr, ⊎_elim, ℕ, ◌+◌, ◌<◌, ◌==◌, List, [], ◌∷◌, length, refl, sym, ap, ◌∙◌, subst, arith, eq-eqb, ne_eqb}
use mathlib.Core.Logic.{dite}
use native.Mathlib.Decide.{ℕ_discrete}
use Rattle.ipe_gate_rule.specs.declared.event.Event.{Event}
use Rattle.ipe_gate_rule.specs.declared.event.Event.TheVariants.{Store, Switch, Claim, Return, Look}
use Rattle.ipe_gate_rule.specs.History.{epoch_of, count_of}
use Rattle.ipe_gate_rule.specs.Places.{claims_in, counts_in, AllBefore, InOrder, IsCountdown}
use Rattle.ipe_gate_rule.proofs.Counts.{cond_yes, cond_no, eqb-same}

before_count : (e c : ℕ) (xs : List (ℕ × ℕ × ℕ)) → AllBefore e c xs → AllBefore e (c + 1) xs
before_count e c [] b = tt
before_count e c (x ∷ xs) b = (⊎_elim (λ (t : x.0 < e). inl t) (λ (t : (x.0 ≡ e) × (x.1 < c)). inr (t.0, (let l = t.1 in omega arith))) b.0, before_count e c xs b.1)

before_epoch : (e c : ℕ) (xs : List (ℕ × ℕ × ℕ)) → AllBefore e c xs → AllBefore (e + 1) 0 xs
before_epoch e c [] b = tt
before_epoch e c (x ∷ xs) b = (⊎_elim (λ (t : x.0 < e). inl (omega arith)) (λ (t : (x.0 ≡ e) × (x.1 < c)). inl (let l = t.0 in omega arith)) b.0, before_epoch e c xs b.1)

pub claims_before : (h : List Event) → AllBefore (epoch_of h) (count_of h) (claims_in h)
claims_before [] = tt
claims_before (Store s i w ∷ h) = claims_before h
claims_before (Switch s e u ∷ h) = before_epoch (epoch_of h) (count_of h) (claims_in h) (claims_before h)
claims_before (Claim p ∷ h) = (inr (refl, omega arith), before_count (epoch_of h) (count_of h) (claims_in h) (claims_before h))
claims_before (Return p ∷ h) = claims_before h
claims_before (Look s ∷ h) = claims_before h

-- the claims stand in the order of their places_of, and no place is twice
pub claims_stand : (h : List Event) → InOrder (claims_in h)
claims_stand [] = tt
claims_stand (Store s i w ∷ h) = claims_stand h
claims_stand (Switch s e u ∷ h) = claims_stand h
claims_stand (Claim p ∷ h) = (claims_before h, claims_stand h)
claims_stand (Return p ∷ h) = claims_stand h
claims_stand (Look s ∷ h) = claims_stand h

-- no claim is in an epoch that is still to come
none_yet : (h : List Event) (e : ℕ) → epoch_of h < e → counts_in e h ≡ []
none_yet [] e lt = refl
none_yet (Store s i w ∷ h) e lt = none_yet h e lt
none_yet (Switch s x u ∷ h) e lt = none_yet h e (omega arith)
none_yet (Claim p ∷ h) e lt =
    cond_no (e == epoch_of h) (count_of h ∷ counts_in e h) (counts_in e h) (ne_eqb e (epoch_of h) (omega arith))
    ∙ none_yet h e lt
none_yet (Return p ∷ h) e lt = none_yet h e lt
none_yet (Look s ∷ h) e lt = none_yet h e lt

-- in the present epoch there are as many as the count says
as_counted : (h : List Event) → length (counts_in (epoch_of h) h) ≡ count_of h
as_counted [] = refl
as_counted (Store s i w ∷ h) = as_counted h
as_counted (Switch s x u ∷ h) = ap length (none_yet h (epoch_of h + 1) (omega arith))
as_counted (Claim p ∷ h) =
    ap length (cond_yes (epoch_of h == epoch_of h) (count_of h ∷ counts_in (epoch_of h) h) (counts_in (epoch_of h) h)
    (eqb-same (epoch_of h))) ∙ (let n = as_counted h in omega arith)
as_counted (Return p ∷ h) = as_counted h
as_counted (Look s ∷ h) = as_counted h

-- the counts of an epoch fall to 0, one by one
pub counts_fall : (h : List Event) (e : ℕ) → IsCountdown (counts_in e h)
counts_fall [] e = tt
counts_fall (Store s i w ∷ h) e = counts_fall h e
counts_fall (Switch s x u ∷ h) e = counts_fall h e
counts_fall (Claim p ∷ h) e = dite (ℕ_discrete e (epoch_of h))
    (λ is. subst IsCountdown
    (sym (cond_yes (e == epoch_of h) (count_of h ∷ counts_in e h) (counts_in e h) (eq-eqb e (epoch_of h) is)))
    (sym (as_counted h) ∙ ap (λ z. length (counts_in z h)) (sym is), counts_fall h e))
    (λ ne. subst IsCountdown
    (sym (cond_no (e == epoch_of h) (count_of h ∷ counts_in e h) (counts_in e h) (ne_eqb e (epoch_of h) ne)))
    (counts_fall h e))
counts_fall (Return p ∷ h) e = counts_fall h e
counts_fall (Look s ∷ h) e = counts_fall h e
