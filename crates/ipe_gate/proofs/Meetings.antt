-- The administrator meets the passes, one by one.
use Rattle.std.proofs.Common.{◌≡◌, ◌≢◌, ℕ, zero, suc, ◌+◌, ◌<◌, ◌≤◌, List, [], ◌∷◌, length, slice_get, get_or, set, Some, refl, sym, ap, ◌∙◌, subst, arith, length-set}
use mathlib.Core.Logic.{dite}
use native.Mathlib.Decide.{ℕ_discrete}
use Rattle.ipe_gate_rule.specs.History.{GoesOnFrom}
use Rattle.ipe_gate_rule.proofs.Frees.{later_same, later_chain}
use Rattle.ipe_gate.specs.declared.pass.Pass.{Pass}
use Rattle.ipe_gate.specs.declared.administrator.GateAdmin.{GateAdmin}
use Rattle.ipe_gate.specs.Seats.{SameAdmin, SamePass, admin_mine, admin_seen, mine, seen}
use Rattle.ipe_gate.specs.Meeting.{IsMeeting}
use Rattle.ipe_gate.specs.Gathering.{AreAtRest, HasCaughtUp, HaveCaughtUp, IsGathering, IsRound, Knows}
use Rattle.ipe_gate.proofs.Keeping.{same_admin_chain, same_admin_itself}

-- the first i passes were met
pub record Met (o a : GateAdmin) (ps qs : List Pass) (i : ℕ) : Type 0 where
  pub round : IsRound o a
  pub same_length : length qs ≡ length ps
  pub met : (k : ℕ) (p q : Pass) → k < i → slice_get ps k ≡ Some p → slice_get qs k ≡ Some q → HasCaughtUp o p q
  pub known : (k : ℕ) (q : Pass) → k < i → slice_get qs k ≡ Some q → GoesOnFrom (admin_seen a) (seen q)
  pub rest : (k : ℕ) → i ≤ k → slice_get qs k ≡ slice_get ps k

round_none : (o : GateAdmin) → IsRound o o
round_none o = record { keeps = same_admin_itself o; later = later_same (admin_seen o); owned = refl; regions = λ k i. refl }

round_chain : (o a b : GateAdmin) → IsRound o a → IsRound a b → IsRound o b
round_chain o a b x y = record {
  keeps = same_admin_chain o a b x.keeps y.keeps;
  later = later_chain (admin_seen b) (admin_seen a) (admin_seen o) y.later x.later;
  owned = y.owned ∙ x.owned;
  regions = λ k i. y.regions k i ∙ x.regions k i;
}

pub met_none : (o : GateAdmin) (ps : List Pass) → Met o o ps ps 0
met_none o ps = record {
  round = round_none o;
  same_length = refl;
  met = λ k p q lt. absurd (omega arith);
  known = λ k q lt. absurd (omega arith);
  rest = λ k le. refl;
}

some_same : {A : Type 0} (x y : A) → Some x ≡ Some y → x ≡ y
some_same x y e = cc

get_set_same : {A : Type 0} (xs : List A) (i : ℕ) (x y : A) → slice_get (set xs i x) i ≡ Some y → x ≡ y
get_set_same [] i x y e = absurd (cc)
get_set_same (z ∷ xs) zero x y e = some_same x y e
get_set_same (z ∷ xs) (suc i) x y e = get_set_same xs i x y e

get_set_else : {A : Type 0} (xs : List A) (i k : ℕ) (x : A) → k ≢ i → slice_get (set xs i x) k ≡ slice_get xs k
get_set_else [] i k x ne = refl
get_set_else (z ∷ xs) zero zero x ne = absurd (ne refl)
get_set_else (z ∷ xs) zero (suc k) x ne = refl
get_set_else (z ∷ xs) (suc i) zero x ne = refl
get_set_else (z ∷ xs) (suc i) (suc k) x ne = get_set_else xs i k x (λ e. ne (ap suc e))

pub met_more : (o a b : GateAdmin) (ps qs : List Pass) (i : ℕ) (p q : Pass) → Met o a ps qs i → slice_get qs i ≡ Some p
    → IsMeeting p q a b → Met o b ps (set qs i q) (i + 1)
met_more o a b ps qs i p q g at m =
    let n = m.0 in
    let w = m.1 in
    let was : slice_get ps i ≡ Some p = sym (g.rest i (omega arith)) ∙ at in
    let here : HasCaughtUp o p q = record {
      same = n.same;
      owned = n.owned;
      later = n.later;
      later_told = later_chain (seen q) (admin_seen a) (admin_seen o) n.later_told g.round.later;
    } in
    record {
      round = round_chain o a b g.round (record { keeps = w.keeps; later = w.later; owned = w.owned; regions = w.regions });
      same_length = length-set qs i q ∙ g.same_length;
      met = λ k x y lt ex ey. dite (ℕ_discrete k i)
          (λ e. let sx : p ≡ x = some_same p x (sym was ∙ ap (slice_get ps) (sym e) ∙ ex) in
          let sy : q ≡ y = get_set_same qs i q y (ap (slice_get (set qs i q)) (sym e) ∙ ey) in
          subst (λ (z : Pass × Pass). HasCaughtUp o z.0 z.1) (λ j. (sx j, sy j)) here)
          (λ ne. g.met k x y (omega arith) ex (sym (get_set_else qs i k q ne) ∙ ey));
      known = λ k y lt ey. dite (ℕ_discrete k i)
          (λ e. subst (λ z. GoesOnFrom (admin_seen b) (seen z))
          (get_set_same qs i q y (ap (slice_get (set qs i q)) (sym e) ∙ ey)) w.later_told)
          (λ ne. later_chain (admin_seen b) (admin_seen a) (seen y) w.later
          (g.known k y (omega arith) (sym (get_set_else qs i k q ne) ∙ ey)));
      rest = λ k le. get_set_else qs i k q (λ e. absurd (omega arith)) ∙ g.rest k (omega arith);
    }

beyond : {A : Type 0} (xs : List A) (k : ℕ) (y : A) → slice_get xs k ≡ Some y → k < length xs
beyond [] k y e = absurd (cc)
beyond (x ∷ xs) zero y e = omega arith
beyond (x ∷ xs) (suc k) y e = let a = beyond xs k y e in omega arith

pub met_all : (o a : GateAdmin) (ps qs : List Pass) (i : ℕ) → Met o a ps qs i → length qs ≤ i
    → HaveCaughtUp o ps qs × Knows a qs
met_all o a ps qs i g le = (
  (λ k p q ep eq. g.met k p q (let b = beyond qs k q eq in omega arith) ep eq),
  (λ k q eq. g.known k q (let b = beyond qs k q eq in omega arith) eq),
)

pub at_or : {A : Type 0} (xs : List A) (i : ℕ) (d : A) → i < length xs → slice_get xs i ≡ Some (get_or xs i d)
at_or [] i d lt = absurd (omega arith)
at_or (z ∷ xs) zero d lt = refl
at_or (z ∷ xs) (suc i) d lt = at_or xs i d (omega arith)

-- a list of the same length has an item at the same place
pub also_there : {A : Type 0} (xs ys : List A) (k : ℕ) (x : A) → length ys ≡ length xs → slice_get xs k ≡ Some x
    → (y : A) × (slice_get ys k ≡ Some y)
also_there xs ys k x same e = let lt = beyond xs k x e in (get_or ys k x, at_or ys k x (omega arith))

-- the passes are still at rest after a round
pub rest_again : (a b : GateAdmin) (ps qs : List Pass) → AreAtRest a ps → length qs ≡ length ps → IsRound a b
    → HaveCaughtUp a ps qs → AreAtRest b qs
rest_again a b ps qs rest same round caught k q e =
    let p = also_there qs ps k q (sym same) e in
    let before = rest k p.0 p.1 in
    let c = caught k p.0 q p.1 e in
    (c.same.gate ∙ before.0 ∙ sym round.keeps.gate, c.same.held ∙ before.1)

-- two rounds
pub two_rounds : (a b c : GateAdmin) (ps qs rs : List Pass) → IsRound a b → length qs ≡ length ps → HaveCaughtUp a ps qs
    → Knows b qs → IsRound b c → length rs ≡ length qs → HaveCaughtUp b qs rs → Knows c rs → IsGathering a c ps rs
two_rounds a b c ps qs rs x same caught known y same' caught' known' = record {
  admin = round_chain a b c x y;
  same_length = same' ∙ same;
  passes = λ k p r ep er.
      let q = also_there ps qs k p same ep in
      let first = caught k p q.0 ep q.1 in
      let second = caught' k q.0 r q.1 er in
      record {
        same = record {
          gate = second.same.gate ∙ first.same.gate;
          number = second.same.number ∙ first.same.number;
          calls = second.same.calls ∙ first.same.calls;
          held = second.same.held ∙ first.same.held;
        };
        owned = second.owned ∙ first.owned;
        later = later_chain (seen r) (seen q.0) (seen p) second.later first.later;
        later_told = later_chain (seen r) (seen q.0) (admin_seen a) second.later first.later_told;
      };
  known = known';
  all = λ j k p r ep er.
      let q = also_there ps qs j p same ep in
      let first = caught j p q.0 ep q.1 in
      let there = also_there rs qs k r (sym same') er in
      let second = caught' k there.0 r there.1 er in
      later_chain (seen r) (admin_seen b) (seen p) second.later_told
      (later_chain (admin_seen b) (seen q.0) (seen p) (known j q.0 q.1) first.later);
}
