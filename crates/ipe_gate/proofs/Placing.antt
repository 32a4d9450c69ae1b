-- The words of an image, stored one by one.
use Rattle.std.proofs.Common.{get_or-set_same, ◌≡◌, ◌≢◌, ℕ, suc, ◌+◌, ◌<◌, ◌≤◌, ◌++◌, ◌==◌, ◌&&◌, Bool, true, false, true≢false, List, ◌∷◌, length, get_or, set, refl, sym, ap, ◌∙◌, subst, arith, eq-eqb, ne_eqb}
use mathlib.Core.Logic.{dite}
use native.Mathlib.Decide.{ℕ_discrete}
use Rattle.ipe_gate_rule.specs.declared.event.Event.{Event}
use Rattle.ipe_gate_rule.specs.declared.event.Event.TheVariants.{Store}
use Rattle.ipe_gate_rule.specs.Owners.{NoSwitchSince}
use Rattle.ipe_gate_rule.specs.History.{active_slot, epoch_of, out, content}
use Rattle.ipe_gate_rule.specs.Owners.{administrator_events}
use Rattle.ipe_gate_rule.proofs.Counts.{cond_yes, cond_no}
use Rattle.ipe_gate_rule.proofs.Frees.{calm_chain, calm_same}
use Rattle.ipe_gate.proofs.Sums.{bound_add}
use Rattle.ipe_gate.specs.declared.administrator.GateAdmin.{GateAdmin}
use Rattle.ipe_gate.specs.Slots.{bound_count}
use Rattle.ipe_gate.specs.Seats.{SameAdmin, admin_gate, admin_mine, admin_seen}
use Rattle.ipe_gate.specs.Placing.{IsStore, IsFound, IsPlacement, stores_of}
use Rattle.ipe_gate.proofs.Keeping.{same_admin_chain, same_admin_itself}
use Rattle.ipe_gate.proofs.Finding.{each_later}

-- the first n words are stored
pub record Placed (o p : GateAdmin) (slot n : ℕ) (words : List ℕ) : Type 0 where
  pub keeps : SameAdmin o p
  pub calm : NoSwitchSince (admin_seen p) (admin_seen o)
  pub region : (i : ℕ) → i < n → content slot i (admin_seen p) ≡ get_or words i 0
  pub rest : (i : ℕ) → n ≤ i → content slot i (admin_seen p) ≡ content slot i (admin_seen o)
  pub others : (k i : ℕ) → k ≢ slot → content k i (admin_seen p) ≡ content k i (admin_seen o)
  pub mine_is : admin_mine p ≡ stores_of slot words n ++ admin_mine o
  pub free : out slot (admin_seen p) ≡ 0

pub placed_none : (o : GateAdmin) (slot : ℕ) (words : List ℕ) → out slot (admin_seen o) ≡ 0 → Placed o o slot 0 words
placed_none o slot words free = record { keeps = same_admin_itself o; calm = calm_same (admin_seen o); region = λ i lt. absurd (omega arith); rest = λ i le. refl; others = λ k i ne. refl; mine_is = refl; free = free }

and_yes : (a b : Bool) → a ≡ true → b ≡ true → (a && b) ≡ true
and_yes true b e f = f
and_yes false b e f = e

and_left : (a b : Bool) → a ≡ false → (a && b) ≡ false
and_left true b e = absurd (true≢false e)
and_left false b e = refl

and_right : (a b : Bool) → b ≡ false → (a && b) ≡ false
and_right true b e = e
and_right false b e = refl

pub placed_more : (o p q : GateAdmin) (slot n w : ℕ) (words : List ℕ) → Placed o p slot n words → IsStore slot n w p q → w ≡ get_or words n 0 → Placed o q slot (n + 1) words
placed_more o p q slot n w words s t is =
    let b = t.before in
    let here : content slot n (admin_seen q) ≡ get_or words n 0 = ap (content slot n) t.step.seen_is ∙ cond_yes ((slot == slot) && (n == n)) w (content slot n b) (and_yes (slot == slot) (n == n) (eq-eqb slot slot refl) (eq-eqb n n refl)) ∙ is in
    let before : (i : ℕ) → i ≢ n → content slot i (admin_seen q) ≡ content slot i (admin_seen p) = λ i ne. ap (content slot i) t.step.seen_is ∙ cond_no ((slot == slot) && (i == n)) w (content slot i b) (and_right (slot == slot) (i == n) (ne_eqb i n ne)) ∙ t.same slot i in
    record {
      keeps = same_admin_chain o p q s.keeps t.keeps;
      calm = calm_chain (admin_seen q) (admin_seen p) (admin_seen o) t.calm s.calm;
      region = λ i lt. dite (ℕ_discrete i n) (λ e. subst (λ j. content slot j (admin_seen q) ≡ get_or words j 0) (sym e) here) (λ ne. before i ne ∙ s.region i (omega arith));
      rest = λ i le. before i (λ e. absurd (omega arith)) ∙ s.rest i (omega arith);
      mine_is = let e : suc n ≡ n + 1 = omega arith in
          subst (λ m. admin_mine q ≡ stores_of slot words m ++ admin_mine o) e
          (t.step.mine_is ∙ (λ j. Store slot n (is j) ∷ s.mine_is j));
      others = λ k i ne. ap (content k i) t.step.seen_is ∙ cond_no ((k == slot) && (i == n)) w (content k i b) (and_left (k == slot) (i == n) (ne_eqb k slot ne)) ∙ t.same k i ∙ s.others k i ne;
      free = t.free;
    }

pub placed_all : (p o q r : GateAdmin) (slot : ℕ) (words : List ℕ) → IsFound p o slot → Placed o q slot (length words) words
    → r.bound ≡ set q.bound slot true → admin_seen r ≡ admin_seen q → admin_gate r ≡ admin_gate q → r.passes ≡ q.passes
    → IsPlacement p r slot words
placed_all p o q r slot words f s bound seen gate passes =
    let c = calm_chain (admin_seen q) (admin_seen o) (admin_seen p) s.calm f.calm in
    let all : r.bound ≡ set p.bound slot true = bound ∙ ap (λ b. set b slot true) (s.keeps.bound ∙ f.keeps.bound) in
    let within : slot < length p.bound = (let a = p.bound_len in let b = f.below in omega arith) in
    record {
      gate = gate ∙ s.keeps.gate ∙ f.keeps.gate;
      passes = passes ∙ s.keeps.passes ∙ f.keeps.passes;
      epoch = ap epoch_of seen ∙ s.keeps.epoch ∙ f.keeps.epoch;
      active = ap active_slot seen ∙ s.keeps.active ∙ f.keeps.active;
      calm = (c.0, seen ∙ c.1, c.2);
      mine_is = ap administrator_events seen ∙ s.mine_is ∙ ap (λ l. stores_of slot words (length words) ++ l) f.mine_is;
      some = f.some;
      below = f.below;
      unbound = f.unbound;
      lower = each_later p o r slot (s.calm.0, seen ∙ s.calm.1) f.lower;
      bound = all;
      more = ap bound_count all ∙ bound_add p.bound slot within f.unbound;
      is_bound = ap (λ b. get_or b slot false) all ∙ get_or-set_same p.bound slot true false within;
      region = λ i lt. ap (content slot i) seen ∙ s.region i lt;
      rest = λ i le. ap (content slot i) seen ∙ s.rest i le ∙ f.regions slot i;
      others = λ k i ne. ap (content k i) seen ∙ s.others k i ne ∙ f.regions k i;
    }

-- a store leaves the other regions
pub store_else : (k s i j w : ℕ) (h : List Event) → k ≢ s → content k i (Store s j w ∷ h) ≡ content k i h
store_else k s i j w h ne = cond_no ((k == s) && (i == j)) w (content k i h) (and_left (k == s) (i == j) (ne_eqb k s ne))

pub bound_apart : (bs : List Bool) (k s : ℕ) → get_or bs k false ≡ true → get_or bs s false ≡ false → k ≡ s → ⊥
bound_apart bs k s is isnt e = true≢false (sym is ∙ ap (λ z. get_or bs z false) e ∙ isnt)
