-- What a seat knows after each of its steps.
use Rattle.std.proofs.Common.{sym, ◌≤◌, ◌≡◌, ℕ, ◌+◌, ◌/◌, ◌%◌, ◌^◌, ◌<◌, ◌==◌, Bool, true, List, [], ◌∷◌, refl, ap, ◌∙◌, subst, arith}
use mathlib.Core.Option.{none}
use Rattle.atomic_table.specs.Table.{Me, step}
use Rattle.ipe_gate_rule.specs.declared.event.Event.{Event}
use Rattle.ipe_gate_rule.specs.declared.event.Event.TheVariants.{Store, Switch, Claim, Return, Look}
use Rattle.ipe_gate_rule.specs.declared.view.Role.TheVariants.{Administrator, OfPass}
use Rattle.ipe_gate_rule.specs.declared.view.View.{View}
use Rattle.ipe_gate_rule.specs.Places.{places_of}
use Rattle.ipe_gate_rule.specs.History.{active_slot, epoch_of, enforce_of, success_of, count_of, held_by, claims_by, returned, content, switched_out}
use Rattle.ipe_gate_rule.specs.Owners.{own_events, administrator_events, is_by_pass, is_administrators, NoSwitchSince}
use Rattle.ipe_gate_rule.specs.Active.{packed_word, active_word, FitsActive, slot_in, enforce_in, success_in}
use Rattle.ipe_gate_rule.specs.Legal.{Legal, PassesBelow, IsSound}
use Rattle.ipe_gate_rule.specs.Plays.{CaughtUp, Stores, Looks, Reads, Adds, Claims, Returns, Switches}
use Rattle.ipe_gate_rule.specs.Views.{is_own, number_of}
use Rattle.ipe_gate_rule.specs.Words.{region_place, slot_at_place, index_at_place}
use Rattle.std.specs.List.{filter}
use Rattle.ipe_gate_rule.proofs.Counts.{eqb-same}
use Rattle.ipe_gate_rule.proofs.Words.{count_part, epoch_part, slot_part, enforce_part, success_part}
use Rattle.ipe_gate_rule.proofs.Counts.{cond_yes, gone_sum, claimed_all, all_few}
use Rattle.ipe_gate_rule.proofs.Frames.{Same}
use Rattle.ipe_gate_rule.proofs.Frees.{calm_quiet}
use Rattle.ipe_gate_rule.proofs.Steps.{knows_places, knows_calls, knows_held, knows_same}

abbrev M : Type 0
M = Me (Unit {0}) View

-- what a pass knows after a claim
claim_knows : (p : ℕ) (v w : View) (before : List Event) → v.role ≡ OfPass p → Adds (Claim p) v w before → (claims_by p w.seen ≡ claims_by p v.seen + 1) × (held_by p w.seen ≡ active_slot before)
claim_knows p v w before is a =
    let owns : own_events p before ≡ own_events p v.seen = subst (λ z. filter (is_own z) before ≡ filter (is_own z) v.seen) is a.owns in (
      ap (claims_by p) a.seen ∙ cond_yes (p == p) (claims_by p before + 1) (claims_by p before) (eqb-same p) ∙ ap (λ k. k + 1) (knows_calls p before v.seen a.later owns),
      ap (held_by p) a.seen ∙ cond_yes (p == p) (active_slot before) (held_by p before) (eqb-same p),
    )

return_knows : (p : ℕ) (v w : View) (before : List Event) → v.role ≡ OfPass p → Adds (Return p) v w before → (claims_by p w.seen ≡ claims_by p v.seen) × (held_by p w.seen ≡ 0)
return_knows p v w before is a =
    let owns : own_events p before ≡ own_events p v.seen = subst (λ z. filter (is_own z) before ≡ filter (is_own z) v.seen) is a.owns in (
      ap (claims_by p) a.seen ∙ knows_calls p before v.seen a.later owns,
      ap (held_by p) a.seen ∙ cond_yes (p == p) 0 (held_by p before) (eqb-same p),
    )

pass_owns : (e : Event) (p : ℕ) (v w : View) (before : List Event) → v.role ≡ OfPass p → is_by_pass p e ≡ true → Adds e v w before → own_events p w.seen ≡ e ∷ own_events p v.seen
pass_owns e p v w before is here a =
    let owns : own_events p before ≡ own_events p v.seen = subst (λ z. filter (is_own z) before ≡ filter (is_own z) v.seen) is a.owns in
    ap (own_events p) a.seen ∙ cond_yes (is_by_pass p e) (e ∷ own_events p before) (own_events p before) here ∙ ap (λ l. e ∷ l) owns

admin_owns : (e : Event) (m : ℕ) (v w : View) (before : List Event) → v.role ≡ Administrator m → is_administrators e ≡ true → Adds e v w before → administrator_events w.seen ≡ e ∷ administrator_events v.seen
admin_owns e m v w before is here a =
    let owns : administrator_events before ≡ administrator_events v.seen = subst (λ z. filter (is_own z) before ≡ filter (is_own z) v.seen) is a.owns in
    ap administrator_events a.seen ∙ cond_yes (is_administrators e) (e ∷ administrator_events before) (administrator_events before) here ∙ ap (λ l. e ∷ l) owns

switch_knows : (s m : ℕ) (x y : Bool) (v w : View) (before : List Event) → v.role ≡ Administrator m → Adds (Switch s x y) v w before → (epoch_of before ≡ epoch_of v.seen) × (epoch_of w.seen ≡ epoch_of v.seen + 1) × (active_slot w.seen ≡ s)
switch_knows s m x y v w before is a =
    let owns : administrator_events before ≡ administrator_events v.seen = subst (λ z. filter (is_own z) before ≡ filter (is_own z) v.seen) is a.owns in
    let e = (knows_same before v.seen a.later owns).epoch in
    (e, ap epoch_of a.seen ∙ ap (λ k. k + 1) e, ap active_slot a.seen)

-- the parts of the word that was found
pub record Found (n : ℕ) (before : List Event) : Type 0 where
  pub count : n % 2 ^ 40 ≡ count_of before
  pub epoch : n / 2 ^ 40 % 2 ^ 16 ≡ epoch_of before
  pub slot : slot_in n ≡ active_slot before
  pub enforce : enforce_in n ≡ enforce_of before
  pub success : success_in n ≡ success_of before

found : (n : ℕ) (h : List Event) → n ≡ active_word h → FitsActive h → Found n h
found n h is z = record {
  count = ap (λ k. k % 2 ^ 40) is ∙ count_part (count_of h) (epoch_of h) (active_slot h) (enforce_of h) (success_of h) z.count;
  epoch = ap (λ k. k / 2 ^ 40 % 2 ^ 16) is ∙ epoch_part (count_of h) (epoch_of h) (active_slot h) (enforce_of h) (success_of h) z.count z.epoch;
  slot = ap slot_in is ∙ slot_part (count_of h) (epoch_of h) (active_slot h) (enforce_of h) (success_of h) z.count z.epoch z.slot;
  enforce = ap enforce_in is ∙ enforce_part (count_of h) (epoch_of h) (active_slot h) (enforce_of h) (success_of h) z.count z.epoch z.slot;
  success = ap success_in is ∙ success_part (count_of h) (epoch_of h) (active_slot h) (enforce_of h) (success_of h) z.count z.epoch z.slot;
}

below_up : (n : ℕ) (h : List Event) → n ≤ 30 → PassesBelow n h → PassesBelow 30 h
below_up n [] le b = tt
below_up n (Store s i w ∷ h) le b = (tt, below_up n h le b.1)
below_up n (Switch s e u ∷ h) le b = (tt, below_up n h le b.1)
below_up n (Claim p ∷ h) le b = ((let lt = b.0 in omega arith), below_up n h le b.1)
below_up n (Return p ∷ h) le b = ((let lt = b.0 in omega arith), below_up n h le b.1)
below_up n (Look s ∷ h) le b = (tt, below_up n h le b.1)

gone_small : (n k : ℕ) (h : List Event) → n ≤ 30 → Legal h → PassesBelow n h → switched_out k h < 2 ^ 63
gone_small n k h few l b = let a = gone_sum k h in let c = claimed_all k h in let d = all_few n h l b in omega arith

pub record ClaimTold (p : ℕ) (m m' : M) (n : ℕ) : Type 0 where
  pub before : List Event
  pub carried : m'.1 ≡ m.1
  pub adds : Adds (Claim p) m.0 m'.0 before
  pub role : m'.0.role ≡ OfPass p
  pub found : Found n before
  pub calls : claims_by p m'.0.seen ≡ claims_by p m.0.seen + 1
  pub held : held_by p m'.0.seen ≡ active_slot before
  pub sound : IsSound before
  pub own : own_events p m'.0.seen ≡ Claim p ∷ own_events p m.0.seen
  pub places : places_of p m'.0.seen ≡ (n / 2 ^ 40 % 2 ^ 16, n % 2 ^ 40) ∷ places_of p m.0.seen

pub claim_told : (m m' : M) (n p : ℕ) → m.0.role ≡ OfPass p → Claims (step 0 0 0 0 none) m n m' → ClaimTold p m m' n
claim_told m m' n p is t =
    let before = t.1.0 in
    let a : Adds (Claim p) m.0 m'.0 before = subst (λ z. Adds (Claim (number_of z)) m.0 m'.0 before) is t.1.2 in
    let k = claim_knows p m.0 m'.0 before is a in
    let w = found n before t.1.1 a.sized in
    let owns : own_events p before ≡ own_events p m.0.seen = subst (λ z. filter (is_own z) before ≡ filter (is_own z) m.0.seen) is a.owns in
    let at : places_of p m'.0.seen ≡ (n / 2 ^ 40 % 2 ^ 16, n % 2 ^ 40) ∷ places_of p m.0.seen =
    ap (places_of p) a.seen ∙ cond_yes (p == p) ((epoch_of before, count_of before) ∷ places_of p before) (places_of p before) (eqb-same p) ∙ (λ i. (sym w.epoch i, sym w.count i) ∷ knows_places p before m.0.seen a.later owns i) in
    record { before = before; carried = t.0; adds = a; role = a.role ∙ is; found = found n before t.1.1 a.sized; calls = k.0; held = k.1; sound = record { legal = a.legal.1; below = below_up a.passes before a.few a.below }; own = pass_owns (Claim p) p m.0 m'.0 before is (eqb-same p) a; places = at }

pub record ReturnTold (p : ℕ) (m m' : M) : Type 0 where
  pub before : List Event
  pub carried : m'.1 ≡ m.1
  pub adds : Adds (Return p) m.0 m'.0 before
  pub role : m'.0.role ≡ OfPass p
  pub calls : claims_by p m'.0.seen ≡ claims_by p m.0.seen
  pub held : held_by p m'.0.seen ≡ 0
  pub own : own_events p m'.0.seen ≡ Return p ∷ own_events p m.0.seen
  pub places : places_of p m'.0.seen ≡ places_of p m.0.seen

pub return_told : (m m' : M) (n p : ℕ) → m.0.role ≡ OfPass p → Returns (step 0 0 0 0 none) m n m' → ReturnTold p m m'
return_told m m' n p is t =
    let before = t.1.0 in
    let a : Adds (Return p) m.0 m'.0 before = subst (λ z. Adds (Return (number_of z)) m.0 m'.0 before) is t.1.1 in
    let k = return_knows p m.0 m'.0 before is a in
    let owns : own_events p before ≡ own_events p m.0.seen = subst (λ z. filter (is_own z) before ≡ filter (is_own z) m.0.seen) is a.owns in
    record { before = before; carried = t.0; adds = a; role = a.role ∙ is; calls = k.0; held = k.1; own = pass_owns (Return p) p m.0 m'.0 before is (eqb-same p) a; places = ap (places_of p) a.seen ∙ knows_places p before m.0.seen a.later owns }

pub record SwitchTold (r s : ℕ) (x y : Bool) (m m' : M) (n : ℕ) : Type 0 where
  pub before : List Event
  pub carried : m'.1 ≡ m.1
  pub adds : Adds (Switch s x y) m.0 m'.0 before
  pub role : m'.0.role ≡ Administrator r
  pub found : Found n before
  pub epoch_was : epoch_of before ≡ epoch_of m.0.seen
  pub epoch : epoch_of m'.0.seen ≡ epoch_of m.0.seen + 1
  pub slot : active_slot m'.0.seen ≡ s
  pub same : Same before m.0.seen
  pub sound : IsSound (Switch s x y ∷ before)
  pub room : (k : ℕ) → switched_out k (Switch s x y ∷ before) < 2 ^ 63
  pub own : administrator_events m'.0.seen ≡ Switch s x y ∷ administrator_events m.0.seen

pub switch_told : (m m' : M) (n r new e s : ℕ) (x y : Bool) → m.0.role ≡ Administrator r → new ≡ packed_word 0 e s x y → e < 2 ^ 16 → s < 64 → Switches (step 0 0 new 0 none) m n m' → SwitchTold r s x y m m' n
switch_told m m' n r new e s x y is new_is he hs t =
    let before = t.1.0 in
    let c0 : 0 < 2 ^ 40 = omega arith in
    let ps = ap slot_in new_is ∙ slot_part 0 e s x y c0 he hs in
    let px = ap enforce_in new_is ∙ enforce_part 0 e s x y c0 he hs in
    let py = ap success_in new_is ∙ success_part 0 e s x y c0 he hs in
    let same : ◌≡◌ {A = Event} (Switch (slot_in new) (enforce_in new) (success_in new)) (Switch s x y) = λ i. Switch (ps i) (px i) (py i) in
    let a : Adds (Switch s x y) m.0 m'.0 before = subst (λ z. Adds z m.0 m'.0 before) same t.1.2 in
    let owns : administrator_events before ≡ administrator_events m.0.seen = subst (λ z. filter (is_own z) before ≡ filter (is_own z) m.0.seen) is a.owns in
    let k = switch_knows s r x y m.0 m'.0 before is a in
    record { before = before; carried = t.0; adds = a; role = a.role ∙ is; found = found n before t.1.1 a.sized; epoch_was = k.0; epoch = k.1; slot = k.2; same = knows_same before m.0.seen a.later owns; sound = record { legal = a.legal; below = (tt, below_up a.passes before a.few a.below) }; room = λ j. gone_small a.passes j (Switch s x y ∷ before) a.few a.legal (tt, a.below); own = admin_owns (Switch s x y) r m.0 m'.0 before is refl a }

-- what the administrator knows after a look
pub record LookTold (r k : ℕ) (m m' : M) (n : ℕ) : Type 0 where
  pub before : List Event
  pub carried : m'.1 ≡ m.1
  pub adds : Adds (Look k) m.0 m'.0 before
  pub role : m'.0.role ≡ Administrator r
  pub found : n ≡ returned k before
  pub same : Same (Look k ∷ before) m.0.seen
  pub calm : NoSwitchSince before m.0.seen
  pub sound : IsSound (Look k ∷ before)
  pub own : administrator_events m'.0.seen ≡ Look k ∷ administrator_events m.0.seen

pub look_told : (m m' : M) (n r k : ℕ) → m.0.role ≡ Administrator r → Looks (step 0 k 0 0 none) m n m' → LookTold r k m m' n
look_told m m' n r k is t =
    let before = t.1.0 in
    let a : Adds (Look k) m.0 m'.0 before = t.1.2 in
    let owns : administrator_events before ≡ administrator_events m.0.seen = subst (λ z. filter (is_own z) before ≡ filter (is_own z) m.0.seen) is a.owns in
    let q = knows_same before m.0.seen a.later owns in
    record {
      before = before;
      carried = t.0;
      adds = a;
      role = a.role ∙ is;
      found = t.1.1;
      same = record { slot = q.slot; epoch = q.epoch; enforce = q.enforce; success = q.success; sums = q.sums; words = q.words };
      calm = calm_quiet before m.0.seen a.later owns;
      sound = record { legal = a.legal; below = (tt, below_up a.passes before a.few a.below) };
      own = admin_owns (Look k) r m.0 m'.0 before is refl a;
    }

pub record StoreTold (r k i x : ℕ) (m m' : M) : Type 0 where
  pub before : List Event
  pub carried : m'.1 ≡ m.1
  pub adds : Adds (Store k i x) m.0 m'.0 before
  pub role : m'.0.role ≡ Administrator r
  pub same : Same before m.0.seen
  pub calm : NoSwitchSince before m.0.seen
  pub sound : IsSound (Store k i x ∷ before)
  pub own : administrator_events m'.0.seen ≡ Store k i x ∷ administrator_events m.0.seen

pub store_told : (m m' : M) (n r k i x : ℕ) → m.0.role ≡ Administrator r → 0 < k → i < 4096 → Stores (step 0 (region_place k i) x 0 none) m n m' → StoreTold r k i x m m'
store_told m m' n r k i x is pos small t =
    let before = t.1.0 in
    let is_slot : slot_at_place (region_place k i) ≡ k = omega arith in
    let is_index : index_at_place (region_place k i) ≡ i = omega arith in
    let a : Adds (Store k i x) m.0 m'.0 before = subst (λ z. Adds z m.0 m'.0 before) (λ j. Store (is_slot j) (is_index j) x) t.1.1 in
    let owns : administrator_events before ≡ administrator_events m.0.seen = subst (λ z. filter (is_own z) before ≡ filter (is_own z) m.0.seen) is a.owns in
    record {
      before = before;
      carried = t.0;
      adds = a;
      role = a.role ∙ is;
      same = knows_same before m.0.seen a.later owns;
      calm = calm_quiet before m.0.seen a.later owns;
      sound = record { legal = a.legal; below = (tt, below_up a.passes before a.few a.below) };
      own = admin_owns (Store k i x) r m.0 m'.0 before is refl a;
    }

pub read_told : (m m' : M) (n p k i : ℕ) → m.0.role ≡ OfPass p → 0 < k → i < 4096 → held_by p m.0.seen ≡ k → Reads (step 0 (region_place k i) 0 0 none) m n m' → (m' ≡ m) × (n ≡ content k i m.0.seen)
read_told m m' n p k i is pos small holds t = (t.0, t.1 k i refl pos small (ap (λ z. held_by (number_of z) m.0.seen) is ∙ holds))

-- what a seat knows after it caught up
pub pass_caught : (p : ℕ) (v w : View) (n : ℕ) → v.role ≡ OfPass p → CaughtUp v w n → (w.role ≡ OfPass p) × (own_events p w.seen ≡ own_events p v.seen) × (claims_by p w.seen ≡ claims_by p v.seen) × (held_by p w.seen ≡ held_by p v.seen)
pass_caught p v w n is c =
    let owns : own_events p w.seen ≡ own_events p v.seen = subst (λ z. filter (is_own z) w.seen ≡ filter (is_own z) v.seen) is c.owns in
    (c.role ∙ is, owns, knows_calls p w.seen v.seen c.later owns, knows_held p w.seen v.seen c.later owns)

pub admin_caught : (r : ℕ) (v w : View) (n : ℕ) → v.role ≡ Administrator r → CaughtUp v w n → (w.role ≡ Administrator r) × (administrator_events w.seen ≡ administrator_events v.seen) × Same w.seen v.seen × IsSound w.seen
admin_caught r v w n is c =
    let owns : administrator_events w.seen ≡ administrator_events v.seen = subst (λ z. filter (is_own z) w.seen ≡ filter (is_own z) v.seen) is c.owns in
    (c.role ∙ is, owns, knows_same w.seen v.seen c.later owns, record { legal = c.legal; below = below_up c.passes w.seen c.few c.below })

pub found_caught : (v w : View) (n : ℕ) → CaughtUp v w n → Found n w.seen
found_caught v w n c = found n w.seen c.found c.sized
