-- Slots that nobody holds.
use Rattle.std.proofs.Common.{append_assoc, ◌≡◌, ◌≢◌, ◌⊎◌, ⊎_elim, ℕ, zero, suc, ◌+◌, ◌<◌, ◌≤◌, ◌==◌, ◌&&◌, Bool, true, false, cond, List, [], ◌∷◌, ◌++◌, refl, sym, ap, ◌∙◌, subst, arith, true≢false, ne_eqb, eq-eqb}
use mathlib.Core.Logic.{dite}
use native.Mathlib.Decide.{ℕ_discrete}
use Rattle.ipe_gate_rule.specs.declared.event.Event.{Event}
use Rattle.ipe_gate_rule.specs.declared.event.Event.TheVariants.{Store, Switch, Claim, Return, Look}
use Rattle.ipe_gate_rule.specs.History.{GoesOnFrom, active_slot, count_of, held_by, claimed, returned, out, switched_out, content}
use Rattle.ipe_gate_rule.specs.Owners.{NoSwitchSince, is_switch, is_by_pass, is_administrators, own_events, administrator_events}
use Rattle.ipe_gate_rule.specs.Legal.{Legal, PassesBelow}
use Rattle.ipe_gate_rule.specs.Rule.{holders, sum_below}
use Rattle.std.specs.List.{filter}
use Rattle.ipe_gate_rule.proofs.Counts.{cond_yes, cond_no, test, claimed_sum, gone_sum}
use Rattle.std.proofs.lemmas.List.Elements.{filter-append}
use Rattle.ipe_gate_rule.proofs.Frames.{none_since, kept_cons, held-quiet, same-quiet}

pub legal_before : (more seen : List Event) → Legal (more ++ seen) → Legal seen
legal_before [] seen l = l
legal_before (e ∷ more) seen l = legal_before more seen l.1

pub below_before : (n : ℕ) (more seen : List Event) → PassesBelow n (more ++ seen) → PassesBelow n seen
below_before n [] seen l = l
below_before n (e ∷ more) seen l = below_before n more seen l.1

-- an event that isn't the administrator's doesn't raise what is out of a slot that isn't active
pub out-else : (k : ℕ) (e : Event) (h : List Event) → is_administrators e ≡ false → k ≢ active_slot h → out k (e ∷ h) ≤ out k h
out-else k (Store s i w) h off ne = absurd (true≢false off)
out-else k (Switch s e u) h off ne = absurd (true≢false off)
out-else k (Claim p) h off ne = let c = cond_no (k == active_slot h) (claimed k h + 1) (claimed k h) (ne_eqb k (active_slot h) ne) in omega arith
out-else k (Return p) h off ne = ⊎_elim
    (λ (t : (k ≡ held_by p h) × (cond (k == held_by p h) (returned k h + 1) (returned k h) ≡ returned k h + 1)). let c = t.1 in omega arith)
    (λ (t : (k ≢ held_by p h) × (cond (k == held_by p h) (returned k h + 1) (returned k h) ≡ returned k h)). let c = t.1 in omega arith)
    (test k (held_by p h) (returned k h + 1) (returned k h))
out-else k (Look s) h off ne = absurd (true≢false off)

-- while the administrator makes no step
pub out-quiet : (k : ℕ) (more seen : List Event) → administrator_events more ≡ [] → k ≢ active_slot seen → out k (more ++ seen) ≤ out k seen
out-quiet k [] seen none ne = omega arith
out-quiet k (e ∷ more) seen none ne = let r = kept_cons (is_administrators e) e (administrator_events more) none in
    let a = out-else k e (more ++ seen) r.0 (λ x. ne (x ∙ (same-quiet more seen r.1).slot)) in let b = out-quiet k more seen r.1 ne in omega arith

-- Law F: between two switches what is out of a slot that isn't active doesn't rise
slot-else : (e : Event) (h : List Event) → is_switch e ≡ false → active_slot (e ∷ h) ≡ active_slot h
slot-else (Store s i w) h off = refl
slot-else (Switch s e u) h off = absurd (true≢false off)
slot-else (Claim p) h off = refl
slot-else (Return p) h off = refl
slot-else (Look s) h off = refl

pub slot-quiet : (more seen : List Event) → filter is_switch more ≡ [] → active_slot (more ++ seen) ≡ active_slot seen
slot-quiet [] seen none = refl
slot-quiet (e ∷ more) seen none = let r = kept_cons (is_switch e) e (filter is_switch more) none in slot-else e (more ++ seen) r.0 ∙ slot-quiet more seen r.1

out-step : (k : ℕ) (e : Event) (h : List Event) → is_switch e ≡ false → k ≢ active_slot h → out k (e ∷ h) ≤ out k h
out-step k (Store s i w) h off ne = omega arith
out-step k (Switch s e u) h off ne = absurd (true≢false off)
out-step k (Claim p) h off ne = out-else k (Claim p) h refl ne
out-step k (Return p) h off ne = out-else k (Return p) h refl ne
out-step k (Look s) h off ne = omega arith

pub law_f : (k : ℕ) (more seen : List Event) → filter is_switch more ≡ [] → k ≢ active_slot seen → out k (more ++ seen) ≤ out k seen
law_f k [] seen none ne = omega arith
law_f k (e ∷ more) seen none ne = let r = kept_cons (is_switch e) e (filter is_switch more) none in
    let a = out-step k e (more ++ seen) r.0 (λ x. ne (x ∙ slot-quiet more seen r.1)) in let b = law_f k more seen r.1 ne in omega arith

-- out is the number of the passes that hold the slot
pub out_holders : (n k : ℕ) (h : List Event) → 0 < k → Legal h → PassesBelow n h → out k h ≡ holders n k h
out_holders n k h pos l b = let c = claimed_sum n k h pos l b in omega arith

sum-one : (f : ℕ → ℕ) (p n : ℕ) → p < n → f p ≤ sum_below f n
sum-one f p zero lt = absurd (omega arith)
sum-one f p (suc n) lt = dite (ℕ_discrete p n)
    (λ e. let a : f p ≡ f n = ap f e in omega arith)
    (λ ne. let a = sum-one f p n (omega arith) in omega arith)

pub held_out : (n p k : ℕ) (h : List Event) → 0 < k → Legal h → PassesBelow n h → p < n → held_by p h ≡ k → 0 < out k h
held_out n p k h pos l b lt is =
    let a = out_holders n k h pos l b in
    let c = sum-one (λ q. cond {A = ℕ} (k == held_by q h) 1 0) p n lt in
    let d : cond {A = ℕ} (k == held_by p h) 1 0 ≡ 1 = cond_yes (k == held_by p h) 1 0 (eq-eqb k (held_by p h) (sym is)) in omega arith

-- what the administrator finds drained is out nowhere
pub drained : (k : ℕ) (h : List Event) → k ≢ active_slot h → returned k h ≡ switched_out k h → out k h ≡ 0
drained k h ne is = let a = gone_sum k h in let b : cond {A = ℕ} (k == active_slot h) (count_of h) 0 ≡ 0 = cond_no (k == active_slot h) (count_of h) 0 (ne_eqb k (active_slot h) ne) in omega arith

pub not_drained : (k : ℕ) (h : List Event) → k ≢ active_slot h → returned k h ≢ switched_out k h → (n : ℕ) → 0 < k → Legal h → PassesBelow n h → 0 < out k h
not_drained k h ne is n pos l b = let a = gone_sum k h in let d : cond {A = ℕ} (k == active_slot h) (count_of h) 0 ≡ 0 = cond_no (k == active_slot h) (count_of h) 0 (ne_eqb k (active_slot h) ne) in let c = claimed_sum n k h pos l b in omega arith

-- the region of a slot stays while a pass holds it
and_no : (a b : Bool) → a ≡ false → (a && b) ≡ false
and_no true b e = absurd (true≢false e)
and_no false b e = refl

content-step : (n p k i : ℕ) (e : Event) (h : List Event) → 0 < k → Legal (e ∷ h) → PassesBelow n h → p < n → held_by p h ≡ k → content k i (e ∷ h) ≡ content k i h
content-step n p k i (Store s j w) h pos l b lt is =
    let some_out = held_out n p k h pos l.1 b lt is in
    let apart : k ≢ s = λ x. let none : out k h ≡ 0 = subst (λ z. out z h ≡ 0) (sym x) l.0.4 in absurd (omega arith) in
    cond_no ((k == s) && (i == j)) w (content k i h) (and_no (k == s) (i == j) (ne_eqb k s apart))
content-step n p k i (Switch s e u) h pos l b lt is = refl
content-step n p k i (Claim q) h pos l b lt is = refl
content-step n p k i (Return q) h pos l b lt is = refl
content-step n p k i (Look s) h pos l b lt is = refl

pub content-quiet : (n p k i : ℕ) (more seen : List Event) → own_events p more ≡ [] → 0 < k → Legal (more ++ seen) → PassesBelow n (more ++ seen) → p < n → held_by p seen ≡ k → content k i (more ++ seen) ≡ content k i seen
content-quiet n p k i [] seen none pos l b lt is = refl
content-quiet n p k i (e ∷ more) seen none pos l b lt is = let r = kept_cons (is_by_pass p e) e (own_events p more) none in
    content-step n p k i e (more ++ seen) pos l b.1 lt (held-quiet p more seen r.1 ∙ is) ∙ content-quiet n p k i more seen r.1 pos l.1 b.1 lt is

-- at most as many slots are out somewhere as there are passes
sum-add : (f g : ℕ → ℕ) (n : ℕ) → sum_below (λ k. f k + g k) n ≡ sum_below f n + sum_below g n
sum-add f g zero = omega arith
sum-add f g (suc n) = let a = sum-add f g n in omega arith

sum-none : (x m : ℕ) → m ≤ x → sum_below (λ k. cond {A = ℕ} (k == x) 1 0) m ≡ 0
sum-none x zero le = refl
sum-none x (suc m) le = let a = sum-none x m (omega arith) in let b : cond {A = ℕ} (m == x) 1 0 ≡ 0 = cond_no (m == x) 1 0 (ne_eqb m x (omega arith)) in omega arith

sum-once : (x m : ℕ) → sum_below (λ k. cond {A = ℕ} (k == x) 1 0) m ≤ 1
sum-once x zero = omega arith
sum-once x (suc m) = dite (ℕ_discrete m x)
    (λ e. let a = sum-none x m (omega arith) in let b : cond {A = ℕ} (m == x) 1 0 ≡ 1 = cond_yes (m == x) 1 0 (eq-eqb m x e) in omega arith)
    (λ ne. let a = sum-once x m in let b : cond {A = ℕ} (m == x) 1 0 ≡ 0 = cond_no (m == x) 1 0 (ne_eqb m x ne) in omega arith)

zeros : (m : ℕ) → sum_below (λ k. 0) m ≡ 0
zeros zero = refl
zeros (suc m) = let a = zeros m in omega arith

pub holders_most : (n m : ℕ) (h : List Event) → sum_below (λ k. holders n k h) m ≤ n
holders_most zero m h = let z = zeros m in omega arith
holders_most (suc n) m h =
    let a = sum-add (λ k. holders n k h) (λ k. cond {A = ℕ} (k == held_by n h) 1 0) m in
    let b = holders_most n m h in
    let c = sum-once (held_by n h) m in omega arith

sum-le : (f g : ℕ → ℕ) (n : ℕ) → ((k : ℕ) → k < n → f k ≤ g k) → sum_below f n ≤ sum_below g n
sum-le f g zero e = omega arith
sum-le f g (suc n) e = let a = sum-le f g n (λ k lt. e k (omega arith)) in let b = e n (omega arith) in omega arith

sum-all : (m : ℕ) → sum_below (λ k. cond {A = ℕ} (k == 0) 0 1) (suc m) ≡ m
sum-all zero = refl
sum-all (suc m) = let a = sum-all m in let b : cond {A = ℕ} (suc m == 0) 0 1 ≡ 1 = cond_no (suc m == 0) 0 1 (ne_eqb (suc m) 0 (omega arith)) in omega arith

-- with few slots bound, some slot is neither bound nor out anywhere. `bound k` is 1 for a bound slot, and else 0
pub slot_left : (n m : ℕ) (h : List Event) (bound : ℕ → ℕ) → Legal h → PassesBelow n h → sum_below bound (suc m) + n < m → ((k : ℕ) → 0 < k → k < suc m → (0 < bound k) ⊎ (0 < out k h)) → ⊥
slot_left n m h bound l b few each =
    let a = sum-add bound (λ k. holders n k h) (suc m) in
    let c = holders_most n (suc m) h in
    let d = sum-all m in
    let e = sum-le (λ k. cond {A = ℕ} (k == 0) 0 1) (λ k. bound k + holders n k h) (suc m) (λ k lt. dite (ℕ_discrete k 0)
    (λ z. let f : cond {A = ℕ} (k == 0) 0 1 ≡ 0 = cond_yes (k == 0) 0 1 (eq-eqb k 0 z) in omega arith)
    (λ ne. let f : cond {A = ℕ} (k == 0) 0 1 ≡ 1 = cond_no (k == 0) 0 1 (ne_eqb k 0 ne) in ⊎_elim (λ (g : 0 < bound k). omega arith) (λ (g : 0 < out k h). let i = out_holders n k h (omega arith) l b in omega arith) (each k (omega arith) lt))) in
    absurd (omega arith)

switch_none : (more : List Event) → administrator_events more ≡ [] → filter is_switch more ≡ []
switch_none [] none = refl
switch_none (Store s i w ∷ more) none = absurd (cc)
switch_none (Switch s e u ∷ more) none = absurd (cc)
switch_none (Claim p ∷ more) none = switch_none more none
switch_none (Return p ∷ more) none = switch_none more none
switch_none (Look s ∷ more) none = absurd (cc)

-- what goes on from a calm history without an event of the administrator
pub calm_quiet : (h seen : List Event) → GoesOnFrom h seen → administrator_events h ≡ administrator_events seen → NoSwitchSince h seen
calm_quiet h seen l a = (l.0, l.1, switch_none l.0 (none_since is_administrators l.0 seen (ap administrator_events (sym l.1) ∙ a)))

pub calm_more : (e : Event) (h seen : List Event) → is_switch e ≡ false → NoSwitchSince h seen → NoSwitchSince (e ∷ h) seen
calm_more e h seen off c = (e ∷ c.0, ap (λ l. e ∷ l) c.1, cond_no (is_switch e) (e ∷ filter is_switch c.0) (filter is_switch c.0) off ∙ c.2)

pub calm_same : (h : List Event) → NoSwitchSince h h
calm_same h = ([], refl, refl)

pub calm_chain : (a b c : List Event) → NoSwitchSince a b → NoSwitchSince b c → NoSwitchSince a c
calm_chain a b c x y = (x.0 ++ y.0, x.1 ∙ ap (λ l. x.0 ++ l) y.1 ∙ sym (append_assoc x.0 y.0 c), filter-append is_switch x.0 y.0 ∙ ap (λ l. l ++ filter is_switch y.0) x.2 ∙ y.2)

pub calm_out : (k : ℕ) (h seen : List Event) → NoSwitchSince h seen → k ≢ active_slot seen → out k h ≤ out k seen
calm_out k h seen c ne = subst (λ l. out k l ≤ out k seen) (sym c.1) (law_f k c.0 seen c.2 ne)

pub calm_slot : (h seen : List Event) → NoSwitchSince h seen → active_slot h ≡ active_slot seen
calm_slot h seen c = ap active_slot c.1 ∙ slot-quiet c.0 seen c.2

-- a history goes on from itself, and from what its beginning goes on from
pub later_same : (h : List Event) → GoesOnFrom h h
later_same h = ([], refl)

pub later_chain : (a b c : List Event) → GoesOnFrom a b → GoesOnFrom b c → GoesOnFrom a c
later_chain a b c x y = (x.0 ++ y.0, x.1 ∙ ap (λ l. x.0 ++ l) y.1 ∙ sym (append_assoc x.0 y.0 c))

pub calm_later : (h seen : List Event) → NoSwitchSince h seen → GoesOnFrom h seen
calm_later h seen c = (c.0, c.1)
