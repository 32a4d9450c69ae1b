-- The seats after a step.
use Rattle.std.proofs.Common.{◌≡◌, ◌≢◌, ⊎_elim, ℕ, false, List, [], ◌∷◌, set, sym, ap, ◌∙◌, subst}
use mathlib.Core.Option.{some}
use lib.ListN.{get_elem?}
use Rattle.atomic_table.proofs.Lists.{at_set}
use Rattle.ipe_gate_rule.specs.declared.event.Event.{Event}
use Rattle.ipe_gate_rule.specs.declared.view.Role.{Role}
use Rattle.ipe_gate_rule.specs.declared.view.Role.TheVariants.{Administrator, OfPass, Nobody}
use Rattle.ipe_gate_rule.specs.declared.view.View.{View}
use Rattle.ipe_gate_rule.specs.History.{GoesOnFrom}
use Rattle.ipe_gate_rule.specs.Owners.{own_events, administrator_events, is_by_pass, is_administrators}
use Rattle.ipe_gate_rule.specs.Views.{RoleFits, OthersFit, Fits}
use Rattle.ipe_gate_rule.proofs.Counts.{cond_no}

abbrev pub Seating : List Event → ℕ → (ℕ → ℕ) → List View → Type 0
Seating h made seat views = (by : ℕ) (v : View) → get_elem? views by ≡ some v → Fits h made seat by v

-- the event isn't of a seat with this role, nor of a pass that it took in
abbrev pub Untouched : Event → (ℕ → ℕ) → Role → Type 0
Untouched e seat (Administrator m) = (is_administrators e ≡ false) × ((p : ℕ) → seat p ≡ 0 → is_by_pass p e ≡ false)
Untouched e seat (OfPass p) = is_by_pass p e ≡ false
Untouched e seat Nobody = Unit {0}

pub later : (e : Event) (h seen : List Event) → GoesOnFrom h seen → GoesOnFrom (e ∷ h) seen
later e h seen l = (e ∷ l.0, ap (λ x. e ∷ x) l.1)

pub others_stay : (e : Event) (h : List Event) (made : ℕ) (seat : ℕ → ℕ) (xs : List (ℕ × List Event)) → ((p : ℕ) → seat p ≡ 0 → is_by_pass p e ≡ false) → OthersFit h made seat xs → OthersFit (e ∷ h) made seat xs
others_stay e h made seat [] off r = tt
others_stay e h made seat (x ∷ xs) off r =
    let a = r.0 in
    ((a.0, a.1, cond_no (is_by_pass x.0 e) (e ∷ own_events x.0 h) (own_events x.0 h) (off x.0 a.0) ∙ a.2, later e h x.1 a.3), others_stay e h made seat xs off r.1)

role_stays : (e : Event) (h : List Event) (made : ℕ) (seat : ℕ → ℕ) (by : ℕ) (role : Role) (seen : List Event) (xs : List (ℕ × List Event)) → Untouched e seat role → RoleFits h made seat by role seen xs → RoleFits (e ∷ h) made seat by role seen xs
role_stays e h made seat by (Administrator m) seen xs off r = (r.0, r.1, cond_no (is_administrators e) (e ∷ administrator_events h) (administrator_events h) off.0 ∙ r.2, others_stay e h made seat xs off.1 r.3)
role_stays e h made seat by (OfPass p) seen xs off r = (r.0, r.1, cond_no (is_by_pass p e) (e ∷ own_events p h) (own_events p h) off ∙ r.2)
role_stays e h made seat by Nobody seen xs off r = tt

-- all seats, where the seat id changes to w
pub seats_set : (h now : List Event) (made after : ℕ) (seat seat' : ℕ → ℕ) (views : List View) (id : ℕ) (w : View) → Seating h made seat views
    → ((by : ℕ) (v : View) → by ≢ id → get_elem? views by ≡ some v → Fits h made seat by v → Fits now after seat' by v) → Fits now after seat' id w → Seating now after seat' (set views id w)
seats_set h now made after seat seat' views id w seats others mine by v at =
    ⊎_elim
    (λ (t : (by ≡ id) × (w ≡ v)). subst (λ (y : ℕ × View). Fits now after seat' y.0 y.1) (λ i. (sym t.0 i, t.1 i)) mine)
    (λ (t : (by ≢ id) × (get_elem? views by ≡ some v)). others by v t.0 t.1 (seats by v t.1))
    (at_set views id by w v at)

-- the same, after an event of the seat id
pub seats_after : (e : Event) (h : List Event) (made : ℕ) (seat : ℕ → ℕ) (views : List View) (id : ℕ) (w : View) → Seating h made seat views
    → ((by : ℕ) (v : View) → by ≢ id → RoleFits h made seat by v.role v.seen v.others → Untouched e seat v.role) → Fits (e ∷ h) made seat id w → Seating (e ∷ h) made seat (set views id w)
seats_after e h made seat views id w seats apart mine =
    seats_set h (e ∷ h) made made seat seat views id w seats (λ by v ne at f. (later e h v.seen f.0, later e h v.told f.1, role_stays e h made seat by v.role v.seen v.others (apart by v ne f.2) f.2)) mine

pub pass_apart : (e : Event) (p : ℕ) → is_administrators e ≡ false → ((q : ℕ) → q ≢ p → is_by_pass q e ≡ false) → (h : List Event) (made : ℕ) (seat : ℕ → ℕ) (id by : ℕ) (role : Role) (seen : List Event) (xs : List (ℕ × List Event)) → id ≡ seat p → by ≢ id → RoleFits h made seat by role seen xs → Untouched e seat role
pass_apart e p off only h made seat id by (Administrator m) seen xs is ne r = (off, λ q z. only q (λ x. ne (r.0 ∙ sym z ∙ ap seat x ∙ sym is)))
pass_apart e p off only h made seat id by (OfPass q) seen xs is ne r = only q (λ x. ne (r.0 ∙ ap seat x ∙ sym is))
pass_apart e p off only h made seat id by Nobody seen xs is ne r = tt

pub admin_apart : (e : Event) → ((q : ℕ) → is_by_pass q e ≡ false) → (h : List Event) (made : ℕ) (seat : ℕ → ℕ) (id by : ℕ) (role : Role) (seen : List Event) (xs : List (ℕ × List Event)) → id ≡ 0 → by ≢ id → RoleFits h made seat by role seen xs → Untouched e seat role
admin_apart e off h made seat id by (Administrator m) seen xs is ne r = absurd (ne (r.0 ∙ sym is))
admin_apart e off h made seat id by (OfPass q) seen xs is ne r = off q
admin_apart e off h made seat id by Nobody seen xs is ne r = tt
