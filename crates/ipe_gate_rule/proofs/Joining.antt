-- Seats that are split off, told and taken in.
use Rattle.std.proofs.Common.{◌≡◌, ◌≢◌, ◌⊎◌, inl, inr, ⊎_elim, ℕ, zero, suc, ◌+◌, ◌^◌, ◌<◌, ◌==◌, cond, List, [], ◌∷◌, ◌++◌, length, set, get_or, refl, sym, ap, ◌∙◌, subst, arith, ne_eqb, eq-eqb, length-set}
use Rattle.std.proofs.lemmas.List.{append-nil}
use mathlib.Core.Logic.{dite}
use native.Mathlib.Decide.{ℕ_discrete}
use mathlib.Core.Option.{some, some-injective, some-ne-none}
use lib.ListN.{get_elem?}
use Rattle.atomic_table.specs.Table.{Splits, Joins, opening}
use Rattle.atomic_table.proofs.Lists.{at_set, set_again}
use Rattle.ipe_gate_rule.specs.declared.event.Event.{Event}
use Rattle.ipe_gate_rule.specs.declared.event.Event.TheVariants.{Store, Switch, Claim, Return, Look}
use Rattle.ipe_gate_rule.specs.declared.view.Role.{Role}
use Rattle.ipe_gate_rule.specs.declared.view.Role.TheVariants.{Administrator, OfPass, Nobody}
use Rattle.ipe_gate_rule.specs.declared.view.View.{View}
use Rattle.ipe_gate_rule.specs.History.{GoesOnFrom}
use Rattle.ipe_gate_rule.specs.Owners.{own_events}
use Rattle.ipe_gate_rule.specs.Legal.{PassesBelow}
use Rattle.ipe_gate_rule.specs.Views.{view_of, now_at, OthersFit, RoleFits, Fits, number_of}
use Rattle.ipe_gate_rule.specs.Words.{region_place, table_words}
use Rattle.ipe_gate_rule.specs.Rule.{Kept}
use Rattle.ipe_gate_rule.specs.Cuts.{rest_view, new_view, rest_role, new_role, teller, tale, hearer, spent_view, taker}
use Rattle.ipe_gate_rule.proofs.Counts.{cond_yes, cond_no}
use Rattle.ipe_gate_rule.proofs.Seats.{Seating, seats_set}

below_more : (n : ℕ) (h : List Event) → PassesBelow n h → PassesBelow (suc n) h
below_more n [] b = tt
below_more n (Store s i w ∷ h) b = (tt, below_more n h b.1)
below_more n (Switch s e u ∷ h) b = (tt, below_more n h b.1)
below_more n (Claim p ∷ h) b = ((let lt = b.0 in omega arith), below_more n h b.1)
below_more n (Return p ∷ h) b = ((let lt = b.0 in omega arith), below_more n h b.1)
below_more n (Look s ∷ h) b = (tt, below_more n h b.1)

own_new : (n : ℕ) (h : List Event) → PassesBelow n h → own_events n h ≡ []
own_new n [] b = refl
own_new n (Store s i w ∷ h) b = own_new n h b.1
own_new n (Switch s e u ∷ h) b = own_new n h b.1
own_new n (Claim p ∷ h) b = cond_no (n == p) (Claim p ∷ own_events n h) (own_events n h) (ne_eqb n p (let lt = b.0 in omega arith)) ∙ own_new n h b.1
own_new n (Return p ∷ h) b = cond_no (n == p) (Return p ∷ own_events n h) (own_events n h) (ne_eqb n p (let lt = b.0 in omega arith)) ∙ own_new n h b.1
own_new n (Look s ∷ h) b = own_new n h b.1

at_end : {A : Type 0} (l : List A) (a b : A) (j : ℕ) → get_elem? (l ++ a ∷ []) j ≡ some b → (get_elem? l j ≡ some b) ⊎ ((j ≡ length l) × (a ≡ b))
at_end [] a b zero e = inr (refl, some-injective a b e)
at_end [] a b (suc j) e = absurd (some-ne-none b (sym e))
at_end (x ∷ xs) a b zero e = inl e
at_end (x ∷ xs) a b (suc j) e = ⊎_elim (λ t. inl t) (λ t. inr (ap suc t.0, t.1)) (at_end xs a b j e)

-- all seats with a new one
seats_grow : (h : List Event) (made : ℕ) (seat : ℕ → ℕ) (views : List View) (w : View) → Seating h made seat views → Fits h made seat (length views) w → Seating h made seat (views ++ w ∷ [])
seats_grow h made seat views w seats mine by v at =
    ⊎_elim
    (λ (t : get_elem? views by ≡ some v). seats by v t)
    (λ (t : (by ≡ length views) × (w ≡ v)). subst (λ (y : ℕ × View). Fits h made seat y.0 y.1) (λ i. (sym t.0 i, t.1 i)) mine)
    (at_end views w v by at)

role_grows : (h : List Event) (made at : ℕ) (seat : ℕ → ℕ) (id by : ℕ) (role : Role) (seen : List Event) (xs : List (ℕ × List Event)) → id ≡ 0 → by ≢ id → RoleFits h made seat by role seen xs → RoleFits h (suc made) (λ q. cond (q == made) at (seat q)) by role seen xs
role_grows h made at seat id by (Administrator m) seen xs is ne r = absurd (ne (r.0 ∙ sym is))
role_grows h made at seat id by (OfPass p) seen xs is ne r = let lt = r.1 in (r.0 ∙ sym (cond_no (p == made) at (seat p) (ne_eqb p made (omega arith))), omega arith, r.2)
role_grows h made at seat id by Nobody seen xs is ne r = tt

others_grow : (h : List Event) (made at : ℕ) (seat : ℕ → ℕ) (xs : List (ℕ × List Event)) → OthersFit h made seat xs → OthersFit h (suc made) (λ q. cond (q == made) at (seat q)) xs
others_grow h made at seat [] r = tt
others_grow h made at seat (x ∷ xs) r = let a = r.0 in let lt = a.1 in ((cond_no (x.0 == made) at (seat x.0) (ne_eqb x.0 made (omega arith)) ∙ a.0, omega arith, a.2, a.3), others_grow h made at seat xs r.1)

pub new_pass : (id : ℕ) (v : View) (m : ℕ) → v.role ≡ Administrator m → m < 30 → Splits Kept id v (rest_view v) (new_view v)
new_pass id v m is few s r at =
    let h = r.history in
    let fit = r.seats id v at in
    let role = subst (λ z. RoleFits h r.made r.seat id z v.seen v.others) is fit.2 in
    let left = now_at v (Administrator (m + 1)) v.seen in
    let right = view_of (OfPass m) [] in
    let end = length s.views in
    let seat' : ℕ → ℕ = λ q. cond (q == r.made) end (r.seat q) in
    let there : seat' m ≡ end = cond_yes (m == r.made) end (r.seat m) (eq-eqb m r.made role.1) in
    let nothing : GoesOnFrom h [] = (h, sym (append-nil h)) in
    let all : Seating h (suc r.made) seat' (set s.views id left ++ right ∷ []) = seats_grow h (suc r.made) seat' (set s.views id left) right
    (seats_set h h r.made (suc r.made) r.seat seat' s.views id left r.seats (λ by u ne at' f. (f.0, f.1, role_grows h r.made end r.seat id by u.role u.seen u.others role.0 ne f.2))
    (fit.0, fit.1, (role.0, (let q = role.1 in omega arith), role.2, others_grow h r.made end r.seat v.others role.3)))
    (nothing, nothing, (length-set s.views id left ∙ sym there, (let q = role.1 in omega arith), subst (λ z. own_events z h ≡ []) (sym role.1) (own_new r.made h r.below))) in
    subst (λ z. Kept (record { words = s.words; homes = s.homes; views = set s.views id (now_at v (rest_role z) v.seen) ++ view_of (new_role z) [] ∷ [] })) (sym is)
    (record { history = h; made = suc r.made; seat = seat'; few = (let q = role.1 in omega arith); legal = r.legal; below = below_more r.made h r.below; words = r.words; seats = all })

pub tells : (id : ℕ) (v : View) → Splits Kept id v (teller v) (tale v)
tells id v s r at =
    let h = r.history in
    let fit = r.seats id v at in
    record {
      history = h;
      made = r.made;
      seat = r.seat;
      few = r.few;
      legal = r.legal;
      below = r.below;
      words = r.words;
      seats = seats_grow h r.made r.seat (set s.views id v) (tale v) (subst (λ l. Seating h r.made r.seat l) (sym (set_again s.views id v at)) r.seats) (fit.0, (h, sym (append-nil h)), tt);
    }

-- what the joined view was, where it isn't the seat's own_events
joined : (views : List View) (id other : ℕ) (both w : View) → other ≢ id → get_elem? (set views id both) other ≡ some w → get_elem? views other ≡ some w
joined views id other both w ne at = ⊎_elim (λ (t : (other ≡ id) × (both ≡ w)). absurd (ne t.0)) (λ (t : (other ≢ id) × (get_elem? views other ≡ some w)). t.1) (at_set views id other both w at)

gone_fits : (h : List Event) (made : ℕ) (seat : ℕ → ℕ) (by : ℕ) → Fits h made seat by spent_view
gone_fits h made seat by = ((h, sym (append-nil h)), (h, sym (append-nil h)), tt)

pub hears : (id : ℕ) (v : View) (other : ℕ) (w : View) → Joins Kept id v other w (hearer v w) spent_view
hears id v other w s r at ne at' =
    let h = r.history in
    let both = hearer v w in
    let fit = r.seats id v at in
    let theirs = r.seats other w (joined s.views id other both w ne at') in
    record {
      history = h;
      made = r.made;
      seat = r.seat;
      few = r.few;
      legal = r.legal;
      below = r.below;
      words = r.words;
      seats = seats_set h h r.made r.made r.seat r.seat (set s.views id both) other spent_view
          (seats_set h h r.made r.made r.seat r.seat s.views id both r.seats (λ by u n a f. f) (fit.0, theirs.0, fit.2))
          (λ by u n a f. f) (gone_fits h r.made r.seat other);
    }

others_taken : (h : List Event) (made p : ℕ) (seat : ℕ → ℕ) (xs : List (ℕ × List Event)) → OthersFit h made seat xs → OthersFit h made (λ q. cond (q == p) 0 (seat q)) xs
others_taken h made p seat [] r = tt
others_taken h made p seat (x ∷ xs) r = let a = r.0 in
    ((dite (ℕ_discrete x.0 p) (λ e. cond_yes (x.0 == p) 0 (seat x.0) (eq-eqb x.0 p e)) (λ n. cond_no (x.0 == p) 0 (seat x.0) (ne_eqb x.0 p n) ∙ a.0), a.1, a.2, a.3), others_taken h made p seat xs r.1)

role_taken : (h : List Event) (made p : ℕ) (seat : ℕ → ℕ) (other by : ℕ) (role : Role) (seen : List Event) (xs : List (ℕ × List Event)) → other ≡ seat p → by ≢ other → RoleFits h made seat by role seen xs → RoleFits h made (λ q. cond (q == p) 0 (seat q)) by role seen xs
role_taken h made p seat other by (Administrator m) seen xs is ne r = (r.0, r.1, r.2, others_taken h made p seat xs r.3)
role_taken h made p seat other by (OfPass q) seen xs is ne r = (r.0 ∙ sym (cond_no (q == p) 0 (seat q) (ne_eqb q p (λ e. ne (r.0 ∙ ap seat e ∙ sym is)))), r.1, r.2)
role_taken h made p seat other by Nobody seen xs is ne r = tt

pub takes_in : (id : ℕ) (v : View) (m other : ℕ) (w : View) (p : ℕ) → v.role ≡ Administrator m → w.role ≡ OfPass p → Joins Kept id v other w (taker v w) spent_view
takes_in id v m other w p is is' s r at ne at' =
    let h = r.history in
    let both = taker v w in
    let fit = r.seats id v at in
    let theirs = r.seats other w (joined s.views id other both w ne at') in
    let role = subst (λ z. RoleFits h r.made r.seat id z v.seen v.others) is fit.2 in
    let role' = subst (λ z. RoleFits h r.made r.seat other z w.seen w.others) is' theirs.2 in
    let seat' : ℕ → ℕ = λ q. cond (q == p) 0 (r.seat q) in
    let here : OthersFit h r.made seat' ((p, w.seen) ∷ v.others) = ((cond_yes (p == p) 0 (r.seat p) (eq-eqb p p refl), role'.1, role'.2, theirs.0), others_taken h r.made p r.seat v.others role.3) in
    let mine : RoleFits h r.made seat' id v.role v.seen ((number_of w.role, w.seen) ∷ v.others) =
    subst (λ (z : Role × Role). RoleFits h r.made seat' id z.0 v.seen ((number_of z.1, w.seen) ∷ v.others)) (λ i. (sym is i, sym is' i)) (role.0, role.1, role.2, here) in
    record {
      history = h;
      made = r.made;
      seat = seat';
      few = r.few;
      legal = r.legal;
      below = r.below;
      words = r.words;
      seats = λ by u at''. ⊎_elim
          (λ (t : (by ≡ other) × (spent_view ≡ u)). subst (λ (y : ℕ × View). Fits h r.made seat' y.0 y.1) (λ i. (sym t.0 i, t.1 i)) (gone_fits h r.made seat' other))
          (λ (t : (by ≢ other) × (get_elem? (set s.views id both) by ≡ some u)). ⊎_elim
          (λ (t' : (by ≡ id) × (both ≡ u)). subst (λ (y : ℕ × View). Fits h r.made seat' y.0 y.1) (λ i. (sym t'.0 i, t'.1 i)) (fit.0, fit.1, mine))
          (λ (t' : (by ≢ id) × (get_elem? s.views by ≡ some u)). let f = r.seats by u t'.1 in (f.0, f.1, role_taken h r.made p r.seat other by u.role u.seen u.others role'.0 t.0 f.2))
          (at_set s.views id by both u t.1))
          (at_set (set s.views id both) other by spent_view u at'');
    }

pub opens : (ws : List ℕ) → length ws ≡ table_words → get_or ws 0 0 ≡ 2 ^ 62 → ((k : ℕ) → 0 < k → get_or ws k 0 ≡ 0) → Kept (opening ws [] (view_of (Administrator 0) []))
opens ws wide first rest = record {
  history = [];
  made = 0;
  seat = λ q. 0;
  few = omega arith;
  legal = tt;
  below = tt;
  words = record { wide = wide; active = first; returns = λ k pos lt. rest k pos; regions = λ k i pos lt small. rest (region_place k i) (omega arith) };
  seats = one;
}
  where
    one : (by : ℕ) (v : View) → get_elem? (view_of (Administrator 0) [] ∷ []) by ≡ some v → Fits [] 0 (λ q. 0) by v
    one zero v e = subst (Fits [] 0 (λ q. 0) 0) (some-injective (view_of (Administrator 0) []) v e) (([], refl), ([], refl), (refl, refl, refl, tt))
    one (suc by) v e = absurd (some-ne-none v (sym e))
