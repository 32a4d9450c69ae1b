-- Each step keeps the rule.
use Rattle.std.proofs.Common.{◌≡◌, ◌≢◌, ℕ, ◌+◌, ◌%◌, ◌^◌, ◌<◌, ◌≤◌, Bool, false, List, [], ◌∷◌, set, get_or, refl, sym, ap, ◌∙◌, subst, arith, ne_eqb}
use mathlib.Core.Option.{some, none}
use lib.ListN.{get_elem?}
use Rattle.atomic_table.specs.Table.{State, Me, step, keeps, Allows}
use Rattle.atomic_table.proofs.Lists.{set_again}
use Rattle.ipe_gate_rule.specs.declared.event.Event.{Event}
use Rattle.ipe_gate_rule.specs.declared.event.Event.TheVariants.{Store, Switch, Claim, Return, Look}
use Rattle.ipe_gate_rule.specs.declared.view.Role.{Role}
use Rattle.ipe_gate_rule.specs.declared.view.Role.TheVariants.{Administrator, OfPass, Nobody}
use Rattle.ipe_gate_rule.specs.declared.view.View.{View}
use Rattle.ipe_gate_rule.specs.History.{GoesOnFrom, active_slot, epoch_of, held_by, claims_by, returned, out, content}
use Rattle.ipe_gate_rule.specs.Places.{places_of}
use Rattle.ipe_gate_rule.specs.Owners.{own_events, administrator_events, is_by_pass, is_administrators}
use Rattle.ipe_gate_rule.specs.Active.{packed_word, FitsActive, slot_in, enforce_in, success_in}
use Rattle.ipe_gate_rule.specs.Regions.{BeginsWithImage}
use Rattle.ipe_gate_rule.specs.Legal.{Allowed, Legal, IsOfPassBelow, PassesBelow}
use Rattle.ipe_gate_rule.specs.Views.{now_at, OthersFit, RoleFits, Fits, is_own, number_of}
use Rattle.ipe_gate_rule.specs.Words.{region_place, WordsFit, table_words, slot_at_place, index_at_place}
use Rattle.ipe_gate_rule.specs.Plays.{OthersKnown, OthersIf, Adds, Claims, Returns, Switches, Looks, Stores, Reads, CatchesUp}
use Rattle.ipe_gate_rule.specs.Rule.{Kept}
use Rattle.std.specs.List.{filter}
use Rattle.ipe_gate_rule.proofs.Frames.{places-quiet, Same, none_since, held-quiet, calls-quiet, same-quiet}
use Rattle.ipe_gate_rule.proofs.Frees.{out-quiet, content-quiet}
use Rattle.ipe_gate_rule.proofs.Words.{slot_part, enforce_part, success_part}
use Rattle.ipe_gate_rule.proofs.Counts.{all_few, count_all, claimed_all, claimed_sum, slot_small, epoch_small, held_small}
use Rattle.ipe_gate_rule.proofs.Tables.{claim_words, switch_words, return_words, store_words, load_words, look_words}
use Rattle.ipe_gate_rule.proofs.Seats.{Seating, Untouched, later, others_stay, seats_set, seats_after, pass_apart, admin_apart}

abbrev pub M : Type 0
M = Me (Unit {0}) View

abbrev St : Type 0
St = State (Unit {0}) View

pub sized : (n : ℕ) (h : List Event) → n ≤ 30 → Legal h → PassesBelow n h → FitsActive h
sized n h few legal below = record { count = (let a = all_few n h legal below in let b = count_all h in omega arith); epoch = epoch_small h legal; slot = slot_small h legal }

-- what a pass knows of the history: what it holds and how often it called
pub knows_held : (p : ℕ) (h seen : List Event) → GoesOnFrom h seen → own_events p h ≡ own_events p seen → held_by p h ≡ held_by p seen
knows_held p h seen l a = ap (held_by p) l.1 ∙ held-quiet p l.0 seen (none_since (is_by_pass p) l.0 seen (ap (own_events p) (sym l.1) ∙ a))

pub knows_calls : (p : ℕ) (h seen : List Event) → GoesOnFrom h seen → own_events p h ≡ own_events p seen → claims_by p h ≡ claims_by p seen
knows_calls p h seen l a = ap (claims_by p) l.1 ∙ calls-quiet p l.0 seen (none_since (is_by_pass p) l.0 seen (ap (own_events p) (sym l.1) ∙ a))

pub knows_places : (p : ℕ) (h seen : List Event) → GoesOnFrom h seen → own_events p h ≡ own_events p seen → places_of p h ≡ places_of p seen
knows_places p h seen l a = ap (places_of p) l.1 ∙ places-quiet p l.0 seen (none_since (is_by_pass p) l.0 seen (ap (own_events p) (sym l.1) ∙ a))

pub knows_content : (n p k i : ℕ) (h seen : List Event) → GoesOnFrom h seen → own_events p h ≡ own_events p seen → 0 < k → Legal h → PassesBelow n h → p < n → held_by p seen ≡ k → content k i h ≡ content k i seen
knows_content n p k i h seen l a pos legal below lt is =
    ap (content k i) l.1 ∙ content-quiet n p k i l.0 seen (none_since (is_by_pass p) l.0 seen (ap (own_events p) (sym l.1) ∙ a)) pos (subst Legal l.1 legal) (subst (PassesBelow n) l.1 below) lt is

-- what the administrator knows
pub knows_same : (h seen : List Event) → GoesOnFrom h seen → administrator_events h ≡ administrator_events seen → Same h seen
knows_same h seen l a = subst (λ x. Same x seen) (sym l.1) (same-quiet l.0 seen (none_since is_administrators l.0 seen (ap administrator_events (sym l.1) ∙ a)))

pub knows_out : (k : ℕ) (h seen : List Event) → GoesOnFrom h seen → administrator_events h ≡ administrator_events seen → k ≢ active_slot seen → out k h ≤ out k seen
knows_out k h seen l a ne = subst (λ x. out k x ≤ out k seen) (sym l.1) (out-quiet k l.0 seen (none_since is_administrators l.0 seen (ap administrator_events (sym l.1) ∙ a)) ne)

-- the rule after the event e of the seat id, where the word i becomes n
after : (s : St) (r : Kept s) (e : Event) (i n id : ℕ) (w : View) → WordsFit (set s.words i n) (e ∷ r.history) → Allowed r.history e → IsOfPassBelow r.made e
    → ((by : ℕ) (v : View) → by ≢ id → RoleFits r.history r.made r.seat by v.role v.seen v.others → Untouched e r.seat v.role) → Fits (e ∷ r.history) r.made r.seat id w
    → Kept (record { words = set s.words i n; homes = s.homes; views = set s.views id w })
after s r e i n id w words allowed below apart mine = record {
  history = e ∷ r.history;
  made = r.made;
  seat = r.seat;
  few = r.few;
  legal = (allowed, r.legal);
  below = (below, r.below);
  words = words;
  seats = seats_after e r.history r.made r.seat s.views id w r.seats apart mine;
}

adds : (s : St) (r : Kept s) (e : Event) (v w : View) → Allowed r.history e → w ≡ now_at v v.role (e ∷ r.history) → GoesOnFrom r.history v.seen → filter (is_own v.role) r.history ≡ filter (is_own v.role) v.seen → Adds e v w r.history
adds s r e v w allowed is l owns = record { sized = sized r.made r.history r.few r.legal r.below; later = l; legal = (allowed, r.legal); role = ap (λ u. u.role) is; seen = ap (λ u. u.seen) is; others = ap (λ u. u.others) is; passes = r.made; few = r.few; below = r.below; owns = owns }

pub claims : (slots id : ℕ) (me : M) (p : ℕ) → me.0.role ≡ OfPass p → held_by p me.0.seen ≡ 0 → claims_by p me.0.seen < 2 ^ 35
    → Allows Kept slots id me 0 (λ n. (n + 1) % 2 ^ 64) (Claims (step slots 0 1 0 none) me)
claims slots id me p is free few s r _ at small =
    let v = me.0 in
    let h = r.history in
    let fit = r.seats id v at in
    let role = subst (λ x. RoleFits h r.made r.seat id x v.seen v.others) is fit.2 in
    let allowed : Allowed h (Claim p) = (knows_held p h v.seen fit.0 role.2 ∙ free, subst (λ k. k < 2 ^ 35) (sym (knows_calls p h v.seen fit.0 role.2)) few) in
    let now = sized r.made h r.few r.legal r.below in
    let then = sized r.made (Claim p ∷ h) r.few (allowed, r.legal) (role.1, r.below) in
    let w = now_at v (OfPass p) (Claim p ∷ h) in (
      w,
      keeps,
      tt,
      after s r (Claim p) 0 ((get_or s.words 0 0 + 1) % 2 ^ 64) id w (claim_words s.words h p r.words now then) allowed role.1
          (λ by u ne f. pass_apart (Claim p) p refl (λ q z. ne_eqb q p z) h r.made r.seat id by u.role u.seen u.others role.0 ne f)
          (([], refl), later (Claim p) h v.told fit.1, (role.0, role.1, refl)),
      (refl, (h, r.words.active, subst (λ x. Adds (Claim (number_of x)) v w h) (sym is) (adds s r (Claim p) v w allowed (ap (λ x. now_at v x (Claim p ∷ h)) (sym is)) fit.0 (subst (λ z. filter (is_own z) h ≡ filter (is_own z) v.seen) (sym is) role.2)))),
    )

pub returns : (slots id : ℕ) (me : M) (p k : ℕ) → me.0.role ≡ OfPass p → held_by p me.0.seen ≡ k → 0 < k
    → Allows Kept slots id me k (λ n. (n + 1) % 2 ^ 64) (Returns (step slots k 1 0 none) me)
returns slots id me p k is holds pos s r _ at small =
    let v = me.0 in
    let h = r.history in
    let fit = r.seats id v at in
    let role = subst (λ x. RoleFits h r.made r.seat id x v.seen v.others) is fit.2 in
    let held_is : held_by p h ≡ k = knows_held p h v.seen fit.0 role.2 ∙ holds in
    let allowed : Allowed h (Return p) = subst (λ x. 0 < x) (sym held_is) pos in
    let lt : k < 64 = subst (λ x. x < 64) held_is (held_small p h r.legal) in
    let bound : returned k h + 1 < 2 ^ 64 = (let a = claimed_sum r.made k h pos r.legal r.below in let b = claimed_all k h in let c = all_few r.made h r.legal r.below in let d = r.few in omega arith) in
    let w = now_at v (OfPass p) (Return p ∷ h) in (
      w,
      keeps,
      tt,
      after s r (Return p) k ((get_or s.words k 0 + 1) % 2 ^ 64) id w (return_words s.words h p k r.words held_is pos lt bound) allowed role.1
          (λ by u ne f. pass_apart (Return p) p refl (λ q z. ne_eqb q p z) h r.made r.seat id by u.role u.seen u.others role.0 ne f)
          (([], refl), later (Return p) h v.told fit.1, (role.0, role.1, refl)),
      (refl, (h, subst (λ x. Adds (Return (number_of x)) v w h) (sym is) (adds s r (Return p) v w allowed (ap (λ x. now_at v x (Return p ∷ h)) (sym is)) fit.0 (subst (λ z. filter (is_own z) h ≡ filter (is_own z) v.seen) (sym is) role.2)))),
    )

pub switches : (slots id : ℕ) (me : M) (m new slot : ℕ) (x y : Bool) → me.0.role ≡ Administrator m → slot < 64 → epoch_of me.0.seen < 65535 → (0 < slot → BeginsWithImage (λ i. content slot i me.0.seen)) → new ≡ packed_word 0 (epoch_of me.0.seen + 1) slot x y
    → Allows Kept slots id me 0 (λ _. new) (Switches (step slots 0 new 0 none) me)
switches slots id me m new slot x y is lt few image new_is s r _ at small =
    let v = me.0 in
    let h = r.history in
    let fit = r.seats id v at in
    let role = subst (λ z. RoleFits h r.made r.seat id z v.seen v.others) is fit.2 in
    let e = Switch slot x y in
    let known = knows_same h v.seen fit.0 role.2 in
    let epoch_is : epoch_of h ≡ epoch_of v.seen = known.epoch in
    let allowed : Allowed h e = (lt, omega arith, λ pos. subst BeginsWithImage (λ j i. sym (known.words slot i) j) (image pos)) in
    let w = now_at v (Administrator m) (e ∷ h) in
    let word : new ≡ packed_word 0 (epoch_of h + 1) slot x y = new_is ∙ ap (λ k. packed_word 0 (k + 1) slot x y) (sym epoch_is) in
    let c0 : 0 < 2 ^ 40 = omega arith in
    let ce : epoch_of v.seen + 1 < 2 ^ 16 = omega arith in
    let same : ◌≡◌ {A = Event} (Switch slot x y) (Switch (slot_in new) (enforce_in new) (success_in new)) =
    λ i. Switch ((sym (ap slot_in new_is ∙ slot_part 0 (epoch_of v.seen + 1) slot x y c0 ce lt)) i) ((sym (ap enforce_in new_is ∙ enforce_part 0 (epoch_of v.seen + 1) slot x y c0 ce lt)) i) ((sym (ap success_in new_is ∙ success_part 0 (epoch_of v.seen + 1) slot x y c0 ce lt)) i) in (
      w,
      keeps,
      tt,
      after s r e 0 new id w (switch_words s.words h new slot x y r.words word) allowed tt
          (λ by u ne f. admin_apart e (λ q. refl) h r.made r.seat id by u.role u.seen u.others role.0 ne f)
          (([], refl), later e h v.told fit.1, (role.0, role.1, refl, others_stay e h r.made r.seat v.others (λ q z. refl) role.3)),
      (refl, (h, r.words.active, subst (λ z. Adds z v w h) same (adds s r e v w allowed (ap (λ z. now_at v z (e ∷ h)) (sym is)) fit.0 (subst (λ z. filter (is_own z) h ≡ filter (is_own z) v.seen) (sym is) role.2)))),
    )

pub looks : (slots id : ℕ) (me : M) (m k : ℕ) → me.0.role ≡ Administrator m → 0 < k → k < 64
    → Allows Kept slots id me k (λ n. n) (Looks (step slots k 0 0 none) me)
looks slots id me m k is pos lt s r _ at small =
    let v = me.0 in
    let h = r.history in
    let fit = r.seats id v at in
    let role = subst (λ z. RoleFits h r.made r.seat id z v.seen v.others) is fit.2 in
    let e = Look k in
    let w = now_at v (Administrator m) (e ∷ h) in (
      w,
      keeps,
      tt,
      after s r e k (get_or s.words k 0) id w (look_words (set s.words k (get_or s.words k 0)) h k (load_words s.words h k (omega arith) r.words)) tt tt
          (λ by u ne f. admin_apart e (λ q. refl) h r.made r.seat id by u.role u.seen u.others role.0 ne f)
          (([], refl), later e h v.told fit.1, (role.0, role.1, refl, others_stay e h r.made r.seat v.others (λ q z. refl) role.3)),
      (refl, (h, r.words.returns k pos lt, adds s r e v w tt (ap (λ z. now_at v z (e ∷ h)) (sym is)) fit.0 (subst (λ z. filter (is_own z) h ≡ filter (is_own z) v.seen) (sym is) role.2))),
    )

slot_of_place : (k i : ℕ) → 0 < k → i < 4096 → slot_at_place (region_place k i) ≡ k
slot_of_place k i pos small = omega arith

index_of_place : (k i : ℕ) → 0 < k → i < 4096 → index_at_place (region_place k i) ≡ i
index_of_place k i pos small = omega arith

pub stores : (slots id : ℕ) (me : M) (m k i x : ℕ) → me.0.role ≡ Administrator m → 0 < k → k < 64 → i < 4096 → k ≢ active_slot me.0.seen → out k me.0.seen ≡ 0
    → Allows Kept slots id me (region_place k i) (λ _. x) (λ _. Stores (step slots (region_place k i) x 0 none) me x)
stores slots id me m k i x is pos lt small ne none_out s r _ at fits =
    let v = me.0 in
    let h = r.history in
    let fit = r.seats id v at in
    let role = subst (λ z. RoleFits h r.made r.seat id z v.seen v.others) is fit.2 in
    let e = Store k i x in
    let less = knows_out k h v.seen fit.0 role.2 ne in
    let none_now : out k h ≡ 0 = omega arith in
    let apart : k ≢ active_slot h = λ z. ne (z ∙ (knows_same h v.seen fit.0 role.2).slot) in
    let allowed : Allowed h e = (pos, lt, small, apart, none_now) in
    let w = now_at v (Administrator m) (e ∷ h) in
    let same : ◌≡◌ {A = Event} e (Store (slot_at_place (region_place k i)) (index_at_place (region_place k i)) x) = λ z. Store (sym (slot_of_place k i pos small) z) (sym (index_of_place k i pos small) z) x in (
      w,
      keeps,
      tt,
      after s r e (region_place k i) x id w (store_words s.words h k i x r.words pos lt small) allowed tt
          (λ by u ne f. admin_apart e (λ q. refl) h r.made r.seat id by u.role u.seen u.others role.0 ne f)
          (([], refl), later e h v.told fit.1, (role.0, role.1, refl, others_stay e h r.made r.seat v.others (λ q z. refl) role.3)),
      (refl, (h, subst (λ z. Adds z v w h) same (adds s r e v w allowed (ap (λ z. now_at v z (e ∷ h)) (sym is)) fit.0 (subst (λ z. filter (is_own z) h ≡ filter (is_own z) v.seen) (sym is) role.2)))),
    )

-- the table is left as it is
unmoved : (s : St) (r : Kept s) (i id : ℕ) (v : View) → i < table_words → get_elem? s.views id ≡ some v → Kept (record { words = set s.words i (get_or s.words i 0); homes = s.homes; views = set s.views id v })
unmoved s r i id v lt at = record { history = r.history; made = r.made; seat = r.seat; few = r.few; legal = r.legal; below = r.below; words = load_words s.words r.history i lt r.words; seats = subst (λ l. Seating r.history r.made r.seat l) (sym (set_again s.views id v at)) r.seats }

pub reads : (slots id : ℕ) (me : M) (p k i : ℕ) → me.0.role ≡ OfPass p → held_by p me.0.seen ≡ k → 0 < k → i < 4096
    → Allows Kept slots id me (region_place k i) (λ n. n) (Reads (step slots (region_place k i) 0 0 none) me)
reads slots id me p k i is holds pos small s r _ at fits =
    let v = me.0 in
    let h = r.history in
    let fit = r.seats id v at in
    let role = subst (λ x. RoleFits h r.made r.seat id x v.seen v.others) is fit.2 in
    let held_is : held_by p h ≡ k = knows_held p h v.seen fit.0 role.2 ∙ holds in
    let lt : k < 64 = subst (λ x. x < 64) held_is (held_small p h r.legal) in
    let found : get_or s.words (region_place k i) 0 ≡ content k i v.seen = r.words.regions k i pos lt small ∙ knows_content r.made p k i h v.seen fit.0 role.2 pos r.legal r.below role.1 holds in (
      v,
      keeps,
      tt,
      unmoved s r (region_place k i) id v (omega arith) at,
      (
        refl,
        λ k' i' place pos' small' holds'.
            let same : k' ≡ k = omega arith in let same' : i' ≡ i = omega arith in
            found ∙ sym (λ z. content (same z) (same' z) v.seen),
      ),
    )

catch_role : (h : List Event) (made : ℕ) (seat : ℕ → ℕ) (by : ℕ) (role : Role) (seen : List Event) (xs : List (ℕ × List Event)) → RoleFits h made seat by role seen xs → RoleFits h made seat by role h xs
catch_role h made seat by (Administrator m) seen xs r = (r.0, r.1, refl, r.3)
catch_role h made seat by (OfPass p) seen xs r = (r.0, r.1, refl)
catch_role h made seat by Nobody seen xs r = tt

catch_owns : (h : List Event) (made : ℕ) (seat : ℕ → ℕ) (by : ℕ) (role : Role) (seen : List Event) (xs : List (ℕ × List Event)) → RoleFits h made seat by role seen xs → filter (is_own role) h ≡ filter (is_own role) seen
catch_owns h made seat by (Administrator m) seen xs r = r.2
catch_owns h made seat by (OfPass p) seen xs r = r.2
catch_owns h made seat by Nobody seen xs r = nothing h ∙ sym (nothing seen)
  where
    nothing : (l : List Event) → filter (λ e. false) l ≡ []
    nothing [] = refl
    nothing (e ∷ l) = nothing l

others_known : (h : List Event) (made : ℕ) (seat : ℕ → ℕ) (xs : List (ℕ × List Event)) → OthersFit h made seat xs → OthersKnown h xs
others_known h made seat [] r = tt
others_known h made seat (x ∷ xs) r = ((r.0.2, r.0.3), others_known h made seat xs r.1)

catch_others : (h : List Event) (made : ℕ) (seat : ℕ → ℕ) (by : ℕ) (role : Role) (seen : List Event) (xs : List (ℕ × List Event)) → RoleFits h made seat by role seen xs → OthersIf role h xs
catch_others h made seat by (Administrator m) seen xs r = others_known h made seat xs r.3
catch_others h made seat by (OfPass p) seen xs r = tt
catch_others h made seat by Nobody seen xs r = tt

pub catches : (slots id : ℕ) (me : M) → Allows Kept slots id me 0 (λ n. n) (CatchesUp (step slots 0 0 0 none) me)
catches slots id me s r _ at fits =
    let v = me.0 in
    let h = r.history in
    let fit = r.seats id v at in
    let w = now_at v v.role h in (
      w,
      keeps,
      tt,
      record {
        history = h;
        made = r.made;
        seat = r.seat;
        few = r.few;
        legal = r.legal;
        below = r.below;
        words = load_words s.words h 0 (omega arith) r.words;
        seats = seats_set h h r.made r.made r.seat r.seat s.views id w r.seats (λ by u ne at' f. f) (([], refl), fit.1, catch_role h r.made r.seat id v.role v.seen v.others fit.2);
      },
      (
        refl,
        record {
          role = refl;
          others_are = refl;
          told_is = refl;
          found = r.words.active;
          sized = sized r.made h r.few r.legal r.below;
          legal = r.legal;
          passes = r.made;
          few = r.few;
          below = r.below;
          later = fit.0;
          later_told = fit.1;
          owns = catch_owns h r.made r.seat id v.role v.seen v.others fit.2;
          others = catch_others h r.made r.seat id v.role v.seen v.others fit.2;
          passes_is = λ m is. (subst (λ x. RoleFits h r.made r.seat id x v.seen v.others) is fit.2).1;
        },
      ),
    )
