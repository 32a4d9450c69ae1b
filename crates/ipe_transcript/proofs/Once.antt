-- Entries that stand in their places stand so in one order alone.
use Rattle.std.proofs.Common.{◌≡◌, ℕ, ◌<◌, ◌==◌, ◌⊎◌, inl, inr, true, false, List, [], ◌∷◌, Option, Some, None, refl, sym, ap, subst, ◌∙◌, arith}
use Rattle.std.specs.List.{filter_map, cons_option}
use Rattle.std.proofs.lemmas.Bool.{eqb-true, eqb-false, eq-eqb, ne_eqb, cases_Bool}
use Rattle.std.proofs.lemmas.Option.{none-some}
use Rattle.ipe_transcript.specs.Keys.{Key, IsBefore, Rises, own_of, FollowsItsOwn, StandsAtTheBeginning, UnplacedStand, AreInPlace, ArePrinted}
use Rattle.ipe_transcript.proofs.Rising.{before-trans, before-irrefl, rises-skip, rises-rest}

module _ {X : Type 0} (actor_in : X → ℕ) (key_of : X → Option Key) where
  -- an actor's own, of an entry and others
  pub own-first : (actor : ℕ) (x : X) (xs : List X) → (actor_in x == actor) ≡ true → own_of actor_in actor (x ∷ xs) ≡ x ∷ own_of actor_in actor xs
  own-first actor x xs is = rw is refl

  pub own-skip : (actor : ℕ) (x : X) (xs : List X) → (actor_in x == actor) ≡ false → own_of actor_in actor (x ∷ xs) ≡ own_of actor_in actor xs
  own-skip actor x xs is = rw is refl

  -- the first entry of an actor comes after a key that the keys rise after
  key_in : (k : Key) (actor : ℕ) (x : X) (r zs : List X) (own : Key) → own_of actor_in actor zs ≡ x ∷ r → key_of x ≡ Some own → Rises (k ∷ filter_map key_of zs) → IsBefore k own
  key_in k actor x r [] own is placed rise = cc
  key_in k actor x r (z ∷ zs) own is placed rise = elim (cases_Bool (actor_in z == actor)) [
    | inl same ↦
        let both : z ∷ own_of actor_in actor zs ≡ x ∷ r = sym (own-first actor z zs same) ∙ is in
        let z_is : z ≡ x = cc in
        let at : Rises (k ∷ cons_option (Some own) (filter_map key_of zs)) = subst (λ (o : Option Key). Rises (k ∷ cons_option o (filter_map key_of zs))) (ap key_of z_is ∙ placed) rise in
        at.0
    | inr other ↦ key_in k actor x r zs own (sym (own-skip actor z zs other) ∙ is) placed (rises-skip k (key_of z) (filter_map key_of zs) rise)
  ]

  -- the first entry of an actor stands at the beginning, where it has no place and another's entry stands before it
  stands_in : (actor : ℕ) (x previous : X) (before r zs : List X) → own_of actor_in actor zs ≡ x ∷ r → key_of x ≡ None → (actor_in previous == actor) ≡ false → UnplacedStand actor_in key_of (previous ∷ before) zs
      → StandsAtTheBeginning actor_in key_of (previous ∷ before) x
  stands_in actor x previous before r [] is none differ stand = cc
  stands_in actor x previous before r (z ∷ zs) is none differ stand = elim (cases_Bool (actor_in z == actor)) [
    | inl same ↦
        let both : z ∷ own_of actor_in actor zs ≡ x ∷ r = sym (own-first actor z zs same) ∙ is in
        let z_is : z ≡ x = cc in
        let own : actor_in x ≡ actor = ap actor_in (sym z_is) ∙ eqb-true (actor_in z) actor same in
        let here : FollowsItsOwn actor_in (previous ∷ before) x ⊎ StandsAtTheBeginning actor_in key_of (previous ∷ before) x =
        subst (λ (e : X). key_of e ≡ None → FollowsItsOwn actor_in (previous ∷ before) e ⊎ StandsAtTheBeginning actor_in key_of (previous ∷ before) e) z_is stand.0 none in
        elim here [
          | inl follows ↦ absurd (eqb-false (actor_in previous) actor differ (follows ∙ own))
          | inr begins ↦ begins
        ]
    | inr other ↦ (stands_in actor x z (previous ∷ before) r zs (sym (own-skip actor z zs other) ∙ is) none other stand.1).1
  ]

  -- an order's own entries, without the first entry
  own_rest : (x : X) (xs ys : List X) → ((actor : ℕ) → own_of actor_in actor (x ∷ xs) ≡ own_of actor_in actor (x ∷ ys)) → (actor : ℕ) → own_of actor_in actor xs ≡ own_of actor_in actor ys
  own_rest x xs ys same actor = elim (cases_Bool (actor_in x == actor)) [
    | inl is ↦
        let both : x ∷ own_of actor_in actor xs ≡ x ∷ own_of actor_in actor ys = sym (own-first actor x xs is) ∙ same actor ∙ own-first actor x ys is in
        cc
    | inr is ↦ sym (own-skip actor x xs is) ∙ same actor ∙ own-skip actor x ys is
  ]

  -- two different first entries can't be
  clash : (before : List X) (x y : X) (xs ys : List X) → (actor_in x ≡ actor_in y → ⊥) → ((actor : ℕ) → own_of actor_in actor (x ∷ xs) ≡ own_of actor_in actor (y ∷ ys))
      → Rises (filter_map key_of (x ∷ xs)) → Rises (filter_map key_of (y ∷ ys)) → UnplacedStand actor_in key_of before (x ∷ xs) → UnplacedStand actor_in key_of before (y ∷ ys) → ⊥
  clash before x y xs ys differ same rise_x rise_y stand_x stand_y = by (key_of x) refl (key_of y) refl
    where
      apart_xy : (actor_in x == actor_in y) ≡ false
      apart_xy = ne_eqb (actor_in x) (actor_in y) differ

      apart_yx : (actor_in y == actor_in x) ≡ false
      apart_yx = ne_eqb (actor_in y) (actor_in x) (λ e. differ (sym e))

      in_ys : own_of actor_in (actor_in x) ys ≡ x ∷ own_of actor_in (actor_in x) xs
      in_ys = sym (own-skip (actor_in x) y ys apart_yx) ∙ sym (same (actor_in x)) ∙ own-first (actor_in x) x xs (eq-eqb (actor_in x) (actor_in x) refl)

      in_xs : own_of actor_in (actor_in y) xs ≡ y ∷ own_of actor_in (actor_in y) ys
      in_xs = sym (own-skip (actor_in y) x xs apart_xy) ∙ same (actor_in y) ∙ own-first (actor_in y) y ys (eq-eqb (actor_in y) (actor_in y) refl)

      y_stands : key_of y ≡ None → (key_of x ≡ None) × (actor_in x < actor_in y)
      y_stands none = (stands_in (actor_in y) y x before (own_of actor_in (actor_in y) ys) xs in_xs none apart_xy stand_x.1).0

      x_stands : key_of x ≡ None → (key_of y ≡ None) × (actor_in y < actor_in x)
      x_stands none = (stands_in (actor_in x) x y before (own_of actor_in (actor_in x) xs) ys in_ys none apart_yx stand_y.1).0

      by : (kx : Option Key) → key_of x ≡ kx → (ky : Option Key) → key_of y ≡ ky → ⊥
      by None no_x ky is_y = let a = x_stands no_x in let b = y_stands a.0 in omega (arith, a.1, b.1)
      by (Some kx) is_x None no_y = let a = y_stands no_y in none-some kx (sym a.0 ∙ is_x)
      by (Some kx) is_x (Some ky) is_y =
          let one : IsBefore kx ky = key_in kx (actor_in y) y (own_of actor_in (actor_in y) ys) xs ky in_xs is_y (subst (λ (o : Option Key). Rises (cons_option o (filter_map key_of xs))) is_x rise_x) in
          let two : IsBefore ky kx = key_in ky (actor_in x) x (own_of actor_in (actor_in x) xs) ys kx in_ys is_x (subst (λ (o : Option Key). Rises (cons_option o (filter_map key_of ys))) is_y rise_y) in
          before-irrefl kx (before-trans kx ky kx one two)

  -- so it is after any entries
  one_order : (before xs ys : List X) → ((actor : ℕ) → own_of actor_in actor xs ≡ own_of actor_in actor ys)
      → Rises (filter_map key_of xs) → Rises (filter_map key_of ys) → UnplacedStand actor_in key_of before xs → UnplacedStand actor_in key_of before ys → xs ≡ ys
  one_order before [] [] same rise_x rise_y stand_x stand_y = refl
  one_order before [] (y ∷ ys) same rise_x rise_y stand_x stand_y =
      let none : [] ≡ y ∷ own_of actor_in (actor_in y) ys = same (actor_in y) ∙ own-first (actor_in y) y ys (eq-eqb (actor_in y) (actor_in y) refl) in cc
  one_order before (x ∷ xs) [] same rise_x rise_y stand_x stand_y =
      let none : x ∷ own_of actor_in (actor_in x) xs ≡ [] = sym (own-first (actor_in x) x xs (eq-eqb (actor_in x) (actor_in x) refl)) ∙ same (actor_in x) in cc
  one_order before (x ∷ xs) (y ∷ ys) same rise_x rise_y stand_x stand_y = elim (cases_Bool (actor_in x == actor_in y)) [
    | inl is ↦
        let both : x ∷ own_of actor_in (actor_in y) xs ≡ y ∷ own_of actor_in (actor_in y) ys = sym (own-first (actor_in y) x xs is) ∙ same (actor_in y) ∙ own-first (actor_in y) y ys (eq-eqb (actor_in y) (actor_in y) refl) in
        let x_is : x ≡ y = cc in
        let same_x : (actor : ℕ) → own_of actor_in actor (x ∷ xs) ≡ own_of actor_in actor (x ∷ ys) = λ actor. same actor ∙ ap (λ (e : X). own_of actor_in actor (e ∷ ys)) (sym x_is) in
        let rest : xs ≡ ys = one_order (x ∷ before) xs ys (own_rest x xs ys same_x) (rises-rest (key_of x) (filter_map key_of xs) rise_x) (rises-rest (key_of y) (filter_map key_of ys) rise_y) stand_x.1
        (subst (λ (e : X). UnplacedStand actor_in key_of (e ∷ before) ys) (sym x_is) stand_y.1) in
        ap (λ (e : X). e ∷ xs) x_is ∙ ap (λ (es : List X). y ∷ es) rest
    | inr other ↦ absurd (clash before x y xs ys (λ e. eqb-false (actor_in x) (actor_in y) other e) same rise_x rise_y stand_x stand_y)
  ]

  -- entries that stand in their places stand so in one order alone
  pub in_place_once : (xs ys : List X) → ((actor : ℕ) → own_of actor_in actor xs ≡ own_of actor_in actor ys) → AreInPlace actor_in key_of xs → AreInPlace actor_in key_of ys → xs ≡ ys
  in_place_once xs ys same in_xs in_ys = one_order [] xs ys same in_xs.rises in_ys.rises in_xs.stand in_ys.stand

  -- so there is one order in which entries may be printed
  pub printed_once : (entries xs ys : List X) → ArePrinted actor_in key_of entries xs → ArePrinted actor_in key_of entries ys → xs ≡ ys
  printed_once entries xs ys in_xs in_ys = in_place_once xs ys (λ a. in_xs.own a ∙ sym (in_ys.own a)) in_xs.in_place in_ys.in_place
