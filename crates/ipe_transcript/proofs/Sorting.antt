-- Lists with the same elements that stand in a strict order are one list.
use Rattle.std.specs.Prelude.{slice_index_or}
use Rattle.std.proofs.Common.{◌≡◌, ℕ, zero, suc, ◌<◌, ◌⊎◌, inl, inr, List, [], ◌∷◌, length, refl, sym, ap, subst, ◌∙◌, arith}
use Rattle.std.specs.List.{AllByRecursion}
use Rattle.std.specs.List.{Contains}
use Rattle.std.specs.List.Sorted.{IsPermutation}
use Rattle.std.proofs.lemmas.List.Sorted.{Contains-permutation}

-- each stands before all that follow it
abbrev pub Ascends : {P : Type 0} → (P → P → Type 0) → List P → Type 0
Ascends R [] = Unit {0}
Ascends R (x ∷ xs) = AllByRecursion (R x) xs × Ascends R xs

-- an element of a list
abbrev pub In : {P : Type 0} → P → List P → Type 0
In z [] = ⊥
In z (x ∷ xs) = (x ≡ z) ⊎ In z xs

pub all_in : {P : Type 0} (Q : P → Type 0) (z : P) (xs : List P) → AllByRecursion Q xs → In z xs → Q z
all_in Q z [] all there = absurd there
all_in Q z (x ∷ xs) all (inl same) = subst Q same all.0
all_in Q z (x ∷ xs) all (inr there) = all_in Q z xs all.1 there

module _ {P : Type 0} (R : P → P → Type 0) (irrefl : (x : P) → R x x → ⊥) (trans : (x y z : P) → R x y → R y z → R x z) where
  -- the elements after the same first one
  tail_in : (x z : P) (xs ys : List P) → AllByRecursion (R x) xs → In z xs → In z (x ∷ ys) → In z ys
  tail_in x z xs ys above there (inl same) = absurd (irrefl z (subst (λ (w : P). R w z) same (all_in (R x) z xs above there)))
  tail_in x z xs ys above there (inr within) = within

  heads : (x y : P) (xs ys : List P) → AllByRecursion (R x) xs → AllByRecursion (R y) ys → In x (y ∷ ys) → In y (x ∷ xs) → x ≡ y
  heads x y xs ys above_x above_y (inl same) there = sym same
  heads x y xs ys above_x above_y (inr within) (inl same) = same
  heads x y xs ys above_x above_y (inr within) (inr there) =
      absurd (irrefl x (trans x y x (all_in (R x) y xs above_x there) (all_in (R y) x ys above_y within)))

  pub sorted_once : (xs ys : List P) → Ascends R xs → Ascends R ys → ((z : P) → In z xs → In z ys) → ((z : P) → In z ys → In z xs) → xs ≡ ys
  sorted_once [] [] up_x up_y there back = refl
  sorted_once [] (y ∷ ys) up_x up_y there back = absurd (back y (inl refl))
  sorted_once (x ∷ xs) [] up_x up_y there back = absurd (there x (inl refl))
  sorted_once (x ∷ xs) (y ∷ ys) up_x up_y there back =
      let same : x ≡ y = heads x y xs ys up_x.0 up_y.0 (there x (inl refl)) (back y (inl refl)) in
      let above : AllByRecursion (R y) xs = subst (λ (w : P). AllByRecursion (R w) xs) same up_x.0 in
      let rest : xs ≡ ys = sorted_once xs ys up_x.1 up_y.1
      (λ z within. tail_in y z xs ys above within (there z (inr within)))
      (λ z within. tail_in y z ys xs up_y.0 within (subst (λ (w : P). In z (w ∷ xs)) same (back z (inr within)))) in
      ap (λ (w : P). w ∷ xs) same ∙ ap (λ (ws : List P). y ∷ ws) rest

  -- from each to the next
  abbrev pub Linked : List P → Type 0
  Linked [] = Unit {0}
  Linked (x ∷ []) = Unit {0}
  Linked (x ∷ y ∷ xs) = R x y × Linked (y ∷ xs)

  linked_above : (x : P) (xs : List P) → Linked (x ∷ xs) → AllByRecursion (R x) xs
  linked_above x [] linked = tt
  linked_above x (y ∷ xs) linked = (linked.0, further xs (linked_above y xs linked.1))
    where
      further : (zs : List P) → AllByRecursion (R y) zs → AllByRecursion (R x) zs
      further [] all = tt
      further (z ∷ zs) all = (trans x y z linked.0 all.0, further zs all.1)

  pub in_order : (xs : List P) → Linked xs → Ascends R xs
  in_order [] linked = tt
  in_order (x ∷ []) linked = (tt, tt)
  in_order (x ∷ y ∷ xs) linked = (linked_above x (y ∷ xs) linked, in_order (y ∷ xs) linked.1)

-- elements in the form of places
in_of_Contains : {P : Type 0} (xs : List P) (z : P) → Contains xs z → In z xs
in_of_Contains xs z there = go xs there.0 there.1 there.2
  where
    go : {P : Type 0} {z : P} (xs : List P) (k : ℕ) → k < length xs → slice_index_or xs k z ≡ z → In z xs
    go [] k within is = absurd (omega (arith, within))
    go (x ∷ xs) zero within is = inl is
    go (x ∷ xs) (suc k) within is = inr (go xs k (omega (arith, within)) is)

Contains_of_in : {P : Type 0} (xs : List P) (z : P) → In z xs → Contains xs z
Contains_of_in [] z there = absurd there
Contains_of_in (x ∷ xs) z (inl same) = (0, omega arith, same)
Contains_of_in (x ∷ xs) z (inr there) =
    let rest = Contains_of_in xs z there in
    (suc rest.0, omega (arith, rest.1), rest.2)

-- the elements of a list that has those of another in whatever order
pub in_of_permutation : {P : Type 0} (xs ys : List P) → IsPermutation xs ys → (z : P) → In z xs → In z ys
in_of_permutation xs ys moved z there = in_of_Contains ys z (Contains-permutation xs ys z moved (Contains_of_in xs z there))
