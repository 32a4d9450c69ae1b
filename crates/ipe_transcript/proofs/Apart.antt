-- Lists in which, of the elements at any two places, one stands before the other.
use Rattle.std.proofs.Common.{◌≡◌, ℕ, zero, suc, ◌<◌, ◌⊎◌, inl, inr, List, [], ◌∷◌, length, get_or, refl, sym, ap, subst, ◌∙◌, arith}
use Rattle.std.specs.List.{AllByRecursion, swap}
use Rattle.std.specs.List.Sorted.{IsPermutation}
use Rattle.std.proofs.lemmas.Bool.{cases_eq}
use Rattle.std.proofs.lemmas.List.Edits.{Swapped, swapped_from_swap}
use Rattle.std.proofs.lemmas.List.Sorted.{IsPermutation-keeps, IsPermutation-swap, length_permutation}
use Rattle.ipe_transcript.specs.Filing.{StandInOrder}
use Rattle.ipe_transcript.proofs.Sorting.{Ascends}

module _ {P : Type 0} (R : P → P → Type 0) where
  abbrev Either : P → P → Type 0
  Either x y = R x y ⊎ R y x

  turned : (x y : P) → Either x y → Either y x
  turned x y (inl before) = inr before
  turned x y (inr before) = inl before

  abbrev pub Apart : List P → Type 0
  Apart xs = (i j : ℕ) (d : P) → i < length xs → j < length xs → (i ≡ j → ⊥) → Either (get_or xs i d) (get_or xs j d)

  -- where an element of a list stood before two were exchanged
  abbrev Stood : List P → ℕ → ℕ → ℕ → ℕ → Type 0
  Stood xs a b i k = ((i ≡ a) × (k ≡ b)) ⊎ (((i ≡ b) × (k ≡ a)) ⊎ ((i ≡ a → ⊥) × (i ≡ b → ⊥) × (k ≡ i)))

  abbrev Place : List P → ℕ → ℕ → ℕ → P → Type 0
  Place xs a b i d = (k : ℕ) × Stood xs a b i k × (get_or (swap xs a b) i d ≡ get_or xs k d)

  place : (xs : List P) (a b i : ℕ) (d : P) → Swapped (λ n. get_or xs n d) (λ n. get_or (swap xs a b) n d) a b → Place xs a b i d
  place xs a b i d is = elim (cases_eq i a) [
    | inl at_a ↦ (b, inl (at_a, refl), ap (λ (n : ℕ). get_or (swap xs a b) n d) at_a ∙ is.0)
    | inr not_a ↦ elim (cases_eq i b) [
      | inl at_b ↦ (a, inr (inl (at_b, refl)), ap (λ (n : ℕ). get_or (swap xs a b) n d) at_b ∙ is.1)
      | inr not_b ↦ (i, inr (inr (not_a, not_b, refl)), is.2 i not_a not_b)
    ]
  ]

  within : (xs : List P) (a b i k n : ℕ) → a < n → b < n → i < n → Stood xs a b i k → k < n
  within xs a b i k n in_a in_b in_i (inl stood) = omega (arith, stood.1, in_b)
  within xs a b i k n in_a in_b in_i (inr (inl stood)) = omega (arith, stood.1, in_a)
  within xs a b i k n in_a in_b in_i (inr (inr stood)) = omega (arith, stood.2, in_i)

  still_differ : (xs : List P) (a b i j k l : ℕ) → Stood xs a b i k → Stood xs a b j l → (i ≡ j → ⊥) → k ≡ l → ⊥
  still_differ xs a b i j k l (inl s) (inl t) differ same = differ (s.0 ∙ sym t.0)
  still_differ xs a b i j k l (inl s) (inr (inl t)) differ same = differ (s.0 ∙ sym t.1 ∙ sym same ∙ s.1 ∙ sym t.0)
  still_differ xs a b i j k l (inl s) (inr (inr t)) differ same = t.1 (sym t.2 ∙ sym same ∙ s.1)
  still_differ xs a b i j k l (inr (inl s)) (inl t) differ same = differ (s.0 ∙ sym t.1 ∙ sym same ∙ s.1 ∙ sym t.0)
  still_differ xs a b i j k l (inr (inl s)) (inr (inl t)) differ same = differ (s.0 ∙ sym t.0)
  still_differ xs a b i j k l (inr (inl s)) (inr (inr t)) differ same = t.0 (sym t.2 ∙ sym same ∙ s.1)
  still_differ xs a b i j k l (inr (inr s)) (inl t) differ same = s.1 (sym s.2 ∙ same ∙ t.1)
  still_differ xs a b i j k l (inr (inr s)) (inr (inl t)) differ same = s.0 (sym s.2 ∙ same ∙ t.1)
  still_differ xs a b i j k l (inr (inr s)) (inr (inr t)) differ same = differ (sym s.2 ∙ same ∙ t.2)

  swap_apart : (xs : List P) (a b : ℕ) → a < length xs → b < length xs → Apart xs → Apart (swap xs a b)
  swap_apart xs a b in_a in_b apart i j d in_i in_j differ =
      let long : length (swap xs a b) ≡ length xs = length_permutation xs (swap xs a b) (IsPermutation-swap xs (swap xs a b) a b in_a in_b refl) in
      let is : Swapped (λ n. get_or xs n d) (λ n. get_or (swap xs a b) n d) a b = swapped_from_swap xs (swap xs a b) a b d in_a in_b refl in
      let one : Place xs a b i d = place xs a b i d is in
      let other : Place xs a b j d = place xs a b j d is in
      let then : Either (get_or xs one.0 d) (get_or xs other.0 d) =
      apart one.0 other.0 d (within xs a b i one.0 (length xs) in_a in_b (omega (arith, long, in_i)) one.1) (within xs a b j other.0 (length xs) in_a in_b (omega (arith, long, in_j)) other.1)
      (still_differ xs a b i j one.0 other.0 one.1 other.1 differ) in
      subst (λ (x : P). Either x (get_or (swap xs a b) j d)) (sym one.2) (subst (λ (y : P). Either (get_or xs one.0 d) y) (sym other.2) then)

  pub apart_permutation : (xs ys : List P) → IsPermutation xs ys → Apart xs → Apart ys
  apart_permutation xs ys moved apart = IsPermutation-keeps xs Apart apart (λ l i j in_i in_j at. swap_apart l i j in_i in_j at) ys moved

  -- in an ascending list they do
  all_at : (Q : P → Type 0) (xs : List P) → AllByRecursion Q xs → (j : ℕ) (d : P) → j < length xs → Q (get_or xs j d)
  all_at Q [] all j d in_j = absurd (omega (arith, in_j))
  all_at Q (x ∷ xs) all zero d in_j = all.0
  all_at Q (x ∷ xs) all (suc j) d in_j = all_at Q xs all.1 j d (omega (arith, in_j))

  pub ascend_apart : (xs : List P) → Ascends R xs → Apart xs
  ascend_apart [] ascend i j d in_i in_j differ = absurd (omega (arith, in_i))
  ascend_apart (x ∷ xs) ascend zero zero d in_i in_j differ = absurd (differ refl)
  ascend_apart (x ∷ xs) ascend zero (suc j) d in_i in_j differ = inl (all_at (R x) xs ascend.0 j d (omega (arith, in_j)))
  ascend_apart (x ∷ xs) ascend (suc i) zero d in_i in_j differ = inr (all_at (R x) xs ascend.0 i d (omega (arith, in_i)))
  ascend_apart (x ∷ xs) ascend (suc i) (suc j) d in_i in_j differ =
      ascend_apart xs ascend.1 i j d (omega (arith, in_i)) (omega (arith, in_j)) (λ same. differ (ap suc same))

  -- and where none stands before one that it follows, the list ascends
  above : (x : P) (ys : List P) → AllByRecursion (λ (y : P). R y x → ⊥) ys → ((j : ℕ) (d : P) → j < length ys → Either x (get_or ys j d)) → AllByRecursion (R x) ys
  above x [] stand each = tt
  above x (y ∷ ys) stand each = (first (each 0 y (omega arith)), above x ys stand.1 (λ j d in_j. each (suc j) d (omega (arith, in_j))))
    where
      first : Either x y → R x y
      first (inl before) = before
      first (inr before) = absurd (stand.0 before)

  pub ascend_from_apart : (xs : List P) → StandInOrder R xs → Apart xs → Ascends R xs
  ascend_from_apart [] stand apart = tt
  ascend_from_apart (x ∷ xs) stand apart = (
    above x xs stand.0 (λ j d in_j. apart 0 (suc j) d (omega arith) (omega (arith, in_j)) (λ same. omega (arith, same))),
    ascend_from_apart xs stand.1 (λ i j d in_i in_j differ. apart (suc i) (suc j) d (omega (arith, in_i)) (omega (arith, in_j)) (λ same. differ (omega (arith, same)))),
  )
