-- What holds of each element of a list.
use Rattle.std.proofs.Common.{◌≡◌, ℕ, ◌==◌, Bool, true, false, cond, List, [], ◌∷◌, ◌++◌, refl}
use Rattle.std.specs.List.{AllByRecursion}
use Rattle.std.proofs.lemmas.Bool.{eq-eqb}
use Rattle.ipe_transcript.specs.Keys.{own_of}

-- what holds of each element of two lists holds of each of both together
pub All_both : {X : Type 0} (P : X → Type 0) (xs ys : List X) → AllByRecursion P xs → AllByRecursion P ys → AllByRecursion P (xs ++ ys)
All_both P [] ys h k = k
All_both P (x ∷ xs) ys h k = (h.0, All_both P xs ys h.1 k)

module _ {X : Type 0} (P : X → Type 0) (actor : X → ℕ) where
  -- what holds of each holds of each that is an actor's own
  pub own_each : (a : ℕ) (xs : List X) → AllByRecursion P xs → AllByRecursion P (own_of actor a xs)
  own_each a [] all = tt
  own_each a (x ∷ xs) all = by (actor x == a) (own_each a xs all.1)
    where
      by : (own : Bool) → AllByRecursion P (own_of actor a xs) → AllByRecursion P (cond own (x ∷ own_of actor a xs) (own_of actor a xs))
      by true rest = (all.0, rest)
      by false rest = rest

  -- what holds of an element and others that are an actor's own
  first_own : (own : Bool) (x : X) (xs : List X) → own ≡ true → AllByRecursion P (cond own (x ∷ xs) xs) → P x
  first_own true x xs is all = all.0
  first_own false x xs is all = absurd cc

  -- or of the others alone
  rest_own : (own : Bool) (x : X) (xs : List X) → AllByRecursion P (cond own (x ∷ xs) xs) → AllByRecursion P xs
  rest_own true x xs all = all.1
  rest_own false x xs all = all

  -- what holds of each actor's own holds of each
  pub each_own : (xs : List X) → ((a : ℕ) → AllByRecursion P (own_of actor a xs)) → AllByRecursion P xs
  each_own [] all = tt
  each_own (x ∷ xs) all = (
    first_own (actor x == actor x) x (own_of actor (actor x) xs) (eq-eqb (actor x) (actor x) refl) (all (actor x)),
    each_own xs (λ a. rest_own (actor x == a) x (own_of actor a xs) (all a)),
  )

  -- so a list that has each actor's own of another has what the other has
  pub each_same : (xs ys : List X) → ((a : ℕ) → own_of actor a xs ≡ own_of actor a ys) → AllByRecursion P ys → AllByRecursion P xs
  each_same xs ys same all = each_own xs (λ a. rw (same a) (own_each a ys all))
