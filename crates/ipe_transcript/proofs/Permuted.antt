-- Lists in which each actor has the same own list have the same elements.
use Rattle.std.proofs.Common.{◌≡◌, ℕ, ◌==◌, inl, inr, List, [], ◌∷◌, refl, sym, ap, subst, ◌∙◌, arith}
use Rattle.std.specs.List.Sorted.{IsPermutation}
use Rattle.std.proofs.lemmas.Bool.{eqb-true, eq-eqb, cases_Bool}
use Rattle.std.proofs.lemmas.List.Sorted.{IsPermutation-refl, IsPermutation-sym, IsPermutation-cons, IsPermutation-swap, IsPermutation-trans}
use Rattle.ipe_transcript.specs.Keys.{own_of}
use Rattle.ipe_transcript.proofs.Once.{own-first, own-skip}
use Rattle.ipe_transcript.proofs.Lifting.{no_key, without_first, rest_of, without_own, without_other}

module _ {X : Type 0} (actor : X → ℕ) where
  -- a list in which an actor's first own entry is taken to the front
  first_out : (a : ℕ) (x : X) (rest ys : List X) → own_of actor a ys ≡ x ∷ rest → IsPermutation ys (x ∷ without_first actor a ys)
  first_out a x rest [] same = cc
  first_out a x rest (y ∷ ys) same = elim (cases_Bool (actor y == a)) [
    | inl is ↦
        let both : y ∷ own_of actor a ys ≡ x ∷ rest = sym (own-first actor (no_key actor) a y ys is) ∙ same in
        let first : y ≡ x = cc in
        let left : without_first actor a (y ∷ ys) ≡ ys = rw is refl in
        subst (λ (zs : List X). IsPermutation (y ∷ ys) (x ∷ zs)) (sym left) (subst (λ (z : X). IsPermutation (y ∷ ys) (z ∷ ys)) first (IsPermutation-refl (y ∷ ys)))
    | inr is ↦
        let left : without_first actor a (y ∷ ys) ≡ y ∷ without_first actor a ys = rw is refl in
        let more : IsPermutation (y ∷ ys) (y ∷ x ∷ without_first actor a ys) =
        IsPermutation-cons y ys (x ∷ without_first actor a ys) (first_out a x rest ys (sym (own-skip actor (no_key actor) a y ys is) ∙ same)) in
        let turned : IsPermutation (y ∷ x ∷ without_first actor a ys) (x ∷ y ∷ without_first actor a ys) =
        IsPermutation-swap (y ∷ x ∷ without_first actor a ys) (x ∷ y ∷ without_first actor a ys) 0 1 (omega arith) (omega arith) refl in
        subst (λ (zs : List X). IsPermutation (y ∷ ys) (x ∷ zs)) (sym left) (IsPermutation-trans (y ∷ ys) (y ∷ x ∷ without_first actor a ys) (x ∷ y ∷ without_first actor a ys) more turned)
  ]

  -- the others' own lists, and what is left of this one's
  left_same : (x : X) (xs ys : List X) → ((a : ℕ) → own_of actor a (x ∷ xs) ≡ own_of actor a ys) → (b : ℕ) → own_of actor b xs ≡ own_of actor b (without_first actor (actor x) ys)
  left_same x xs ys same b = elim (cases_Bool (actor x == b)) [
    | inl is ↦
        let e : actor x ≡ b = eqb-true (actor x) b is in
        let own : own_of actor (actor x) ys ≡ x ∷ own_of actor (actor x) xs = sym (same (actor x)) ∙ own-first actor (no_key actor) (actor x) x xs (eq-eqb (actor x) (actor x) refl) in
        subst (λ (n : ℕ). own_of actor n xs ≡ own_of actor n (without_first actor (actor x) ys)) e (sym (without_own actor (actor x) ys ∙ ap (rest_of actor) own))
    | inr is ↦ sym (own-skip actor (no_key actor) b x xs is) ∙ same b ∙ sym (without_other actor (actor x) b ys is)
  ]

  no_own : (ys : List X) → ((a : ℕ) → [] ≡ own_of actor a ys) → ys ≡ []
  no_own [] same = refl
  no_own (y ∷ ys) same =
      let own : [] ≡ y ∷ own_of actor (actor y) ys = same (actor y) ∙ own-first actor (no_key actor) (actor y) y ys (eq-eqb (actor y) (actor y) refl) in
      cc

  pub own_permutes : (xs ys : List X) → ((a : ℕ) → own_of actor a xs ≡ own_of actor a ys) → IsPermutation xs ys
  own_permutes [] ys same = subst (IsPermutation []) (sym (no_own ys same)) (IsPermutation-refl [])
  own_permutes (x ∷ xs) ys same =
      let first : own_of actor (actor x) ys ≡ x ∷ own_of actor (actor x) xs = sym (same (actor x)) ∙ own-first actor (no_key actor) (actor x) x xs (eq-eqb (actor x) (actor x) refl) in
      let rest : IsPermutation xs (without_first actor (actor x) ys) = own_permutes xs (without_first actor (actor x) ys) (left_same x xs ys same) in
      IsPermutation-trans (x ∷ xs) (x ∷ without_first actor (actor x) ys) ys (IsPermutation-cons x xs (without_first actor (actor x) ys) rest)
      (IsPermutation-sym ys (x ∷ without_first actor (actor x) ys) (first_out (actor x) x (own_of actor (actor x) xs) ys first))
