-- An order of what entries are mapped to, each one's own in that one's order, is the map of such an order of the entries.
use Rattle.std.proofs.Common.{◌≡◌, ℕ, ◌==◌, inl, inr, Bool, true, false, cond, List, [], ◌∷◌, map, Option, None, refl, sym, ap, subst, ◌∙◌}
use Rattle.std.proofs.lemmas.Bool.{eqb-true, eq-eqb, cases_Bool}
use Rattle.ipe_transcript.specs.Keys.{Key, own_of}
use Rattle.ipe_transcript.proofs.Once.{own-first, own-skip}

-- an actor's first own entry, taken out of a list
module _ {X : Type 0} (actor : X → ℕ) where
  abbrev pub no_key : X → Option Key
  no_key x = None

  abbrev pub without_first : ℕ → List X → List X
  without_first a [] = []
  without_first a (x ∷ xs) = cond (actor x == a) xs (x ∷ without_first a xs)

  abbrev pub rest_of : List X → List X
  rest_of [] = []
  rest_of (x ∷ xs) = xs

  -- its own are then the rest, and the others' are as they were
  pub without_own : (a : ℕ) (xs : List X) → own_of actor a (without_first a xs) ≡ rest_of (own_of actor a xs)
  without_own a [] = refl
  without_own a (x ∷ xs) = by (actor x == a) refl (without_own a xs)
    where
      by : (b : Bool) → (actor x == a) ≡ b → own_of actor a (without_first a xs) ≡ rest_of (own_of actor a xs) → own_of actor a (cond b xs (x ∷ without_first a xs)) ≡ rest_of (cond b (x ∷ own_of actor a xs) (own_of actor a xs))
      by true is rest = refl
      by false is rest = own-skip actor no_key a x (without_first a xs) is ∙ rest

  pub without_other : (a b : ℕ) (xs : List X) → (a == b) ≡ false → own_of actor b (without_first a xs) ≡ own_of actor b xs
  without_other a b [] differ = refl
  without_other a b (x ∷ xs) differ = by (actor x == a) refl (without_other a b xs differ)
    where
      by : (c : Bool) → (actor x == a) ≡ c → own_of actor b (without_first a xs) ≡ own_of actor b xs → own_of actor b (cond c xs (x ∷ without_first a xs)) ≡ own_of actor b (x ∷ xs)
      by true is rest = sym (own-skip actor no_key b x xs (ap (λ (n : ℕ). n == b) (eqb-true (actor x) a is) ∙ differ))
      by false is rest = ap (λ (ys : List X). cond (actor x == b) (x ∷ ys) ys) rest

module _ {X Y : Type 0} (actor : X → ℕ) (actor_y : Y → ℕ) (f : X → Y) (same_actor : (x : X) → actor_y (f x) ≡ actor x) where
  pub own_map : (a : ℕ) (xs : List X) → own_of actor_y a (map f xs) ≡ map f (own_of actor a xs)
  own_map a [] = refl
  own_map a (x ∷ xs) =
      ap (λ (n : ℕ). cond (n == a) (f x ∷ own_of actor_y a (map f xs)) (own_of actor_y a (map f xs))) (same_actor x)
      ∙ ap (λ (ys : List Y). cond (actor x == a) (f x ∷ ys) ys) (own_map a xs)
      ∙ by (actor x == a)
    where
      by : (b : Bool) → cond b (f x ∷ map f (own_of actor a xs)) (map f (own_of actor a xs)) ≡ map f (cond b (x ∷ own_of actor a xs) (own_of actor a xs))
      by true = refl
      by false = refl

  abbrev pub Lifted : List X → List Y → Type 0
  Lifted xs zs = (lifted : List X) × (map f lifted ≡ zs) × ((a : ℕ) → own_of actor a lifted ≡ own_of actor a xs)

  -- a list whose map is empty, and one whose map begins so
  map_none : (xs : List X) → map f xs ≡ [] → xs ≡ []
  map_none [] same = refl
  map_none (x ∷ xs) same = cc

  abbrev Begins : List X → Y → List Y → Type 0
  Begins xs z zs = (y : X) × (xs ≡ y ∷ rest_of actor xs) × (f y ≡ z) × (map f (rest_of actor xs) ≡ zs)

  map_first : (xs : List X) (z : Y) (zs : List Y) → map f xs ≡ z ∷ zs → Begins xs z zs
  map_first [] z zs same = cc
  map_first (x ∷ xs) z zs same =
      let first : f x ≡ z = cc in
      let rest : map f xs ≡ zs = cc in
      (x, refl, first, rest)

  -- without the first
  rest_same : (z : Y) (zs : List Y) (xs : List X) → ((a : ℕ) → own_of actor_y a (z ∷ zs) ≡ own_of actor_y a (map f xs)) → map f (rest_of actor (own_of actor (actor_y z) xs)) ≡ own_of actor_y (actor_y z) zs
      → (b : ℕ) → own_of actor_y b zs ≡ own_of actor_y b (map f (without_first actor (actor_y z) xs))
  rest_same z zs xs same rest b = elim (cases_Bool (actor_y z == b)) [
    | inl is ↦
        let e : actor_y z ≡ b = eqb-true (actor_y z) b is in
        subst (λ (n : ℕ). own_of actor_y n zs ≡ own_of actor_y n (map f (without_first actor (actor_y z) xs))) e (
        sym rest
        ∙ ap (map f) (sym (without_own actor (actor_y z) xs))
        ∙ sym (own_map (actor_y z) (without_first actor (actor_y z) xs))
        )
    | inr is ↦
        sym (own-skip actor_y (no_key actor_y) b z zs is)
        ∙ same b
        ∙ own_map b xs
        ∙ ap (map f) (sym (without_other actor (actor_y z) b xs is))
        ∙ sym (own_map b (without_first actor (actor_y z) xs))
  ]

  -- with the first in front
  lift_first : (z : Y) (zs : List Y) (xs : List X) → Begins (own_of actor (actor_y z) xs) z (own_of actor_y (actor_y z) zs) → Lifted (without_first actor (actor_y z) xs) zs → Lifted xs (z ∷ zs)
  lift_first z zs xs begins rest = (
    begins.0 ∷ rest.0,
    ap (λ (y : Y). y ∷ map f rest.0) begins.2 ∙ ap (λ (ys : List Y). z ∷ ys) rest.1,
    λ b. by b (actor_y z == b) refl,
  )
    where
      own_actor : actor begins.0 ≡ actor_y z
      own_actor = sym (same_actor begins.0) ∙ ap actor_y begins.2

      by : (b : ℕ) (c : Bool) → (actor_y z == b) ≡ c → own_of actor b (begins.0 ∷ rest.0) ≡ own_of actor b xs
      by b true is =
          let e : actor_y z ≡ b = eqb-true (actor_y z) b is in
          subst (λ (n : ℕ). own_of actor n (begins.0 ∷ rest.0) ≡ own_of actor n xs) e (
          own-first actor (no_key actor) (actor_y z) begins.0 rest.0 (eq-eqb (actor begins.0) (actor_y z) own_actor)
          ∙ ap (λ (ys : List X). begins.0 ∷ ys) (rest.2 (actor_y z) ∙ without_own actor (actor_y z) xs)
          ∙ sym begins.1
          )
      by b false is =
          own-skip actor (no_key actor) b begins.0 rest.0 (ap (λ (n : ℕ). n == b) own_actor ∙ is)
          ∙ rest.2 b
          ∙ without_other actor (actor_y z) b xs is

  pub weave_lifts : (zs : List Y) (xs : List X) → ((a : ℕ) → own_of actor_y a zs ≡ own_of actor_y a (map f xs)) → Lifted xs zs
  weave_lifts [] xs same = ([], refl, λ a. sym (map_none (own_of actor a xs) (sym (own_map a xs) ∙ sym (same a))))
  weave_lifts (z ∷ zs) xs same =
      let first : map f (own_of actor (actor_y z) xs) ≡ z ∷ own_of actor_y (actor_y z) zs =
      sym (own_map (actor_y z) xs) ∙ sym (same (actor_y z)) ∙ own-first actor_y (no_key actor_y) (actor_y z) z zs (eq-eqb (actor_y z) (actor_y z) refl) in
      let begins : Begins (own_of actor (actor_y z) xs) z (own_of actor_y (actor_y z) zs) = map_first (own_of actor (actor_y z) xs) z (own_of actor_y (actor_y z) zs) first in
      lift_first z zs xs begins (weave_lifts zs (without_first actor (actor_y z) xs) (rest_same z zs xs same begins.3))
