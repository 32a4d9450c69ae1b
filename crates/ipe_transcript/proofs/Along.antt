-- What a map does to the order of entries, where it keeps the actor and the key of each of them.
use Rattle.std.proofs.Common.{◌≡◌, ℕ, ◌<◌, ◌==◌, inl, inr, Bool, true, false, cond, List, [], ◌∷◌, map, Option, refl, sym, ap, subst, ◌∙◌}
use Rattle.std.specs.List.{AllByRecursion, filter_map, cons_option}
use Rattle.ipe_transcript.specs.Keys.{Key, Rises, own_of, FollowsItsOwn, StandsAtTheBeginning, UnplacedStand, AreInPlace, ArePrinted}

module _ {X Y : Type 0} (actor : X → ℕ) (key : X → Option Key) (actor_y : Y → ℕ) (key_y : Y → Option Key) (f : X → Y) where
  -- the map keeps an entry's actor and key
  abbrev pub Keeps : X → Type 0
  Keeps x = (actor_y (f x) ≡ actor x) × (key_y (f x) ≡ key x)

  pub own_along : (a : ℕ) (xs : List X) → AllByRecursion Keeps xs → own_of actor_y a (map f xs) ≡ map f (own_of actor a xs)
  own_along a [] keep = refl
  own_along a (x ∷ xs) keep =
      ap (λ (n : ℕ). cond (n == a) (f x ∷ own_of actor_y a (map f xs)) (own_of actor_y a (map f xs))) keep.0.0
      ∙ ap (λ (ys : List Y). cond (actor x == a) (f x ∷ ys) ys) (own_along a xs keep.1)
      ∙ by (actor x == a)
    where
      by : (b : Bool) → cond b (f x ∷ map f (own_of actor a xs)) (map f (own_of actor a xs)) ≡ map f (cond b (x ∷ own_of actor a xs) (own_of actor a xs))
      by true = refl
      by false = refl

  keys_along : (xs : List X) → AllByRecursion Keeps xs → filter_map key_y (map f xs) ≡ filter_map key xs
  keys_along [] keep = refl
  keys_along (x ∷ xs) keep = ap (λ (o : Option Key). cons_option o (filter_map key_y (map f xs))) keep.0.1 ∙ ap (cons_option (key x)) (keys_along xs keep.1)

  begins_along : (before : List X) (x : X) → AllByRecursion Keeps before → Keeps x → StandsAtTheBeginning actor key before x → StandsAtTheBeginning actor_y key_y (map f before) (f x)
  begins_along [] x keep kept begins = tt
  begins_along (y ∷ ys) x keep kept begins =
      ((keep.0.1 ∙ begins.0.0, subst (λ (n : ℕ). n < actor_y (f x)) (sym keep.0.0) (subst (λ (n : ℕ). actor y < n) (sym kept.0) begins.0.1)), begins_along ys x keep.1 kept begins.1)

  follows_along : (before : List X) (x : X) → AllByRecursion Keeps before → Keeps x → FollowsItsOwn actor before x → FollowsItsOwn actor_y (map f before) (f x)
  follows_along [] x keep kept follows = follows
  follows_along (y ∷ ys) x keep kept follows = keep.0.0 ∙ follows ∙ sym kept.0

  stand_along : (before xs : List X) → AllByRecursion Keeps before → AllByRecursion Keeps xs → UnplacedStand actor key before xs → UnplacedStand actor_y key_y (map f before) (map f xs)
  stand_along before [] keep kept stand = tt
  stand_along before (x ∷ xs) keep kept stand = (
    (λ none. elim (stand.0 (sym kept.0.1 ∙ none)) [
      | inl follows ↦ inl (follows_along before x keep kept.0 follows)
      | inr begins ↦ inr (begins_along before x keep kept.0 begins)
    ]),
    stand_along (x ∷ before) xs (kept.0, keep) kept.1 stand.1,
  )

  -- entries in place are in place as they are mapped
  in_place_along : (xs : List X) → AllByRecursion Keeps xs → AreInPlace actor key xs → AreInPlace actor_y key_y (map f xs)
  in_place_along xs keep is = record {
    rises = subst Rises (sym (keys_along xs keep)) is.rises;
    stand = stand_along [] xs tt keep is.stand;
  }

  -- an order of entries is one of what is printed of them
  pub printed_along : (entries printed : List X) → AllByRecursion Keeps entries → AllByRecursion Keeps printed → ArePrinted actor key entries printed → ArePrinted actor_y key_y (map f entries) (map f printed)
  printed_along entries printed keep kept is = record {
    own = λ a. own_along a printed kept ∙ ap (map f) (is.own a) ∙ sym (own_along a entries keep);
    in_place = in_place_along printed kept is.in_place;
  }
