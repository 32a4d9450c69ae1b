-- Items that stand in lists.
use Rattle.std.proofs.Common.{◌≡◌, ℕ, suc, zero, ◌<◌, Bool, true, false, cond, List, [], ◌∷◌, ◌++◌, map, length, get_or, Some, refl, ap, sym, subst, arith, inl, inr, ◌⊎◌}
use Rattle.std.specs.List.{find, flat_map, AllByRecursion}

-- the item is one of the list's
abbrev pub Stands : {A : Type 0} → A → List A → Type 0
Stands item [] = ⊥
Stands item (other ∷ items) = (other ≡ item) ⊎ Stands item items

-- what is true of all is true of each
pub all-at : {A : Type 0} (P : A → Type 0) (item : A) (items : List A) → AllByRecursion P items → Stands item items → P item
all-at P item [] holds stands = absurd stands
all-at P item (other ∷ items) holds (inl is) = subst P is holds.0
all-at P item (other ∷ items) holds (inr among) = all-at P item items holds.1 among

-- what is true of each is true of all
pub each-all : {A : Type 0} (P : A → Type 0) (items : List A) → ((item : A) → Stands item items → P item) → AllByRecursion P items
each-all P [] each = tt
each-all P (item ∷ items) each = (each item (inl refl), each-all P items (λ other among. each other (inr among)))

pub stands-left : {A : Type 0} (item : A) (some others : List A) → Stands item some → Stands item (some ++ others)
stands-left item [] others stands = absurd stands
stands-left item (other ∷ some) others (inl is) = inl is
stands-left item (other ∷ some) others (inr among) = inr (stands-left item some others among)

pub stands-right : {A : Type 0} (item : A) (some others : List A) → Stands item others → Stands item (some ++ others)
stands-right item [] others stands = stands
stands-right item (other ∷ some) others stands = inr (stands-right item some others stands)

pub stands-map : {A B : Type 0} (f : A → B) (item : A) (items : List A) → Stands item items → Stands (f item) (map f items)
stands-map f item [] stands = absurd stands
stands-map f item (other ∷ items) (inl is) = inl (ap f is)
stands-map f item (other ∷ items) (inr among) = inr (stands-map f item items among)

pub stands-flat_map : {A B : Type 0} (f : A → List B) (item : A) (items : List A) (made : B) → Stands item items
    → Stands made (f item) → Stands made (flat_map f items)
stands-flat_map f item [] made stands within = absurd stands
stands-flat_map {A} {B} f item (other ∷ items) made (inl is) within =
    stands-left made (f other) (flat_map f items) (subst (λ (x : A). Stands made (f x)) (sym is) within)
stands-flat_map f item (other ∷ items) made (inr among) within =
    stands-right made (f other) (flat_map f items) (stands-flat_map f item items made among within)

-- what is found stands there
pub stands-find : {A : Type 0} (test : A → Bool) (items : List A) (item : A) → find test items ≡ Some item → Stands item items
stands-find test [] item found = absurd (cc)
stands-find {A} test (other ∷ items) item found = by (test other) (λ e. stands-find test items item e) found
  where
    by : (b : Bool) → (find test items ≡ Some item → Stands item items)
        → cond b (Some other) (find test items) ≡ Some item → (other ≡ item) ⊎ Stands item items
    by true rest e = inl (cc)
    by false rest e = inr (rest e)

-- the item at a place stands there
pub stands-at : {A : Type 0} (items : List A) (i : ℕ) (item : A) → i < length items → item ≡ get_or items i item → Stands item items
stands-at [] i item within is = absurd (omega arith)
stands-at (other ∷ items) zero item within is = inl (sym is)
stands-at (other ∷ items) (suc i) item within is = inr (stands-at items i item (omega arith) is)

-- what stands in a list has a place there
pub stands-contains : {A : Type 0} (item : A) (items : List A) → Stands item items
    → (k : ℕ) × (k < length items) × (get_or items k item ≡ item)
stands-contains item [] stands = absurd stands
stands-contains item (other ∷ items) (inl is) = (0, omega arith, is)
stands-contains item (other ∷ items) (inr among) =
    let at = stands-contains item items among in (suc at.0, omega (arith, at.1), at.2)
