-- Items by their numbers, and tests of all numbers below one.
use Rattle.std.proofs.Common.{◌≡◌, inl, inr, ℕ, zero, suc, ◌+◌, ◌<◌, Bool, true, ◌&&◌, List, [], ◌∷◌, ◌++◌, length, get_or, map, refl, ap, ◌∙◌, arith}
use Rattle.std.specs.List.{AllByRecursion, flat_map, range_with_len}
use Rattle.std.proofs.lemmas.Bool.{and_parts, cases_lt}
use Rattle.std.proofs.lemmas.List.{append-nil}
use Rattle.std.proofs.lemmas.List.Concat.{flat_map-append}
use Rattle.std.proofs.lemmas.List.FromFn.{get_or-map-range_with_len, length-map-range_with_len, map-range_with_len_more}
use Rattle.ipe_sim.specs.Roll.{each}

pub each-none : {A : Type 0} (item : ℕ → A) → each 0 item ≡ []
unfolding each
each-none item = refl

pub each-more : {A : Type 0} (count : ℕ) (item : ℕ → A) → each (suc count) item ≡ each count item ++ item count ∷ []
unfolding each
each-more count item =
    let more : suc count ≡ count + 1 = omega arith in
    ap (λ (n : ℕ). map item (range_with_len 0 n)) more ∙ map-range_with_len_more item 0 count count (omega arith)

pub length-each : {A : Type 0} (count : ℕ) (item : ℕ → A) → length (each count item) ≡ count
unfolding each
length-each count item = length-map-range_with_len item 0 count

pub flat_map-each : {A B : Type 0} (text : A → List B) (count : ℕ) (item : ℕ → A)
    → flat_map text (each (suc count) item) ≡ flat_map text (each count item) ++ text (item count)
flat_map-each {B = B} text count item =
    ap (flat_map text) (each-more count item) ∙ flat_map-append text (each count item) (item count ∷ [])
    ∙ ap (λ (last : List B). flat_map text (each count item) ++ last) (append-nil (text (item count)))

all-more : {A : Type 0} (P : A → Type 0) (xs : List A) (x : A) → AllByRecursion P xs → P x → AllByRecursion P (xs ++ x ∷ [])
all-more P [] x all one = (one, tt)
all-more P (y ∷ ys) x all one = (all.0, all-more P ys x all.1 one)

-- what holds of the item of each number holds of each item
pub all-each : {A : Type 0} (P : A → Type 0) (count : ℕ) (item : ℕ → A) → ((i : ℕ) → i < count → P (item i))
    → AllByRecursion P (each count item)
all-each P zero item holds = rw (each-none item) tt
all-each P (suc count) item holds =
    rw (each-more count item)
    (all-more P (each count item) (item count) (all-each P count item (λ i below. holds i (omega (arith, below))))
    (holds count (omega arith)))

-- ---- tests of all numbers below one

abbrev pub all_below : ℕ → (ℕ → Bool) → Bool
all_below zero test = true
all_below (suc count) test = test count && all_below count test

pub below-at : (count : ℕ) (test : ℕ → Bool) (i : ℕ) → all_below count test ≡ true → i < count → test i ≡ true
below-at zero test i e below = absurd (omega (arith, below))
below-at (suc count) test i e below =
    let parts = and_parts (test count) (all_below count test) e in
    elim (cases_lt i count) [
      | inl less ↦ below-at count test i parts.1 less
      | inr top ↦ let same : i ≡ count = omega (arith, below, top) in rw same parts.0
    ]

-- the item of a number
pub get_or-each : {A : Type 0} (count : ℕ) (item : ℕ → A) (i : ℕ) (d : A) → i < count → get_or (each count item) i d ≡ item i
unfolding each
get_or-each count item i d below = get_or-map-range_with_len item 0 count i i d below (omega arith)
