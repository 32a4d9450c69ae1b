-- Two lists, place by place, and numbers of which none is twice, after one place has changed.
use Rattle.std.proofs.Common.{◌≡◌, ◌≢◌, ℕ, zero, suc, ◌<◌, ◌==◌, false, List, [], ◌∷◌, ◌++◌, length, get_or, map, set, remove, slice_get, AllPairs, Some, refl, sym, ap, subst, ◌∙◌, arith}
use Rattle.std.specs.List.{AllZip, AllByRecursion, IsDistinct}
use Rattle.std.proofs.lemmas.List.{get_or_default}
use Rattle.std.proofs.lemmas.Bool.{eq-eqb, ne_eqb, true≢false}

pub zip_last : {A B : Type 0} (R : A → B → Type 0) (xs : List A) (ys : List B) (x : A) (y : B) → AllZip R xs ys → R x y → AllZip R (xs ++ x ∷ []) (ys ++ y ∷ [])
zip_last R [] [] x y zip one = (one, tt)
zip_last R [] (b ∷ ys) x y zip one = absurd zip
zip_last R (a ∷ xs) [] x y zip one = absurd zip
zip_last R (a ∷ xs) (b ∷ ys) x y zip one = (zip.0, zip_last R xs ys x y zip.1 one)

pub zip_set : {A B : Type 0} (R : A → B → Type 0) (xs : List A) (ys : List B) (i : ℕ) (x : A) (y : B) → AllZip R xs ys → R x y → AllZip R (set xs i x) (set ys i y)
zip_set R [] [] i x y zip one = tt
zip_set R [] (b ∷ ys) i x y zip one = absurd zip
zip_set R (a ∷ xs) [] i x y zip one = absurd zip
zip_set R (a ∷ xs) (b ∷ ys) zero x y zip one = (one, zip.1)
zip_set R (a ∷ xs) (b ∷ ys) (suc i) x y zip one = (zip.0, zip_set R xs ys i x y zip.1 one)

pub zip_remove : {A B : Type 0} (R : A → B → Type 0) (xs : List A) (ys : List B) (i : ℕ) → AllZip R xs ys → AllZip R (remove xs i) (remove ys i)
zip_remove R [] [] zero zip = tt
zip_remove R [] [] (suc i) zip = tt
zip_remove R [] (b ∷ ys) i zip = absurd zip
zip_remove R (a ∷ xs) [] i zip = absurd zip
zip_remove R (a ∷ xs) (b ∷ ys) zero zip = zip.1
zip_remove R (a ∷ xs) (b ∷ ys) (suc i) zip = (zip.0, zip_remove R xs ys i zip.1)

pub zip_length : {A B : Type 0} (R : A → B → Type 0) (xs : List A) (ys : List B) → AllZip R xs ys → length ys ≡ length xs
zip_length R [] [] zip = refl
zip_length R [] (b ∷ ys) zip = absurd zip
zip_length R (a ∷ xs) [] zip = absurd zip
zip_length R (a ∷ xs) (b ∷ ys) zip = ap suc (zip_length R xs ys zip.1)

-- a number isn't one of these
abbrev pub Off : ℕ → List ℕ → Type 0
Off k ys = AllByRecursion (λ y. (k == y) ≡ false) ys

-- what holds of each pair but those of one number
pub zip_off : {A : Type 0} (R S : A → ℕ → Type 0) (k : ℕ) (xs : List A) (ys : List ℕ) → ((x : A) (y : ℕ) → y ≢ k → R x y → S x y) → Off k ys → AllZip R xs ys → AllZip S xs ys
zip_off R S k [] [] go off zip = tt
zip_off R S k [] (y ∷ ys) go off zip = absurd zip
zip_off R S k (x ∷ xs) [] go off zip = absurd zip
zip_off R S k (x ∷ xs) (y ∷ ys) go off zip =
    let apart : y ≢ k = λ e. true≢false (sym (eq-eqb k y (sym e)) ∙ off.0) in
    (go x y apart zip.0, zip_off R S k xs ys go off.1 zip.1)

pub zip_all : {A B : Type 0} (R S : A → B → Type 0) (xs : List A) (ys : List B) → ((x : A) (y : B) → R x y → S x y) → AllZip R xs ys → AllZip S xs ys
zip_all R S [] [] go zip = tt
zip_all R S [] (y ∷ ys) go zip = absurd zip
zip_all R S (x ∷ xs) [] go zip = absurd zip
zip_all R S (x ∷ xs) (y ∷ ys) go zip = (go x y zip.0, zip_all R S xs ys go zip.1)

-- a number of which R holds with nothing
pub off_none : {A : Type 0} (R : A → ℕ → Type 0) (k : ℕ) (xs : List A) (ys : List ℕ) → ((x : A) → R x k → ⊥) → AllZip R xs ys → Off k ys
off_none R k [] [] none zip = tt
off_none R k [] (y ∷ ys) none zip = absurd zip
off_none R k (x ∷ xs) [] none zip = absurd zip
off_none R k (x ∷ xs) (y ∷ ys) none zip =
    let apart : k ≢ y = λ e. none x (subst (R x) (sym e) zip.0) in
    (ne_eqb k y apart, off_none R k xs ys none zip.1)

off_last : (k : ℕ) (ys : List ℕ) (y : ℕ) → Off k ys → (k == y) ≡ false → Off k (ys ++ y ∷ [])
off_last k [] y off one = (one, tt)
off_last k (b ∷ ys) y off one = (off.0, off_last k ys y off.1 one)

off_set : (k : ℕ) (ys : List ℕ) (i y : ℕ) → Off k ys → (k == y) ≡ false → Off k (set ys i y)
off_set k [] i y off one = tt
off_set k (b ∷ ys) zero y off one = (one, off.1)
off_set k (b ∷ ys) (suc i) y off one = (off.0, off_set k ys i y off.1 one)

off_remove : (k : ℕ) (ys : List ℕ) (i : ℕ) → Off k ys → Off k (remove ys i)
off_remove k [] zero off = tt
off_remove k [] (suc i) off = tt
off_remove k (b ∷ ys) zero off = off.1
off_remove k (b ∷ ys) (suc i) off = (off.0, off_remove k ys i off.1)

eqb_sym : (a b : ℕ) → (a == b) ≡ false → (b == a) ≡ false
eqb_sym a b off = ne_eqb b a (λ e. true≢false (sym (eq-eqb a b (sym e)) ∙ off))

off_at : (k : ℕ) (ys : List ℕ) (i : ℕ) → Off k ys → i < length ys → (k == get_or ys i 0) ≡ false
off_at k [] i off within = absurd (omega arith)
off_at k (y ∷ ys) zero off within = off.0
off_at k (y ∷ ys) (suc i) off within = off_at k ys i off.1 (omega arith)

-- numbers of which none is twice
abbrev pub Apart : List ℕ → Type 0
Apart ys = IsDistinct (λ a b. a == b) ys

pub apart_last : (ys : List ℕ) (y : ℕ) → Apart ys → Off y ys → Apart (ys ++ y ∷ [])
unfolding IsDistinct
apart_last [] y apart off = (tt, tt)
apart_last (b ∷ ys) y apart off = (off_last b ys y apart.0 (eqb_sym y b off.0), apart_last ys y apart.1 off.1)

pub apart_set : (ys : List ℕ) (i y : ℕ) → Apart ys → Off y ys → Apart (set ys i y)
unfolding IsDistinct
apart_set [] i y apart off = tt
apart_set (b ∷ ys) zero y apart off = (off.1, apart.1)
apart_set (b ∷ ys) (suc i) y apart off = (off_set b ys i y apart.0 (eqb_sym y b off.0), apart_set ys i y apart.1 off.1)

pub apart_remove : (ys : List ℕ) (i : ℕ) → Apart ys → Apart (remove ys i)
unfolding IsDistinct
apart_remove [] zero apart = tt
apart_remove [] (suc i) apart = tt
apart_remove (b ∷ ys) zero apart = apart.1
apart_remove (b ∷ ys) (suc i) apart = (off_remove b ys i apart.0, apart_remove ys i apart.1)

-- the number that was replaced
pub set_off : (ys : List ℕ) (i y : ℕ) → Apart ys → Off y ys → i < length ys → Off (get_or ys i 0) (set ys i y)
unfolding IsDistinct
set_off [] i y apart off within = absurd (omega arith)
set_off (b ∷ ys) zero y apart off within = (eqb_sym y b off.0, apart.0)
set_off (b ∷ ys) (suc i) y apart off within =
    (eqb_sym b (get_or ys i 0) (off_at b ys i apart.0 (omega arith)), set_off ys i y apart.1 off.1 (omega arith))

-- the number that was taken out
pub removed_off : (ys : List ℕ) (i : ℕ) → Apart ys → i < length ys → Off (get_or ys i 0) (remove ys i)
unfolding IsDistinct
removed_off [] i apart within = absurd (omega arith)
removed_off (b ∷ ys) zero apart within = apart.0
removed_off (b ∷ ys) (suc i) apart within =
    (eqb_sym b (get_or ys i 0) (off_at b ys i apart.0 (omega arith)), removed_off ys i apart.1 (omega arith))

-- the same, told place by place
pub zip_each : {A : Type 0} (R : A → ℕ → Type 0) (xs : List A) (ys : List ℕ) → AllZip R xs ys → (k : ℕ) (x : A) → slice_get xs k ≡ Some x → R x (get_or ys k 0)
zip_each R [] ys zip k x there = absurd (cc)
zip_each R (a ∷ xs) [] zip k x there = absurd zip
zip_each R (a ∷ xs) (b ∷ ys) zip zero x there = let e : a ≡ x = cc in subst (λ z. R z b) e zip.0
zip_each R (a ∷ xs) (b ∷ ys) zip (suc k) x there = zip_each R xs ys zip.1 k x there

pub each_zip : {A : Type 0} (R : A → ℕ → Type 0) (xs : List A) (ys : List ℕ) → length ys ≡ length xs → ((k : ℕ) (x : A) → slice_get xs k ≡ Some x → R x (get_or ys k 0)) → AllZip R xs ys
each_zip R [] [] long each = tt
each_zip R [] (b ∷ ys) long each = absurd (omega arith)
each_zip R (a ∷ xs) [] long each = absurd (omega arith)
each_zip R (a ∷ xs) (b ∷ ys) long each = (each 0 a refl, each_zip R xs ys (omega arith) (λ k x there. each (suc k) x there))

off_pairs : (y : ℕ) (ys : List ℕ) → ((j : ℕ) → j < length ys → y ≢ get_or ys j 0) → Off y ys
off_pairs y [] apart = tt
off_pairs y (b ∷ ys) apart = (ne_eqb y b (apart 0 (omega arith)), off_pairs y ys (λ j within. apart (suc j) (omega arith)))

pub pairs_apart : (ys : List ℕ) → AllPairs (λ a b. a ≢ b) ys → Apart ys
unfolding IsDistinct
pairs_apart [] pairs = tt
pairs_apart (y ∷ ys) pairs =
    (off_pairs y ys (λ j within. pairs 0 (suc j) 0 (omega arith) (omega arith)), pairs_apart ys (λ i j d before within. pairs (suc i) (suc j) d (omega arith) (omega arith)))

pub apart_pairs : (ys : List ℕ) → Apart ys → AllPairs (λ a b. a ≢ b) ys
unfolding IsDistinct
apart_pairs ys apart = λ i j d before within. by ys apart i j d before within
  where
    by : (ys : List ℕ) → Apart ys → (i j d : ℕ) → i < j → j < length ys → get_or ys i d ≢ get_or ys j d
    by [] apart i j d before within = absurd (omega arith)
    by (y ∷ ys) apart zero zero d before within = absurd (omega arith)
    by (y ∷ ys) apart zero (suc j) d before within = λ e. true≢false (sym (eq-eqb y (get_or ys j 0) (e ∙ get_or_default ys j d 0 (omega arith))) ∙ off_at y ys j apart.0 (omega arith))
    by (y ∷ ys) apart (suc i) zero d before within = absurd (omega arith)
    by (y ∷ ys) apart (suc i) (suc j) d before within = by ys apart.1 i j d (omega arith) (omega arith)

-- what is made of each element, without one
pub map_remove : {X Y : Type 0} (f : X → Y) (xs : List X) (i : ℕ) → map f (remove xs i) ≡ remove (map f xs) i
map_remove f [] zero = refl
map_remove f [] (suc i) = refl
map_remove f (x ∷ xs) zero = refl
map_remove f (x ∷ xs) (suc i) = ap (λ ys. f x ∷ ys) (map_remove f xs i)
