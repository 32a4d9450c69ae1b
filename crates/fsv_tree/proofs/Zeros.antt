-- Zeros, and bytes that are filled with them.
use Rattle.std.proofs.Common.{◌≡◌, ℕ, ◌+◌, ◌-◌, ◌<◌, ◌≤◌, List, ◌++◌, length, take, drop, get_or, replicate, ap, refl, sym, ◌∙◌, arith, inl, inr}
use Rattle.std.proofs.lemmas.Bool.{cases_lt}
use Rattle.std.proofs.lemmas.List.{length-drop, length-take, length-replicate, take-append-drop, drop-drop, drop-replicate, get_or-replicate, get_or-append_right, get_or_past, get_or-take, get_or-drop, ext_get_or, replicate-append-replicate}
use Rattle.hash_tree.specs.Tree.{filled}
use Rattle.fsv_tree.specs.Descriptor.{zeros}

pub zeros_are : (count : ℕ) → zeros count ≡ replicate count 0
unfolding zeros
zeros_are count = refl

pub length-zeros : (count : ℕ) → length (zeros count) ≡ count
unfolding zeros
length-zeros count = length-replicate count 0

pub drop-zeros : (m n : ℕ) → drop m (zeros n) ≡ zeros (n - m)
unfolding zeros
drop-zeros m n = drop-replicate m n 0

pub zeros-append : (m n : ℕ) → zeros m ++ zeros n ≡ zeros (m + n)
unfolding zeros
zeros-append m n = replicate-append-replicate m n 0

pub get_or-zeros : (count i : ℕ) → get_or (zeros count) i 0 ≡ 0
unfolding zeros
get_or-zeros count i = elim (cases_lt i count) [
  | inl below ↦ get_or-replicate count i 0 0 below
  | inr past ↦ get_or_past (replicate count 0) i 0 (omega (arith, length-replicate {A = ℕ} count 0))
]

-- bytes that are all 0
pub all_zeros : (count : ℕ) (bytes : List ℕ) → length bytes ≡ count →
    ((i : ℕ) → i < count → get_or bytes i 0 ≡ 0) → bytes ≡ zeros count
all_zeros count bytes size each = ext_get_or 0 bytes (zeros count) (size ∙ sym (length-zeros count))
    (λ i within. each i (omega arith) ∙ sym (get_or-zeros count i))

pub filled_is : (size : ℕ) (bytes : List ℕ) → filled size bytes ≡ bytes ++ zeros (size - length bytes)
unfolding filled zeros
filled_is size bytes = refl

-- after the bytes that are filled up there are zeros
pub get_or-filled : (size : ℕ) (bytes : List ℕ) (i : ℕ) → length bytes ≤ i → get_or (filled size bytes) i 0 ≡ 0
get_or-filled size bytes i past =
    ap (λ xs. get_or xs i 0) (filled_is size bytes)
    ∙ (get_or-append_right bytes (zeros (size - length bytes)) (length bytes) i 0 refl past
    ∙ get_or-zeros (size - length bytes) (i - length bytes))

-- bytes whose end is zeros are filled up
pub filled_from : (size n : ℕ) (bytes : List ℕ) → length bytes ≡ size → n ≤ size →
    ((i : ℕ) → n ≤ i → i < size → get_or bytes i 0 ≡ 0) → bytes ≡ filled size (take n bytes)
filled_from size n bytes whole within each =
    let count : length (take n bytes) ≡ n = omega (arith, length-take n bytes) in
    let room : length (drop n bytes) ≡ size - length (take n bytes) = omega (arith, length-drop n bytes) in
    let end : drop n bytes ≡ zeros (size - length (take n bytes)) =
    all_zeros (size - length (take n bytes)) (drop n bytes) room
    (λ i below. get_or-drop n bytes i 0 ∙ each (n + i) (omega arith) (omega arith)) in
    sym (take-append-drop n bytes)
    ∙ (ap (λ xs. take n bytes ++ xs) end ∙ sym (filled_is size (take n bytes)))

-- a byte of a part of a list
pub get_or-part : (a n i : ℕ) (bytes : List ℕ) → i < n → get_or (take n (drop a bytes)) i 0 ≡ get_or bytes (a + i) 0
get_or-part a n i bytes within = get_or-take n (drop a bytes) i 0 within ∙ get_or-drop a bytes i 0

pub length-part : (a n : ℕ) (bytes : List ℕ) → a + n ≤ length bytes → length (take n (drop a bytes)) ≡ n
length-part a n bytes within = omega (arith, length-take n (drop a bytes), length-drop a bytes)

-- the bytes from a place on, cut once more
pub cut_more : (a n b : ℕ) (bytes : List ℕ) → a + n ≡ b → drop a bytes ≡ take n (drop a bytes) ++ drop b bytes
cut_more a n b bytes is =
    sym (take-append-drop n (drop a bytes))
    ∙ ap (λ xs. take n (drop a bytes) ++ xs) (drop-drop n a bytes ∙ ap (λ (x : ℕ). drop x bytes) is)
