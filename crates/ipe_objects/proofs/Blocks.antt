-- Bytes that are the same block by block.
use Rattle.std.proofs.Common.{◌≡◌, ◌∙◌, ◌⊎◌, ℕ, zero, suc, ◌+◌, ◌-◌, ◌*◌, ◌<◌, ◌≤◌, List, [], ◌++◌, length, take, drop, get_or, replicate, refl, ap, sym, subst, arith, inl, inr, length-drop, length-take}
use Rattle.std.specs.Int.{div_ceil}
use Rattle.std.specs.List.{concat, range_with_len}
use Rattle.std.specs.Prelude.{All, Any, slice_index_or}
use Rattle.std.proofs.Math.Nat.{add-mul, suc-mul}
use Rattle.std.proofs.Math.Seq.{take-add}
use Rattle.std.proofs.lemmas.Bool.{cases_lt}
use Rattle.std.proofs.lemmas.Grind.{div_ceil_times}
use Rattle.std.proofs.lemmas.List.{drop-drop, drop-take, get_or-map, take-take, take_all, take_at}
use Rattle.hash_tree.specs.Chunks.{chunks}
use Rattle.hash_tree.specs.Tree.{data_blocks, filled}
use Rattle.hash_tree.proofs.Groups.{chunks-concat, get_or-chunks, length-chunks}

-- one of two things is so for each number: then the first is so for all, or the second for some
pub all-or-any : (P Q : ℕ → Type 0) (first count : ℕ) → ((i : ℕ) → first ≤ i → i < first + count → P i ⊎ Q i)
    → ((i : ℕ) → first ≤ i → i < first + count → P i) ⊎ Any Q (range_with_len first count)
all-or-any P Q first zero each = inl (λ i low high. absurd (omega (arith, low, high)))
all-or-any P Q first (suc count) each =
    by (each first (omega arith) (omega arith))
    (all-or-any P Q (first + 1) count (λ i low high. each i (omega (arith, low)) (omega (arith, high))))
  where
    by : P first ⊎ Q first
        → ((i : ℕ) → first + 1 ≤ i → i < first + 1 + count → P i) ⊎ Any Q (range_with_len (first + 1) count)
        → ((i : ℕ) → first ≤ i → i < first + suc count → P i) ⊎ Any Q (range_with_len first (suc count))
    by (inr here) others = inr (0, first, omega arith, refl, here)
    by (inl here) (inr any) = inr (suc any.0, any.1, omega (arith, any.2), any.3, any.4)
    by (inl here) (inl all) = inl (λ i low high.
        elim (cases_lt first i) [
          | inl later ↦ all i (omega (arith, later)) (omega (arith, high))
          | inr le ↦ let same : first ≡ i = omega (arith, low, le) in subst P same here
        ])

-- bytes whose first blocks are the same begin with the same bytes
pub same-front : (count size : ℕ) (one other : List ℕ)
    → ((i : ℕ) → i < count → take size (drop (i * size) one) ≡ take size (drop (i * size) other))
    → take (count * size) one ≡ take (count * size) other
same-front zero size one other each =
    let none : 0 * size ≡ 0 = omega arith in
    ap (λ (n : ℕ). take n one) none ∙ sym (ap (λ (n : ℕ). take n other) none)
same-front (suc count) size one other each =
    let step : suc count * size ≡ size + count * size = omega (arith, suc-mul count size) in
    let none : 0 * size ≡ 0 = omega arith in
    let here : take size one ≡ take size other =
    sym (ap (λ (n : ℕ). take size (drop n one)) none) ∙ each 0 (omega arith)
    ∙ ap (λ (n : ℕ). take size (drop n other)) none in
    let place : (i : ℕ) → suc i * size ≡ size + i * size = λ i. omega (arith, suc-mul i size) in
    let later : take (count * size) (drop size one) ≡ take (count * size) (drop size other) =
    same-front count size (drop size one) (drop size other) (λ i within.
    ap (λ (bytes : List ℕ). take size bytes) (drop-drop (i * size) size one)
    ∙ sym (ap (λ (n : ℕ). take size (drop n one)) (place i))
    ∙ each (suc i) (omega (arith, within))
    ∙ ap (λ (n : ℕ). take size (drop n other)) (place i)
    ∙ sym (ap (λ (bytes : List ℕ). take size bytes) (drop-drop (i * size) size other))) in
    ap (λ (n : ℕ). take n one) step
    ∙ take-add size (count * size) one
    ∙ (λ k. here k ++ later k)
    ∙ sym (take-add size (count * size) other)
    ∙ sym (ap (λ (n : ℕ). take n other) step)

-- bytes of one length that are the same once they are filled
same-filled : (size : ℕ) (one other : List ℕ) → length one ≡ length other → filled size one ≡ filled size other → one ≡ other
unfolding filled
same-filled size one other long same =
    sym (take_at one (replicate (size - length one) 0) (length one) refl)
    ∙ ap (λ (bytes : List ℕ). take (length one) bytes) same
    ∙ take_at other (replicate (size - length other) 0) (length one) (sym long)

-- block number i of bytes
data_block : (size i : ℕ) (bytes : List ℕ) → i < div_ceil (length bytes) size
    → slice_index_or (data_blocks size bytes) i [] ≡ filled size (take size (drop (i * size) bytes))
unfolding data_blocks
data_block size i bytes within =
    let among : i < length (chunks size bytes) = omega (arith, length-chunks size bytes, within) in
    get_or-map (filled size) (chunks size bytes) i [] [] among
    ∙ ap (filled size) (get_or-chunks size bytes i [] among)

-- bytes of one length whose blocks are the same
pub same-bytes : (size : ℕ) (one other : List ℕ) → 0 < size → length one ≡ length other
    → ((i : ℕ) → i < div_ceil (length one) size
    → slice_index_or (data_blocks size one) i [] ≡ slice_index_or (data_blocks size other) i [])
    → one ≡ other
same-bytes size one other positive long each =
    let count : ℕ = div_ceil (length one) size in
    let counts : div_ceil (length other) size ≡ count = ap (λ (n : ℕ). div_ceil n size) (sym long) in
    let room : length one ≤ count * size = (div_ceil_times (length one) size positive).0 in
    sym (take_all (count * size) one room)
    ∙ same-front count size one other (λ i within.
    same-filled size (take size (drop (i * size) one)) (take size (drop (i * size) other))
    (omega (
      arith,
      long,
      length-take size (drop (i * size) one),
      length-take size (drop (i * size) other),
      length-drop (i * size) one,
      length-drop (i * size) other,
    ))
    (sym (data_block size i one within) ∙ each i within ∙ data_block size i other (omega (arith, within, counts))))
    ∙ take_all (count * size) other (omega (arith, room, long))

-- block number i of an image
pub image_block : (size : ℕ) (image : List (List ℕ)) (i : ℕ) → 0 < size → All (λ block. length block ≡ size) image
    → i < length image → slice_index_or image i [] ≡ take size (drop (i * size) (concat image))
image_block size image i positive sizes within =
    let cut : chunks size (concat image) ≡ image = chunks-concat size image positive sizes in
    sym (ap (λ (blocks : List (List ℕ)). get_or blocks i []) cut)
    ∙ get_or-chunks size (concat image) i []
    (subst (λ (blocks : List (List ℕ)). i < length blocks) (sym cut) within)

-- so many bytes from a block on, within so many blocks, where the blocks in which they are are the same
pub same-part : (first size count block : ℕ) (one other : List ℕ) → 0 < block → first * block + size ≤ count * block
    → ((i : ℕ) → first ≤ i → i < first + div_ceil size block
    → take block (drop (i * block) one) ≡ take block (drop (i * block) other))
    → take size (drop (first * block) (take (count * block) one)) ≡ take size (drop (first * block) other)
same-part first size count block one other positive within each =
    let at : ℕ = first * block in
    let some : ℕ = div_ceil size block in
    let rest : ℕ = count * block - at in
    let whole : count * block ≡ at + rest = omega (arith, within) in
    let room : size ≤ some * block = (div_ceil_times size block positive).0 in
    let place : (i : ℕ) → at + i * block ≡ (first + i) * block = λ i. omega (arith, add-mul first i block) in
    let front : take (some * block) (drop at one) ≡ take (some * block) (drop at other) =
    same-front some block (drop at one) (drop at other) (λ i inside.
    ap (λ (bytes : List ℕ). take block bytes) (drop-drop (i * block) at one)
    ∙ ap (λ (n : ℕ). take block (drop n one)) (place i)
    ∙ each (first + i) (omega arith) (omega (arith, inside))
    ∙ sym (ap (λ (n : ℕ). take block (drop n other)) (place i))
    ∙ sym (ap (λ (bytes : List ℕ). take block bytes) (drop-drop (i * block) at other))) in
    ap (λ (n : ℕ). take size (drop at (take n one))) whole
    ∙ ap (λ (bytes : List ℕ). take size bytes) (drop-take at rest one)
    ∙ take-take size rest (drop at one) (omega (arith, within))
    ∙ sym (take-take size (some * block) (drop at one) room)
    ∙ ap (λ (bytes : List ℕ). take size bytes) front
    ∙ take-take size (some * block) (drop at other) room
