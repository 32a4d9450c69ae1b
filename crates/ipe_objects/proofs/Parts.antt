-- The blocks in which a file's bytes are.
use Rattle.std.proofs.Common.{◌≡◌, ◌∙◌, ℕ, ◌+◌, ◌-◌, ◌*◌, ◌<◌, ◌≤◌, min, List, [], length, take, drop, ap, sym, arith, inl, inr, length-append, length-drop, replicate}
use Rattle.std.specs.Int.{div_ceil}
use Rattle.std.specs.Prelude.{slice_index_or}
use Rattle.std.proofs.lemmas.Bool.{cases_lt}
use Rattle.std.proofs.lemmas.Grind.{div_ceil_times}
use Rattle.std.proofs.lemmas.List.{drop_all, get_or-map, length-replicate, take_min}
use Rattle.std.proofs.lemmas.Nat.{mul-le}
use Rattle.std.proofs.Math.Nat.{add-mul}
use Rattle.hash_tree.specs.Tree.{data_blocks, filled}
use Rattle.hash_tree.specs.Chunks.{chunks}
use Rattle.hash_tree.proofs.Groups.{get_or-chunks, length-chunks}

-- so many blocks of a size have at least so many bytes, where more blocks do
blocks-le : (i n size : ℕ) → i ≤ n → i * size ≤ n * size
blocks-le i n size le = mul-le i size n size le (omega arith)

-- each block that so many bytes need begins within them
pub begins-within : (i n size : ℕ) → 0 < size → i < div_ceil n size → i * size < n
begins-within i n size positive within =
    omega (arith, blocks-le (i + 1) (div_ceil n size) size (omega arith), add-mul i 1 size, (div_ceil_times n size positive).1)

-- so many bytes from a block on, within so many blocks, need no more blocks
pub needs-within : (first count n size : ℕ) → 0 < size → 0 < count → first * size + count ≤ n * size
    → first + div_ceil count size ≤ n
needs-within first count n size positive some within =
    elim (cases_lt n (first + div_ceil count size)) [
      | inl beyond ↦
          absurd (omega (
            arith,
            blocks-le (n + 1) (first + div_ceil count size) size (omega arith),
            add-mul n 1 size,
            add-mul first (div_ceil count size) size,
            (div_ceil_times count size positive).1,
          ))
      | inr le ↦ le
    ]

-- block number i of a file, filled with zeros where it is a short one
pub part-is : (size i : ℕ) (bytes : List ℕ) → i < div_ceil (length bytes) size
    → filled size (take (min (length bytes) (i * size + size) - i * size) (drop (i * size) bytes))
    ≡ slice_index_or (data_blocks size bytes) i []
unfolding data_blocks
part-is size i bytes within =
    let among : i < length (chunks size bytes) = omega (arith, length-chunks size bytes, within) in
    let room : min (length bytes) (i * size + size) - i * size ≡ min size (length (drop (i * size) bytes)) =
    omega (arith, length-drop (i * size) bytes) in
    ap (filled size)
    (ap (λ (n : ℕ). take n (drop (i * size) bytes)) room
    ∙ take_min size (drop (i * size) bytes)
    ∙ sym (get_or-chunks size bytes i [] among))
    ∙ sym (get_or-map (filled size) (chunks size bytes) i [] [] among)

-- a place that stands still behind the end leaves nothing, as the place itself does
pub drop-held : (most at : ℕ) (bytes : List ℕ) → length bytes ≤ most → drop (min at most) bytes ≡ drop at bytes
drop-held most at bytes few =
    elim (cases_lt most at) [
      | inl beyond ↦
          drop_all (min at most) bytes (omega arith) ∙ sym (drop_all at bytes (omega arith))
      | inr le ↦ ap (λ (n : ℕ). drop n bytes) (omega arith)
    ]

-- bytes that are filled to a size have it
pub length_filled : (size : ℕ) (bytes : List ℕ) → length bytes ≤ size → length (filled size bytes) ≡ size
unfolding filled
length_filled size bytes few =
    omega (arith, few, length-append bytes (replicate (size - length bytes) 0), length-replicate {A = ℕ} (size - length bytes) 0)
