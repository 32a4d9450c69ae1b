-- Blocks of one size, one after another.
use Rattle.std.proofs.Common.{◌≡◌, ℕ, zero, suc, ◌+◌, ◌*◌, ◌<◌, ◌≤◌, List, [], ◌∷◌, ◌++◌, length, take, drop, get_or, ap, refl, sym, ◌∙◌, arith}
use Rattle.std.proofs.lemmas.List.{length-append, length-drop, length-take, take-append-le, drop-append-le}
use Rattle.std.proofs.lemmas.List.Elements.{All-head, All-same}
use Rattle.std.specs.Prelude.{All}
use Rattle.std.proofs.lemmas.Nat.{mul-le}
use Rattle.std.proofs.Math.Nat.{suc-mul}
use Rattle.hash_tree.specs.Chunks.{chunks}
use Rattle.hash_tree.proofs.Groups.{chunks_none, chunks_more, chunks_one, get_or-chunks, whole_count}

-- one block more
pub chunks_push : (size count : ℕ) (bytes block : List ℕ) → 0 < size → length bytes ≡ count * size →
    length block ≡ size → chunks size (bytes ++ block) ≡ chunks size bytes ++ block ∷ []
chunks_push size zero [] block positive whole one =
    chunks_one size block (omega arith) (omega arith)
    ∙ ap (λ groups. groups ++ block ∷ []) (sym (chunks_none size [] positive refl))
chunks_push size zero (byte ∷ bytes) block positive whole one = absurd (omega arith)
chunks_push size (suc count) bytes block positive whole one =
    let product : suc count * size ≡ count * size + size = suc-mul count size in
    let rest = length-drop size bytes in
    let long : size ≤ length bytes = omega arith in
    let more = chunks_push size count (drop size bytes) block positive (omega (arith, rest)) one in
    let first = chunks_more size (bytes ++ block) positive (omega (arith, length-append bytes block)) in
    first
    ∙ (ap (λ xs. xs ∷ chunks size (drop size (bytes ++ block))) (take-append-le size bytes block long)
    ∙ (ap (λ xs. take size bytes ∷ chunks size xs) (drop-append-le size bytes block long)
    ∙ (ap (λ groups. take size bytes ∷ groups) more
    ∙ ap (λ groups. groups ++ block ∷ []) (sym (chunks_more size bytes positive (omega arith))))))

-- where all the blocks of a path have a size, it is the one by which they are cut, if there are any
same_first : (size count new : ℕ) (bytes : List ℕ) → 0 < size → length bytes ≡ suc count * size →
    All (λ block. length block ≡ new) (chunks size bytes) → size ≡ new
same_first size count new bytes positive whole sizes =
    let product : suc count * size ≡ count * size + size = suc-mul count size in
    let first : length (take size bytes) ≡ size = omega (arith, length-take size bytes) in
    let cut = chunks_more size bytes positive (omega arith) in
    sym first
    ∙ All-head (λ block. length block ≡ new) (take size bytes) (chunks size (drop size bytes))
    (All-same (λ block. length block ≡ new) _ _ (sym cut) sizes)

-- the blocks are the same by either
pub same_size : (size count new : ℕ) (bytes : List ℕ) (path : List (List ℕ)) → 0 < size → length bytes ≡ count * size →
    chunks size bytes ≡ path → All (λ block. length block ≡ new) path → 0 < new →
    (chunks new bytes ≡ path) × (length bytes ≡ count * new)
same_size size zero new bytes path positive whole seen sizes some =
    let none : length bytes ≡ 0 = omega arith in
    (chunks_none new bytes some none ∙ (sym (chunks_none size bytes positive none) ∙ seen), omega arith)
same_size size (suc count) new bytes path positive whole seen sizes some =
    let same = same_first size count new bytes positive whole (All-same (λ block. length block ≡ new) _ _ seen sizes) in
    (ap (λ (n : ℕ). chunks n bytes) (sym same) ∙ seen, whole ∙ ap (λ (n : ℕ). suc count * n) same)

-- room for one more
pub one_more : (count room size capacity : ℕ) → count < room → room * size ≤ capacity → count * size + size ≤ capacity
one_more count room size capacity below fits =
    let product : suc count * size ≡ count * size + size = suc-mul count size in
    omega (arith, mul-le (suc count) size room size (omega arith) (omega arith))

-- and so is room for a block more on a path that isn't full
pub fits_one_more : (size count capacity : ℕ) (bytes block : List ℕ) (path : List (List ℕ)) → 0 < size →
    length bytes ≡ count * size → chunks size bytes ≡ path → All (λ above. length above ≡ length block) path →
    0 < length block → length block ≤ 4096 → length path < 13 → 53248 ≤ capacity →
    length bytes + length block ≤ capacity
fits_one_more size count capacity bytes block path positive whole seen sizes some small room wide =
    let same = same_size size count (length block) bytes path positive whole seen sizes some in
    let many : length (chunks size bytes) ≡ count = whole_count size count bytes positive whole in
    let long : length (chunks size bytes) ≡ length path = ap (λ (xs : List (List ℕ)). length xs) seen in
    omega (arith, same.1, one_more count 13 (length block) capacity (omega arith) (omega arith))

-- block number k
pub block_is : (size count k : ℕ) (bytes : List ℕ) → 0 < size → length bytes ≡ count * size → k < count →
    get_or (chunks size bytes) k [] ≡ take size (drop (k * size) bytes)
block_is size count k bytes positive whole inside =
    get_or-chunks size bytes k [] (omega (arith, whole_count size count bytes positive whole))
