-- Devices that hold a tree as it was built.
use Rattle.std.proofs.Common.{◌≡◌, ℕ, zero, suc, ◌+◌, ◌-◌, ◌*◌, ◌/◌, ◌^◌, ◌<◌, ◌≤◌, List, [], ◌∷◌, ◌++◌, length, take, drop, get_or, ap, sym, ◌∙◌, subst, arith}
use Rattle.std.specs.Fork.{slice_chunk}
use Rattle.std.specs.List.{concat}
use Rattle.std.specs.Prelude.{All}
use Rattle.std.proofs.lemmas.List.{append_assoc, drop-drop, drop_at, take-append-drop}
use Rattle.std.proofs.lemmas.List.Elements.{All-get_or}
use Rattle.hash_tree.specs.Hash.{hash_of}
use Rattle.hash_tree.specs.Law.{BlocksHaveTheSize, LevelsAreTheHeight, LevelsHaveTheirBlocks, TheImagesPathsAreRight}
use Rattle.hash_tree.specs.Path.{first_failing, path, path_below}
use Rattle.hash_tree.specs.Shape.{height, level_blocks}
use Rattle.hash_tree.specs.Tree.{fan_out, levels, stored}
use Rattle.hash_tree.proofs.HashBlocks.{length-concat_same, part_of_joined}
use Rattle.hash_tree.proofs.Numbers.{div_below_ceil, power_some}
use Rattle.hash_tree.proofs.Paths.{bottom}
use Rattle.hash_tree.proofs.StoredTrees.{bytes_down, stored_down}
use Rattle.stored_tree.specs.Checked.{HeldTreesAreRight, failing}
use Rattle.stored_tree.specs.Stored.{fan_of, HoldsTreeOf, IsStored, Stored, held_block, held_blocks, held_from, levels_of}

-- after so many blocks, where the bytes go on with blocks of a level
behind : (size first more : ℕ) (bytes : List ℕ) →
    drop ((first + more) * size) bytes ≡ drop (more * size) (drop (first * size) bytes)
behind size first more bytes =
    let place : (first + more) * size ≡ first * size + more * size = omega arith in
    ap (λ (x : ℕ). drop x bytes) place ∙ sym (drop-drop (more * size) (first * size) bytes)

-- block j of a level that begins there
block_held : (size first j : ℕ) (level : List (List ℕ)) (below rest bytes : List ℕ) →
    All (λ block. length block ≡ size) level → drop (first * size) bytes ≡ (concat level ++ below) ++ rest →
    j < length level → slice_chunk bytes size (first + j) ≡ get_or level j []
block_held size first j level below rest bytes sizes goes_on inside =
    ap (λ xs. take size xs) (behind size first j bytes)
    ∙ (ap (λ xs. take size (drop (j * size) xs)) (goes_on ∙ append_assoc (concat level) below rest)
    ∙ part_of_joined size level (below ++ rest) j sizes inside)

-- and what stands after that level
level_held : (size first : ℕ) (level : List (List ℕ)) (below rest bytes : List ℕ) →
    All (λ block. length block ≡ size) level → drop (first * size) bytes ≡ (concat level ++ below) ++ rest →
    drop ((first + length level) * size) bytes ≡ below ++ rest
level_held size first level below rest bytes sizes goes_on =
    behind size first (length level) bytes
    ∙ (ap (λ xs. drop (length level * size) xs) (goes_on ∙ append_assoc (concat level) below rest)
    ∙ drop_at (concat level) (below ++ rest) (length level * size) (length-concat_same size level sizes))

-- an image of the tree's shape: so many blocks of its size, and a hash block has room for two digests and more
record IsImage (tree : Stored) (image : List (List ℕ)) : Type 0 where
  many : 2 ≤ fan_of tree
  count : length image ≡ tree.blocks
  sizes : All (λ block. length block ≡ tree.block_size) image

-- the laws of hash trees that this rests on
pub record Laws : Type 0 where
  pub heights : LevelsAreTheHeight
  pub lengths : LevelsHaveTheirBlocks
  pub sizes : BlocksHaveTheSize
  pub own : TheImagesPathsAreRight

-- from level k down
held_below : Laws → (k : ℕ) (tree : Stored) (bytes rest : List ℕ) (image : List (List ℕ)) (i first : ℕ) →
    IsImage tree image → i < tree.blocks → k < length (levels (hash_of tree.algorithm) tree.block_size tree.salt image) →
    drop (first * tree.block_size) (drop tree.start bytes)
    ≡ bytes_down (levels (hash_of tree.algorithm) tree.block_size tree.salt image) k ++ rest →
    held_from tree bytes i first k ++ get_or image i [] ∷ []
    ≡ path_below (fan_of tree) (levels (hash_of tree.algorithm) tree.block_size tree.salt image) i (suc k)
unfolding held_from path_below bytes_down
held_below laws zero tree bytes rest image i first is inside within goes_on =
    ap (λ xs. xs ∷ []) (sym (bottom (hash_of tree.algorithm) tree.block_size tree.salt image i))
held_below laws (suc k) tree bytes rest image i first is inside within goes_on =
    let h = fan_of tree in
    let n = tree.blocks in
    let size = tree.block_size in
    let all = levels (hash_of tree.algorithm) size tree.salt image in
    let level = get_or all (suc k) [] in
    let image_count : length image ≡ n = is.count in
    let many : 2 ≤ h = is.many in
    let sizes : All (λ block. length block ≡ size) level =
    All-get_or (All (λ block. length block ≡ size)) all (suc k) [] within (laws.sizes (hash_of tree.algorithm) size tree.salt image is.many
    is.sizes) in
    let count : length level ≡ level_blocks h n (suc k) =
    laws.lengths (hash_of tree.algorithm) size tree.salt image (suc k) many (omega arith) within
    ∙ ap (λ (x : ℕ). level_blocks h x (suc k)) image_count in
    let low : i / h ^ suc k < length level =
    omega (arith, count, div_below_ceil i n (h ^ suc k) (power_some h (suc k) (omega arith)) inside) in
    let next = first + level_blocks h n (suc k) in
    let here : held_block tree bytes (first + i / h ^ suc k) ≡ get_or level (i / h ^ suc k) [] =
    block_held size first (i / h ^ suc k) level (bytes_down all k) rest (drop tree.start bytes) sizes goes_on low in
    let lower : drop (next * size) (drop tree.start bytes) ≡ bytes_down all k ++ rest =
    ap (λ (x : ℕ). drop ((first + x) * size) (drop tree.start bytes)) (sym count)
    ∙ level_held size first level (bytes_down all k) rest (drop tree.start bytes) sizes goes_on in
    ap (λ block. block ∷ (held_from tree bytes i next k ++ get_or image i [] ∷ [])) here
    ∙ ap (λ xs. get_or level (i / h ^ suc k) [] ∷ xs)
    (held_below laws k tree bytes rest image i next is inside (omega arith) lower)

-- what the device holds over a block of the image, and that block, are the image's path
held_path : Laws → (tree : Stored) (bytes : List ℕ) (image : List (List ℕ)) (i : ℕ) → IsStored tree →
    HoldsTreeOf tree bytes image → i < tree.blocks →
    held_blocks tree bytes i ++ get_or image i [] ∷ [] ≡ path (hash_of tree.algorithm) tree.block_size tree.salt image i
unfolding path
held_path laws tree bytes image i is holds inside =
    let size = tree.block_size in
    let h = fan_out (hash_of tree.algorithm) size in
    let all = levels (hash_of tree.algorithm) size tree.salt image in
    let wide : 4 ≤ h = is.size.wide in
    let here = drop tree.start bytes in
    let tree_bytes = stored (hash_of tree.algorithm) size tree.salt image in
    let rest = drop (length tree_bytes) here in
    let count : length all ≡ suc (levels_of tree) = laws.heights (hash_of tree.algorithm) size tree.salt image (omega arith) (omega (arith, holds.count, is.some))
    ∙ ap (λ (n : ℕ). suc (height h n)) holds.count in
    let top : length all - 1 ≡ levels_of tree = omega arith in
    let front : 0 * size ≡ 0 = omega arith in
    let goes_on : drop (0 * size) here ≡ bytes_down all (levels_of tree) ++ rest =
    ap (λ (x : ℕ). drop x here) front
    ∙ (sym (take-append-drop (length tree_bytes) here)
    ∙ ap (λ xs. xs ++ rest)
    (holds.stored ∙ (stored_down (hash_of tree.algorithm) size tree.salt image ∙ ap (λ (x : ℕ). bytes_down all x) top))) in
    held_below laws (levels_of tree) tree bytes rest image i 0
    (record { many = omega arith; count = holds.count; sizes = holds.sizes }) inside (omega arith) goes_on
    ∙ ap (λ (x : ℕ). path_below h all i x) (sym count)

-- and nothing on it fails
pub held_right : Laws → HeldTreesAreRight
held_right laws tree bytes image i is holds inside =
    let h = fan_of tree in
    let wide : 4 ≤ h = is.size.wide in
    let count : length image ≡ tree.blocks = holds.count in
    let same = held_path laws tree bytes image i is holds inside in (
      same,
      ap (λ xs. failing tree i xs) same
          ∙ (ap (λ xs. first_failing (hash_of tree.algorithm) h tree.salt xs i (path (hash_of tree.algorithm) tree.block_size tree.salt image i)) (sym holds.root)
          ∙ laws.own (hash_of tree.algorithm) tree.block_size tree.salt image i (omega arith) (omega arith)),
    )
