-- The levels of a tree.
use Rattle.std.proofs.Common.{◌≡◌, ℕ, zero, suc, ◌-◌, ◌<◌, ◌≤◌, List, [], ◌∷◌, ◌++◌, length, reverse, drop, get_or, leb, ap, refl, sym, ◌∙◌, arith, inl, inr}
use Rattle.std.specs.List.{concat, flat_map}
use Rattle.std.proofs.lemmas.Bool.{cases_lt, le-leb, lt-leb, cond-true, cond-false}
use Rattle.std.proofs.lemmas.List.{append-nil, reverse-append}
use Rattle.std.proofs.lemmas.List.Concat.{flat_map-append}
use Rattle.hash_tree.specs.Hash.{Hash}
use Rattle.hash_tree.specs.Tree.{salted, fan_out, hash_blocks, levels_within, levels, root, stored}
use Rattle.hash_tree.proofs.Numbers.{div_ceil_less, div_ceil_some}
use Rattle.hash_tree.proofs.HashBlocks.{length-hash_blocks}

-- the hash blocks over two blocks and more are fewer
pub hash_blocks_fewer : (hash : Hash) (size : ℕ) (salt : List ℕ) (blocks : List (List ℕ)) → 2 ≤ fan_out hash size → 2 ≤ length blocks →
    length (hash_blocks hash size salt blocks) < length blocks
hash_blocks_fewer hash size salt blocks many more =
    omega (arith, length-hash_blocks hash size salt blocks, div_ceil_less (length blocks) (fan_out hash size) many more)

-- and those over some blocks are some
pub hash_blocks_some : (hash : Hash) (size : ℕ) (salt : List ℕ) (blocks : List (List ℕ)) → 2 ≤ fan_out hash size → 0 < length blocks →
    0 < length (hash_blocks hash size salt blocks)
hash_blocks_some hash size salt blocks many some =
    omega (arith, length-hash_blocks hash size salt blocks, div_ceil_some (length blocks) (fan_out hash size) (omega arith) some)

-- at one block the levels end
within_one : (hash : Hash) (steps size : ℕ) (salt : List ℕ) (blocks : List (List ℕ)) → length blocks ≤ 1 →
    levels_within hash steps size salt blocks ≡ blocks ∷ []
unfolding levels_within
within_one hash zero size salt blocks one = refl
within_one hash (suc steps) size salt blocks one =
    ap (λ xs. blocks ∷ xs) (cond-true (leb (length blocks) 1) [] (levels_within hash steps size salt (hash_blocks hash size salt
    blocks)) (le-leb (length blocks) 1 one))

-- above two blocks and more there is another level
within_more : (hash : Hash) (steps size : ℕ) (salt : List ℕ) (blocks : List (List ℕ)) → 2 ≤ length blocks →
    levels_within hash (suc steps) size salt blocks ≡ blocks ∷ levels_within hash steps size salt (hash_blocks hash size salt blocks)
unfolding levels_within
within_more hash steps size salt blocks more =
    ap (λ xs. blocks ∷ xs) (cond-false (leb (length blocks) 1) [] (levels_within hash steps size salt (hash_blocks hash size
    salt blocks)) (lt-leb (length blocks) 1 more))

-- as many steps as there are blocks are enough
enough : (hash : Hash) (steps others size : ℕ) (salt : List ℕ) (blocks : List (List ℕ)) → 2 ≤ fan_out hash size →
    length blocks ≤ steps → length blocks ≤ others →
    levels_within hash steps size salt blocks ≡ levels_within hash others size salt blocks
enough hash zero others size salt blocks many few fits =
    within_one hash zero size salt blocks (omega arith) ∙ sym (within_one hash others size salt blocks (omega arith))
enough hash (suc steps) zero size salt blocks many few fits =
    within_one hash (suc steps) size salt blocks (omega arith) ∙ sym (within_one hash zero size salt blocks (omega arith))
enough hash (suc steps) (suc others) size salt blocks many few fits = elim (cases_lt 1 (length blocks)) [
  | inl more ↦
      let fewer = hash_blocks_fewer hash size salt blocks many more in
      within_more hash steps size salt blocks more
      ∙ (ap (λ xs. blocks ∷ xs) (enough hash steps others size salt (hash_blocks hash size salt blocks) many (omega (
        arith,
        fewer,
      )) (omega (arith, fewer)))
      ∙ sym (within_more hash others size salt blocks more))
  | inr one ↦ within_one hash (suc steps) size salt blocks one ∙ sym (within_one hash (suc others) size salt blocks one)
]

-- the levels over one block
pub levels_one : (hash : Hash) (size : ℕ) (salt : List ℕ) (blocks : List (List ℕ)) → length blocks ≤ 1 →
    levels hash size salt blocks ≡ blocks ∷ []
unfolding levels
levels_one hash size salt blocks one = within_one hash (length blocks) size salt blocks one

-- the levels over two blocks and more
pub levels_more : (hash : Hash) (size : ℕ) (salt : List ℕ) (blocks : List (List ℕ)) → 2 ≤ fan_out hash size → 2 ≤ length blocks →
    levels hash size salt blocks ≡ blocks ∷ levels hash size salt (hash_blocks hash size salt blocks)
unfolding levels
levels_more hash size salt blocks many more =
    let fewer = hash_blocks_fewer hash size salt blocks many more in
    enough hash (length blocks) (suc (length blocks)) size salt blocks many (omega arith) (omega arith)
    ∙ (within_more hash (length blocks) size salt blocks more
    ∙ ap (λ xs. blocks ∷ xs) (enough hash (length blocks) (length (hash_blocks hash size salt blocks)) size salt (hash_blocks hash
    size salt blocks) many
    (omega (arith, fewer)) (omega arith)))

first_within : (hash : Hash) (steps size : ℕ) (salt : List ℕ) (blocks : List (List ℕ)) →
    levels_within hash steps size salt blocks ≡ blocks ∷ drop 1 (levels_within hash steps size salt blocks)
unfolding levels_within
first_within hash zero size salt blocks = refl
first_within hash (suc steps) size salt blocks = refl

-- the first level is the data
pub levels_first : (hash : Hash) (size : ℕ) (salt : List ℕ) (blocks : List (List ℕ)) →
    levels hash size salt blocks ≡ blocks ∷ drop 1 (levels hash size salt blocks)
unfolding levels
levels_first hash size salt blocks = first_within hash (length blocks) size salt blocks

pub levels_some : (hash : Hash) (size : ℕ) (salt : List ℕ) (blocks : List (List ℕ)) → 0 < length (levels hash size salt blocks)
levels_some hash size salt blocks = let first = ap length (levels_first hash size salt blocks) in omega (arith, first)

-- the root is a digest
pub length-root : (hash : Hash) (size : ℕ) (salt : List ℕ) (blocks : List (List ℕ)) →
    length (root hash size salt blocks) ≡ hash.size
unfolding root
length-root hash size salt blocks =
    let all = levels hash size salt blocks in
    hash.sized (salt ++ get_or (get_or all (length all - 1) []) 0 [])

-- the root over one block, and over more
pub root_one : (hash : Hash) (size : ℕ) (salt : List ℕ) (blocks : List (List ℕ)) → length blocks ≤ 1 →
    root hash size salt blocks ≡ salted hash salt (get_or blocks 0 [])
unfolding root
root_one hash size salt blocks one =
    ap (λ all. salted hash salt (get_or (get_or all (length all - 1) []) 0 [])) (levels_one hash size salt blocks one)

top_more : (level : List (List ℕ)) (all : List (List (List ℕ))) → 0 < length all →
    get_or (level ∷ all) (length (level ∷ all) - 1) [] ≡ get_or all (length all - 1) []
top_more level all some =
    let step : suc (length all) - 1 ≡ suc (length all - 1) = omega arith in
    ap (λ (x : ℕ). get_or (level ∷ all) x []) step

pub root_more : (hash : Hash) (size : ℕ) (salt : List ℕ) (blocks : List (List ℕ)) → 2 ≤ fan_out hash size → 2 ≤ length blocks →
    root hash size salt blocks ≡ root hash size salt (hash_blocks hash size salt blocks)
unfolding root
root_more hash size salt blocks many more =
    let next = levels hash size salt (hash_blocks hash size salt blocks) in
    ap (λ all. salted hash salt (get_or (get_or all (length all - 1) []) 0 [])) (levels_more hash size salt blocks many more)
    ∙ ap (λ level. salted hash salt (get_or level 0 [])) (top_more blocks next (levels_some hash size salt (hash_blocks hash size
    salt blocks)))

-- the stored tree over one block, and over more
pub stored_one : (hash : Hash) (size : ℕ) (salt : List ℕ) (blocks : List (List ℕ)) → length blocks ≤ 1 → stored hash size salt blocks ≡ []
unfolding stored
stored_one hash size salt blocks one = ap (λ all. flat_map concat (reverse (drop 1 all))) (levels_one hash size salt blocks one)

pub stored_more : (hash : Hash) (size : ℕ) (salt : List ℕ) (blocks : List (List ℕ)) → 2 ≤ fan_out hash size → 2 ≤ length blocks →
    stored hash size salt blocks ≡ stored hash size salt (hash_blocks hash size salt blocks) ++ concat (hash_blocks hash size salt blocks)
unfolding stored
stored_more hash size salt blocks many more =
    let next = hash_blocks hash size salt blocks in
    let above = drop 1 (levels hash size salt next) in
    ap (λ all. flat_map concat (reverse (drop 1 all))) (levels_more hash size salt blocks many more)
    ∙ (ap (λ all. flat_map concat (reverse all)) (levels_first hash size salt next)
    ∙ (ap (λ all. flat_map concat all) (reverse-append (next ∷ []) above)
    ∙ (flat_map-append concat (reverse above) (next ∷ [])
    ∙ ap (λ xs. flat_map concat (reverse above) ++ xs) (append-nil (concat next)))))
