-- Stored trees, from the highest level down.
use Rattle.std.proofs.Common.{◌≡◌, ℕ, zero, suc, ◌-◌, List, [], ◌∷◌, ◌++◌, length, reverse, drop, get_or, ap, refl, sym, ◌∙◌, arith}
use Rattle.std.specs.List.{concat, flat_map}
use Rattle.std.proofs.lemmas.List.{append-nil, append_assoc, reverse-append}
use Rattle.std.proofs.lemmas.List.Concat.{flat_map-append}
use Rattle.hash_tree.specs.Hash.{Hash}
use Rattle.hash_tree.specs.Tree.{levels, stored}
use Rattle.hash_tree.proofs.Levels.{levels_first}

-- the bytes of the levels from k down to 1
unfoldable pub bytes_down : List (List (List ℕ)) → ℕ → List ℕ
bytes_down all zero = []
bytes_down all (suc k) = concat (get_or all (suc k) []) ++ bytes_down all k

-- with one level more at the bottom
bytes_down_more : (lowest level : List (List ℕ)) (above : List (List (List ℕ))) (k : ℕ) →
    bytes_down (lowest ∷ level ∷ above) (suc k) ≡ bytes_down (level ∷ above) k ++ concat level
unfolding bytes_down
bytes_down_more lowest level above zero = append-nil (concat level)
bytes_down_more lowest level above (suc k) =
    let top = concat (get_or (level ∷ above) (suc k) []) in
    ap (λ xs. top ++ xs) (bytes_down_more lowest level above k)
    ∙ sym (append_assoc top (bytes_down (level ∷ above) k) (concat level))

all_down : (lowest : List (List ℕ)) (above : List (List (List ℕ))) →
    flat_map concat (reverse above) ≡ bytes_down (lowest ∷ above) (length above)
unfolding bytes_down
all_down lowest [] = refl
all_down lowest (level ∷ above) =
    ap (λ all. flat_map concat all) (reverse-append (level ∷ []) above)
    ∙ (flat_map-append concat (reverse above) (level ∷ [])
    ∙ (ap (λ xs. flat_map concat (reverse above) ++ xs) (append-nil (concat level))
    ∙ (ap (λ xs. xs ++ concat level) (all_down level above)
    ∙ sym (bytes_down_more lowest level above (length above)))))

-- the stored tree is all the levels above the data
pub stored_down : (hash : Hash) (size : ℕ) (salt : List ℕ) (blocks : List (List ℕ)) →
    stored hash size salt blocks ≡ bytes_down (levels hash size salt blocks) (length (levels hash size salt blocks) - 1)
unfolding stored
stored_down hash size salt blocks =
    let all = levels hash size salt blocks in
    let above = drop 1 all in
    let first = levels_first hash size salt blocks in
    let count : length all ≡ suc (length above) = ap length first in
    let top : length above ≡ length all - 1 = omega arith in
    all_down blocks above
    ∙ (ap (λ xs. bytes_down xs (length above)) (sym first) ∙ ap (λ (x : ℕ). bytes_down all x) top)
