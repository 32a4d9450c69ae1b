-- Paths down a hash tree, and how they are checked.
use Rattle.std.specs.Prelude.{◌≡◌, ◌≢◌, ℕ, zero, suc, ◌-◌, ◌*◌, ◌/◌, ◌%◌, ◌^◌, List, [], ◌∷◌, length, take, drop, slice_index_or, cond, bytes_eq, Option, Some, None, ◌⊎◌}
use Rattle.std.specs.Fork.{slice_chunk}
use Rattle.hash_tree.specs.Hash.{Hash}
use Rattle.hash_tree.specs.Tree.{salted, fan_out, levels}

-- digest number `place` of a hash block
abbrev pub digest_in : Hash → ℕ → List ℕ → List ℕ
digest_in hash place block = slice_chunk block hash.size place

-- the blocks over block i in the lowest levels, so many of these, the highest first: of level k the block i / h ^ k
unfoldable pub path_below : ℕ → List (List (List ℕ)) → ℕ → ℕ → List (List ℕ)
path_below h all i zero = []
path_below h all i (suc k) = slice_index_or (slice_index_or all k []) (i / h ^ k) [] ∷ path_below h all i k

-- the path to block i: one block of each level, from the highest level down to the data
unfoldable pub path : Hash → ℕ → List ℕ → List (List ℕ) → ℕ → List (List ℕ)
path hash size salt blocks i =
    path_below (fan_out hash size) (levels hash size salt blocks) i (length (levels hash size salt blocks))

-- the level and the number of the first block of a path, from the top down, whose digest isn't the one wanted: at first
-- the root, and then, for the block of level k, the digest number (i / h ^ k) % h of the block before it
unfoldable pub first_failing : Hash → ℕ → List ℕ → List ℕ → ℕ → List (List ℕ) → Option (ℕ × ℕ)
first_failing hash h salt wanted i [] = None
first_failing hash h salt wanted i (block ∷ below) =
    cond (bytes_eq wanted (salted hash salt block))
    (first_failing hash h salt (digest_in hash ((i / h ^ (length below - 1)) % h) block) i below)
    (Some (length below, i / h ^ length below))

-- two blocks that differ and have one digest
abbrev pub Collide : Hash → List ℕ → List ℕ → List ℕ → Type 0
Collide hash salt a b = (a ≢ b) × (salted hash salt a ≡ salted hash salt b)

-- the first blocks at which two paths differ collide
abbrev pub Shown : Hash → List ℕ → List (List ℕ) → List (List ℕ) → Type 0
Shown hash salt [] others = ⊥
Shown hash salt (a ∷ more) [] = ⊥
Shown hash salt (a ∷ more) (b ∷ others) = Collide hash salt a b ⊎ ((a ≡ b) × Shown hash salt more others)
