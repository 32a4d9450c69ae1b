-- Blocks of a file, as the Linux kernel's filesystems/fsverity.rst has them.
use Rattle.std.specs.Prelude.{ℕ, List, [], ◌∷◌, Bool, ◌||◌, ◌==◌, cond}
use Rattle.hash_tree.specs.Tree.{filled}

-- the sizes that a block may have, in bytes
abbrev pub is_file_block_size : ℕ → Bool
is_file_block_size size = ((size == 1024) || (size == 2048)) || (size == 4096)

-- log2 of such a size
abbrev pub log_of : ℕ → ℕ
log_of size = cond (size == 1024) 10 (cond (size == 2048) 11 12)

-- what stands before each block that is hashed: a salt is filled with zeros to 64 bytes, and no salt is nothing
unfoldable pub block_salt : List ℕ → List ℕ
block_salt [] = []
block_salt (byte ∷ more) = filled 64 (byte ∷ more)
