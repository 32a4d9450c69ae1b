-- Tables of verity targets.
use Rattle.std.specs.Prelude.{◌≡◌, ℕ, ◌≤◌, ◌==◌, Bool, IsTrue, List, Some, length, Ok}
use Rattle.std.specs.Fmt.{decimal}
use Rattle.hex.specs.Hex.{decode_of}
use Rattle.dmv_tree.specs.Blocks.{is_block_size}
use Rattle.hash_tree.specs.Hash.{sha256_hash}
use Rattle.dmv_tree.specs.Words.{salt_of}
use Rattle.dmv_volume.specs.Words.{IsFirstBad, is_name, word_at}
use Rattle.dmv_volume.specs.declared.table.TableError.{TableError}
use Rattle.dmv_volume.specs.declared.table.TableError.TheVariants.{Bad, NoMemory}

-- what a table says: the names of the two devices, the size of a block in bytes, how many blocks the data have, where
-- the hash blocks begin, in blocks, the root, the salt, and whether the option on the root's signature is there
pub record TableParts : Type 0 where
  pub device : List ℕ
  pub hash_device : List ℕ
  pub block_size : ℕ
  pub blocks : ℕ
  pub hash_start : ℕ
  pub root : List ℕ
  pub salt : List ℕ
  pub has_option : Bool

-- what limits a table has
pub record HasLimits (table : TableParts) : Type 0 where
  pub device : IsTrue (is_name table.device)
  pub hash_device : IsTrue (is_name table.hash_device)
  pub block_size : IsTrue (is_block_size table.block_size)
  pub some : 1 ≤ table.blocks
  pub few : table.blocks ≤ 4096
  pub hash_start : table.hash_start ≤ 1048576
  pub root : length table.root ≡ sha256_hash.size
  pub salt : length table.salt ≤ 256

-- these words say this table
pub record Say (words : List (List ℕ)) (table : TableParts) : Type 0 where
  pub device : word_at words 2 ≡ table.device
  pub hash_device : word_at words 3 ≡ table.hash_device
  pub block_size : word_at words 4 ≡ decimal table.block_size
  pub blocks : word_at words 6 ≡ decimal table.blocks
  pub hash_start : word_at words 7 ≡ decimal table.hash_start
  pub root : decode_of (word_at words 9) ≡ Ok table.root
  pub salt : salt_of 512 (word_at words 10) ≡ Some table.salt
  pub has_option : table.has_option ≡ (length words == 13)

-- why these words are no table: the first that is bad, or no memory
abbrev pub IsReason : List (List ℕ) → TableError → Type 0
IsReason words (Bad number) = IsFirstBad words number
IsReason words NoMemory = Unit {0}
