-- fs-verity descriptors, as the Linux kernel's filesystems/fsverity.rst lays them out.
use Rattle.std.specs.Prelude.{◌≡◌, ℕ, ◌-◌, ◌<◌, List, [], ◌∷◌, ◌++◌, length, take, drop, replicate, slice_index_or, Bool, true, false, not, ◌&&◌, ◌||◌, ◌==◌, nat_lt, nat_le, if◌then◌else◌}
use Rattle.std.specs.Int.{w64, to_le_bytes, from_le_bytes}
use Rattle.hash_tree.specs.Tree.{filled}

-- what a descriptor of SHA-256 says: log2 of the block size, the salt, the size of the file, and its root
pub record DescriptorParts : Type 0 where
  pub log : ℕ
  pub salt : List ℕ
  pub size : ℕ
  pub root : List ℕ

-- so many zeros
unfoldable pub zeros : ℕ → List ℕ
zeros count = replicate count 0

-- the 256 bytes of a descriptor: version 1, hash algorithm 1 (SHA-256), log2 of the block size, size of the salt, 4
-- zeros, size of the file, root, salt, 144 zeros
unfoldable pub spelling : DescriptorParts → List ℕ
spelling parts =
    (1 ∷ 1 ∷ parts.log ∷ length parts.salt ∷ [])
    ++ (zeros 4 ++ (to_le_bytes w64 parts.size ++ (filled 64 parts.root ++ (filled 32 parts.salt ++ zeros 144))))

-- what 256 bytes say of a file of this size, each row by its field
abbrev pub said_by : List ℕ → ℕ → DescriptorParts
said_by bytes size = record {
  log = slice_index_or bytes 2 0;
  salt = take (slice_index_or bytes 3 0) (drop 80 bytes);
  size = size;
  root = take 32 (drop 16 bytes);
}

-- whether a byte, of a descriptor for a file of this size, breaks the row that it stands in
unfoldable pub breaks : List ℕ → ℕ → ℕ → Bool
breaks bytes size place =
    let byte = slice_index_or bytes place 0 in
    -- version and hash algorithm
    if nat_lt place 2 then not (byte == 1)
    -- log2 of the block size
    else if nat_lt place 3 then (nat_lt byte 10 || nat_lt 12 byte)
    -- size of the salt
    else if nat_lt place 4 then nat_lt 32 byte
    -- zeros
    else if nat_lt place 8 then not (byte == 0)
    -- size of the file: its first byte stands for all eight
    else if nat_lt place 9 then not (from_le_bytes w64 (take 8 (drop 8 bytes)) == size)
    else if nat_lt place 16 then false
    -- root, of an empty file zeros
    else if nat_lt place 48 then ((size == 0) && not (byte == 0))
    -- zeros after the root
    else if nat_lt place 80 then not (byte == 0)
    -- salt, and zeros after it
    else if nat_lt place 112 then (nat_le (slice_index_or bytes 3 0) (place - 80) && not (byte == 0))
    -- zeros
    else not (byte == 0)

-- no byte breaks its row
abbrev pub IsSound : List ℕ → ℕ → Type 0
IsSound bytes size = (place : ℕ) → place < 256 → breaks bytes size place ≡ false

-- a byte is the first that breaks its row
pub record IsFirstBreak (bytes : List ℕ) (size place : ℕ) : Type 0 where
  pub within : place < 256
  pub breaking : breaks bytes size place ≡ true
  pub others : (before : ℕ) → before < place → breaks bytes size before ≡ false
