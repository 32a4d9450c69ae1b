-- What a file's descriptor and its stored tree are.
use Rattle.std.specs.Prelude.{◌≡◌, ◌≢◌, ◌<◌, ◌⊎◌, ℕ, List, [], ◌∷◌, length, replicate}
use Rattle.sha2.specs.Sha256.{sha256}
use Rattle.hash_tree.specs.Hash.{sha256_hash}
use Rattle.hash_tree.specs.Tree.{data_blocks, root, stored}
use Rattle.fsv_tree.specs.Blocks.{log_of, block_salt}
use Rattle.fsv_tree.specs.Descriptor.{DescriptorParts, spelling}
use Rattle.fsv_tree.specs.Kept.{MayBeSaid}

-- the root of a file, from its block size, its salt and its bytes: of an empty file zeros, else that of the hash tree
-- over its blocks
unfoldable pub file_root : ℕ → List ℕ → List ℕ → List ℕ
file_root size salt [] = replicate 32 0
file_root size salt (byte ∷ more) = root sha256_hash size (block_salt salt) (data_blocks size (byte ∷ more))

-- the stored tree of a file, the highest level first
unfoldable pub file_tree : ℕ → List ℕ → List ℕ → List ℕ
file_tree size salt bytes = stored sha256_hash size (block_salt salt) (data_blocks size bytes)

-- the descriptor of a file of these bytes, with this size of blocks and this salt
abbrev pub described : List ℕ → ℕ → List ℕ → DescriptorParts
described bytes size salt = record {
  log = log_of size;
  salt = salt;
  size = length bytes;
  root = file_root size salt bytes;
}

-- the file digest: of the descriptor's bytes
abbrev pub file_digest : DescriptorParts → List ℕ
file_digest parts = sha256 (spelling parts)

-- law: descriptors with one file digest are the same, or the bytes that they spell differ and have one SHA-256
abbrev pub DigestsTellDescriptors : Type 0
DigestsTellDescriptors =
    (one other : DescriptorParts) → MayBeSaid one → MayBeSaid other → file_digest one ≡ file_digest other →
    (one ≡ other) ⊎ ((spelling one ≢ spelling other) × (sha256 (spelling one) ≡ sha256 (spelling other)))

-- law: the root of a file that isn't empty is that of the hash tree over its blocks
abbrev pub RootsAreOfTrees : Type 0
RootsAreOfTrees =
    (size : ℕ) (salt bytes : List ℕ) → 0 < length bytes →
    file_root size salt bytes ≡ root sha256_hash size (block_salt salt) (data_blocks size bytes)

-- what was measured of a file: its descriptor, and its stored tree
pub record MeasuredParts : Type 0 where
  pub descriptor : DescriptorParts
  pub tree : List ℕ
