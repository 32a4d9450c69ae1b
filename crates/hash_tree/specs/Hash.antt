-- Hash functions.
use Rattle.std.specs.Prelude.{◌≡◌, ℕ, ◌≤◌, List, length}
use Rattle.std.proofs.Common.{arith}
use Rattle.sha2.specs.Sha256.{sha256}
use Rattle.sha2.proofs.Facts256.{length-sha256}
use Rattle.hash_tree.specs.declared.algorithm.HashAlgorithm.{HashAlgorithm}
use Rattle.hash_tree.specs.declared.algorithm.HashAlgorithm.TheVariants.{Sha256}

-- a hash function: how many bytes a digest has, 1 to 64, and the digest of bytes
pub record Hash : Type 0 where
  pub size : ℕ
  pub some : 1 ≤ size
  pub few : size ≤ 64
  pub digest : List ℕ → List ℕ
  pub sized : (bytes : List ℕ) → length (digest bytes) ≡ size

-- the hash function of an algorithm: SHA-256 of FIPS 180-4
abbrev pub hash_of : HashAlgorithm → Hash
hash_of Sha256 = record { size = 32; some = omega arith; few = omega arith; digest = sha256; sized = length-sha256 }

-- SHA-256 as a hash function
abbrev pub sha256_hash : Hash
sha256_hash = hash_of Sha256
