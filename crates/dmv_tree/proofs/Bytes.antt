-- Bytes of images.
use Rattle.std.proofs.Common.{◌≡◌, ℕ, ◌*◌, ◌/◌, ◌%◌, ◌<◌, ◌≤◌, List, length, ap, eqb, refl, sym, subst, arith, inl, inr}
use Rattle.std.specs.Prelude.{IsTrue}
use Rattle.std.proofs.lemmas.Bool.{cases_lt, eqb-true, or_cases}
use Rattle.std.proofs.lemmas.Nat.{div-add-mod'}
use Rattle.dmv_tree.specs.Blocks.{is_block_size, AreBlocks}
use Rattle.hash_tree.specs.Chunks.{chunks}
use Rattle.hash_tree.specs.Hash.{sha256_hash}
use Rattle.hash_tree.specs.Law.{FullBlocksStay}
use Rattle.hash_tree.specs.Shape.{IsHashBlockSize}
use Rattle.hash_tree.specs.Tree.{data_blocks, fan_out}

-- the sizes of blocks, as numbers
pub size_cases : (size : ℕ) (P : ℕ → Type 0) → P 512 → P 1024 → P 2048 → P 4096 → IsTrue (is_block_size size) → P size
size_cases size P a b c d is = elim (or_cases _ (eqb size 4096) is) [
  | inr last ↦ subst P (sym (eqb-true size 4096 last)) d
  | inl more ↦ elim (or_cases _ (eqb size 2048) more) [
    | inr last ↦ subst P (sym (eqb-true size 2048 last)) c
    | inl more ↦ elim (or_cases _ (eqb size 1024) more) [
      | inr last ↦ subst P (sym (eqb-true size 1024 last)) b
      | inl last ↦ subst P (sym (eqb-true size 512 last)) a
    ]
  ]
]

-- a size that blocks may have is at least, and at most, so much, and so many digests fit in such a block
pub at_least : (size : ℕ) → IsTrue (is_block_size size) → 512 ≤ size
at_least size is = size_cases size (λ x. 512 ≤ x) (omega arith) (omega arith) (omega arith) (omega arith) is

pub at_most : (size : ℕ) → IsTrue (is_block_size size) → size ≤ 4096
at_most size is = size_cases size (λ x. x ≤ 4096) (omega arith) (omega arith) (omega arith) (omega arith) is

pub wide : (size : ℕ) → IsTrue (is_block_size size) → 16 ≤ fan_out sha256_hash size
wide size is = size_cases size (λ x. 16 ≤ fan_out sha256_hash x) (omega arith) (omega arith) (omega arith) (omega arith) is

-- bytes of blocks: how many blocks, and at least one
pub count_of : (bytes size : ℕ) → AreBlocks bytes size → bytes ≡ bytes / size * size
count_of bytes size blocks =
    let split = div-add-mod' bytes size in
    let none : bytes % size ≡ 0 = blocks.whole in
    omega (arith, split)

pub some_blocks : (bytes size : ℕ) → AreBlocks bytes size → 0 < bytes / size
some_blocks bytes size blocks =
    let split = count_of bytes size blocks in
    let some : 0 < bytes = blocks.some in
    elim (cases_lt 0 (bytes / size)) [
      | inl positive ↦ positive
      | inr none ↦
          let product : bytes / size * size ≡ 0 * size = ap (λ (x : ℕ). x * size) (omega arith) in
          absurd (omega (arith, split))
    ]

-- a size that blocks may have, hash blocks may have
pub hash_size : (size : ℕ) → IsTrue (is_block_size size) → IsHashBlockSize sha256_hash size
hash_size size is = record {
  even = size_cases size (λ x. fan_out sha256_hash x * sha256_hash.size ≡ x) refl refl refl refl is;
  wide = size_cases size (λ x. 4 ≤ fan_out sha256_hash x) (omega arith) (omega arith) (omega arith) (omega arith) is;
  small = size_cases size (λ x. x ≤ 4096) (omega arith) (omega arith) (omega arith) (omega arith) is;
}

-- the blocks of an image are full
pub image_blocks : FullBlocksStay → (size : ℕ) (image : List ℕ) → AreBlocks (length image) size →
    data_blocks size image ≡ chunks size image
image_blocks full size image blocks =
    let least = size_cases size (λ x. 1 ≤ x) (omega arith) (omega arith) (omega arith) (omega arith) blocks.block_size in
    full size image (omega (arith, least)) blocks.whole
