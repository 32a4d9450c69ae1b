-- Numbers of blocks.
use Rattle.std.proofs.Common.{◌≡◌, ℕ, ◌-◌, ◌*◌, ◌/◌, ◌^◌, ◌<◌, ◌≤◌, eqb, ap, refl, sym, ◌∙◌, subst, arith, inl, inr}
use Rattle.std.specs.Prelude.{IsTrue}
use Rattle.std.specs.Int.{div_ceil}
use Rattle.std.proofs.lemmas.Bool.{cases_lt, eqb-true, or_cases}
use Rattle.std.proofs.lemmas.Nat.{le-div, mul-le}
use Rattle.std.proofs.Math.Nat.{div-mul-le_self, div-eq_of_lt, pow-zero}
use Rattle.hash_tree.specs.Hash.{sha256_hash}
use Rattle.hash_tree.specs.Shape.{IsHashBlockSize}
use Rattle.hash_tree.specs.Tree.{fan_out}
use Rattle.hash_tree.proofs.Numbers.{div_ceil_is, div_ceil_none}
use Rattle.fsv_tree.specs.Blocks.{is_file_block_size}

-- the sizes of blocks, as numbers
pub size_cases : (size : ℕ) (P : ℕ → Type 0) → P 1024 → P 2048 → P 4096 → IsTrue (is_file_block_size size) → P size
size_cases size P a b c is = elim (or_cases _ (eqb size 4096) is) [
  | inr last ↦ subst P (sym (eqb-true size 4096 last)) c
  | inl more ↦ elim (or_cases _ (eqb size 2048) more) [
    | inr last ↦ subst P (sym (eqb-true size 2048 last)) b
    | inl last ↦ subst P (sym (eqb-true size 1024 last)) a
  ]
]

-- a size that blocks may have, hash blocks may have
pub hash_size : (size : ℕ) → IsTrue (is_file_block_size size) → IsHashBlockSize sha256_hash size
hash_size size is = record {
  even = size_cases size (λ x. fan_out sha256_hash x * sha256_hash.size ≡ x) refl refl refl is;
  wide = size_cases size (λ x. 4 ≤ fan_out sha256_hash x) (omega arith) (omega arith) (omega arith) is;
  small = size_cases size (λ x. x ≤ 4096) (omega arith) (omega arith) (omega arith) is;
}

-- a file has at most 16,384 blocks
pub few_blocks : (bytes size : ℕ) → bytes ≤ 16777216 → IsTrue (is_file_block_size size) → div_ceil bytes size ≤ 16384
few_blocks bytes size few is =
    let least : 1024 ≤ size = size_cases size (λ x. 1024 ≤ x) (omega arith) (omega arith) (omega arith) is in
    elim (cases_lt 0 bytes) [
      | inl some ↦
          let ceiling = div_ceil_is bytes size (omega arith) some in
          let quotient : (bytes - 1) / size ≤ (bytes - 1) / 1024 =
          le-div ((bytes - 1) / size) (bytes - 1) 1024 (omega arith) (omega (
            arith,
            div-mul-le_self (bytes - 1) size,
            mul-le ((bytes - 1) / size) 1024 ((bytes - 1) / size) size (omega arith) least,
          )) in
          omega (arith, ceiling)
      | inr none ↦
          let zero_blocks : div_ceil bytes size ≡ 0 = ap (λ (x : ℕ). div_ceil x size) (omega arith)
          ∙ div_ceil_none size (omega arith) in
          omega arith
    ]
