-- Files, their roots and their salts.
use Rattle.std.proofs.Common.{◌≡◌, ℕ, ◌<◌, ◌≤◌, List, [], ◌∷◌, ◌++◌, length, take, drop, replicate, ap, refl, sym, ◌∙◌, arith}
use Rattle.std.proofs.lemmas.List.{length-replicate, take_at}
use Rattle.hash_tree.specs.Hash.{sha256_hash}
use Rattle.hash_tree.specs.Tree.{filled, data_blocks, root, stored}
use Rattle.hash_tree.proofs.Bytes.{data_blocks_none}
use Rattle.hash_tree.proofs.Levels.{length-root, stored_one}
use Rattle.fsv_tree.specs.Blocks.{block_salt}
use Rattle.fsv_tree.specs.File.{file_root, file_tree}
use Rattle.fsv_tree.specs.Kept.{IsKept}
use Rattle.fsv_tree.proofs.Zeros.{drop-zeros, filled_is, zeros_are}

-- an empty file, and another
pub root_none : (size : ℕ) (salt bytes : List ℕ) → length bytes ≡ 0 → file_root size salt bytes ≡ replicate 32 0
unfolding file_root
root_none size salt [] none = refl
root_none size salt (byte ∷ more) none = absurd (omega arith)

pub root_some : (size : ℕ) (salt bytes : List ℕ) → 0 < length bytes →
    file_root size salt bytes ≡ root sha256_hash size (block_salt salt) (data_blocks size bytes)
unfolding file_root
root_some size salt [] some = absurd (omega arith)
root_some size salt (byte ∷ more) some = refl

-- a file's root has the size of a digest
pub length-file_root : (size : ℕ) (salt bytes : List ℕ) → length (file_root size salt bytes) ≡ sha256_hash.size
unfolding file_root
length-file_root size salt [] = length-replicate {A = ℕ} 32 0
length-file_root size salt (byte ∷ more) = length-root sha256_hash size (block_salt salt) (data_blocks size (byte ∷ more))

pub tree_none : (size : ℕ) (salt bytes : List ℕ) → 0 < size → length bytes ≡ 0 → file_tree size salt bytes ≡ []
unfolding file_tree
tree_none size salt bytes positive none =
    ap (λ blocks. stored sha256_hash size (block_salt salt) blocks) (data_blocks_none size bytes positive none)
    ∙ stored_one sha256_hash size (block_salt salt) [] (omega arith)

pub tree_is : (size : ℕ) (salt bytes : List ℕ) →
    file_tree size salt bytes ≡ stored sha256_hash size (block_salt salt) (data_blocks size bytes)
unfolding file_tree
tree_is size salt bytes = refl

-- no salt, and another
pub salt_none : (salt : List ℕ) → length salt ≡ 0 → block_salt salt ≡ []
unfolding block_salt
salt_none [] none = refl
salt_none (byte ∷ more) none = absurd (omega arith)

pub salt_some : (salt : List ℕ) → 0 < length salt → block_salt salt ≡ filled 64 salt
unfolding block_salt
salt_some [] some = absurd (omega arith)
salt_some (byte ∷ more) some = refl

-- bytes that are written over the first zeros
pub copied : (size : ℕ) (bytes now start : List ℕ) → now ≡ bytes → start ≡ replicate size 0 →
    now ++ drop (length bytes) start ≡ filled size bytes
copied size bytes now start same zero =
    (λ i. same i ++ drop (length bytes) ((zero ∙ sym (zeros_are size)) i))
    ∙ (ap (λ xs. bytes ++ xs) (drop-zeros (length bytes) size) ∙ sym (filled_is size bytes))

-- the fields of a new descriptor are kept
pub kept_new : (log size : ℕ) (salt now start root : List ℕ) → 10 ≤ log → log ≤ 12 → length salt ≤ 32 →
    size ≤ 16777216 → (size ≡ 0 → root ≡ replicate 32 0) → now ≡ salt → start ≡ replicate 32 0 →
    IsKept log (length salt) (now ++ drop (length salt) start) size root
kept_new log size salt now start root low high short few no_root same zero =
    let row = copied 32 salt now start same zero in
    let front : take (length salt) (now ++ drop (length salt) start) ≡ salt =
    (λ i. take (length salt) (same i ++ drop (length salt) start))
    ∙ take_at salt (drop (length salt) start) (length salt) refl in
    record {
      low = low;
      high = high;
      short = short;
      salt_filled = row ∙ ap (λ xs. filled 32 xs) (sym front);
      few = few;
      no_root = no_root;
    }
