-- What a call of `check_block` answers.
use Rattle.std.proofs.Common.{◌≡◌, ℕ, ◌<◌, ◌≤◌, List, [], ◌∷◌, ◌++◌, length, take, get_or, Option, None, Some, Result, Ok, Err, ap, sym, ◌∙◌, arith, inl, inr}
use Rattle.std.specs.Prelude.{IsErrOf, OnOk}
use Rattle.std.specs.Int.{div_ceil}
use Rattle.std.proofs.lemmas.Bool.{cases_lt}
use Rattle.std.proofs.lemmas.Nat.{pow_pos}
use Rattle.blk_device.specs.Contents.{Contents}
use Rattle.blk_device.specs.declared.devices.VerityError.{VerityError}
use Rattle.blk_device.specs.declared.devices.VerityError.TheVariants.{DeviceFault}
use Rattle.fsv_tree.specs.File.{RootsAreOfTrees}
use Rattle.stored_tree.specs.Checked.{IsOfImage}
use Rattle.stored_tree.specs.Stored.{HoldsTreeOf, OfHashes}
use Rattle.hash_tree.specs.Tree.{data_blocks}
use Rattle.hash_tree.proofs.Bytes.{length-data_blocks}
use Rattle.hash_tree.proofs.Numbers.{div_ceil_none}
use Rattle.fsv_file.specs.File.{FileParts, IsOfFile, file_block_size, blocks_of, tree_of_file}

-- a block of each image is a block of each file
pub of_file : RootsAreOfTrees → (file : FileParts) (i : ℕ) (taken : List (List ℕ)) (block : List ℕ) →
    i < blocks_of file.descriptor →
    IsOfImage (tree_of_file file) i taken block → IsOfFile file i taken block
of_file root_some file i taken block inside image bytes count declared =
    let size = file_block_size file.descriptor in
    let positive : 0 < size = pow_pos file.descriptor.log in
    let blocks : length (data_blocks size bytes) ≡ blocks_of file.descriptor =
    length-data_blocks size bytes ∙ ap (λ (n : ℕ). div_ceil n size) count in
    elim (cases_lt 0 (length bytes)) [
      | inl some ↦
          image (data_blocks size bytes) blocks (sym (root_some size file.descriptor.salt bytes some) ∙ declared)
      | inr none ↦
          let empty : div_ceil (length bytes) size ≡ 0 =
          ap (λ (n : ℕ). div_ceil n size) (omega arith) ∙ div_ceil_none size positive in
          let all : length (data_blocks size bytes) ≡ div_ceil (length bytes) size = length-data_blocks size bytes in
          absurd (omega arith)
    ]

-- nothing fails where the device holds the tree of a file
pub complete : (told : Option Contents) (file : FileParts) (block : List ℕ) (i : ℕ)
    (result : Result (Unit {0}) VerityError) →
    OfHashes told (tree_of_file file) (λ hashes. (image : List (List ℕ)) → HoldsTreeOf (tree_of_file file) hashes image →
    block ≡ get_or image i [] → (IsErrOf result DeviceFault → ⊥) → result ≡ Ok tt) →
    OfHashes told (tree_of_file file) (λ bytes. (all : List ℕ) → length all ≡ file.descriptor.size →
    HoldsTreeOf (tree_of_file file) bytes (data_blocks (file_block_size file.descriptor) all) →
    block ≡ get_or (data_blocks (file_block_size file.descriptor) all) i [] →
    (IsErrOf result DeviceFault → ⊥) → result ≡ Ok tt)
complete None file block i result whole = tt
complete (Some items) file block i result whole = λ hashes known all count holds same sound.
    whole hashes known (data_blocks (file_block_size file.descriptor) all) holds same sound

-- what follows from what an `Ok` says
pub after_ok : (result : Result (Unit {0}) VerityError) (P Q : Type 0) → (P → Q) → OnOk result P → OnOk result Q
after_ok (Ok tt) P Q each p = each p
after_ok (Err e) P Q each p = tt
