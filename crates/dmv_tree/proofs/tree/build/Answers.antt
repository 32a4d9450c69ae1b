use Rattle.std.proofs.Common.{ℕ, List, length, ap, ◌∙◌, arith}
use Rattle.hash_tree.specs.Hash.{sha256_hash}
use Rattle.hash_tree.specs.Tree.{root, stored}
use Rattle.dmv_tree.proofs.Bytes.{image_blocks}
use Rattle.dmv_tree.proofs.tree.build.Goals as goal

pub array_of-root-requires : goal.array_of-root-requires
array_of-root-requires c =
    (omega arith, ap length c.as_slice.ensures.value ∙ c.in_ok-root.ensures.one_digest)

pub returns : goal.returns
returns c =
    let size = c.args.block_size in
    let salt = c.args.salt.now in
    let cut = image_blocks c.trees_have_their_shape.ensures.full size c.args.image.now c.requires.blocks in
    let same_root = c.array_of-root.ensures ∙ (c.as_slice.ensures.value
    ∙ (c.in_ok-root.ensures.root ∙ ap (λ (xs : List (List ℕ)). root sha256_hash size salt xs) cut)) in
    let same_bytes = c.in_ok-root.ensures.stored ∙ ap (λ (xs : List (List ℕ)). stored sha256_hash size salt xs) cut in
    λ i. record { root = same_root i; bytes = same_bytes i }
