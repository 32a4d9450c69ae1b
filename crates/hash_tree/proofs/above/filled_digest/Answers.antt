use Rattle.hash_tree.specs.Hash.{hash_of}
use Rattle.std.proofs.Common.{◌≡◌, ℕ, ◌++◌, List, length, vec_len, ap, sym, ◌∙◌, arith}
use Rattle.hash_tree.specs.Tree.{salted, filled}
use Rattle.hash_tree.proofs.Bytes.{filled_whole, resized}
use Rattle.hash_tree.proofs.above.filled_digest.Goals as goal

pub returns-then-block-size : goal.returns-then-block-size
returns-then-block-size c =
    c.salted_digest.ensures
    ∙ ap (λ (xs : List ℕ). salted (hash_of c.args.algorithm) c.args.salt.now xs) (sym (filled_whole c.args.size c.args.block.now
    c.if-block-size.true))

pub returns : goal.returns
returns c =
    let copied : c.extend_from_slice.new.self.items ≡ c.args.block.now =
    c.in_ok-extend_from_slice.ensures.items
    ∙ ap (λ (xs : List ℕ). xs ++ c.args.block.now) c.in_ok-full.ensures.items in
    let count : vec_len c.extend_from_slice.new.self ≡ length c.args.block.now =
    omega (arith, c.in_ok-extend_from_slice.ensures.len, c.in_ok-full.ensures.len) in
    let full : c.deref.result.now ≡ filled c.args.size c.args.block.now =
    c.deref.ensures.value ∙ (c.in_ok-resize.ensures.items
    ∙ resized c.args.size (vec_len c.extend_from_slice.new.self) c.args.block.now c.extend_from_slice.new.self.items
    copied count c.requires) in
    c.salted_digest-2.ensures ∙ ap (λ (xs : List ℕ). salted (hash_of c.args.algorithm) c.args.salt.now xs) full
