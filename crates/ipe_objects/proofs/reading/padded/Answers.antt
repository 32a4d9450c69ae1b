use Rattle.std.proofs.Common.{◌≡◌, ◌∙◌, ℕ, ◌++◌, List, length, vec_len, ap, arith}
use Rattle.hash_tree.proofs.Bytes.{resized}
use Rattle.ipe_objects.proofs.reading.padded.Goals as goal

pub returns : goal.returns
returns c =
    let copied : c.extend_from_slice.new.self.items ≡ c.args.part.now =
    c.in_ok-extend_from_slice.ensures.items
    ∙ ap (λ (xs : List ℕ). xs ++ c.args.part.now) c.in_ok-full.ensures.items in
    let count : vec_len c.extend_from_slice.new.self ≡ length c.args.part.now =
    omega (arith, c.in_ok-extend_from_slice.ensures.len, c.in_ok-full.ensures.len) in
    c.in_ok-resize.ensures.items
    ∙ resized c.args.size (vec_len c.extend_from_slice.new.self) c.args.part.now c.extend_from_slice.new.self.items
    copied count c.requires
