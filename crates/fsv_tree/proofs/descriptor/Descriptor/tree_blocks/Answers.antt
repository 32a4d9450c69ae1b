use Rattle.std.proofs.Common.{◌^◌, ℕ, ap, sym, ◌∙◌}
use Rattle.hash_tree.specs.Hash.{sha256_hash}
use Rattle.hash_tree.specs.Shape.{tree_blocks}
use Rattle.hash_tree.specs.Tree.{fan_out}
use Rattle.hash_tree.proofs.Heights.{none_over}
use Rattle.fsv_tree.proofs.descriptor.Descriptor.tree_blocks.Goals as goal

pub returns-then-blocks-eq0-clause-count : goal.returns-then-blocks-eq0-clause-count
returns-then-blocks-eq0-clause-count c =
    let h = fan_out sha256_hash (2 ^ c.args.self.now.log) in
    sym (none_over h)
    ∙ ap (λ (n : ℕ). tree_blocks h n) (sym c.if-blocks-eq0.true ∙ c.blocks-blocks.ensures.value)
