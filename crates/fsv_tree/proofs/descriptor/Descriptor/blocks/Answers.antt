use Rattle.std.proofs.Common.{◌≡◌, ℕ, ap, ◌∙◌, arith}
use Rattle.std.specs.Int.{div_ceil}
use Rattle.fsv_tree.proofs.Counts.{few_blocks}
use Rattle.fsv_tree.proofs.descriptor.Descriptor.blocks.Goals as goal

pub returns-clause-few : goal.returns-clause-few
returns-clause-few c =
    let few = few_blocks c.self.inside.size c.block_size.result c.self.invariant.few c.block_size.ensures.one_of in
    let count : c.div_ceil.result ≡ div_ceil c.self.inside.size c.block_size.result =
    c.div_ceil.ensures ∙ ap (λ (x : ℕ). div_ceil c.self.inside.size x) c.from.ensures in
    omega (arith, few, count)
