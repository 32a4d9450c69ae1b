use Rattle.std.proofs.Common.{ℕ, ◌≤◌, ◌<◌, ap, arith, subst, sym, ◌∙◌}
use Rattle.std.specs.Int.{div_ceil}
use Rattle.hash_tree.specs.Hash.{hash_of}
use Rattle.hash_tree.specs.Shape.{height, tree_blocks}
use Rattle.hash_tree.specs.Tree.{fan_out}
use Rattle.hash_tree.proofs.Heights.{at_first, at_last, at_next, few_levels, low_height, not_yet}
use Rattle.hash_tree.proofs.shape.layout.Goals as goal

pub loop-level-init : goal.loop-level-init
loop-level-init c = at_first c.fan_out-fan_out.result c.args.blocks c.requires.some

pub loop-level-preserved : goal.loop-level-preserved
loop-level-preserved c =
    let wide : 4 ≤ fan_out (hash_of c.args.algorithm) c.args.block_size = c.requires.size.wide in
    at_next c.fan_out-fan_out.result c.args.blocks c.loop-level.levels c.loop-level.level c.loop-level.hash_blocks
    c.div_ceil-level.result (omega (arith, c.fan_out-fan_out.ensures)) c.requires.some c.loop-level.invariant
    c.loop-level-test.true c.div_ceil-level.ensures

pub overflow_add-levels : goal.overflow_add-levels
overflow_add-levels c =
    let wide : 4 ≤ fan_out (hash_of c.args.algorithm) c.args.block_size = c.requires.size.wide in
    let many : 4 ≤ c.fan_out-fan_out.result = omega (arith, c.fan_out-fan_out.ensures) in
    let some = not_yet c.fan_out-fan_out.result c.args.blocks c.loop-level.levels c.loop-level.level (omega arith)
    c.requires.some c.loop-level.invariant.level_is c.loop-level-test.true in
    let few : c.loop-level.levels < 12 =
    few_levels c.fan_out-fan_out.result c.args.blocks c.loop-level.levels (omega arith) c.requires.few some in
    omega arith

pub returns-clause-height : goal.returns-clause-height
returns-clause-height c =
    let wide : 4 ≤ fan_out (hash_of c.args.algorithm) c.args.block_size = c.requires.size.wide in
    let last = at_last c.fan_out-fan_out.result c.args.blocks c.loop-level.levels c.loop-level.level c.loop-level.hash_blocks
    (omega (arith, c.fan_out-fan_out.ensures)) c.requires.some c.loop-level.invariant (omega (arith, c.loop-level-test.false)) in
    last.0 ∙ ap (λ (h : ℕ). height h c.args.blocks) c.fan_out-fan_out.ensures

pub returns-clause-count : goal.returns-clause-count
returns-clause-count c =
    let wide : 4 ≤ fan_out (hash_of c.args.algorithm) c.args.block_size = c.requires.size.wide in
    let last = at_last c.fan_out-fan_out.result c.args.blocks c.loop-level.levels c.loop-level.level c.loop-level.hash_blocks
    (omega (arith, c.fan_out-fan_out.ensures)) c.requires.some c.loop-level.invariant (omega (arith, c.loop-level-test.false)) in
    last.1 ∙ ap (λ (h : ℕ). tree_blocks h c.args.blocks) c.fan_out-fan_out.ensures

pub returns-clause-low : goal.returns-clause-low
returns-clause-low c =
    let wide : 4 ≤ fan_out (hash_of c.args.algorithm) c.args.block_size = c.requires.size.wide in
    let low = low_height (fan_out (hash_of c.args.algorithm) c.args.block_size) c.args.blocks (omega arith)
    c.requires.some c.requires.few in
    omega (arith, low, returns-clause-height c)
