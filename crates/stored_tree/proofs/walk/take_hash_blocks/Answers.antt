use Rattle.std.proofs.Common.{◌≡◌, ℕ, List, length, ◌+◌, ◌-◌, ◌*◌, ◌/◌, ◌%◌, ◌^◌, ap, sym, ◌∙◌, subst, arith}
use Rattle.std.proofs.lemmas.List.Elements.{All-push, All-same}
use Rattle.blk_device.specs.Contents.{HasAtLeast}
use Rattle.hash_tree.specs.Hash.{hash_of}
use Rattle.hash_tree.specs.Path.{digest_in}
use Rattle.hash_tree.specs.Tree.{fan_out, salted}
use Rattle.stored_tree.specs.Checked.{FailsAt}
use Rattle.stored_tree.specs.Stored.{fan_of, Stored}
use Rattle.stored_tree.proofs.Places.{block_room, few_before, level_is, next_few}
use Rattle.stored_tree.proofs.Walking.{after_read, fails, leads_to, next_step, one_more, read_before, right_digest, right_so_far, taken_from, wrong_digest}
use Rattle.stored_tree.proofs.walk.take_hash_blocks.Goals as goal

pub overflow_add-first : goal.overflow_add-first
overflow_add-first g c =
    let wide = c.fan_out-fan_out.ensures ∙ ap (λ (t : Stored). fan_of t) c.tree.view_is in
    let over = c.over-block.ensures ∙ ap (λ (x : ℕ). c.args.i / x ^ c.loop-level.level) wide in
    let few = few_before c.args.tree.now c.args.i c.loop-level.first c.loop-level.level c.over-block.result
    c.requires.tree c.requires.block c.loop-level-test.true over c.loop-level.invariant.at.place in
    omega (arith, few)

pub read_hash_block-requires-clause-few : goal.read_hash_block-requires-clause-few
read_hash_block-requires-clause-few g c =
    let wide = c.fan_out-fan_out.ensures ∙ ap (λ (t : Stored). fan_of t) c.tree.view_is in
    let over = c.over-block.ensures ∙ ap (λ (x : ℕ). c.args.i / x ^ c.loop-level.level) wide in
    few_before c.args.tree.now c.args.i c.loop-level.first c.loop-level.level c.over-block.result
    c.requires.tree c.requires.block c.loop-level-test.true over c.loop-level.invariant.at.place

pub read_hash_block-requires-clause-there : goal.read_hash_block-requires-clause-there
read_hash_block-requires-clause-there g c =
    let tree = c.args.tree.now in
    let wide = c.fan_out-fan_out.ensures ∙ ap (λ (t : Stored). fan_of t) c.tree.view_is in
    let over = c.over-block.ensures ∙ ap (λ (x : ℕ). c.args.i / x ^ c.loop-level.level) wide in
    subst (λ now. HasAtLeast now tree.device (tree.start + (c.loop-level.first + c.over-block.result) *
    tree.block_size + tree.block_size)) (sym c.loop-level.invariant.same)
    (block_room (g.D.Devices.contents c.args.dev.now) tree c.args.i c.loop-level.first c.loop-level.level
    c.over-block.result c.requires.tree c.requires.block c.loop-level-test.true over c.loop-level.invariant.at.place
    c.requires.has_tree)

pub returns-then-ne-clause-corrupt : goal.returns-then-ne-clause-corrupt
returns-then-ne-clause-corrupt g c = λ level b is.
    let tree = c.args.tree.now in
    let block = c.read_hash_block.new.out in
    let longer = c.push.new.self in
    let wide = c.fan_out-fan_out.ensures ∙ ap (λ (t : Stored). fan_of t) c.tree.view_is in
    let over = c.over-block.ensures ∙ ap (λ (x : ℕ). c.args.i / x ^ c.loop-level.level) wide in
    let digest : c.salted_digest-digest.result.items ≡ salted (hash_of tree.algorithm) tree.salt block =
    c.salted_digest-digest.ensures ∙ ap (λ (t : Stored). salted (hash_of t.algorithm) t.salt block) c.tree.view_is in
    let here = fails tree (g.D.Devices.contents c.args.dev.now) c.args.i c.loop-level.path longer
    c.loop-level.level c.loop-level.first c.loop-level.wanted.items block c.loop-level.invariant.at
    (λ same. wrong_digest c.as_slice.result.now c.as_slice-in-loop-level.result.now
    (salted (hash_of tree.algorithm) tree.salt block) (c.as_slice-in-loop-level.ensures.value ∙ digest) c.if-ne.ensures
    (c.as_slice.ensures.value ∙ same))
    c.push.ensures in
    let first : c.loop-level.level ≡ level = cc in
    let second : c.over-block.result ≡ b = cc in
    subst (λ (x : ℕ). FailsAt tree c.args.i longer x b) first
    (subst (λ (x : ℕ). FailsAt tree c.args.i longer c.loop-level.level x) (sym over ∙ second) here)

pub returns-then-ne-clause-held : goal.returns-then-ne-clause-held
returns-then-ne-clause-held g c =
    let tree = c.args.tree.now in
    let told = g.D.Devices.contents c.args.dev.now in
    let block = c.read_hash_block.new.out in
    let wide = c.fan_out-fan_out.ensures ∙ ap (λ (t : Stored). fan_of t) c.tree.view_is in
    let over = c.over-block.ensures ∙ ap (λ (x : ℕ). c.args.i / x ^ c.loop-level.level) wide in
    let read = read_before told (g.D.Devices.contents c.loop-level.dev) tree c.args.i c.loop-level.first
    c.loop-level.level c.over-block.result block c.loop-level.invariant.same over
    c.in_ok-read_hash_block.ensures.held in
    after_read tree told c.args.i c.loop-level.path c.push.new.self c.loop-level.level c.loop-level.first
    c.loop-level.wanted.items block c.loop-level.invariant.at c.loop-level-test.true read
    c.push.ensures

pub overflow_add-first-in-loop-level-2 : goal.overflow_add-first-in-loop-level-2
overflow_add-first-in-loop-level-2 g c =
    let tree = c.args.tree.now in
    let wide = c.fan_out-fan_out.ensures ∙ ap (λ (t : Stored). fan_of t) c.tree.view_is in
    let next = level_is tree c.loop-level.level c.fan_out-fan_out.result c.over.result c.requires.tree wide
    (c.over.ensures
    ∙ ap (λ (t : Stored). (t.blocks - 1) / c.fan_out-fan_out.result ^ c.loop-level.level) c.tree.view_is) in
    let few = next_few tree c.loop-level.first c.loop-level.level c.requires.tree c.loop-level-test.true
    c.loop-level.invariant.at.place in
    omega (arith, few, next)

pub loop-level-preserved : goal.loop-level-preserved
loop-level-preserved g c =
    let tree = c.args.tree.now in
    let told = g.D.Devices.contents c.args.dev.now in
    let block = c.read_hash_block.new.out in
    let wide = c.fan_out-fan_out.ensures ∙ ap (λ (t : Stored). fan_of t) c.tree.view_is in
    let over = c.over-block.ensures ∙ ap (λ (x : ℕ). c.args.i / x ^ c.loop-level.level) wide in
    let read = read_before told (g.D.Devices.contents c.loop-level.dev) tree c.args.i c.loop-level.first
    c.loop-level.level c.over-block.result block c.loop-level.invariant.same over
    c.in_ok-read_hash_block.ensures.held in
    let digest : c.salted_digest-digest.result.items ≡ salted (hash_of tree.algorithm) tree.salt block =
    c.salted_digest-digest.ensures ∙ ap (λ (t : Stored). salted (hash_of t.algorithm) t.salt block) c.tree.view_is in
    let right = sym c.as_slice.ensures.value ∙ right_digest c.as_slice.result.now
    c.as_slice-in-loop-level.result.now (salted (hash_of tree.algorithm) tree.salt block)
    (c.as_slice-in-loop-level.ensures.value ∙ digest) c.if-ne.ensures in
    let next = level_is tree c.loop-level.level c.fan_out-fan_out.result c.over.result c.requires.tree wide
    (c.over.ensures
    ∙ ap (λ (t : Stored). (t.blocks - 1) / c.fan_out-fan_out.result ^ c.loop-level.level) c.tree.view_is) in
    let wanted : c.digest_in-wanted.result.items ≡ digest_in (hash_of tree.algorithm) ((c.args.i / fan_of tree ^ (c.loop-level.level - 1))
    % fan_of tree) block =
    c.digest_in-wanted.ensures
    ∙ (ap (λ (t : Stored). digest_in (hash_of t.algorithm) (c.over-in-loop-level.result % c.fan_out-fan_out.result)
    block) c.tree.view_is
    ∙ (ap (λ (x : ℕ). digest_in (hash_of tree.algorithm) (x % c.fan_out-fan_out.result) block) c.over-in-loop-level.ensures
    ∙ ap (λ (x : ℕ). digest_in (hash_of tree.algorithm) ((c.args.i / x ^ (c.loop-level.level - 1)) % x) block) wide)) in
    record {
      at = next_step tree told c.args.i c.loop-level.path c.push.new.self c.loop-level.level
          c.loop-level.first (c.loop-level.first + (c.over.result + 1)) c.loop-level.wanted.items block
          c.digest_in-wanted.result.items c.loop-level.invariant.at c.loop-level-test.true right read
          (ap (λ (x : ℕ). c.loop-level.first + x) next) wanted c.push.ensures;
      same = c.in_ok-read_hash_block.ensures.same ∙ c.loop-level.invariant.same;
      faults = omega (arith, c.loop-level.invariant.faults, c.in_ok-read_hash_block.ensures.never_falls);
      unasked = λ same. absurd (omega (arith, same, c.loop-level.invariant.at.count, c.loop-level-test.true));
      one_block = c.read_hash_block.auto.out ∙ c.loop-level.invariant.one_block;
      low = c.loop-level.invariant.low;
      sizes = All-same (λ xs. length xs ≡ tree.block_size) _ _ c.push.ensures
          (All-push (λ xs. length xs ≡ tree.block_size) c.loop-level.path block c.loop-level.invariant.sizes
          (c.read_hash_block.auto.out ∙ c.loop-level.invariant.one_block));
    }

pub returns-clause-leads : goal.returns-clause-leads
returns-clause-leads g c =
    leads_to c.args.tree.now (g.D.Devices.contents c.args.dev.now) c.args.i c.loop-level.path c.loop-level.level
    c.loop-level.first c.loop-level.wanted.items c.loop-level.invariant.at (omega (arith, c.loop-level-test.false))

pub returns-in_err-read_hash_block-clause-right : goal.returns-in_err-read_hash_block-clause-right
returns-in_err-read_hash_block-clause-right g c = λ _.
    right_so_far c.args.tree.now (g.D.Devices.contents c.args.dev.now) c.args.i c.loop-level.path
    c.loop-level.level c.loop-level.first c.loop-level.wanted.items c.loop-level.invariant.at

pub returns-in_err-read_hash_block-clause-held : goal.returns-in_err-read_hash_block-clause-held
returns-in_err-read_hash_block-clause-held g c =
    taken_from c.args.tree.now (g.D.Devices.contents c.args.dev.now) c.args.i c.loop-level.path
    c.loop-level.level c.loop-level.first c.loop-level.wanted.items c.loop-level.invariant.at

pub returns-clause-held : goal.returns-clause-held
returns-clause-held g c =
    taken_from c.args.tree.now (g.D.Devices.contents c.args.dev.now) c.args.i c.loop-level.path
    c.loop-level.level c.loop-level.first c.loop-level.wanted.items c.loop-level.invariant.at

pub returns-then-ne-clause-short : goal.returns-then-ne-clause-short
returns-then-ne-clause-short g c =
    let longer : length c.push.new.self ≡ length c.loop-level.path + 1 =
    ap (λ (path : List (List ℕ)). length path) c.push.ensures ∙ one_more c.loop-level.path c.read_hash_block.new.out in
    omega (arith, c.loop-level.invariant.at.count, c.loop-level-test.true)
