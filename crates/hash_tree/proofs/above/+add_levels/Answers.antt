use Rattle.hash_tree.specs.Hash.{hash_of}
use Rattle.std.proofs.Common.{◌≡◌, ℕ, ◌<◌, ◌≤◌, ◌++◌, List, length, ap, sym, ◌∙◌, arith, append-nil, append_assoc}
use Rattle.std.proofs.lemmas.Result.{IfOk-weaker}
use Rattle.hash_tree.specs.Tree.{salted, filled, data_blocks, root, stored}
use Rattle.hash_tree.proofs.Bytes.{level_above, root_of_one, stored_of_one}
use Rattle.hash_tree.proofs.above.+add_levels.Goals as goal

pub returns-then-level-size-clause-root : goal.returns-then-level-size-clause-root
returns-then-level-size-clause-root t c =
    IfOk-weaker c.filled_digest.result
    (λ digest. digest.items ≡ salted (hash_of c.args.algorithm) c.args.salt.now (filled c.args.size c.args.level.now))
    (λ digest. digest.items ≡ root (hash_of c.args.algorithm) c.args.size c.args.salt.now (data_blocks c.args.size c.args.level.now))
    (λ digest is. is ∙ sym (root_of_one (hash_of c.args.algorithm) c.args.size c.args.salt.now c.args.level.now c.requires.some
    c.if-level-size.true))
    c.filled_digest.ensures

pub returns-then-level-size-clause-added : goal.returns-then-level-size-clause-added
returns-then-level-size-clause-added t c =
    let tree = c.args.tree.now.items in
    IfOk-weaker c.filled_digest.result
    (λ digest. digest.items ≡ salted (hash_of c.args.algorithm) c.args.salt.now (filled c.args.size c.args.level.now))
    (λ digest. tree ≡ tree ++ stored (hash_of c.args.algorithm) c.args.size c.args.salt.now (data_blocks c.args.size c.args.level.now))
    (λ digest is. sym (ap (λ (xs : List ℕ). tree ++ xs) (stored_of_one (hash_of c.args.algorithm) c.args.size c.args.salt.now c.args.level.now
    c.requires.some c.if-level-size.true) ∙ append-nil tree))
    c.filled_digest.ensures

pub add_levels-requires : goal.add_levels-requires
add_levels-requires t c =
    let above = level_above (hash_of c.args.algorithm) c.args.size c.args.salt.now c.args.level.now c.in_ok-above.above.items c.requires.size
    (omega (arith, c.if-level-size.false)) c.in_ok-above.ensures in
    let count : length c.deref.result.now ≡ length c.in_ok-above.above.items = ap length c.deref.ensures.value in
    let fewer : length c.in_ok-above.above.items < length c.args.level.now = above.fewer in
    let some : 0 < length c.in_ok-above.above.items = above.some in
    let few : length c.args.level.now ≤ 16777216 = c.requires.few in
    (omega arith, (omega arith, (omega arith, c.requires.size)))

pub returns-clause-root : goal.returns-clause-root
returns-clause-root t c =
    let above = level_above (hash_of c.args.algorithm) c.args.size c.args.salt.now c.args.level.now c.in_ok-above.above.items c.requires.size
    (omega (arith, c.if-level-size.false)) c.in_ok-above.ensures in
    c.in_ok-root.ensures.root ∙ (ap (λ (xs : List ℕ). root (hash_of c.args.algorithm) c.args.size c.args.salt.now (data_blocks c.args.size xs))
    c.deref.ensures.value ∙ sym above.root_is)

pub returns-clause-added : goal.returns-clause-added
returns-clause-added t c =
    let size = c.args.size in
    let salt = c.args.salt.now in
    let tree = c.args.tree.now.items in
    let bytes = c.in_ok-above.above.items in
    let above = level_above (hash_of c.args.algorithm) size salt c.args.level.now bytes c.requires.size (omega (arith, c.if-level-size.false)) c.in_ok-above.ensures in
    let lower = stored (hash_of c.args.algorithm) size salt (data_blocks size bytes) in
    let higher : c.add_levels.new.tree.items ≡ tree ++ lower =
    c.in_ok-root.ensures.added ∙ ap (λ (xs : List ℕ). tree ++ stored (hash_of c.args.algorithm) size salt (data_blocks size xs))
    c.deref.ensures.value in
    c.in_ok-extend_from_slice.ensures.items
    ∙ (ap (λ (xs : List ℕ). xs ++ c.deref-2.result.now) higher
    ∙ (ap (λ (xs : List ℕ). (tree ++ lower) ++ xs) c.deref-2.ensures.value
    ∙ (append_assoc tree lower bytes ∙ ap (λ (xs : List ℕ). tree ++ xs) (sym above.stored_is))))
