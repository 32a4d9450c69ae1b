use Rattle.hash_tree.specs.Hash.{hash_of}
use Rattle.std.proofs.Common.{rules, ◌≡◌, ℕ, ◌++◌, List, ◌-◌, ◌*◌, length, take, replicate, vec_len, ap, sym, ◌∙◌, subst, arith}
use Rattle.std.specs.Slice.Iter.{chunks_rest}
use Rattle.std.specs.Int.{div_ceil}
use Rattle.hash_tree.specs.Tree.{salted, filled}
use Rattle.hash_tree.proofs.Bytes.{Hashing, at_least, hashing_more, hashing_done, hashed_level}
use Rattle.hash_tree.proofs.above.hash_level.Goals as goal

pub loop-block-preserved : goal.loop-block-preserved
loop-block-preserved c =
    let size = c.args.size in
    let salt = c.args.salt.now in
    let block = c.in-Some.block.now in
    let before = c.loop-block.above.items in
    let rest = chunks_rest c.next.new.self in
    let steps = c.in-Some.ensures.steps in
    let sizes = c.loop-block.invariant.2 in
    let more = hashing_more (hash_of c.args.algorithm) size salt c.args.level.now before (chunks_rest c.loop-block.block-iterator) block rest
    (omega (arith, at_least (hash_of c.args.algorithm) size c.requires.size)) c.loop-block.invariant.3 steps.1.0 (rw sizes at
    steps.1.1) steps.1.2 in
    let added : c.extend_from_slice.new.self.items ≡ before ++ salted (hash_of c.args.algorithm) salt (filled size block) =
    c.in_ok-extend_from_slice.ensures.items ∙ ap (λ (xs : List ℕ). before ++ xs) (c.deref.ensures.0 ∙ c.in_ok-digest.ensures) in (
      search rules,
      tt,
      steps.0 ∙ sizes,
      subst (λ (xs : List ℕ). Hashing (hash_of c.args.algorithm) size salt c.args.level.now xs rest) (sym added) more,
    )

pub returns : goal.returns
returns c =
    let size = c.args.size in
    let done = hashing_done (hash_of c.args.algorithm) size c.args.salt.now c.args.level.now c.loop-block.above.items (chunks_rest
    c.loop-block.block-iterator)
    (omega (arith, at_least (hash_of c.args.algorithm) size c.requires.size)) c.loop-block.invariant.3 c.in-None.ensures.steps.1.0 in
    let full = c.div_ceil-2.result * size in
    let count : vec_len c.loop-block.above ≡ length c.loop-block.above.items = omega (arith, c.loop-block.above.ok.0) in
    c.in_ok-resize.ensures.items
    ∙ (ap (λ (n : ℕ). take full c.loop-block.above.items ++ replicate (full - n) 0) count
    ∙ hashed_level (hash_of c.args.algorithm) size c.args.salt.now c.args.level.now c.loop-block.above.items full c.requires.size c.requires.some done
    (ap (λ (n : ℕ). n * size) (c.div_ceil-2.ensures
    ∙ (ap (λ (n : ℕ). div_ceil (n * c.digest_size.result) size) c.div_ceil.ensures
    ∙ ap (λ (n : ℕ). div_ceil (div_ceil (length c.args.level.now) size * n) size) c.digest_size.ensures.value))))
