use Rattle.std.proofs.Common.{◌≡◌, ℕ, suc, ◌+◌, ◌*◌, ◌≤◌, List, [], ◌∷◌, ◌++◌, length, ap, refl, sym, ◌∙◌, arith, vec_len}
use Rattle.std.specs.Prelude.{if◌then◌else◌, vec_capacity}
use Rattle.std.proofs.lemmas.Bool.{false≢true}
use Rattle.std.proofs.lemmas.List.{length-append}
use Rattle.std.proofs.Math.Nat.{suc-mul}
use Rattle.hash_tree.specs.Chunks.{chunks}
use Rattle.hash_tree.proofs.Groups.{whole_count}
use Rattle.stored_tree.proofs.Joined.{chunks_push, fits_one_more, same_size}
use Rattle.stored_tree.proofs.path.BlockPath.push.Goals as goal

pub invariant_of-self : goal.invariant_of-self
invariant_of-self c =
    let count = c.self.inside.count in
    let bytes = c.self.inside.bytes.items in
    let block = c.args.block.now in
    let same = same_size c.self.inside.size count (length block) bytes c.args.self.now c.self.invariant.0
    c.self.invariant.3 c.self.view_is c.requires.one_size c.requires.some in
    let joined : c.extend_from_slice.new.self.items ≡ bytes ++ block =
    c.extend_from_slice.ensures.items
    ∙ ap (λ b. (if b then bytes ++ block else bytes)) (sym c.if-is_ok.ensures.value) in
    let lengths : length c.extend_from_slice.new.self.items ≡ length bytes + length block =
    ap length joined ∙ length-append bytes block in
    let step : count + 1 ≡ suc count = omega arith in
    let product : (count + 1) * length block ≡ count * length block + length block =
    ap (λ (n : ℕ). n * length block) step ∙ suc-mul count (length block) in
    let many = whole_count c.self.inside.size count bytes c.self.invariant.0 c.self.invariant.3 in
    let seen : length (chunks c.self.inside.size bytes) ≡ length c.args.self.now =
    ap (λ (path : List (List ℕ)). length path) c.self.view_is in (
      c.requires.some,
      c.requires.small,
      omega (arith, many, c.requires.room),
      omega (arith, same.1),
      omega (arith, c.self.invariant.4, c.extend_from_slice.ensures.capacity),
    )

pub returns-then-is_ok : goal.returns-then-is_ok
returns-then-is_ok c =
    let bytes = c.self.inside.bytes.items in
    let block = c.args.block.now in
    let same = same_size c.self.inside.size c.self.inside.count (length block) bytes c.args.self.now c.self.invariant.0
    c.self.invariant.3 c.self.view_is c.requires.one_size c.requires.some in
    let joined : c.extend_from_slice.new.self.items ≡ bytes ++ block =
    c.extend_from_slice.ensures.items
    ∙ ap (λ b. (if b then bytes ++ block else bytes)) (sym c.if-is_ok.ensures.value) in
    ap (λ xs. chunks (length block) xs) joined
    ∙ (chunks_push (length block) c.self.inside.count bytes block c.requires.some same.1 refl
    ∙ ap (λ (path : List (List ℕ)). path ++ block ∷ []) same.0)

pub invariant_of-self-else-is_ok : goal.invariant_of-self-else-is_ok
invariant_of-self-else-is_ok c =
    let fits = fits_one_more c.self.inside.size c.self.inside.count (vec_capacity c.self.inside.bytes)
    c.self.inside.bytes.items c.args.block.now c.args.self.now c.self.invariant.0 c.self.invariant.3 c.self.view_is
    c.requires.one_size c.requires.some c.requires.small c.requires.room c.self.invariant.4 in
    let stored : vec_len c.self.inside.bytes ≡ length c.self.inside.bytes.items = c.self.inside.bytes.ok.0 in
    absurd (false≢true (c.if-is_ok.ensures.value ∙ c.extend_from_slice.ensures.succeeds (omega (arith, fits, stored))))

pub returns-else-is_ok : goal.returns-else-is_ok
returns-else-is_ok c =
    let fits = fits_one_more c.self.inside.size c.self.inside.count (vec_capacity c.self.inside.bytes)
    c.self.inside.bytes.items c.args.block.now c.args.self.now c.self.invariant.0 c.self.invariant.3 c.self.view_is
    c.requires.one_size c.requires.some c.requires.small c.requires.room c.self.invariant.4 in
    let stored : vec_len c.self.inside.bytes ≡ length c.self.inside.bytes.items = c.self.inside.bytes.ok.0 in
    absurd (false≢true (c.if-is_ok.ensures.value ∙ c.extend_from_slice.ensures.succeeds (omega (arith, fits, stored))))
