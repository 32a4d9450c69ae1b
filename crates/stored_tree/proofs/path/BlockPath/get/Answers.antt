use Rattle.std.proofs.Common.{◌≡◌, ℕ, ◌+◌, ◌-◌, ◌*◌, List, [], length, take, drop, get_or, ap, sym, ◌∙◌, arith}
use Rattle.hash_tree.proofs.Groups.{whole_count}
use Rattle.stored_tree.proofs.Joined.{block_is}
use Rattle.stored_tree.proofs.path.BlockPath.get.Goals as goal

pub returns-then-number-self : goal.returns-then-number-self
returns-then-number-self c =
    let size = c.self.inside.size in
    let count = c.self.inside.count in
    let bytes = c.self.inside.bytes.items in
    let k = c.args.number in
    let many = whole_count size count bytes c.self.invariant.0 c.self.invariant.3 in
    let seen = ap (λ (path : List (List ℕ)). length path) c.self.view_is in
    let one : k * size + size - k * size ≡ size = omega arith in (
      omega (arith, many, seen, c.if-number-self.true),
      ap (λ (n : ℕ). take n (drop (k * size) c.deref.result.now)) one
          ∙ (ap (λ xs. take size (drop (k * size) xs)) c.deref.ensures.value
          ∙ (sym (block_is size count k bytes c.self.invariant.0 c.self.invariant.3 c.if-number-self.true)
          ∙ ap (λ (path : List (List ℕ)). get_or path k []) c.self.view_is)),
    )

pub returns-else-number-self : goal.returns-else-number-self
returns-else-number-self c =
    let many = whole_count c.self.inside.size c.self.inside.count c.self.inside.bytes.items c.self.invariant.0
    c.self.invariant.3 in
    let seen = ap (λ (path : List (List ℕ)). length path) c.self.view_is in
    omega (arith, many, seen, c.if-number-self.false)
