use Rattle.std.proofs.Common.{ℕ, List, length, ap, sym, ◌∙◌}
use Rattle.hash_tree.proofs.Groups.{whole_count}
use Rattle.stored_tree.proofs.path.BlockPath.len.Goals as goal

pub returns : goal.returns
returns c =
    sym (whole_count c.self.inside.size c.self.inside.count c.self.inside.bytes.items c.self.invariant.0
    c.self.invariant.3)
    ∙ ap (λ (path : List (List ℕ)). length path) c.self.view_is
