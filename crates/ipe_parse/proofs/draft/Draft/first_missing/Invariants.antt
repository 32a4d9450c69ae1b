use Rattle.std.proofs.Common.{◌≡◌, drop, not}
use Rattle.std.specs.List.{find}
use Rattle.ipe_policy.specs.Statement.{operations}
use Rattle.ipe_parse.specs.Defaults.{has_op_default}
use Rattle.ipe_parse.proofs.draft.Draft.first_missing.Given as goal

abbrev pub invariant-loop-op : goal.invariant-loop-op
invariant-loop-op l =
    (l.op-items ≡ operations) × (find (λ op. not (has_op_default op l.self.items.items)) (drop l.op-index l.op-items) ≡ find (λ op. not (has_op_default op l.self.items.items)) operations)
