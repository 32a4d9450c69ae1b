use Rattle.std.proofs.Common.{◌≡◌, ◌++◌, drop, map, slice_get}
use Rattle.ipe_policy.specs.Policy.{op_defaults}
use Rattle.ipe_policy.specs.Statement.{operations}
use Rattle.ipe_image.specs.Image.{default_word}
use Rattle.ipe_image.proofs.compiling.append_defaults.Given as goal

-- the words so far and those of the operations that are left are all
abbrev pub invariant-loop-op : goal.invariant-loop-op
invariant-loop-op l =
    l.image.items ++ map (λ op. default_word (slice_get (op_defaults op l.items) 0))
    (drop l.op-index operations) ≡ l.initial.image.items ++ map (λ op. default_word (slice_get
    (op_defaults op l.items) 0)) operations
