use Rattle.std.proofs.Common.{◌≡◌, ℕ, ◌<◌, false}
use Rattle.fsv_tree.specs.Descriptor.{breaks}
use Rattle.fsv_tree.proofs.rows.first_break.Given as goal

abbrev pub invariant-loop-place : goal.invariant-loop-place
invariant-loop-place l = (before : ℕ) → before < l.place → breaks l.bytes l.size before ≡ false
