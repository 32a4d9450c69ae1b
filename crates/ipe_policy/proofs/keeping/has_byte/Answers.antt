use Rattle.std.proofs.Common.{ℕ, ◌<◌, Fits, get_or, arith}
use Rattle.std.specs.Int.{w8}
use Rattle.ipe_policy.proofs.PolicyRules.{bytes-each}
use Rattle.ipe_policy.proofs.keeping.has_byte.Goals as goal

below : (n : ℕ) → Fits w8 n → n < 256
below n h = omega arith

pub returns-clause-bytes : goal.returns-clause-bytes
returns-clause-bytes c = bytes-each c.args.bytes.now (λ i. below (get_or c.args.bytes.now i 0) (c.type_inv.bytes i))
