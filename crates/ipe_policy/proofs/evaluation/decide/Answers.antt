-- Where neither the operation nor the policy has a default, the policy breaks its rule that each operation has one.
use Rattle.std.proofs.Common.{◌≡◌, List, [], ◌∷◌, length, None, arith, refl, slice_get}
use Rattle.ipe_policy.specs.Policy.{op_defaults, global_defaults}
use Rattle.ipe_policy.proofs.evaluation.decide.Goals as goal

-- a list without a first element is empty
length-no_first : {A : Type 0} (xs : List A) → slice_get xs 0 ≡ None → length xs ≡ 0
length-no_first [] e = refl
length-no_first (x ∷ xs) e = cc

pub unreachable-requires : goal.unreachable-requires
unreachable-requires c =
    let items = c.policy.inside.items in
    let no_own : slice_get (op_defaults c.args.op items) 0 ≡ None = cc in
    let no_global : slice_get (global_defaults items) 0 ≡ None = cc in
    omega (arith, length-no_first _ no_own, length-no_first _ no_global, c.policy.invariant.each_has_one c.args.op)
