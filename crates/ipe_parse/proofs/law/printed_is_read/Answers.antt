use Rattle.std.proofs.Common.{◌≡◌, Ok, arith, subst}
use Rattle.ipe_policy.specs.Policy.{PolicyParts}
use Rattle.ipe_policy.specs.Spelling.{policy_text}
use Rattle.ipe_parse.specs.Reading.{reading}
use Rattle.ipe_parse.proofs.Whole.{policy-read}
use Rattle.ipe_parse.proofs.law.printed_is_read.Goals as goal

-- the one clause
pub returns : goal.returns
returns c = subst (λ (policy : PolicyParts). reading (policy_text policy) ≡ Ok policy) c.policy.view_is
    (policy-read _ c.as_slice-name.ensures.rule
    (record { major = omega arith; minor = omega arith; rev = omega arith }) c.policy.invariant)
