use Rattle.std.proofs.Common.{◌≡◌, ◌∙◌, true, false, sym}
use Rattle.std.proofs.lemmas.Bool.{both_ways}
use Rattle.ipe_policy.proofs.PolicyRules.{pass_defaults, policy-made, policy-passes}
use Rattle.ipe_policy.proofs.keeping.are_policy.Goals as goal

pub returns-then-not-have_defaults : goal.returns-then-not-have_defaults
returns-then-not-have_defaults c =
    let none : pass_defaults c.args.items.now ≡ false = sym c.have_defaults.ensures ∙ c.if-not-have_defaults.true in (
      λ true_is. absurd (cc),
      λ h. absurd (both_ways (pass_defaults c.args.items.now) none (policy-passes c.args.items.now h)),
    )

pub returns : goal.returns
returns c =
    let pass : pass_defaults c.args.items.now ≡ true = sym c.have_defaults.ensures ∙ c.if-not-have_defaults.false in (
      λ kept. policy-made c.args.items.now c.if-items-gt-MOST_STATEMENTS.false pass (c.are_statements.ensures.0 kept),
      λ h. c.are_statements.ensures.1 h.statements,
    )
