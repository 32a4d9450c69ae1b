use Rattle.std.proofs.Common.{arith}
use Rattle.std.proofs.lemmas.Grind.{common_steps}
use Rattle.ipe_policy.proofs.SpellingLemmas.{statement_text-Rule}
use Rattle.ipe_policy.proofs.spelling.append_statement.Goals as goal

pub returns-in_ok-extend_from_slice-in-Rule : goal.returns-in_ok-extend_from_slice-in-Rule
returns-in_ok-extend_from_slice-in-Rule c =
    let tokens = statement_text-Rule c.in-Rule.op c.in-Rule.props c.in-Rule.action in
    grind (arith, common_steps)
