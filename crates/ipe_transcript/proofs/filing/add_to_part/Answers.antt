use Rattle.std.proofs.Common.{rules, arith}
use Rattle.std.proofs.lemmas.Grind.{common_steps}
use Rattle.ipe_transcript.proofs.Parts.{added}
use Rattle.ipe_transcript.proofs.filing.add_to_part.Goals as goal

pub returns-in_ok-push-clause-added : goal.returns-in_ok-push-clause-added
returns-in_ok-push-clause-added c i within =
    added c.args.parts.now.items c.in-Some.at c.in-Some-get_mut.part.now c.push.new.self c.args.entry (search rules) (search rules) (search rules) (grind (arith, common_steps)) i
