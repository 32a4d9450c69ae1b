use Rattle.std.proofs.Common.{ap, ◌∙◌, arith}
use Rattle.std.proofs.lemmas.Grind.{common_steps}
use Rattle.ipe_transcript.specs.Order.{part_at}
use Rattle.ipe_transcript.proofs.Parts.{empty_more}
use Rattle.ipe_transcript.proofs.filing.empty_parts.Goals as goal

pub loop-preserved : goal.loop-preserved
loop-preserved c = (
  grind (arith, common_steps),
  λ i. ap (λ parts. part_at parts i) c.in_ok-push.ensures.items ∙ empty_more c.loop.parts.items c.new.result c.new.ensures.items c.loop.invariant.1 i,
)
