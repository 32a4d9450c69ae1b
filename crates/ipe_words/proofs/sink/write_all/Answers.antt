use Rattle.std.proofs.Common.{arith}
use Rattle.std.proofs.lemmas.Grind.{common_steps}
use Rattle.ipe_words.proofs.Offering.{Wrote-more, AppendsPrefix-from_wrote}
use Rattle.ipe_words.proofs.sink.write_all.Goals as goal

pub returns-in_err-taken-clause-prefix : goal.returns-in_err-taken-clause-prefix
returns-in_err-taken-clause-prefix g c = grind (arith, common_steps, AppendsPrefix-from_wrote)

-- what the call took joins the front
pub loop-rest-preserved : goal.loop-rest-preserved
loop-rest-preserved g c =
    let w = Wrote-more (g.K.Sink.written c.args.sink.now) (g.K.Sink.written c.loop-rest.sink) (g.K.Sink.written c.write.new.self) c.args.bytes.now c.loop-rest.rest.now c.in_ok-taken.taken c.loop-rest.invariant.wrote c.in_ok-taken.ensures.taken in
    record {
      wrote = grind (arith, common_steps, w);
      faults = omega arith;
    }
