use Rattle.ipe_hooks.proofs.Returning.{return_after}
use Rattle.ipe_hooks.proofs.ruling.decide_and_return.Goals as goal

pub returns-clause-returned : goal.returns-clause-returned
returns-clause-returned c =
    return_after c.args.pass.now c.decide_words-hit.new.reader c.release.new.self c.decide_words-hit.ensures.kept
    c.release.ensures
