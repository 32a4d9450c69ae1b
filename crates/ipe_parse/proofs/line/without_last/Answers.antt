use Rattle.ipe_parse.proofs.Properties.{words-take}
use Rattle.ipe_parse.proofs.line.without_last.Goals as goal

pub returns-clause-same : goal.returns-clause-same
returns-clause-same c = rw (c.split_at.ensures.front, c.saturating_sub.ensures) (words-take c.args.tokens.now)
