use Rattle.ipe_lex.proofs.Standing.{lines_stand}
use Rattle.ipe_lex.proofs.walks.lines.Goals as goal

pub returns-clause-stand : goal.returns-clause-stand
returns-clause-stand c = lines_stand c.args.text.now
