use Rattle.ipe_lex.proofs.Standing.{tokens_stand_in_text}
use Rattle.ipe_lex.proofs.walks.tokens.Goals as goal

pub returns-clause-stand : goal.returns-clause-stand
returns-clause-stand c text stands = tokens_stand_in_text text c.args.line.start c.args.line.bytes.now stands
