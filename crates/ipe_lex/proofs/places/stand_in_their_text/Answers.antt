use Rattle.ipe_lex.proofs.Standing.{lines_stand, lines_without_places, tokens_stand, tokens_without_places}
use Rattle.ipe_lex.proofs.places.stand_in_their_text.Goals as goal

pub returns-clause-lines : goal.returns-clause-lines
returns-clause-lines c = lines_stand

pub returns-clause-tokens : goal.returns-clause-tokens
returns-clause-tokens c = tokens_stand

pub returns-clause-lines_without_places : goal.returns-clause-lines_without_places
returns-clause-lines_without_places c = lines_without_places

pub returns-clause-tokens_without_places : goal.returns-clause-tokens_without_places
returns-clause-tokens_without_places c = tokens_without_places
