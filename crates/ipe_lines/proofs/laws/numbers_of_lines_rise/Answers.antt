use Rattle.ipe_lines.proofs.Words.{own_rising}
use Rattle.ipe_lines.proofs.laws.numbers_of_lines_rise.Goals as goal

pub returns : goal.returns
returns c = λ input script files read. own_rising script files script.phases (c.requests_keep_their_rules.ensures.rising input script read)
