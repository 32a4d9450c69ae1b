use Rattle.std.proofs.Common.{rules}
use Rattle.line_words.proofs.Spells.{joined-words_of}
use Rattle.ipe_requests.proofs.declare.table.Goals as goal

pub returns : goal.returns
returns c = search (rules, joined-words_of c.args.text.now)
