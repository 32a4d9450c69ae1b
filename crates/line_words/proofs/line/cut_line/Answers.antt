use Rattle.std.proofs.Common.{arith}
use Rattle.std.proofs.lemmas.Grind.{common_steps}
use Rattle.line_words.proofs.Cuts.{CutsLine-from_position, split_last}
use Rattle.line_words.proofs.line.cut_line.Goals as goal

pub returns-in_err-end-clause-last : goal.returns-in_err-end-clause-last
returns-in_err-end-clause-last c = rw c.from_residual.ensures (split_last c.args.bytes.now c.in_err-end.ensures)

pub returns-clause-line : goal.returns-clause-line
returns-clause-line c = CutsLine-from_position c.args.bytes.now _ _ c.in_ok-end.end c.in_ok-end.ensures (grind (arith, common_steps)) (grind (arith, common_steps))
