use Rattle.std.proofs.Common.{◌≡◌, suc, ◌+◌, ◌-◌, ◌<◌, length, ap, rules}
use Rattle.ipe_lex.specs.Lines.{lines_of, placed_lines}
use Rattle.ipe_lex.proofs.Cuts.{placed_lines-first}
use Rattle.ipe_lex.proofs.line_walk.LineWalkIterator.next.Goals as goal

pub returns-clause-steps : goal.returns-clause-steps
returns-clause-steps c =
    let walk = c.args.self.now in
    let some : 0 < length walk.rest.now = search rules in
    rw (c.without_comment.ensures, c.cut_at.ensures.before, c.cut_at.ensures.after) (placed_lines-first walk.number walk.start walk.rest.now some)

pub returns-clause-goes : goal.returns-clause-goes
returns-clause-goes c =
    let walk = c.args.self.now in
    let rest = c.cut_at.result.1.now in
    let some : 0 < length walk.rest.now = search rules in
    let shorter : length (placed_lines walk.number walk.start (lines_of walk.rest.now)) ≡ suc (length (placed_lines (walk.number + 1) (walk.start + (length walk.rest.now - length rest)) (lines_of rest))) =
    rw c.cut_at.ensures.after (ap length (placed_lines-first walk.number walk.start walk.rest.now some)) in
    search rules
