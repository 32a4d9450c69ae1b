use Rattle.std.proofs.Common.{◌≡◌, ◌≤◌, length}
use Rattle.ipe_lex.specs.Walks.{lines_left}
use Rattle.ipe_parse.specs.Walk.{spoken_left}
use Rattle.ipe_parse.proofs.walk.next_spoken.Given as goal

abbrev pub invariant-loop-line : goal.invariant-loop-line
invariant-loop-line l =
    (spoken_left l.walk ≡ spoken_left l.fn.walk) × (length (lines_left l.walk) ≤ length (lines_left l.fn.walk))

abbrev pub decreases-loop-line : goal.decreases-loop-line
decreases-loop-line l = length (lines_left l.walk)
