use Rattle.std.proofs.Common.{◌≡◌, ◌≤◌, ◌+◌, [], length}
use Rattle.ipe_lex.specs.Walks.{lines_left}
use Rattle.ipe_parse.specs.Reading.{statements_from}
use Rattle.ipe_parse.specs.Walk.{spoken_left}
use Rattle.ipe_parse.proofs.statements.statements_in.Given as goal

abbrev pub invariant-loop-draft : goal.invariant-loop-draft
invariant-loop-draft l =
    (statements_from l.draft.items.items (spoken_left l.walk) ≡ statements_from [] (spoken_left l.fn.walk)) × (length l.draft.items.items + length (lines_left l.walk) ≤ length (lines_left l.fn.walk))

abbrev pub decreases-loop-draft : goal.decreases-loop-draft
decreases-loop-draft l = length (lines_left l.walk)
