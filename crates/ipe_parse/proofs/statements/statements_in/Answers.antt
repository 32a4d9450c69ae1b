use Rattle.std.proofs.Common.{◌≡◌, Ok, [], rules}
use Rattle.ipe_parse.specs.Reading.{statements_from}
use Rattle.ipe_parse.specs.Walk.{spoken_left}
use Rattle.ipe_parse.proofs.Readings.{read-keep_rules}
use Rattle.ipe_parse.proofs.statements.statements_in.Goals as goal

pub returns-clause-statements : goal.returns-clause-statements
returns-clause-statements c =
    let read : statements_from [] (spoken_left c.args.walk.now) ≡ Ok c.loop-draft.draft.items.items = search rules in
    read-keep_rules (spoken_left c.args.walk.now) c.loop-draft.draft.items.items read
