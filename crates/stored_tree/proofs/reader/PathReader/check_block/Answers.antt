use Rattle.std.proofs.Common.{rules}
use Rattle.stored_tree.proofs.Reading.{after_ok, check_answer, check_complete}
use Rattle.stored_tree.proofs.reader.PathReader.check_block.Goals as goal

pub returns-clause-image : goal.returns-clause-image
returns-clause-image g c =
    after_ok c.take_and_check.result _ _
    (c.checked_blocks_are_of_the_image.ensures c.args.tree.now c.args.i c.take_and_check.new.path c.args.block.now c.requires.tree c.requires.block)
    c.take_and_check.ensures.ok

pub returns-clause-answer : goal.returns-clause-answer
returns-clause-answer g c =
    check_answer (g.D.Devices.contents c.args.dev.now) c.args.tree.now c.args.i c.take_and_check.new.path
    c.args.block.now c.take_and_check.result
    (record { ok = c.take_and_check.ensures.ok; corrupt = c.take_and_check.ensures.corrupt })
    c.take_and_check.ensures.missing c.take_and_check.ensures.front

pub returns-clause-complete : goal.returns-clause-complete
returns-clause-complete g c =
    check_complete (g.D.Devices.contents c.args.dev.now) c.args.tree.now c.args.i c.args.block.now c.take_and_check.result
    c.held_trees_are_right.ensures c.requires.tree c.requires.block (returns-clause-answer g c)
