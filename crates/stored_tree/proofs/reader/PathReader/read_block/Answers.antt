use Rattle.std.proofs.Common.{rules}
use Rattle.stored_tree.proofs.Reading.{after_ok, read_answer, read_complete}
use Rattle.stored_tree.proofs.reader.PathReader.read_block.Goals as goal

pub returns-clause-image : goal.returns-clause-image
returns-clause-image g c =
    after_ok c.take_and_read.result _ _
    (c.checked_blocks_are_of_the_image.ensures c.args.tree.now c.args.i c.take_and_read.new.path c.take_and_read.new.buffer c.requires.tree c.requires.block)
    c.take_and_read.ensures.ok

pub returns-clause-answer : goal.returns-clause-answer
returns-clause-answer g c =
    read_answer (g.D.Devices.contents c.args.dev.now) c.args.disk.now c.args.tree.now c.args.i c.take_and_read.new.path
    c.take_and_read.new.buffer c.take_and_read.result
    (record { ok = c.take_and_read.ensures.ok; corrupt = c.take_and_read.ensures.corrupt })
    c.take_and_read.ensures.missing c.take_and_read.ensures.front

pub returns-clause-complete : goal.returns-clause-complete
returns-clause-complete g c =
    read_complete (g.D.Devices.contents c.args.dev.now) c.args.disk.now c.args.tree.now c.args.i c.take_and_read.result
    c.held_trees_are_right.ensures c.requires.tree c.requires.block (returns-clause-answer g c)
