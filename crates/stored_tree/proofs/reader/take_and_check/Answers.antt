use Rattle.std.proofs.Common.{ap}
use Rattle.stored_tree.proofs.Reading.{check_short, check_whole, hashes_short, hashes_whole}
use Rattle.stored_tree.proofs.reader.take_and_check.Goals as goal

pub returns-in_err-wanted-clause-hashes : goal.returns-in_err-wanted-clause-hashes
returns-in_err-wanted-clause-hashes g c =
    hashes_short (g.D.Devices.contents c.args.dev.now) c.args.tree.now c.args.i c.take_hash_blocks.new.path
    c.take_hash_blocks.ensures.held c.take_hash_blocks.ensures.short

pub returns-in_err-wanted-clause-front : goal.returns-in_err-wanted-clause-front
returns-in_err-wanted-clause-front g c =
    check_short (g.D.Devices.contents c.args.dev.now) c.args.tree.now c.args.i c.take_hash_blocks.new.path
    c.args.block.now c.take_hash_blocks.ensures.held c.take_hash_blocks.ensures.short

pub returns-clause-hashes : goal.returns-clause-hashes
returns-clause-hashes g c =
    hashes_whole (g.D.Devices.contents c.args.dev.now) c.args.tree.now c.args.i c.take_hash_blocks.new.path
    c.check_data_block.new.path c.args.block.now c.take_hash_blocks.ensures.held
    c.in_ok-wanted.ensures.leads.whole c.check_data_block.ensures.added

pub returns-clause-front : goal.returns-clause-front
returns-clause-front g c =
    check_whole (g.D.Devices.contents c.args.dev.now) c.args.tree.now c.args.i c.take_hash_blocks.new.path
    c.check_data_block.new.path c.args.block.now c.take_hash_blocks.ensures.held
    c.in_ok-wanted.ensures.leads.whole c.check_data_block.ensures.added
