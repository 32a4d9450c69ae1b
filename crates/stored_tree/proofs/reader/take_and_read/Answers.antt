use Rattle.std.proofs.Common.{ℕ, ◌*◌, ◌∙◌, ap}
use Rattle.stored_tree.specs.Stored.{Stored}
use Rattle.stored_tree.proofs.Reading.{data_whole, hashes_short, hashes_whole, read_of, read_short, read_whole}
use Rattle.stored_tree.proofs.Walking.{leads_right}
use Rattle.stored_tree.proofs.reader.take_and_read.Goals as goal

pub returns-in_err-wanted-clause-hashes : goal.returns-in_err-wanted-clause-hashes
returns-in_err-wanted-clause-hashes g c =
    hashes_short (g.D.Devices.contents c.args.dev.now) c.args.tree.now c.args.i c.take_hash_blocks.new.path
    c.take_hash_blocks.ensures.held c.take_hash_blocks.ensures.short

pub returns-in_err-wanted-clause-front : goal.returns-in_err-wanted-clause-front
returns-in_err-wanted-clause-front g c =
    read_short (g.D.Devices.contents c.args.dev.now) c.args.disk.now c.args.tree.now c.args.i
    c.take_hash_blocks.new.path c.take_hash_blocks.ensures.held c.take_hash_blocks.ensures.short

pub returns-in_err-read_exact_at-clause-hashes : goal.returns-in_err-read_exact_at-clause-hashes
returns-in_err-read_exact_at-clause-hashes g c =
    hashes_short (g.D.Devices.contents c.args.dev.now) c.args.tree.now c.args.i c.take_hash_blocks.new.path
    c.take_hash_blocks.ensures.held c.take_hash_blocks.ensures.short

pub returns-in_err-read_exact_at-clause-front : goal.returns-in_err-read_exact_at-clause-front
returns-in_err-read_exact_at-clause-front g c =
    read_short (g.D.Devices.contents c.args.dev.now) c.args.disk.now c.args.tree.now c.args.i
    c.take_hash_blocks.new.path c.take_hash_blocks.ensures.held c.take_hash_blocks.ensures.short

pub returns-in_err-read_exact_at-clause-right : goal.returns-in_err-read_exact_at-clause-right
returns-in_err-read_exact_at-clause-right g c = λ _.
    leads_right c.args.tree.now c.args.i c.take_hash_blocks.new.path c.in_ok-wanted.wanted.items
    c.in_ok-wanted.ensures.leads

pub returns-clause-hashes : goal.returns-clause-hashes
returns-clause-hashes g c =
    hashes_whole (g.D.Devices.contents c.args.dev.now) c.args.tree.now c.args.i c.take_hash_blocks.new.path
    c.check_data_block.new.path c.read_exact_at.new.out c.take_hash_blocks.ensures.held
    c.in_ok-wanted.ensures.leads.whole c.check_data_block.ensures.added

pub returns-clause-data : goal.returns-clause-data
returns-clause-data g c = λ _.
    data_whole (g.D.Devices.contents c.args.dev.now) c.args.disk.now c.args.tree.now c.args.i
    c.take_hash_blocks.new.path c.check_data_block.new.path c.read_exact_at.new.out
    c.in_ok-wanted.ensures.leads.whole c.check_data_block.ensures.added
    (read_of (g.D.Devices.contents c.args.dev.now) (g.D.Devices.contents c.take_hash_blocks.new.dev) c.args.disk.now
    c.args.tree.now c.args.i c.from.result c.read_exact_at.new.out c.take_hash_blocks.ensures.same
    (c.from.ensures ∙ ap (λ (t : Stored). t.block_size) c.tree.view_is)
    (c.read_exact_at.auto.out ∙ c.take_hash_blocks.ensures.long ∙ c.requires.buffer)
    c.in_ok-read_exact_at.ensures.bytes)

pub returns-clause-front : goal.returns-clause-front
returns-clause-front g c =
    read_whole (g.D.Devices.contents c.args.dev.now) c.args.disk.now c.args.tree.now c.args.i
    c.take_hash_blocks.new.path c.check_data_block.new.path c.read_exact_at.new.out
    c.take_hash_blocks.ensures.held c.in_ok-wanted.ensures.leads.whole
    c.check_data_block.ensures.added
    (read_of (g.D.Devices.contents c.args.dev.now) (g.D.Devices.contents c.take_hash_blocks.new.dev) c.args.disk.now
    c.args.tree.now c.args.i c.from.result c.read_exact_at.new.out c.take_hash_blocks.ensures.same
    (c.from.ensures ∙ ap (λ (t : Stored). t.block_size) c.tree.view_is)
    (c.read_exact_at.auto.out ∙ c.take_hash_blocks.ensures.long ∙ c.requires.buffer)
    c.in_ok-read_exact_at.ensures.bytes)
