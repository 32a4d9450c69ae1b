use Rattle.std.proofs.Common.{rules}
use Rattle.dmv_volume.proofs.Spelled.{size_none}
use Rattle.dmv_volume.proofs.table.Sizes.read.Goals as goal

pub returns-in_err-block_size-clause-bad : goal.returns-in_err-block_size-clause-bad
returns-in_err-block_size-clause-bad c = search (rules, size_none c.block_sizes_are_spelled.ensures.said c.word_at.result.now)

pub returns-then-ne-clause-bad : goal.returns-then-ne-clause-bad
returns-then-ne-clause-bad c = search (rules, c.block_sizes_are_spelled.ensures.text c.word_at.result.now)

pub returns-in_err-blocks-clause-bad : goal.returns-in_err-blocks-clause-bad
returns-in_err-blocks-clause-bad c = search (rules, c.block_sizes_are_spelled.ensures.text c.word_at.result.now)

pub returns-in_err-hash_start-clause-bad : goal.returns-in_err-hash_start-clause-bad
returns-in_err-hash_start-clause-bad c = search (rules, c.block_sizes_are_spelled.ensures.text c.word_at.result.now)

pub returns-clause-fit : goal.returns-clause-fit
returns-clause-fit c = search (rules, c.block_sizes_are_spelled.ensures.text c.word_at.result.now)

pub returns-clause-block_size : goal.returns-clause-block_size
returns-clause-block_size c = search (rules, c.block_sizes_are_spelled.ensures.text c.word_at.result.now)
