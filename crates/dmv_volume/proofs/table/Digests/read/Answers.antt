use Rattle.std.proofs.Common.{rules}
use Rattle.dmv_volume.proofs.Spelled.{salt_none, salt_some}
use Rattle.dmv_volume.proofs.table.Digests.read.Goals as goal

pub returns-in_err-salt-clause-bad : goal.returns-in_err-salt-clause-bad
returns-in_err-salt-clause-bad c = search (rules, salt_none c.word_at-3.result.now)

pub returns-clause-fit : goal.returns-clause-fit
returns-clause-fit c = search (rules, salt_some c.word_at-3.result.now c.in_ok-salt.salt)
