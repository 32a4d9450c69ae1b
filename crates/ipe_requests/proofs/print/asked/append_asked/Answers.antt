use Rattle.std.proofs.Common.{◌≡◌}
use Rattle.ipe_requests.proofs.print.asked.append_asked.Goals as goal

pub returns-in-Write : goal.returns-in-Write
returns-in-Write c = rw c.in-Write.is c.append_write.ensures

pub returns-in-Read : goal.returns-in-Read
returns-in-Read c = rw c.in-Read.is c.append_read.ensures

pub returns-in-Hook : goal.returns-in-Hook
returns-in-Hook c = rw c.in-Hook.is c.append_hook.ensures
