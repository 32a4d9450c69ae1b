use Rattle.ipe_parse.proofs.FirstFaults.{reader-first}
use Rattle.ipe_parse.proofs.law.names_the_first_fault.Goals as goal

pub returns : goal.returns
returns c = reader-first
