use Rattle.ipe_parse.proofs.Readings.{is-read, is-spelled, one-or-fault}
use Rattle.ipe_parse.proofs.law.reads_or_has_a_fault.Goals as goal

pub returns-clause-reads : goal.returns-clause-reads
returns-clause-reads c = is-read

pub returns-clause-read : goal.returns-clause-read
returns-clause-read c = is-spelled

pub returns-clause-one_or_fault : goal.returns-clause-one_or_fault
returns-clause-one_or_fault c = one-or-fault
