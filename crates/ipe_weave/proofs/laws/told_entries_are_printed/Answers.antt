use Rattle.ipe_weave.proofs.Numbers.{run_own}
use Rattle.ipe_weave.proofs.Telling.{entries_fit, told_are_printed, printed_rise}
use Rattle.ipe_weave.proofs.laws.told_entries_are_printed.Goals as goal

pub returns-clause-fits : goal.returns-clause-fits
returns-clause-fits c = entries_fit

pub returns-clause-printed : goal.returns-clause-printed
returns-clause-printed c = λ contents phase entries printed fit fits is. told_are_printed contents phase entries printed fit fits is

pub returns-clause-own : goal.returns-clause-own
returns-clause-own c = run_own

pub returns-clause-rising : goal.returns-clause-rising
returns-clause-rising c = λ contents phase lines entries printed rise all fit is. printed_rise contents phase lines entries printed rise all fit is
