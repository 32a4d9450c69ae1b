use Rattle.dmv_volume.proofs.Fitting.{one_first_bad, whole_or_bad}
use Rattle.dmv_volume.proofs.table.lines_are_whole_or_have_one_bad_word.Goals as goal

pub returns-clause-whole : goal.returns-clause-whole
returns-clause-whole c = whole_or_bad

pub returns-clause-one : goal.returns-clause-one
returns-clause-one c = one_first_bad
