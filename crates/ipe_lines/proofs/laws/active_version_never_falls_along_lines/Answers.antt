use Rattle.ipe_lines.proofs.Events.{lines_are, never_falls}
use Rattle.ipe_lines.proofs.laws.active_version_never_falls_along_lines.Goals as goal

pub returns-clause-events : goal.returns-clause-events
returns-clause-events c = lines_are

pub returns-clause-versions : goal.returns-clause-versions
returns-clause-versions c = λ script files. never_falls script files c.active_version_never_falls.ensures
