use Rattle.std.proofs.Common.{length}
use Rattle.ipe_requests.specs.Rules.{IsHookOf, IsNumbered, IsWriteOf}
use Rattle.ipe_requests.proofs.Rules.{each-line, phases-rise, requests-keep}
use Rattle.ipe_requests.proofs.law.requests_keep_their_rules.Goals as goal

pub returns-clause-workers : goal.returns-clause-workers
returns-clause-workers c = λ input script read. (requests-keep input script read).workers

pub returns-clause-rising : goal.returns-clause-rising
returns-clause-rising c = λ input script read. phases-rise (length input) script (requests-keep input script read)

pub returns-clause-hooks : goal.returns-clause-hooks
returns-clause-hooks c = λ input script read.
    each-line (length input) script (IsHookOf script) (requests-keep input script read) (λ what kept. kept.0)

pub returns-clause-files : goal.returns-clause-files
returns-clause-files c = λ input script read. (requests-keep input script read).files

pub returns-clause-seals : goal.returns-clause-seals
returns-clause-seals c = λ input script read. (requests-keep input script read).seals

pub returns-clause-marks : goal.returns-clause-marks
returns-clause-marks c = λ input script read. (requests-keep input script read).marks

pub returns-clause-writes : goal.returns-clause-writes
returns-clause-writes c = λ input script read.
    each-line (length input) script (IsWriteOf script) (requests-keep input script read) (λ what kept. kept.1)

pub returns-clause-few : goal.returns-clause-few
returns-clause-few c = λ input script read. (requests-keep input script read).few

pub returns-clause-numbered : goal.returns-clause-numbered
returns-clause-numbered c = λ input script read.
    each-line (length input) script (IsNumbered (length input)) (requests-keep input script read) (λ what kept. kept.2)
