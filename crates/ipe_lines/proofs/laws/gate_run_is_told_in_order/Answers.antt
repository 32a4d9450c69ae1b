use Rattle.ipe_lines.specs.Asked.{phases_of, verdicts_of}
use Rattle.ipe_lines.proofs.Order.{run_told}
use Rattle.ipe_lines.proofs.Words.{phases_rise}
use Rattle.ipe_lines.proofs.laws.gate_run_is_told_in_order.Goals as goal

pub returns : goal.returns
returns c = λ input script files history phases ordered read legal ran are.
    let verdicts = verdicts_of script in
    let rules = c.requests_keep_their_rules.ensures in
    let rising = phases_rise script files script.phases (rules.rising input script read) in
    let can = c.gate_run_can_be_printed.ensures verdicts script.workers history (phases_of script files) phases legal ran in
    let order = c.gate_history_stands_for_the_printed_order.ensures verdicts script.workers history (phases_of script files) phases can.0 legal ran can.1 in
    let laws = c.told_entries_are_printed.ensures in
    run_told files laws.fits laws.printed laws.rising c.filed_entries_are_printed.ensures script history phases can.0 ordered
    rising legal ran can.1 order are
