use Rattle.std.proofs.Common.{◌∙◌}
use Rattle.ipe_sim.proofs.Whole.{made_of_file}
use Rattle.ipe_sim.proofs.requests.make_requests.Goals as goal

pub invariant_of-result : goal.invariant_of-result
invariant_of-result c =
    made_of_file c.args.seed c.in_ok-texts.field-0 c.from_vec.result c.files-2.inside.items.items c.from_vec-2.result
    c.in_ok-marks.field-0 c.in_ok-phases.phases c.in_ok-texts.ensures (c.from_vec.ensures ∙ c.new.ensures.items) (c.files-2.view_is ∙ c.in_ok-files.ensures)
    (c.from_vec-2.ensures ∙ c.new-2.ensures.items) c.in_ok-marks.ensures c.in_ok-phases.ensures
