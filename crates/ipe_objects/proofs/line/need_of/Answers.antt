use Rattle.std.proofs.Common.{◌∙◌, ℕ, max, ap}
use Rattle.ipe_requests.specs.Requests.{Script}
use Rattle.ipe_objects.proofs.Needed.{need_all}
use Rattle.ipe_objects.proofs.line.need_of.Goals as goal

pub returns : goal.returns
returns c =
    c.greater-2.ensures
    ∙ ap (λ (n : ℕ). max n c.need_of_lines-seals.result) c.greater.ensures
    ∙ need_all c.args.requests.now c.args.name.now _ c.need_of_lines-volumes.result c.need_of_lines-files.result
    c.need_of_lines-seals.result c.as_slice.result.now c.as_slice-2.result.now c.as_slice-3.result.now
    (c.as_slice.ensures ∙ ap (λ (script : Script). script.volumes) c.requests.view_is)
    (c.as_slice-2.ensures ∙ ap (λ (script : Script). script.files) c.requests.view_is)
    (c.as_slice-3.ensures ∙ ap (λ (script : Script). script.seals) c.requests.view_is)
    c.need_of_lines-volumes.ensures c.need_of_lines-files.ensures c.need_of_lines-seals.ensures
