use Rattle.std.proofs.Common.{◌≡◌, ◌∙◌, ℕ, List, ap}
use Rattle.std.specs.List.{flat_map}
use Rattle.ipe_requests.specs.Requests.{Script}
use Rattle.ipe_objects.specs.Devices.{named_by_seal, named_devices, with_named}
use Rattle.ipe_objects.proofs.Named.{if_ok, named_all}
use Rattle.ipe_objects.proofs.line.named_devices.Goals as goal

pub returns : goal.returns
returns c =
    if_ok (λ (names : List (List ℕ)). names ≡ with_named c.in_ok-names-2.names (flat_map named_by_seal c.as_slice-3.result.now))
    (λ (names : List (List ℕ)). names ≡ named_devices c.args.requests.now) c.with_lines-3.result
    (λ three is. named_all c.args.requests.now c.as_slice.result.now c.as_slice-2.result.now c.as_slice-3.result.now
    c.new.result c.in_ok-names.names c.in_ok-names-2.names three
    (c.as_slice.ensures ∙ ap (λ (script : Script). script.volumes) c.requests.view_is)
    (c.as_slice-2.ensures ∙ ap (λ (script : Script). script.files) c.requests.view_is)
    (c.as_slice-3.ensures ∙ ap (λ (script : Script). script.seals) c.requests.view_is)
    c.new.ensures c.in_ok-names.ensures c.in_ok-names-2.ensures is)
    c.with_lines-3.ensures
