use Rattle.std.proofs.Common.{◌≡◌, ◌≢◌, ◌<◌, ◌≤◌, Some, length, get_or, ap, sym, subst, ◌∙◌}
use Rattle.std.specs.Prelude.{bytes_eq}
use Rattle.std.proofs.lemmas.Bool.{both_ways}
use Rattle.std.proofs.lemmas.Slice.Eq.{bytes_eq-Decides}
use Rattle.blk_device.proofs.Looking.{content_found, content_next, content_none}
use Rattle.blk_device.proofs.named_bytes.NamedBytes.get.Goals as goal

pub returns-then-eq : goal.returns-then-eq
returns-then-eq c =
    let items = c.args.self.now in
    let name = c.args.name.now in
    let item = c.loop-item-item.result in
    let whole = c.as_slice-items.ensures.value ∙ c.self.view_is in
    let within : c.loop-item.item-index < length items =
    subst (λ xs. c.loop-item.item-index < length xs) whole c.loop-item-test.true in
    let is = c.loop-item-item.is ∙ ap (λ xs. get_or xs c.loop-item.item-index item) whole in
    let same : item.0 ≡ name = sym c.as_slice.ensures
    ∙ (bytes_eq-Decides c.as_slice.result.now name).0 (sym c.if-eq.ensures) in
    sym c.loop-item.invariant
    ∙ (content_found name items c.loop-item.item-index item within is same
    ∙ ap (λ xs. Some xs) (sym c.as_slice-then-eq.ensures))

pub loop-item-preserved : goal.loop-item-preserved
loop-item-preserved c =
    let items = c.args.self.now in
    let name = c.args.name.now in
    let item = c.loop-item-item.result in
    let whole = c.as_slice-items.ensures.value ∙ c.self.view_is in
    let within : c.loop-item.item-index < length items =
    subst (λ xs. c.loop-item.item-index < length xs) whole c.loop-item-test.true in
    let is = c.loop-item-item.is ∙ ap (λ xs. get_or xs c.loop-item.item-index item) whole in
    let other : item.0 ≢ name = λ same. both_ways (bytes_eq c.as_slice.result.now name) (sym c.if-eq.ensures)
    ((bytes_eq-Decides c.as_slice.result.now name).1 (c.as_slice.ensures ∙ same)) in
    content_next name items c.loop-item.item-index item within is other ∙ c.loop-item.invariant

pub returns : goal.returns
returns c =
    let items = c.args.self.now in
    let whole = c.as_slice-items.ensures.value ∙ c.self.view_is in
    let past : length items ≤ c.loop-item.item-index =
    subst (λ xs. length xs ≤ c.loop-item.item-index) whole c.loop-item-test.false in
    sym c.loop-item.invariant ∙ content_none c.args.name.now items c.loop-item.item-index past
