use Rattle.std.proofs.Common.{◌<◌, subst}
use Rattle.ipe_hooks.proofs.Returning.{hooked_some, image_claimed, slot_some}
use Rattle.ipe_hooks.proofs.ruling.evaluate.Goals as goal

pub decide_and_return-hit-requires-clause-image : goal.decide_and_return-hit-requires-clause-image
decide_and_return-hit-requires-clause-image c =
    let k = c.claim-claimed in
    image_claimed c.active_slot_has_image.ensures c.args.pass.now k.new.self k.result k.ensures
    (subst (λ z. 0 < z) k.ensures.tells.slot (slot_some k.result.slot (c.if-is_none.ensures)))

pub returns : goal.returns
returns c =
    let k = c.claim-claimed in
    let d = c.decide_and_return-hit in
    hooked_some c.active_slot_has_image.ensures c.args.pass.now k.new.self d.new.pass k.result c.args.op c.args.context.now d.result c.rule-2.result
    k.ensures d.ensures.returned (slot_some k.result.slot (c.if-is_none.ensures)) d.ensures.answer c.rule-2.ensures
