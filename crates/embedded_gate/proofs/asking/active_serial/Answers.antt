use Rattle.embedded_gate.proofs.Telling.{slot_none, slot_some, told_none, told_some}
use Rattle.embedded_gate.proofs.asking.active_serial.Goals as goal

pub returns-then-is_none : goal.returns-then-is_none
returns-then-is_none c =
    let k = c.claim-claimed in
    told_none c.args.pass.now k.new.self k.result k.ensures (slot_none k.result.slot c.if-is_none.ensures)

pub returns : goal.returns
returns c =
    let k = c.claim-claimed in
    told_some c.args.pass.now k.new.self c.word-serial.new.self c.release.new.self k.result c.word-serial.result k.ensures
    c.word-serial.ensures c.release.ensures (slot_some k.result.slot c.if-is_none.ensures)
