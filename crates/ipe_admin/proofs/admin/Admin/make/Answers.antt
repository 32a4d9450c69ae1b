use Rattle.ipe_gate.specs.Slots.{slot_number}
use Rattle.ipe_admin.proofs.Whole.{agrees_after, as_many, goes_on, is_placed, is_switched, left_other, load_room, switch_bound, switch_room}
use Rattle.ipe_admin.proofs.admin.Admin.make.Goals as goal

pub follow-left-requires-clause-room : goal.follow-left-requires-clause-room
follow-left-requires-clause-room c =
    let a = c.args.self.now in
    load_room a.gate a.registry a.slots c.args.change a.agrees c.requires.planned

pub slot_in_force-slot-requires : goal.slot_in_force-slot-requires
slot_in_force-slot-requires c =
    let a = c.args.self.now in
    let law = c.images_are_read_as_themselves.ensures in
    let p = is_placed law.read law.policies a.gate c.place-placed.new.gate a.registry c.commit-done.new.self a.slots c.follow-left.new.slots (slot_number c.place-placed.result) c.args.change c.args.image a.agrees c.requires.planned c.requires.image c.place-placed.ensures.placed c.commit-done.ensures.after c.follow-left.ensures.slots in
    as_many a.gate c.place-placed.new.gate a.registry c.commit-done.new.self a.slots c.follow-left.new.slots (slot_number c.place-placed.result) c.args.change p

pub begin-requires-clause-room : goal.begin-requires-clause-room
begin-requires-clause-room c =
    let a = c.args.self.now in
    let law = c.images_are_read_as_themselves.ensures in
    let p = is_placed law.read law.policies a.gate c.place-placed.new.gate a.registry c.commit-done.new.self a.slots c.follow-left.new.slots (slot_number c.place-placed.result) c.args.change c.args.image a.agrees c.requires.planned c.requires.image c.place-placed.ensures.placed c.commit-done.ensures.after c.follow-left.ensures.slots in
    switch_room a.gate c.place-placed.new.gate a.registry c.commit-done.new.self a.slots c.follow-left.new.slots (slot_number c.place-placed.result) c.args.change c.raises-raises.result p c.raises-raises.ensures

pub begin-requires-clause-bound : goal.begin-requires-clause-bound
begin-requires-clause-bound c =
    let a = c.args.self.now in
    let law = c.images_are_read_as_themselves.ensures in
    let p = is_placed law.read law.policies a.gate c.place-placed.new.gate a.registry c.commit-done.new.self a.slots c.follow-left.new.slots (slot_number c.place-placed.result) c.args.change c.args.image a.agrees c.requires.planned c.requires.image c.place-placed.ensures.placed c.commit-done.ensures.after c.follow-left.ensures.slots in
    switch_bound a.gate c.place-placed.new.gate a.registry c.commit-done.new.self a.slots c.follow-left.new.slots (slot_number c.place-placed.result) c.args.change (slot_number c.slot_in_force-slot.result) p c.slot_in_force-slot.ensures

pub let_go-requires-clause-bound : goal.let_go-requires-clause-bound
let_go-requires-clause-bound c =
    let a = c.args.self.now in
    let law = c.images_are_read_as_themselves.ensures in
    let p = is_placed law.read law.policies a.gate c.place-placed.new.gate a.registry c.commit-done.new.self a.slots c.follow-left.new.slots (slot_number c.place-placed.result) c.args.change c.args.image a.agrees c.requires.planned c.requires.image c.place-placed.ensures.placed c.commit-done.ensures.after c.follow-left.ensures.slots in
    let s = is_switched a.gate c.place-placed.new.gate c.begin.new.gate a.registry c.commit-done.new.self a.slots c.follow-left.new.slots (slot_number c.place-placed.result) (slot_number c.follow-left.result) (slot_number c.slot_in_force-slot.result) c.args.change c.raises-raises.result c.enforce-enforce.result c.success-success.result p c.follow-left.ensures.left c.raises-raises.ensures c.slot_in_force-slot.ensures c.enforce-enforce.ensures c.success-success.ensures c.begin.ensures in
    s.seats.bound

pub let_go-requires-clause-other : goal.let_go-requires-clause-other
let_go-requires-clause-other c =
    let a = c.args.self.now in
    let law = c.images_are_read_as_themselves.ensures in
    let p = is_placed law.read law.policies a.gate c.place-placed.new.gate a.registry c.commit-done.new.self a.slots c.follow-left.new.slots (slot_number c.place-placed.result) c.args.change c.args.image a.agrees c.requires.planned c.requires.image c.place-placed.ensures.placed c.commit-done.ensures.after c.follow-left.ensures.slots in
    let s = is_switched a.gate c.place-placed.new.gate c.begin.new.gate a.registry c.commit-done.new.self a.slots c.follow-left.new.slots (slot_number c.place-placed.result) (slot_number c.follow-left.result) (slot_number c.slot_in_force-slot.result) c.args.change c.raises-raises.result c.enforce-enforce.result c.success-success.result p c.follow-left.ensures.left c.raises-raises.ensures c.slot_in_force-slot.ensures c.enforce-enforce.ensures c.success-success.ensures c.begin.ensures in
    left_other a.gate c.place-placed.new.gate c.begin.new.gate a.registry c.commit-done.new.self a.slots c.follow-left.new.slots (slot_number c.place-placed.result) (slot_number c.follow-left.result) c.args.change s

pub invariant_of-self : goal.invariant_of-self
invariant_of-self c =
    let a = c.args.self.now in
    let law = c.images_are_read_as_themselves.ensures in
    let p = is_placed law.read law.policies a.gate c.place-placed.new.gate a.registry c.commit-done.new.self a.slots c.follow-left.new.slots (slot_number c.place-placed.result) c.args.change c.args.image a.agrees c.requires.planned c.requires.image c.place-placed.ensures.placed c.commit-done.ensures.after c.follow-left.ensures.slots in
    let s = is_switched a.gate c.place-placed.new.gate c.begin.new.gate a.registry c.commit-done.new.self a.slots c.follow-left.new.slots (slot_number c.place-placed.result) (slot_number c.follow-left.result) (slot_number c.slot_in_force-slot.result) c.args.change c.raises-raises.result c.enforce-enforce.result c.success-success.result p c.follow-left.ensures.left c.raises-raises.ensures c.slot_in_force-slot.ensures c.enforce-enforce.ensures c.success-success.ensures c.begin.ensures in
    record { agrees = agrees_after c.commands_stay_or_begin.ensures a.gate c.place-placed.new.gate c.begin.new.gate c.let_go.new.gate a.registry c.commit-done.new.self a.slots c.follow-left.new.slots (slot_number c.place-placed.result) (slot_number c.follow-left.result) c.args.change c.requires.planned s c.let_go.ensures }

pub returns-clause-made : goal.returns-clause-made
returns-clause-made c =
    let a = c.args.self.now in
    let law = c.images_are_read_as_themselves.ensures in
    let p = is_placed law.read law.policies a.gate c.place-placed.new.gate a.registry c.commit-done.new.self a.slots c.follow-left.new.slots (slot_number c.place-placed.result) c.args.change c.args.image a.agrees c.requires.planned c.requires.image c.place-placed.ensures.placed c.commit-done.ensures.after c.follow-left.ensures.slots in
    let s = is_switched a.gate c.place-placed.new.gate c.begin.new.gate a.registry c.commit-done.new.self a.slots c.follow-left.new.slots (slot_number c.place-placed.result) (slot_number c.follow-left.result) (slot_number c.slot_in_force-slot.result) c.args.change c.raises-raises.result c.enforce-enforce.result c.success-success.result p c.follow-left.ensures.left c.raises-raises.ensures c.slot_in_force-slot.ensures c.enforce-enforce.ensures c.success-success.ensures c.begin.ensures in
    let on = goes_on a.gate c.place-placed.new.gate c.begin.new.gate c.let_go.new.gate a.registry c.commit-done.new.self a.slots c.follow-left.new.slots (slot_number c.place-placed.result) (slot_number c.follow-left.result) c.args.change s c.let_go.ensures in
    record { same = record { gate = on.0; passes = on.1 }; policies = c.commit-done.ensures.after; gone_on = on.2 }
