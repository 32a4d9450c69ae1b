use Rattle.std.proofs.Common.{◌≡◌, ◌≢◌, false, get_or, get_or-set_other, true≢false, sym, ap, ◌∙◌, arith}
use Rattle.ipe_gate.specs.Slots.{bound_count}
use Rattle.ipe_gate_rule.specs.History.{content}
use Rattle.embedded_gate.proofs.run.replace.Goals as goal

pub returns : goal.returns
returns c =
    let serves = c.requires.serves in
    let slot = c.place-slot.result.number in
    let before = c.args.before.number in
    let placed = c.place-slot.ensures in
    let switched = c.switch.ensures in
    let retired = c.retire.ensures in
    let other : slot ≢ before = λ e. true≢false (sym serves.bound
    ∙ ap (λ k. get_or c.args.admin.now.bound k false) (sym e) ∙ placed.unbound) in
    let more = placed.more in
    let same = ap bound_count switched.bound in
    let fewer = retired.fewer in
    let one = serves.one in
    let e = retired.epoch in
    let f = switched.epoch in
    let g = placed.epoch in
    record {
      gate = retired.gate ∙ switched.step.gate ∙ placed.gate;
      serves = record {
        three = retired.passes ∙ switched.passes ∙ placed.passes ∙ serves.three;
        bound = ap (λ b. get_or b slot false) retired.bound ∙ get_or-set_other _ before slot false false other
            ∙ ap (λ b. get_or b slot false) switched.bound ∙ placed.is_bound;
        one = omega arith;
        active = retired.active ∙ switched.active;
      };
      epoch = omega arith;
      image = λ i lt. ap (λ h. content slot i h) retired.seen_is ∙ switched.regions slot i ∙ placed.region i lt;
    }
