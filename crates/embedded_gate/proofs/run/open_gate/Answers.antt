use Rattle.std.proofs.Common.{List, ◌+◌, ℕ, false, slice_get, get_or, ap, ◌∙◌, arith}
use Rattle.ipe_gate.specs.declared.pass.Pass.{Pass}
use Rattle.ipe_gate.specs.Slots.{bound_count}
use Rattle.embedded_gate.proofs.Passing.{new_pass_of}
use Rattle.embedded_gate.proofs.run.open_gate.Goals as goal

pub returns : goal.returns
returns c =
    let admin = c.in_ok-admin.admin in
    let started = c.in_ok-admin.ensures in
    let slot = c.place-slot.result in
    let placed = c.place-slot.ensures in
    let switched = c.switch.ensures in
    let passes = c.all_three-passes.result in
    let all = c.all_three-passes.ensures in
    let gate = switched.step.gate ∙ placed.gate in
    let epoch = switched.epoch in
    let epoch_before = placed.epoch in
    let epoch_first = started.epoch in
    let first = started.each 0 passes.0 (ap (λ (ps : List Pass). slice_get ps 0) all) in
    let second = started.each 1 passes.1 (ap (λ (ps : List Pass). slice_get ps 1) all) in
    let third = started.each 2 passes.2 (ap (λ (ps : List Pass). slice_get ps 2) all) in
    record {
      serves = record {
        three = switched.passes ∙ placed.passes ∙ started.made;
        bound = ap (λ b. get_or b slot.number false) switched.bound ∙ placed.is_bound;
        one = ap bound_count switched.bound ∙ placed.more ∙ ap (λ (n : ℕ). n + 1) started.none_bound;
        active = switched.active;
      };
      epoch = omega arith;
      image = λ i lt. switched.regions slot.number i ∙ placed.region i lt;
      first = new_pass_of 0 admin c.switch.new.self passes.0 first gate;
      second = new_pass_of 1 admin c.switch.new.self passes.1 second gate;
      third = new_pass_of 2 admin c.switch.new.self passes.2 third gate;
    }
