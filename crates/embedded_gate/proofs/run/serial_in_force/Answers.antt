use Rattle.std.proofs.Common.{◌∙◌, ap, ◌+◌, ℕ}
use Rattle.embedded_gate.proofs.run.serial_in_force.Goals as goal

pub returns-clause-told : goal.returns-clause-told
returns-clause-told c =
    let heard = c.meet.ensures.0 in
    let told = c.active_serial.ensures in
    record {
      back = record {
        gate = told.back.gate ∙ heard.same.gate;
        number = told.back.number ∙ heard.same.number;
        held = told.back.held;
        calls = told.back.calls ∙ ap (λ (n : ℕ). n + 1) heard.same.calls;
      };
      met = c.meet.new.pass;
      heard = heard;
      told = told;
    }
