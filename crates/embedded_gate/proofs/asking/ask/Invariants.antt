use Rattle.std.proofs.Common.{◌≡◌}
use Rattle.embedded_gate.specs.Passes.{CameBack}
use Rattle.embedded_gate.specs.Answers.{IsWithin}
use Rattle.embedded_gate.proofs.asking.ask.Given as goal

abbrev pub invariant-loop : goal.invariant-loop
invariant-loop l = record {
  back : CameBack l.fn.pass l.pass l.counter;
  counted : l.tally.count ≡ l.counter;
  within : IsWithin l.tally;
}
