use Rattle.std.proofs.Common.{◌≡◌, [], length}
use Rattle.std.specs.Arc.{arc_value}
use Rattle.ipe_gate_rule.specs.declared.view.Role.TheVariants.{Administrator}
use Rattle.ipe_gate_rule.specs.Views.{view_of}
use Rattle.ipe_gate.proofs.Places.{Fresh}
use Rattle.ipe_gate.proofs.opening.start.Given as goal

abbrev pub invariant-loop-number : goal.invariant-loop-number
invariant-loop-number l = record {
  seated : l.seat.table_id ≡ (arc_value l.table).shared.table_id;
  same : l.seat.table_id ≡ l.initial.seat.table_id;
  view : l.seat.me ≡ (view_of (Administrator l.number) [], []);
  count : length l.all.items ≡ l.number;
  each : Fresh l.initial.seat.table_id l.all.items;
}
