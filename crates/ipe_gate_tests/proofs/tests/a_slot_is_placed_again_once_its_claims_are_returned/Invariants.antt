use Rattle.std.proofs.Common.{◌≡◌}
use Rattle.ipe_gate.specs.Seats.{admin_gate, passes_made}
use Rattle.ipe_gate_tests.proofs.tests.a_slot_is_placed_again_once_its_claims_are_returned.Given as goal

abbrev pub invariant-loop : goal.invariant-loop
invariant-loop g l =
    (admin_gate l.admin ≡ admin_gate l.initial.admin) × (passes_made l.admin ≡ passes_made l.initial.admin)
