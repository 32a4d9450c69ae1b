use Rattle.std.proofs.Common.{◌≡◌, ◌++◌, drop}
use Rattle.std.specs.List.{flat_map}
use Rattle.ipe_requests.specs.Spelling.{phase_text}
use Rattle.ipe_requests.proofs.print.append_phases.Given as goal

-- what is appended, and what is left to append, is all of it
abbrev pub invariant-loop-phase : goal.invariant-loop-phase
invariant-loop-phase l =
    l.out.items ++ flat_map phase_text (drop l.phase-index l.phases) ≡ l.fn.out.items ++ flat_map phase_text l.phases
