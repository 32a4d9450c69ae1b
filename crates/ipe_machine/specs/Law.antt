-- The laws of whole runs.
use Rattle.std.specs.Prelude.{◌≡◌, ℕ, ◌≤◌, List, ◌++◌, Some}
use Rattle.ipe_policy.specs.Version.{packed}
use Rattle.ipe_machine.specs.declared.event.Event.{Event}
use Rattle.ipe_machine.specs.Policies.{Loaded, active_entry}
use Rattle.ipe_machine.specs.Answer.{Verdicts}
use Rattle.ipe_machine.specs.Machine.{Machine, first_machine}
use Rattle.ipe_machine.specs.Run.{after_all, replies}

-- once a policy is active, one stays active in every run, and its packed version doesn't fall
abbrev pub ActiveVersionNeverFalls : Type 0
ActiveVersionNeverFalls =
    (verdicts : Verdicts) (passes : ℕ) (before more : List Event) (entry : Loaded) →
    active_entry (after_all verdicts (first_machine passes) before).policies ≡ Some entry →
    (later : Loaded) × (active_entry (after_all verdicts (first_machine passes) (before ++ more)).policies ≡ Some later)
    × (packed entry.version ≤ packed later.version)

-- a run of events and then of more is a run of all of them
abbrev pub RunsGoOn : Type 0
RunsGoOn =
    (verdicts : Verdicts) (machine : Machine) (before more : List Event) →
    (after_all verdicts machine (before ++ more) ≡ after_all verdicts (after_all verdicts machine before) more)
    × (replies verdicts machine (before ++ more)
    ≡ replies verdicts machine before ++ replies verdicts (after_all verdicts machine before) more)
