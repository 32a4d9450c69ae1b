-- What a command does to the epoch, and what it leaves where it leaves that.
use Rattle.std.specs.Prelude.{◌≡◌, ◌⊎◌, ℕ, ◌+◌, List, Some}
use Rattle.ipe_machine.specs.declared.command.Command.{Command}
use Rattle.ipe_machine.specs.Policies.{Policies, Loaded, active_entry}
use Rattle.ipe_machine.specs.Answer.{Verdicts, after}

-- a name that is active is loaded
abbrev pub ActiveIsLoaded : Policies → Type 0
ActiveIsLoaded policies =
    (name : List ℕ) → policies.active ≡ Some name → (entry : Loaded) × (active_entry policies ≡ Some entry)

-- the active entry and the switches are as they were
abbrev pub SameInForce : Policies → Policies → Type 0
SameInForce before after =
    (active_entry after ≡ active_entry before) × (after.enforce ≡ before.enforce) × (after.success ≡ before.success)

-- the epoch stays, and with it the active entry and the switches; or the next epoch begins
abbrev pub StaysOrBegins : Policies → Policies → Type 0
StaysOrBegins before after =
    ((after.epoch ≡ before.epoch) × SameInForce before after) ⊎ (after.epoch ≡ before.epoch + 1)

-- each command leaves the epoch and all that a claim is answered by, or begins the next epoch; and a name that is
-- active stays loaded
abbrev pub CommandsStayOrBegin : Type 0
CommandsStayOrBegin =
    (verdicts : Verdicts) (policies : Policies) (command : Command) → ActiveIsLoaded policies
    → StaysOrBegins policies (after verdicts policies command) × ActiveIsLoaded (after verdicts policies command)
