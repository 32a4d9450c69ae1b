-- What is seen of a change.
use Rattle.ipe_machine.specs.Change as machine
use Rattle.ipe_registry.specs.declared.change.Change.TheInside.{Inside}
use Rattle.ipe_registry.specs.declared.change.Step.{Step}
use Rattle.ipe_registry.specs.declared.change.Step.TheVariants.{Load, Update, Activate, Delete, Enforce, SuccessAudit}

-- a step is seen by the name and the entry that it has
abbrev pub seen_step : Step → machine.Change
seen_step (Load entry) = machine.Loads entry
seen_step (Update entry) = machine.Updates entry.name entry
seen_step (Activate name) = machine.Activates name
seen_step (Delete name) = machine.Deletes name
seen_step (Enforce on) = machine.SetsEnforce on
seen_step (SuccessAudit on) = machine.SetsSuccess on

-- a change is seen as its step
abbrev pub change_of_step : Inside → machine.Change
change_of_step change = seen_step change.step
