-- Which events may want memory.
use Rattle.std.specs.Prelude.{Bool, false}
use Rattle.ipe_machine.specs.declared.event.Event.{Event}
use Rattle.ipe_machine.specs.declared.event.Event.TheVariants as event

-- only a command may, and of one who may administer
abbrev pub wants_memory : Event → Bool
wants_memory (event.Command command) = command.may
wants_memory (event.Claim pass request subject object context) = false
wants_memory (event.Return pass) = false
