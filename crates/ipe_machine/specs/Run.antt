-- Whole runs of the machine.
use Rattle.std.specs.Prelude.{IsTrue, List, [], ◌∷◌}
use Rattle.ipe_machine.specs.declared.event.Event.{Event}
use Rattle.ipe_machine.specs.declared.event.Reply.{Reply}
use Rattle.ipe_machine.specs.Answer.{Verdicts}
use Rattle.ipe_machine.specs.Machine.{Machine, reply_to, after_event, is_allowed}

-- the replies to events, one after another
abbrev pub replies : Verdicts → Machine → List Event → List Reply
replies verdicts machine [] = []
replies verdicts machine (event ∷ events) =
    reply_to verdicts machine event ∷ replies verdicts (after_event verdicts machine event) events

-- the machine after events
abbrev pub after_all : Verdicts → Machine → List Event → Machine
after_all verdicts machine [] = machine
after_all verdicts machine (event ∷ events) = after_all verdicts (after_event verdicts machine event) events

-- each event is allowed where it stands
abbrev pub IsLegal : Verdicts → Machine → List Event → Type 0
IsLegal verdicts machine [] = Unit {0}
IsLegal verdicts machine (event ∷ events) =
    IsTrue (is_allowed machine event) × IsLegal verdicts (after_event verdicts machine event) events
