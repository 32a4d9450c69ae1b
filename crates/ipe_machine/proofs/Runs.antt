-- Runs of some events and then of more.
use Rattle.std.proofs.Common.{◌≡◌, List, [], ◌∷◌, ◌++◌, refl, ap}
use Rattle.ipe_machine.specs.declared.event.Event.{Event}
use Rattle.ipe_machine.specs.Answer.{Verdicts}
use Rattle.ipe_machine.specs.Machine.{Machine, after_event, reply_to}
use Rattle.ipe_machine.specs.Run.{replies, after_all}

pub after_all-append : (verdicts : Verdicts) (machine : Machine) (before more : List Event) → after_all verdicts machine (before ++ more) ≡ after_all verdicts (after_all verdicts machine before) more
after_all-append verdicts machine [] more = refl
after_all-append verdicts machine (event ∷ before) more = after_all-append verdicts (after_event verdicts machine event) before more

pub replies-append : (verdicts : Verdicts) (machine : Machine) (before more : List Event) → replies verdicts machine (before ++ more) ≡ replies verdicts machine before ++ replies verdicts (after_all verdicts machine before) more
replies-append verdicts machine [] more = refl
replies-append verdicts machine (event ∷ before) more = ap (λ rest. reply_to verdicts machine event ∷ rest) (replies-append verdicts (after_event verdicts machine event) before more)
