-- A run of some first events, on its way through a list.
use Rattle.std.proofs.Common.{◌≡◌, ℕ, ◌+◌, ◌<◌, List, [], ◌∷◌, ◌++◌, length, get_or, take, drop, sym, ap, subst, ◌∙◌}
use Rattle.std.proofs.lemmas.List.{take_more, drop_more}
use Rattle.std.specs.Prelude.{IsTrue}
use Rattle.ipe_machine.specs.declared.event.Event.{Event}
use Rattle.ipe_machine.specs.declared.event.Reply.{Reply}
use Rattle.ipe_machine.specs.Answer.{Verdicts}
use Rattle.ipe_machine.specs.Machine.{Machine, after_event, reply_to, is_allowed}
use Rattle.ipe_machine.specs.Run.{replies, after_all, IsLegal}
use Rattle.ipe_machine.specs.Law.{RunsGoOn}

-- how far a run has come, and that the rest is allowed
pub record IsRunning (verdicts : Verdicts) (first : Machine) (events : List Event) (at : ℕ) (machine : Machine) (found : List Reply) : Type 0 where
  pub reached : machine ≡ after_all verdicts first (take at events)
  pub replied : found ≡ replies verdicts first (take at events)
  pub legal : IsLegal verdicts machine (drop at events)

-- the next event is allowed
pub next_allowed : (verdicts : Verdicts) (machine : Machine) (events : List Event) (at : ℕ) (event : Event) → at < length events → event ≡ get_or events at event → IsLegal verdicts machine (drop at events) → IsTrue (is_allowed machine event) × IsLegal verdicts (after_event verdicts machine event) (drop (at + 1) events)
next_allowed verdicts machine events at event within is legal =
    let rest : drop at events ≡ event ∷ drop (at + 1) events = drop_more events at event within ∙ ap (λ (e : Event). e ∷ drop (at + 1) events) (sym is) in
    subst (λ (es : List Event). IsLegal verdicts machine es) rest legal

-- the state after the next event
pub after_more : RunsGoOn → (verdicts : Verdicts) (first machine : Machine) (events : List Event) (at : ℕ) (event : Event) → at < length events → event ≡ get_or events at event → machine ≡ after_all verdicts first (take at events) → after_event verdicts machine event ≡ after_all verdicts first (take (at + 1) events)
after_more law verdicts first machine events at event within is so_far =
    let one : take (at + 1) events ≡ take at events ++ event ∷ [] = take_more events at event within ∙ ap (λ (e : Event). take at events ++ e ∷ []) (sym is) in
    ap (λ (m : Machine). after_event verdicts m event) so_far ∙ sym (law verdicts first (take at events) (event ∷ [])).0 ∙ sym (ap (λ (es : List Event). after_all verdicts first es) one)

-- the run one event further
pub runs_on : RunsGoOn → (verdicts : Verdicts) (first machine : Machine) (events : List Event) (at : ℕ) (event : Event) (found : List Reply) → at < length events → event ≡ get_or events at event → IsRunning verdicts first events at machine found → IsRunning verdicts first events (at + 1) (after_event verdicts machine event) (found ++ reply_to verdicts machine event ∷ [])
runs_on law verdicts first machine events at event found within is running =
    let one : take (at + 1) events ≡ take at events ++ event ∷ [] = take_more events at event within ∙ ap (λ (e : Event). take at events ++ e ∷ []) (sym is) in
    let last : found ++ reply_to verdicts machine event ∷ [] ≡ replies verdicts first (take at events) ++ reply_to verdicts (after_all verdicts first (take at events)) event ∷ [] =
    ap (λ (rs : List Reply). rs ++ reply_to verdicts machine event ∷ []) running.replied ∙ ap (λ (m : Machine). replies verdicts first (take at events) ++ reply_to verdicts m event ∷ []) running.reached in
    record {
      reached = after_more law verdicts first machine events at event within is running.reached;
      replied = last ∙ sym (law verdicts first (take at events) (event ∷ [])).1 ∙ sym (ap (λ (es : List Event). replies verdicts first es) one);
      legal = (next_allowed verdicts machine events at event within is running.legal).1;
    }
