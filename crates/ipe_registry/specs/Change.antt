-- What a plan says of a command.
use Rattle.std.specs.Prelude.{◌≡◌, Option, Some, None, Result, Ok, Err}
use Rattle.std.specs.Option.{option_map_or}
use Rattle.ipe_machine.specs.declared.command.Command.{Command}
use Rattle.ipe_machine.specs.declared.answer.Done.{Done}
use Rattle.ipe_machine.specs.declared.answer.Refusal.{Refusal}
use Rattle.ipe_machine.specs.Policies.{Policies}
use Rattle.ipe_machine.specs.Change.{Change, done_by, made}
use Rattle.ipe_machine.specs.Answer.{Verdicts, answer, after, change_by}
use Rattle.ipe_registry.specs.declared.change.Plan.{Plan}
use Rattle.ipe_registry.specs.declared.change.Plan.TheVariants as plan

-- the answer of a plan
abbrev pub answer_in : Plan → Result Done Refusal
answer_in (plan.Refused refusal) = Err refusal
answer_in (plan.Same done) = Ok done
answer_in (plan.Ready change) = Ok (done_by change)

-- the change of a plan, where it has one
abbrev pub change_in : Plan → Option Change
change_in (plan.Refused refusal) = None
change_in (plan.Same done) = None
change_in (plan.Ready change) = Some change

-- the policies after a plan
abbrev pub planned : Policies → Plan → Policies
planned policies plan = option_map_or (made policies) (change_in plan) policies

-- a plan of a command on these policies: it says what the command is answered, what it changes and what it leaves
abbrev pub IsPlan : Verdicts → Policies → Command → Plan → Type 0
IsPlan verdicts policies command plan =
    (answer verdicts policies command ≡ answer_in plan)
    × (change_by verdicts policies command ≡ change_in plan)
    × (after verdicts policies command ≡ planned policies plan)

-- some signer and some command have this plan on these very policies
abbrev pub IsPlannedOn : Policies → Plan → Type 0
IsPlannedOn policies plan = (verdicts : Verdicts) × (command : Command) × IsPlan verdicts policies command plan
