-- When a history stands for an order of lines.
use Rattle.std.specs.Prelude.{◌≡◌, ℕ, ◌-◌, ◌==◌, Bool, false, cond, List, [], ◌∷◌, ◌++◌, map, reverse, Some, None, is_some}
use Rattle.std.specs.List.{AllZip, AllByRecursion, filter}
use Rattle.ipe_machine.specs.Policies.{Policies, active_entry}
use Rattle.ipe_machine.specs.Answer.{Verdicts}
use Rattle.ipe_machine.specs.Machine.{Machine, ruling_unevaluated}
use Rattle.ipe_machine.specs.Epochs.{ActiveIsLoaded}
use Rattle.ipe_nodes.specs.Nodes.{node_read}
use Rattle.ipe_gate_rule.specs.declared.event.Event.{Event}
use Rattle.ipe_gate_rule.specs.History.{enforce_of, success_of, epoch_of, count_of}
use Rattle.ipe_gate_rule.specs.Owners.{is_switch}
use Rattle.ipe_gate_rule.specs.Places.{claims_in}
use Rattle.ipe_weave.specs.Lines.{Task, Write, Read, Hook, Line, LineReply, wrote, told, ruled, write_reply, after_write, after_line, task_of, Acted}
use Rattle.ipe_weave.specs.Acts.{Act, acts_of}
use Rattle.ipe_weave.specs.Basis.{Basis}

-- an entry has an event of its own in a history: a hook that is evaluated, and a write that raised the epoch
abbrev pub has_act : Task → LineReply → Bool
has_act (Write may asked) (wrote epoch switched answer records) = switched
has_act (Write may asked) (told epoch answer) = false
has_act (Write may asked) (ruled ruling access) = false
has_act (Read node) reply = false
has_act (Hook worker op access) reply = is_some op

-- the same of an entry
abbrev pub is_active : Acted → Bool
is_active entry = has_act entry.line.task entry.reply

-- a hook's reply is that to a claim after this history
abbrev pub AnsweredAt : (basis : Basis) → List Event → Task → LineReply → Type 0
AnsweredAt basis h (Write may asked) reply = ⊥
AnsweredAt basis h (Read node) reply = ⊥
AnsweredAt basis h (Hook worker None access) reply = ⊥
AnsweredAt basis h (Hook worker (Some op) access) reply = reply ≡ basis.claimed h op access

-- a hook's entry is answered at this claim
abbrev pub ClaimedAt : (basis : Basis) → Acted → Act → Type 0
ClaimedAt basis entry act = AnsweredAt basis act.before entry.line.task entry.reply

-- a hook that isn't evaluated is answered without a claim
abbrev pub AnsweredIdle : Task → LineReply → Type 0
AnsweredIdle (Write may asked) reply = ⊥
AnsweredIdle (Read node) reply = ⊥
AnsweredIdle (Hook worker None access) reply = reply ≡ ruled ruling_unevaluated None
AnsweredIdle (Hook worker (Some op) access) reply = Unit {0}

-- the same of an entry
abbrev pub IsIdle : Acted → Type 0
IsIdle entry = AnsweredIdle entry.line.task entry.reply

-- one worker's lines of a phase: each hook that is evaluated is answered at one claim of the worker's pass, one after
-- another, and there are no other claims; each other hook is answered without one
pub record HooksRan (basis : Basis) (acts : List Act) (entries : List Acted) : Type 0 where
  pub claims : AllZip (ClaimedAt basis) (filter is_active entries) acts
  pub idle : AllByRecursion IsIdle entries

-- the policies answer a write or a read so
abbrev pub AnsweredBy : Verdicts → Policies → Task → LineReply → Type 0
AnsweredBy verdicts policies (Write may asked) reply = reply ≡ write_reply verdicts policies asked
AnsweredBy verdicts policies (Read node) reply = reply ≡ told policies.epoch (node_read policies node)
AnsweredBy verdicts policies (Hook worker op access) reply = ⊥

-- the policies after a task
abbrev pub policies_after : Verdicts → Policies → Task → Policies
policies_after verdicts policies (Write may asked) = after_write verdicts policies asked
policies_after verdicts policies (Read node) = policies
policies_after verdicts policies (Hook worker op access) = policies

-- the administrator's lines of a phase are answered by the policies, one after another
abbrev pub CommandsRan : Verdicts → Policies → List Acted → Type 0
CommandsRan verdicts policies [] = Unit {0}
CommandsRan verdicts policies (entry ∷ entries) =
    AnsweredBy verdicts policies entry.line.task entry.reply
    × CommandsRan verdicts (policies_after verdicts policies entry.line.task) entries

-- the policies after each task that raises the epoch, in order
abbrev pub raised : Verdicts → Policies → List Task → List Policies
raised verdicts policies [] = []
raised verdicts policies (task ∷ tasks) =
    let next : Policies = policies_after verdicts policies task in
    cond (next.epoch == policies.epoch) (raised verdicts next tasks) (next ∷ raised verdicts next tasks)

-- the policies after tasks
abbrev pub policies_then : Verdicts → Policies → List Task → Policies
policies_then verdicts policies [] = policies
policies_then verdicts policies (task ∷ tasks) = policies_then verdicts (policies_after verdicts policies task) tasks

-- an act is a switch to these policies
abbrev pub BeginsWith : (basis : Basis) → Act → Policies → Type 0
BeginsWith basis act policies = basis.Begins act.event act.before policies

-- the place of a task's claim and its pass, where it makes one: worker K has pass K - 1
abbrev pub claim_by : Machine → Task → List (ℕ × ℕ × ℕ)
claim_by machine (Write may asked) = []
claim_by machine (Read node) = []
claim_by machine (Hook worker None access) = []
claim_by machine (Hook worker (Some op) access) = (machine.policies.epoch, machine.count, worker - 1) ∷ []

-- the claims that lines make, one after another
abbrev pub claims_by : Verdicts → Machine → List Line → List (ℕ × ℕ × ℕ)
claims_by verdicts machine [] = []
claims_by verdicts machine (line ∷ lines) =
    claim_by machine line.task ++ claims_by verdicts (after_line verdicts machine line) lines

-- a history stands for an order of lines: its switches are, in order, those of the commands that raise the epoch, each
-- to the policies after its command; its claims are, in order, those of the evaluated hooks, each of its worker's pass
-- and in its place
pub record StandsFor (basis : Basis) (history : List Event) (machine : Machine) (lines : List Line) : Type 0 where
  pub switches : AllZip (BeginsWith basis) (acts_of is_switch history)
      (raised basis.verdicts machine.policies (map task_of lines))
  pub claims : reverse (claims_in history) ≡ claims_by basis.verdicts machine lines

-- a history and a machine have the same epoch, count and switches
pub record IsLike (machine : Machine) (h : List Event) : Type 0 where
  pub epoch : epoch_of h ≡ machine.policies.epoch
  pub count : count_of h ≡ machine.count
  pub enforce : enforce_of h ≡ machine.policies.enforce
  pub success : success_of h ≡ machine.policies.success

-- a history and a machine agree: what is counted and switched is the same, the history shows the active entry, and a
-- name that is active is loaded
pub record Agree (basis : Basis) (machine : Machine) (h : List Event) : Type 0 where
  pub like : IsLike machine h
  pub shows : basis.Shows h (active_entry machine.policies)
  pub sound : ActiveIsLoaded machine.policies
