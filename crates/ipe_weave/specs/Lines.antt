-- What lines ask, and what the machine replies to one line after another, for any number of workers.
use Rattle.std.specs.Prelude.{◌≡◌, ℕ, ◌-◌, ◌<◌, ◌==◌, Bool, not, ◌&&◌, cond, List, [], ◌∷◌, ◌++◌, Option, Some, None, is_some, Result, Ok, Err}
use Rattle.std.specs.List.{AllZip, AllByRecursion}
use Rattle.ipe_policy.specs.declared.request.Request.{Request}
use Rattle.ipe_policy.specs.declared.request.Subject.{Subject}
use Rattle.ipe_policy.specs.declared.request.Object.{Object}
use Rattle.ipe_policy.specs.declared.evaluation.Context.{Context}
use Rattle.ipe_policy.specs.declared.op.Op.{Op}
use Rattle.ipe_machine.specs.declared.command.Command.{Command}
use Rattle.ipe_machine.specs.declared.answer.Done.{Done}
use Rattle.ipe_machine.specs.declared.answer.Refusal.{Refusal}
use Rattle.ipe_machine.specs.declared.event.CoreRuling.{CoreRuling}
use Rattle.ipe_machine.specs.declared.event.Event.TheVariants as event
use Rattle.ipe_machine.specs.Policies.{Policies, active_entry}
use Rattle.ipe_machine.specs.Answer.{Verdicts, answer, after}
use Rattle.ipe_machine.specs.Machine.{Machine, ruling_for, ruling_unevaluated, after_claim, after_event, with_policies}
use Rattle.ipe_records.specs.Records.{records_of, access_of}
use Rattle.ipe_nodes.specs.Nodes.{node_read}
use Rattle.ipe_transcript.specs.Keys.{Key, command_key, write_key, place_key, own_of, AreInPlace}

-- what a hook is about
pub record Access : Type 0 where
  pub request : Request
  pub subject : Subject
  pub object : Object
  pub context : Context

-- what a line asks: a write by one who may administer or may not, of a command, or it says why it asks for none; a read
-- of a node; a hook of worker K, from 1 on, for this operation where it is evaluated
pub data Task : Type 0 where
  Write : Bool → Result Command Refusal → Task
  Read : List ℕ → Task
  Hook : ℕ → Option Op → Access → Task

-- a line with its number
pub record Line : Type 0 where
  pub number : ℕ
  pub task : Task

-- the task of a line
abbrev pub task_of : Line → Task
task_of line = line.task

-- who acts by a task: the administrator is 0, worker K is K
abbrev pub actor_of_task : Task → ℕ
actor_of_task (Write may asked) = 0
actor_of_task (Read node) = 0
actor_of_task (Hook worker op access) = worker

-- who acts in a line
abbrev pub actor_of : Line → ℕ
actor_of line = actor_of_task line.task

-- what a line is replied: a write the epoch after it, whether it rose, its answer and its records; a read the epoch and
-- what is told; a hook its ruling, and the record where one is due
pub data LineReply : Type 0 where
  wrote : ℕ → Bool → Result Done Refusal → List (List ℕ) → LineReply
  told : ℕ → Result (List ℕ) Refusal → LineReply
  ruled : CoreRuling → Option (List ℕ) → LineReply

-- the policies after a write
abbrev pub after_write : Verdicts → Policies → Result Command Refusal → Policies
after_write verdicts policies (Err refusal) = policies
after_write verdicts policies (Ok command) = after verdicts policies command

-- the answer to a write
abbrev pub write_answer : Verdicts → Policies → Result Command Refusal → Result Done Refusal
write_answer verdicts policies (Err refusal) = Err refusal
write_answer verdicts policies (Ok command) = answer verdicts policies command

-- the records of a write
abbrev pub write_records : Verdicts → Policies → Result Command Refusal → List (List ℕ)
write_records verdicts policies (Err refusal) = []
write_records verdicts policies (Ok command) = records_of verdicts policies command

-- the reply to a write
abbrev pub write_reply : Verdicts → Policies → Result Command Refusal → LineReply
write_reply verdicts policies asked =
    wrote (after_write verdicts policies asked).epoch
    (not ((after_write verdicts policies asked).epoch == policies.epoch))
    (write_answer verdicts policies asked) (write_records verdicts policies asked)

-- the reply to a hook: one that isn't evaluated has no place, and no record
abbrev pub hook_reply : Machine → Option Op → Access → LineReply
hook_reply machine None access = ruled ruling_unevaluated None
hook_reply machine (Some op) access =
    ruled (ruling_for machine (Some op) access.context)
    (access_of machine.policies access.request access.subject access.object access.context)

-- the reply to a task
abbrev pub task_reply : Verdicts → Machine → Task → LineReply
task_reply verdicts machine (Write may asked) = write_reply verdicts machine.policies asked
task_reply verdicts machine (Read node) = told machine.policies.epoch (node_read machine.policies node)
task_reply verdicts machine (Hook worker op access) = hook_reply machine op access

-- the reply to a line
abbrev pub line_reply : Verdicts → Machine → Line → LineReply
line_reply verdicts machine line = task_reply verdicts machine line.task

-- the machine after a hook: a claim of worker K is one of pass K - 1, and is returned at once where it is on a policy
abbrev pub after_hook : Verdicts → Machine → ℕ → Option Op → Machine
after_hook verdicts machine worker op =
    cond (is_some op && is_some (active_entry machine.policies))
    (after_event verdicts (after_claim machine (worker - 1) op) (event.Return (worker - 1)))
    (after_claim machine (worker - 1) op)

-- the machine after a task
abbrev pub after_task : Verdicts → Machine → Task → Machine
after_task verdicts machine (Write may asked) = with_policies machine (after_write verdicts machine.policies asked)
after_task verdicts machine (Read node) = machine
after_task verdicts machine (Hook worker op access) = after_hook verdicts machine worker op

-- the machine after a line
abbrev pub after_line : Verdicts → Machine → Line → Machine
after_line verdicts machine line = after_task verdicts machine line.task

-- the machine after lines
abbrev pub after_lines : Verdicts → Machine → List Line → Machine
after_lines verdicts machine [] = machine
after_lines verdicts machine (line ∷ lines) = after_lines verdicts (after_line verdicts machine line) lines

-- a line with its reply
pub record Acted : Type 0 where
  pub line : Line
  pub reply : LineReply

-- the line of an entry
abbrev pub line_in : Acted → Line
line_in entry = entry.line

-- the task of an entry
abbrev pub task_in : Acted → Task
task_in entry = entry.line.task

-- who acts in an entry
abbrev pub actor_in : Acted → ℕ
actor_in entry = actor_of entry.line

-- the entries of lines, one after another
abbrev pub entries_of : Verdicts → Machine → List Line → List Acted
entries_of verdicts machine [] = []
entries_of verdicts machine (line ∷ lines) =
    record { line = line; reply = line_reply verdicts machine line }
    ∷ entries_of verdicts (after_line verdicts machine line) lines

-- the entries of phases, phase by phase
abbrev pub phases_entries : Verdicts → Machine → List (List Line) → List (List Acted)
phases_entries verdicts machine [] = []
phases_entries verdicts machine (lines ∷ phases) =
    entries_of verdicts machine lines ∷ phases_entries verdicts (after_lines verdicts machine lines) phases

-- an actor's lines
abbrev pub own_lines : ℕ → List Line → List Line
own_lines actor lines = own_of actor_of actor lines

-- an actor's entries
abbrev pub own_entries : ℕ → List Acted → List Acted
own_entries actor entries = own_of actor_in actor entries

-- where the entry of the line of this number belongs, by its reply
abbrev pub reply_key : ℕ → LineReply → Option Key
reply_key number (wrote epoch switched answer records) = Some (write_key number epoch switched)
reply_key number (told epoch answer) = Some (command_key epoch number)
reply_key number (ruled ruling access) = place_key ruling.place

-- the key of an entry, where it has a place
abbrev pub key_of : Acted → Option Key
key_of entry = reply_key entry.line.number entry.reply

-- the lines' numbers rise from each to the next
abbrev pub NumbersRise : List Line → Type 0
NumbersRise [] = Unit {0}
NumbersRise (line ∷ []) = Unit {0}
NumbersRise (line ∷ next ∷ lines) = (line.number < next.number) × NumbersRise (next ∷ lines)

-- a part has a phase's lines, each once, and each one's in that one's order
abbrev pub IsWeaveOf : List Line → List Line → Type 0
IsWeaveOf part lines = (actor : ℕ) → own_lines actor part ≡ own_lines actor lines

-- an order is cut into one part per phase, each a weave of that phase's lines
abbrev pub IsWeave : List (List Line) → List (List Line) → Type 0
IsWeave script order = AllZip IsWeaveOf order script

-- in each phase the entries that the machine gives along an order stand in their places
abbrev pub IsInPlace : Verdicts → Machine → List (List Line) → Type 0
IsInPlace verdicts machine order =
    AllByRecursion (AreInPlace actor_in key_of) (phases_entries verdicts machine order)

-- one phase after another
abbrev pub joined : List (List Line) → List Line
joined [] = []
joined (lines ∷ order) = lines ++ joined order
