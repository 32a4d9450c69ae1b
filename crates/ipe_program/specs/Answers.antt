-- How an answer is made, and how a call ends with it.
use Rattle.std.specs.Prelude.{◌≡◌, ℕ, ◌<◌, ◌≤◌, false, List, [], length, Option, Some, None, IfSome, Result, Ok, Err, IfOk, IsErrOf, ◌⊎◌}
use Rattle.blk_device.specs.Contents.{Contents}
use Rattle.ipe_gate.specs.declared.meeting.Closed.{Closed}
use Rattle.ipe_tasks.specs.declared.told.Told.{Told}
use Rattle.ipe_tasks.specs.declared.told.Told.TheVariants as told
use Rattle.ipe_tasks.specs.declared.tree.TreeError.{TreeError}
use Rattle.ipe_tasks.specs.declared.tree.TreeError.TheVariants as tree_error
use Rattle.ipe_program.specs.declared.answers.Answer.{Answer}
use Rattle.ipe_program.specs.declared.answers.Unanswered.{Unanswered}
use Rattle.ipe_program.specs.declared.answers.Unanswered.TheVariants as without
use Rattle.ipe_program.specs.declared.asked.Asked.{Asked}
use Rattle.ipe_program.specs.Shell.{Failed, Handed, IsRead, Out}
use Rattle.ipe_program.specs.Table.{row, HasText, IsAnswer, WhereTold}
use Rattle.ipe_words.specs.Sink.{Appends, AppendsPrefix}
use Rattle.ipe_words.specs.Source.{TakesAll}
use Rattle.ipe_words.specs.declared.status.Status.{Status}
use Rattle.ipe_words.specs.declared.status.Status.TheVariants as ends

-- an answer that tells this, with its status and no gate
abbrev pub answer_of : Told → Answer
answer_of (told.Done text) = record { text = text; status = ends.Done; closed = None }
answer_of (told.Refused text) = record { text = text; status = ends.Refused; closed = None }

-- why there is no answer where nothing is told of a tree
abbrev pub without_tree : TreeError → Unanswered
without_tree tree_error.Failed = without.DeviceFault
without_tree tree_error.NoMemory = without.NoMemory

-- the source was read to its end, where that is wanted, and this is what it held, within the limit
abbrev pub IsInput : Option ℕ → Option (List ℕ) → Option (List ℕ) → List ℕ → Type 0
IsInput None before after input = input ≡ []
IsInput (Some most) before after input = (length input ≤ most) × TakesAll before after input

-- the source holds more than the limit
abbrev pub IsAbove : Option ℕ → Option (List ℕ) → Type 0
IsAbove None before = ⊥
IsAbove (Some most) before = IfSome before (λ input. most < length input)

-- an answer to what is asked, made of the source and the devices, or why there is none
pub record IsAnswered {S D : Type 0} (asked : Asked) (given : Result Answer Unanswered) (source : Handed S (List ℕ)) (devices : Handed D Contents) : Type 0 where
  pub answer : IfOk given (λ answer.
      WhereTold asked (source.tells source.before) (λ input.
      IsAnswer asked answer.status input (devices.tells devices.before) answer.closed answer.text.items))
  pub status : IfOk given (λ answer. HasText answer.status)
  -- only where a gate ran and all is done there is one to hand out
  pub no_gate : IfOk given (λ answer.
      (answer.status ≡ ends.Done → (row asked).runs_gate ≡ false) → answer.closed ≡ None)
  pub read : IfOk given (λ answer.
      IsRead (row asked).most_input answer.status (source.tells source.before) (source.tells source.after))
  pub read_fault : IsErrOf given without.ReadFault → Failed source
  pub device_fault : IsErrOf given without.DeviceFault → Failed devices
  pub source_stays : (row asked).most_input ≡ None → source.after ≡ source.before
  pub devices_stay : (row asked).asks_devices ≡ false → devices.after ≡ devices.before
  pub contents_stay : devices.tells devices.after ≡ devices.tells devices.before

-- what is handed out with an answer: its own gate, if it has one, and else what was there before
abbrev pub handed_out : Option Closed → Option Closed → Option Closed
handed_out None before = before
handed_out (Some gate) before = Some gate

-- an answer was written whole, and its gate handed out; or the sink failed in it, and none was
abbrev pub IsWritten : {K : Type 0} → Answer → Status → Handed K (List ℕ) → Out (Option Closed) → Type 0
IsWritten answer status sink closed =
    (status ≡ answer.status) × Appends (sink.tells sink.before) (sink.tells sink.after) answer.text.items
    × (closed.after ≡ handed_out answer.closed closed.before)
    ⊎ (status ≡ ends.WriteFault) × Failed sink
    × AppendsPrefix (sink.tells sink.before) (sink.tells sink.after) answer.text.items × (closed.after ≡ closed.before)

-- how a call ends that has no answer
abbrev pub status_of : Unanswered → Status
status_of without.ReadFault = ends.ReadFault
status_of without.DeviceFault = ends.DeviceFault
status_of without.NoMemory = ends.NoMemory

-- a call ended with this: its answer was written, or there was none, and then nothing was written or handed out
abbrev pub Ends : {K : Type 0} → Result Answer Unanswered → Status → Handed K (List ℕ) → Out (Option Closed) → Type 0
Ends (Ok answer) status sink closed = IsWritten answer status sink closed
Ends (Err why) status sink closed =
    (status ≡ status_of why) × (sink.after ≡ sink.before) × (closed.after ≡ closed.before)
