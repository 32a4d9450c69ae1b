-- What is read, which devices are asked and what is written, for all that can be asked.
use Rattle.std.specs.Prelude.{⊤, ◌≡◌, ℕ, ◌<◌, ◌≤◌, Bool, true, false, codes, List, [], length, Ok, Option, Some, None, IfSome, IsSomeAnd, ◌⊎◌}
use Rattle.blk_device.specs.Contents.{Contents}
use Rattle.ipe_gate.specs.declared.meeting.Closed.{Closed}
use Rattle.ipe_tasks.specs.declared.task.Task.TheVariants.{Lint, Measure, Tree}
use Rattle.ipe_program.specs.declared.asked.Asked.{Asked}
use Rattle.ipe_program.specs.declared.asked.Asked.TheVariants.{Replay, Sim, Alone}
use Rattle.ipe_parse.specs.Reading.{reading}
use Rattle.ipe_policy.specs.Policy.{PolicyParts}
use Rattle.ipe_tasks.specs.Lint.{IsLinted, IsFaulty}
use Rattle.ipe_tasks.specs.Measure.{measure_text}
use Rattle.ipe_program.specs.Replay.{IsAccepted, IsReplay, IsReplayRefusal}
use Rattle.ipe_program.specs.Sim.{IsSim}
use Rattle.ipe_tasks.specs.Tree.{HasImage, IsOfTree, IsTreeRefusal}
use Rattle.ipe_words.specs.declared.status.Status.{Status}
use Rattle.ipe_words.specs.declared.status.Status.TheVariants as ends
use Rattle.line_words.specs.Lines.{line_text}

-- what is answered to what is asked: the most bytes of the input, if it is read; whether devices are asked; whether a gate
-- runs; and what text it is where it is done, and where it is refused, by the bytes that are read and what the devices
-- hold, where that is told. Where a gate ran it is handed out, closed, with the text of what is done. Last, which input and
-- devices are accepted: nothing refuses them
pub record Row : Type 1 where
  pub most_input : Option ℕ
  pub asks_devices : Bool
  pub runs_gate : Bool
  pub IsDone : List ℕ → Option Contents → Option Closed → List ℕ → Type 0
  pub IsRefused : List ℕ → Option Contents → List ℕ → Type 0
  pub Accepts : List ℕ → Option Contents → Type 0

-- the table of all that can be asked
abbrev pub row : Asked → Row
row Replay = record {
  most_input = Some 16777216;
  asks_devices = true;
  runs_gate = true;
  IsDone = λ input held closed text. IsReplay input held closed text;
  IsRefused = λ input held text. IsReplayRefusal input held text;
  Accepts = λ input held. IsAccepted input held;
}
row (Sim seed) = record {
  most_input = None;
  asks_devices = false;
  runs_gate = true;
  IsDone = λ input held closed text. IsSim seed closed text;
  IsRefused = λ input held text. ⊥;
  Accepts = λ input held. ⊤;
}
row (Alone Lint) = record {
  most_input = Some 1048576;
  asks_devices = false;
  runs_gate = false;
  IsDone = λ input held closed text. IsLinted input text;
  IsRefused = λ input held text. IsFaulty input text;
  Accepts = λ input held. (policy : PolicyParts) × (reading input ≡ Ok policy);
}
row (Alone (Measure tree)) = record {
  most_input = Some 16777216;
  asks_devices = false;
  runs_gate = false;
  IsDone = λ input held closed text. text ≡ measure_text input tree;
  IsRefused = λ input held text. ⊥;
  Accepts = λ input held. ⊤;
}
row (Alone (Tree part tree)) = record {
  most_input = None;
  asks_devices = true;
  runs_gate = false;
  IsDone = λ input held closed text. IfSome held (λ items. IsOfTree part items tree text);
  IsRefused = λ input held text. IfSome held (λ items. IsTreeRefusal items tree text);
  Accepts = λ input held. IsSomeAnd held (λ items. (bytes : List ℕ) × HasImage items tree bytes);
}

-- the input is within the limit, where there is one
abbrev pub Fits : Option ℕ → List ℕ → Type 0
Fits most input = IfSome most (λ most. length input ≤ most)

-- what is read and what the devices hold are accepted: the input is within the limit, and nothing refuses them
abbrev pub AreAccepted : Asked → List ℕ → Option Contents → Type 0
AreAccepted asked input held = Fits (row asked).most_input input × (row asked).Accepts input held

-- the input is above the limit, and the text says so
abbrev pub IsTooLong : Option ℕ → List ℕ → List ℕ → Type 0
IsTooLong None input text = ⊥
IsTooLong (Some most) input text = (most < length input) × (text ≡ line_text (codes "refused: too long"))

-- what is so where a status is done, and what where it is refused; no other comes with a text
abbrev pub ByStatus : Type 0 → Type 0 → Status → Type 0
ByStatus IsDone IsRefused ends.Done = IsDone
ByStatus IsDone IsRefused ends.No = ⊥
ByStatus IsDone IsRefused ends.Usage = ⊥
ByStatus IsDone IsRefused ends.Refused = IsRefused
ByStatus IsDone IsRefused ends.ReadFault = ⊥
ByStatus IsDone IsRefused ends.WriteFault = ⊥
ByStatus IsDone IsRefused ends.DeviceFault = ⊥
ByStatus IsDone IsRefused ends.NoMemory = ⊥

-- the statuses of an answer
abbrev pub HasText : Status → Type 0
HasText status = (status ≡ ends.Done) ⊎ (status ≡ ends.Refused)

-- the text that is written for what is asked, by the status, the input and what the devices hold, and the gate that is
-- handed out with it
abbrev pub IsAnswer : Asked → Status → List ℕ → Option Contents → Option Closed → List ℕ → Type 0
IsAnswer asked status input held closed text =
    IsTooLong (row asked).most_input input text × (status ≡ ends.Refused)
    ⊎ Fits (row asked).most_input input
    × ByStatus ((row asked).IsDone input held closed text) ((row asked).IsRefused input held text) status

-- what is told of the input, and nothing where it isn't read
abbrev pub input_for : Option ℕ → Option (List ℕ) → Option (List ℕ)
input_for None told = Some []
input_for (Some most) told = told

-- it is so of the input, where that is told
abbrev pub WhereTold : Asked → Option (List ℕ) → (List ℕ → Type 0) → Type 0
WhereTold asked input IsSo = IfSome (input_for (row asked).most_input input) IsSo
