-- What a call of the program promises, whatever it is asked for.
use Rattle.std.specs.Prelude.{⊤, ◌≡◌, ◌≢◌, ◌<◌, ℕ, false, List, [], length, Option, Some, None, IfSome, ◌⊎◌}
use Rattle.blk_device.specs.Contents.{Contents}
use Rattle.ipe_gate.specs.declared.meeting.Closed.{Closed}
use Rattle.ipe_program.specs.declared.asked.Asked.{Asked}
use Rattle.ipe_program.specs.Table.{AreAccepted, row, HasText, IsAnswer, WhereTold}
use Rattle.ipe_words.specs.Count.{Rose}
use Rattle.ipe_words.specs.Sink.{Appends, AppendsPrefix}
use Rattle.ipe_words.specs.declared.status.Status.{Status}
use Rattle.ipe_words.specs.declared.status.Status.TheVariants as ends

-- a source, a sink or devices that a call is handed: before and after it, what they tell, and the count of their faults
pub record Handed (A T : Type 0) : Type 0 where
  pub before : A
  pub after : A
  pub tells : A → Option T
  pub faults : A → ℕ

-- one that tells this and counts so, before and after
abbrev pub handed : {A T : Type 0} → (A → Option T) → (A → ℕ) → A → A → Handed A T
handed tells faults before after = record { before = before; after = after; tells = tells; faults = faults }

-- no source and no devices
abbrev pub nothing : {T : Type 0} → Handed ⊤ T
nothing = record { before = tt; after = tt; tells = λ none. None; faults = λ none. 0 }

-- their count of faults rose in the call
abbrev pub Failed : {A T : Type 0} → Handed A T → Type 0
Failed handed = Rose (handed.faults handed.before) (handed.faults handed.after)

-- the input, where it is wanted, was read to its end, or it is above the limit and refused
abbrev pub IsRead : Option ℕ → Status → Option (List ℕ) → Option (List ℕ) → Type 0
IsRead None status before after = ⊤
IsRead (Some most) status before after =
    IfSome before (λ input. (after ≡ Some []) ⊎ (most < length input) × (status ≡ ends.Refused))

-- what is handed out by a call: before and after it
pub record Out (A : Type 0) : Type 0 where
  pub before : A
  pub after : A

-- nothing can be handed out
abbrev pub no_gate : Out (Option Closed)
no_gate = record { before = None; after = None }

-- a call that was asked for this and ended with this status
pub record Serves {S K D : Type 0} (asked : Asked) (status : Status) (source : Handed S (List ℕ)) (sink : Handed K (List ℕ)) (devices : Handed D Contents) (closed : Out (Option Closed)) : Type 0 where
  -- an answer is the text of its status, added whole to what was written; the gate of a replay is handed out with it
  pub answer : HasText status →
      WhereTold asked (source.tells source.before) (λ input.
      (text : List ℕ) × IsAnswer asked status input (devices.tells devices.before) closed.after text
      × Appends (sink.tells sink.before) (sink.tells sink.after) text)
  pub read : HasText status →
      IsRead (row asked).most_input status (source.tells source.before) (source.tells source.after)
  -- faults come only where they were counted
  pub read_fault : status ≡ ends.ReadFault → Failed source
  pub device_fault : status ≡ ends.DeviceFault → Failed devices
  pub write_fault : status ≡ ends.WriteFault → Failed sink
  -- after a fault of the sink some first bytes of an answer were added
  pub prefix : status ≡ ends.WriteFault →
      WhereTold asked (source.tells source.before) (λ input.
      (answered : Status) × (gate : Option Closed) × (text : List ℕ)
      × IsAnswer asked answered input (devices.tells devices.before) gate text
      × AppendsPrefix (sink.tells sink.before) (sink.tells sink.after) text)
  -- without an answer nothing is written
  pub unwritten : (status ≡ ends.ReadFault) ⊎ (status ≡ ends.DeviceFault) ⊎ (status ≡ ends.NoMemory) →
      sink.after ≡ sink.before
  -- where all is accepted and no fault was counted, it is done, unless memory ran out
  pub complete : (Failed source → ⊥) → (Failed sink → ⊥) → (Failed devices → ⊥) →
      WhereTold asked (source.tells source.before) (λ input.
      AreAccepted asked input (devices.tells devices.before) → (status ≡ ends.Done) ⊎ (status ≡ ends.NoMemory))
  -- only what the answer is made of is read or asked
  pub source_stays : (row asked).most_input ≡ None → source.after ≡ source.before
  pub devices_stay : (row asked).asks_devices ≡ false → devices.after ≡ devices.before
  pub contents_stay : devices.tells devices.after ≡ devices.tells devices.before
  -- a gate is handed out only where one ran and all is done
  pub closed_stays : (status ≡ ends.Done → (row asked).runs_gate ≡ false) → closed.after ≡ closed.before
  -- no other status comes
  pub no_other : (status ≢ ends.Usage) × (status ≢ ends.No)

-- what a run promises, by what its arguments ask for: where they ask for nothing it ends with wrong usage, and nothing is
-- read, written or handed out and no device asked; else that is served
abbrev pub Runs : {S K D : Type 0} → Option Asked → Status → Handed S (List ℕ) → Handed K (List ℕ) → Handed D Contents → Out (Option Closed) → Type 0
Runs None status source sink devices closed =
    (status ≡ ends.Usage) × (source.after ≡ source.before) × (sink.after ≡ sink.before)
    × (devices.after ≡ devices.before) × (closed.after ≡ closed.before)
Runs (Some asked) status source sink devices closed = Serves asked status source sink devices closed
