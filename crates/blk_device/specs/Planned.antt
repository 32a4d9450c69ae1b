-- Devices in memory, with a plan of the calls that fail.
use Rattle.std.specs.Prelude.{ℕ, ◌-◌, min, Bool, cond, List, ◌++◌, length, take, drop, Option, Some, None, Result, Ok, Err}
use Rattle.ipe_words.specs.Count.{counted}
use Rattle.ipe_words.specs.Memory.{is_planned}
use Rattle.blk_device.specs.Contents.{Contents}
use Rattle.blk_device.specs.declared.devices.DevError.{DevError}
use Rattle.blk_device.specs.declared.devices.DevError.TheVariants.{Missing}

-- their contents, the numbers of the calls that fail, and the calls and the faults so far
pub record Planned : Type 0 where
  pub items : Contents
  pub plan : List ℕ
  pub calls : ℕ
  pub faults : ℕ

-- the next call fails: it is planned to
abbrev pub call_fails : Planned → Bool
call_fails devices = is_planned devices.plan (counted devices.calls)

-- the devices after the next call
abbrev pub after_call : Planned → Planned
after_call devices = record devices {
  calls = counted devices.calls;
  faults = cond (call_fails devices) (counted devices.faults) devices.faults;
}

-- how many bytes there are, unless there is no device
abbrev pub size_of : Option (List ℕ) → Result ℕ DevError
size_of None = Err Missing
size_of (Some all) = Ok (length all)

-- how many bytes a read from `at` on gives into a buffer of this length, unless there is no device
abbrev pub count_of : Option (List ℕ) → ℕ → ℕ → Result ℕ DevError
count_of None at room = Err Missing
count_of (Some all) at room = Ok (min (length all - at) room)

-- a buffer whose front these bytes were written into, as many as fit
abbrev pub over : List ℕ → List ℕ → List ℕ
over bytes buffer = take (length buffer) bytes ++ drop (length bytes) buffer

-- the buffer after such a read
abbrev pub buffer_of : Option (List ℕ) → ℕ → List ℕ → List ℕ
buffer_of None at buffer = buffer
buffer_of (Some all) at buffer = over (drop at all) buffer
