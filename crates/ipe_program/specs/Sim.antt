-- What is written for a roll-out.
use Rattle.std.specs.Prelude.{◌≡◌, ℕ, List, Option, Some}
use Rattle.ipe_gate.specs.declared.meeting.Closed.{Closed}
use Rattle.ipe_roll_out.specs.RollOut.{IsRollOut}

-- the roll-out of a seed ran on the gate that is handed out, and the text tells what it came to
pub record IsSim (seed : ℕ) (closed : Option Closed) (text : List ℕ) : Type 0 where
  pub gate : Closed
  pub handed_out : closed ≡ Some gate
  pub rolled : IsRollOut seed gate text
