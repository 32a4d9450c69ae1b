-- What the roll-out of a seed comes to.
use Rattle.std.specs.Prelude.{◌≡◌, ℕ, List, []}
use Rattle.ipe_gate.specs.declared.meeting.Closed.{Closed}
use Rattle.ipe_gate.specs.Meeting.{history}
use Rattle.ipe_lines.specs.Files.{files_of}
use Rattle.ipe_replay.specs.Summary.{IsSummary, summary_text}
use Rattle.ipe_replay.specs.declared.summary.Summary.{Summary}
use Rattle.ipe_sim.specs.Roll.{roll}

-- the roll-out of a seed ran on this gate, without a device, and the text tells what it came to
pub record IsRollOut (seed : ℕ) (closed : Closed) (text : List ℕ) : Type 0 where
  pub summary : Summary
  pub came_to : IsSummary (roll seed) (files_of (roll seed) []) (history closed) summary
  pub told : text ≡ summary_text summary
