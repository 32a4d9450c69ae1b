-- What is counted of entries.
use Rattle.std.specs.Prelude.{ℤ, pos, Bool, true, false, count_by, List, Option, is_some}
use Rattle.std.specs.Ordering.{int_eq}
use Rattle.ipe_machine.specs.declared.event.Place.{Place}
use Rattle.ipe_transcript.specs.declared.transcript.Entry.{Entry}
use Rattle.ipe_transcript.specs.declared.transcript.Entry.TheVariants as entry
use Rattle.ipe_replay.specs.declared.counts.Counted.{Counted}
use Rattle.ipe_replay.specs.declared.counts.Counted.TheVariants.{Hooks, Placed, Commands, Done}
use Rattle.ipe_replay.specs.declared.counts.Tally.{Tally}

-- an entry of the administrator with this code is counted
abbrev pub is_counted_command : Counted → ℤ → Bool
is_counted_command Hooks code = false
is_counted_command Placed code = false
is_counted_command Commands code = true
is_counted_command Done code = int_eq code (pos 0)

-- the entry of a hook with this place is counted
abbrev pub is_counted_hook : Counted → Option Place → Bool
is_counted_hook Hooks place = true
is_counted_hook Placed place = is_some place
is_counted_hook Commands place = false
is_counted_hook Done place = false

-- an entry is counted
abbrev pub is_counted : Counted → Entry → Bool
is_counted what (entry.Write phase line may code epoch switched records) = is_counted_command what code
is_counted what (entry.Read phase line code epoch bytes) = is_counted_command what code
is_counted what (entry.Hook phase line worker code place serial by access content) = is_counted_hook what place

-- how many of entries are those of hooks, of hooks with a place, of the administrator, and of these with the code 0
abbrev pub tally_of : List Entry → Tally
tally_of entries = record {
  hooks = count_by (is_counted Hooks) entries;
  placed = count_by (is_counted Placed) entries;
  commands = count_by (is_counted Commands) entries;
  done = count_by (is_counted Done) entries;
}
