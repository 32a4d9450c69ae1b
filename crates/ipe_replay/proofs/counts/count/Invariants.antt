use Rattle.std.proofs.Common.{◌≡◌, take, count_by}
use Rattle.ipe_lines.specs.Told.{one_list}
use Rattle.ipe_replay.specs.Counts.{is_counted}
use Rattle.ipe_replay.proofs.counts.count.Given as goal

-- the entries of the phases so far are counted
abbrev pub invariant-loop-phase : goal.invariant-loop-phase
invariant-loop-phase l = l.count ≡ count_by (is_counted l.what) (one_list (take l.phase-index l.phases))
