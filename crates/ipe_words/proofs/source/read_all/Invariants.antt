use Rattle.std.proofs.Common.{◌≤◌, ◌-◌, vec_len}
use Rattle.ipe_words.proofs.ReadSoFar.{Took}
use Rattle.ipe_words.proofs.source.read_all.Given as goal

-- what is in the vector stood before what is left, it is within the limit, and no fault was taken back
abbrev pub invariant-reading : goal.invariant-reading
invariant-reading g l = record {
  took : Took (g.S.Source.remaining l.initial.src) (g.S.Source.remaining l.src) l.bytes.items;
  within : vec_len l.bytes ≤ l.limit;
  faults : g.S.Source.faults l.initial.src ≤ g.S.Source.faults l.src;
}

-- the room under the limit
abbrev pub decreases-reading : goal.decreases-reading
decreases-reading g l = l.limit - vec_len l.bytes
