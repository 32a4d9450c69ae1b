use Rattle.std.proofs.Common.{◌≤◌, length}
use Rattle.ipe_words.proofs.Offering.{Wrote}
use Rattle.ipe_words.proofs.sink.write_all.Given as goal

-- what stood before the rest is written, and no fault was taken back
abbrev pub invariant-loop-rest : goal.invariant-loop-rest
invariant-loop-rest g l = record {
  wrote : Wrote (g.K.Sink.written l.initial.sink) (g.K.Sink.written l.sink) l.bytes l.rest;
  faults : g.K.Sink.faults l.initial.sink ≤ g.K.Sink.faults l.sink;
}

-- what is left to offer
abbrev pub decreases-loop-rest : goal.decreases-loop-rest
decreases-loop-rest g l = length l.rest
