use Rattle.std.proofs.Common.{◌≡◌, length, map, take}
use Rattle.ipe_objects.specs.Places.{PlacesAre}
use Rattle.ipe_objects.proofs.places.Places.of.Given as goal

-- the names so far have their places
abbrev pub invariant-loop-place : goal.invariant-loop-place
invariant-loop-place g l = record {
  are : PlacesAre l.placed (map g.T.Named.name_of (take l.place l.items));
  even : length l.placed.places ≡ length l.placed.names;
}
