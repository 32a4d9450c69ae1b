use Rattle.std.proofs.Common.{◌≡◌, drop, max, min}
use Rattle.std.specs.List.{flat_map}
use Rattle.ipe_objects.specs.Devices.{need_in}
use Rattle.ipe_objects.proofs.line.need_of_lines.Given as goal

-- the need so far and that of the lines that are left are the need of all
abbrev pub invariant-loop-line : goal.invariant-loop-line
invariant-loop-line g l =
    max l.need (min (need_in (flat_map g.T.NamesDevices.namings (drop l.line-index l.lines)) l.name) 18446744073709551615)
    ≡ min (need_in (flat_map g.T.NamesDevices.namings l.lines) l.name) 18446744073709551615
