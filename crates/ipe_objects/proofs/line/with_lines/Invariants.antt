use Rattle.std.proofs.Common.{◌≡◌, drop}
use Rattle.std.specs.List.{flat_map}
use Rattle.ipe_objects.specs.Devices.{with_named}
use Rattle.ipe_objects.proofs.line.with_lines.Given as goal

-- the names so far with those of the lines that are left are the names of all
abbrev pub invariant-loop-line : goal.invariant-loop-line
invariant-loop-line g l =
    with_named l.more (flat_map g.T.NamesDevices.namings (drop l.line-index l.lines))
    ≡ with_named l.fn.names (flat_map g.T.NamesDevices.namings l.lines)
