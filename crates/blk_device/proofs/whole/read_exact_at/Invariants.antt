use Rattle.std.proofs.Common.{◌≡◌, ◌-◌, ◌≤◌, length}
use Rattle.blk_device.proofs.Filling.{FilledTo}
use Rattle.blk_device.proofs.whole.read_exact_at.Given as goal

-- the front of the buffer is read, the device holds what it held, and no fault was taken back
abbrev pub invariant-loop-done : goal.invariant-loop-done
invariant-loop-done g l = record {
  filled : FilledTo (g.D.Devices.contents l.initial.devices) l.name l.at l.out l.done;
  same : g.D.Devices.contents l.devices ≡ g.D.Devices.contents l.initial.devices;
  faults : g.D.Devices.faults l.initial.devices ≤ g.D.Devices.faults l.devices;
}

abbrev pub decreases-loop-done : goal.decreases-loop-done
decreases-loop-done g l = length l.initial.out - l.done
