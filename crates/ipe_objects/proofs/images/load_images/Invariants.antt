use Rattle.std.proofs.Common.{◌≡◌, ℕ, ◌≤◌, List, drop, map, take}
use Rattle.std.specs.Prelude.{All, IfSome}
use Rattle.blk_device.specs.Contents.{HasContent}
use Rattle.ipe_objects.specs.Devices.{HasRoom, named_devices, need_of}
use Rattle.ipe_objects.specs.Firsts.{first_some}
use Rattle.ipe_objects.specs.Loading.{first_refusal, refusal_of}
use Rattle.ipe_objects.proofs.images.load_images.Given as goal

-- what is loaded so far, and that what is refused among the devices that are left is what is refused among all
abbrev pub invariant-loop-name : goal.invariant-loop-name
invariant-loop-name g l = record {
  names : map (λ (item : List ℕ × List ℕ). item.0) l.items.items ≡ take l.name-index (named_devices l.requests);
  rooms : All (λ (item : List ℕ × List ℕ). HasRoom (need_of l.requests item.0) item.1) l.items.items;
  contents : All (λ (item : List ℕ × List ℕ). HasContent (g.D.Devices.contents l.fn.devices) item.0 item.1) l.items.items;
  refused : IfSome (g.D.Devices.contents l.fn.devices) (λ told.
      first_some (refusal_of l.requests told) (drop l.name-index (named_devices l.requests)) ≡ first_refusal l.requests told);
  same : g.D.Devices.contents l.devices ≡ g.D.Devices.contents l.fn.devices;
  never_falls : g.D.Devices.faults l.fn.devices ≤ g.D.Devices.faults l.devices;
}
