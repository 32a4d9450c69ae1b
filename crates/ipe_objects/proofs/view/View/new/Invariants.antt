use Rattle.std.proofs.Common.{◌≡◌, map, take}
use Rattle.dmv_volume.specs.Reading.{VolumeParts}
use Rattle.ipe_requests.specs.declared.script.VolumeLine.{VolumeLine}
use Rattle.ipe_objects.proofs.view.View.new.Given as goal

-- the volumes so far are those of the tables so far
abbrev pub invariant-loop-volume : goal.invariant-loop-volume
invariant-loop-volume l =
    map (λ (volume : VolumeParts). volume.table) l.volumes.items ≡ map (λ (volume : VolumeLine). volume.table) (take l.volume-index l.objects.script.volumes)
