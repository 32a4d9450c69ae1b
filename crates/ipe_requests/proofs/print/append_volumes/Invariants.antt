use Rattle.std.proofs.Common.{◌≡◌, ◌++◌, drop}
use Rattle.std.specs.List.{flat_map}
use Rattle.ipe_requests.specs.Spelling.{volume_text}
use Rattle.ipe_requests.proofs.print.append_volumes.Given as goal

-- what is appended, and what is left to append, is all of it
abbrev pub invariant-loop-volume : goal.invariant-loop-volume
invariant-loop-volume l =
    l.out.items ++ flat_map volume_text (drop l.volume-index l.volumes) ≡ l.fn.out.items ++ flat_map volume_text l.volumes
