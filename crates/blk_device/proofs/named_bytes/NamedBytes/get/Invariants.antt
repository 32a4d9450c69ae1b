use Rattle.std.proofs.Common.{◌≡◌, drop}
use Rattle.blk_device.specs.Contents.{content}
use Rattle.blk_device.proofs.named_bytes.NamedBytes.get.Given as goal

abbrev pub invariant-loop-item : goal.invariant-loop-item
invariant-loop-item l = content l.name (drop l.item-index l.self) ≡ content l.name l.self
