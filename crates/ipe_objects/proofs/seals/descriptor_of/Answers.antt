use Rattle.std.proofs.Common.{◌≡◌, ◌∙◌, ℕ, ◌+◌, ◌*◌, ◌^◌, ◌<◌, ◌≤◌, length, ap, sym, subst}
use Rattle.fsv_file.specs.File.{tree_of_file}
use Rattle.stored_tree.specs.Stored.{end_of}
use Rattle.ipe_objects.specs.Devices.{bytes_under}
use Rattle.ipe_objects.specs.Seals.{sealed_file}
use Rattle.ipe_objects.proofs.Sealing.{accepted-is, beyond-is, refused-is}
use Rattle.ipe_objects.proofs.seals.descriptor_of.Goals as goal

pub returns-in-Err-clause-refused : goal.returns-in-Err-clause-refused
returns-in-Err-clause-refused c =
    refused-is c.args.images.now c.args.seal.now c.args.size c.in-Err.bad.byte c.bytes_under-device.result.now
    c.array_of-bytes.result (c.bytes_under-device.ensures ∙ ap (bytes_under c.args.images.now) c.as_slice.ensures)
    c.array_of-bytes.ensures c.in-Err.ensures.first

pub returns-then-tree_at-tree-clause-refused : goal.returns-then-tree_at-tree-clause-refused
returns-then-tree_at-tree-clause-refused c =
    let end : end_of (tree_of_file (sealed_file c.args.seal.now c.in-Ok.descriptor))
    ≡ c.args.seal.now.at + 256 + c.tree_blocks.result * c.from.result =
    sym (ap (λ (n : ℕ). c.args.seal.now.at + 256 + c.tree_blocks.result * n) (c.from.ensures ∙ c.block_size.ensures.value)
    ∙ ap (λ (n : ℕ). c.args.seal.now.at + 256 + n * 2 ^ c.in-Ok.descriptor.log) c.tree_blocks.ensures.count) in
    beyond-is c.args.images.now c.args.seal.now c.args.size c.bytes_under-device.result.now c.array_of-bytes.result
    c.in-Ok.descriptor (c.bytes_under-device.ensures ∙ ap (bytes_under c.args.images.now) c.as_slice.ensures)
    c.array_of-bytes.ensures c.in-Ok.ensures.sound c.in-Ok.ensures.said
    (subst (λ (n : ℕ). length c.bytes_under-device.result.now < n) (sym end) c.if-tree_at-tree.true)

pub returns-else-tree_at-tree-clause-accepted : goal.returns-else-tree_at-tree-clause-accepted
returns-else-tree_at-tree-clause-accepted c =
    let end : end_of (tree_of_file (sealed_file c.args.seal.now c.in-Ok.descriptor))
    ≡ c.args.seal.now.at + 256 + c.tree_blocks.result * c.from.result =
    sym (ap (λ (n : ℕ). c.args.seal.now.at + 256 + c.tree_blocks.result * n) (c.from.ensures ∙ c.block_size.ensures.value)
    ∙ ap (λ (n : ℕ). c.args.seal.now.at + 256 + n * 2 ^ c.in-Ok.descriptor.log) c.tree_blocks.ensures.count) in
    accepted-is c.args.images.now c.args.seal.now c.args.size c.bytes_under-device.result.now c.array_of-bytes.result
    c.in-Ok.descriptor (c.bytes_under-device.ensures ∙ ap (bytes_under c.args.images.now) c.as_slice.ensures)
    c.array_of-bytes.ensures c.in-Ok.ensures.sound c.in-Ok.ensures.said
    (subst (λ (n : ℕ). n ≤ length c.bytes_under-device.result.now) (sym end) c.if-tree_at-tree.false)
