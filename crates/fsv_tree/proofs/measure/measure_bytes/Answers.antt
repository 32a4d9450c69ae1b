use Rattle.std.proofs.Common.{◌≡◌, length, ap, ◌∙◌, arith}
use Rattle.fsv_tree.proofs.Files.{length-file_root, root_none}
use Rattle.fsv_tree.proofs.measure.measure_bytes.Goals as goal

pub array_of-root-requires : goal.array_of-root-requires
array_of-root-requires c =
    let one : length c.as_slice.result.now ≡ 32 =
    ap length c.as_slice.ensures.value
    ∙ (ap length c.in_ok-root.ensures.root
    ∙ length-file_root c.args.block_size c.args.salt.now c.args.bytes.now) in
    (omega arith, one)

pub new-requires-clause-root : goal.new-requires-clause-root
new-requires-clause-root c none =
    c.array_of-root.ensures ∙ (c.as_slice.ensures.value
    ∙ (c.in_ok-root.ensures.root ∙ root_none c.args.block_size c.args.salt.now c.args.bytes.now none))
