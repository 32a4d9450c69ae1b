use Rattle.std.proofs.Common.{◌≡◌, ◌∙◌, ℕ, ◌-◌, ◌*◌, ◌^◌, ◌<◌, List, [], length, take, drop, ap, sym, subst}
use Rattle.std.specs.Prelude.{slice_index_or}
use Rattle.std.specs.Int.{div_ceil}
use Rattle.fsv_tree.specs.Descriptor.{DescriptorParts}
use Rattle.fsv_file.specs.File.{FileParts, blocks_of, file_block_size, path_to, tree_of_file}
use Rattle.hash_tree.specs.Tree.{data_blocks, filled}
use Rattle.stored_tree.specs.Checked.{failing}
use Rattle.ipe_objects.specs.Contents.{file_fault_at}
use Rattle.ipe_objects.specs.Devices.{bytes_under}
use Rattle.ipe_objects.proofs.Checking.{range_found, range_more}
use Rattle.ipe_objects.proofs.Parts.{part-is}
use Rattle.ipe_objects.proofs.reading.file_fault.Goals as goal

pub loop-i-preserved : goal.loop-i-preserved
loop-i-preserved c =
    let images = c.args.images.now in
    let bytes : List ℕ = c.args.bytes.now in
    let file : FileParts = c.args.file.now in
    let size : ℕ = c.block_size-size.result in
    let i : ℕ = c.loop-i.i in
    let part : List ℕ = take (c.lesser.result - i * size) (drop (i * size) bytes) in
    let within : i < blocks_of c.args.descriptor.now =
    subst (λ (n : ℕ). i < n) c.blocks-i-end.ensures.value c.loop-i-test.true in
    let inside : i < div_ceil (length bytes) size =
    subst (λ (n : ℕ). i < n)
    (ap (λ (n : ℕ). div_ceil n (2 ^ c.args.descriptor.now.log)) (sym c.requires.size)
    ∙ ap (λ (n : ℕ). div_ceil (length bytes) n) (sym c.block_size-size.ensures.value)) within in
    let wide : size ≡ file_block_size file.descriptor =
    c.block_size-size.ensures.value ∙ ap (λ (d : DescriptorParts). 2 ^ d.log) (sym c.requires.descriptor) in
    let block : filled size part ≡ slice_index_or (data_blocks (file_block_size file.descriptor) bytes) i [] =
    ap (λ (n : ℕ). filled size (take (n - i * size) (drop (i * size) bytes))) c.lesser.ensures
    ∙ part-is size i bytes inside
    ∙ ap (λ (n : ℕ). slice_index_or (data_blocks n bytes) i []) wide in
    let here : c.in_ok-fault.field-0 ≡ file_fault_at images file bytes i =
    c.in_ok-fault.ensures.fault
    ∙ ap (λ (f : FileParts). failing (tree_of_file f) i (path_to f (bytes_under images f.device) i (filled size part)))
    c.loop-i.invariant.same
    ∙ ap (λ (b : List ℕ). failing (tree_of_file file) i (path_to file (bytes_under images file.device) i b)) block in
    record {
      left =
          range_more (file_fault_at images file bytes) i (blocks_of c.args.descriptor.now) _ within (sym here ∙ c.in-None.is)
          c.loop-i.invariant.left;
      same =
          c.in_ok-fault.ensures.same
          ∙ ap (λ (f : FileParts). record f { path = c.part_fault.new.file.path }) c.loop-i.invariant.same;
    }

pub returns-in-Some : goal.returns-in-Some
returns-in-Some c =
    let images = c.args.images.now in
    let bytes : List ℕ = c.args.bytes.now in
    let file : FileParts = c.args.file.now in
    let size : ℕ = c.block_size-size.result in
    let i : ℕ = c.loop-i.i in
    let part : List ℕ = take (c.lesser.result - i * size) (drop (i * size) bytes) in
    let within : i < blocks_of c.args.descriptor.now =
    subst (λ (n : ℕ). i < n) c.blocks-i-end.ensures.value c.loop-i-test.true in
    let inside : i < div_ceil (length bytes) size =
    subst (λ (n : ℕ). i < n)
    (ap (λ (n : ℕ). div_ceil n (2 ^ c.args.descriptor.now.log)) (sym c.requires.size)
    ∙ ap (λ (n : ℕ). div_ceil (length bytes) n) (sym c.block_size-size.ensures.value)) within in
    let wide : size ≡ file_block_size file.descriptor =
    c.block_size-size.ensures.value ∙ ap (λ (d : DescriptorParts). 2 ^ d.log) (sym c.requires.descriptor) in
    let block : filled size part ≡ slice_index_or (data_blocks (file_block_size file.descriptor) bytes) i [] =
    ap (λ (n : ℕ). filled size (take (n - i * size) (drop (i * size) bytes))) c.lesser.ensures
    ∙ part-is size i bytes inside
    ∙ ap (λ (n : ℕ). slice_index_or (data_blocks n bytes) i []) wide in
    let here : c.in_ok-fault.field-0 ≡ file_fault_at images file bytes i =
    c.in_ok-fault.ensures.fault
    ∙ ap (λ (f : FileParts). failing (tree_of_file f) i (path_to f (bytes_under images f.device) i (filled size part)))
    c.loop-i.invariant.same
    ∙ ap (λ (b : List ℕ). failing (tree_of_file file) i (path_to file (bytes_under images file.device) i b)) block in
    range_found (file_fault_at images file bytes) i (blocks_of c.args.descriptor.now) c.in-Some.fault _ within
    (sym c.in-Some.is ∙ here) c.loop-i.invariant.left
