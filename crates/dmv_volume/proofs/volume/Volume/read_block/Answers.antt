use Rattle.std.proofs.Common.{◌≡◌, ℕ, List, [], get_or, Ok, ap, sym, subst, ◌∙◌}
use Rattle.std.specs.Fork.{slice_chunk}
use Rattle.std.specs.Prelude.{IsErrOf, ◌⊎◌}
use Rattle.blk_device.specs.declared.devices.VerityError.TheVariants.{DeviceFault, Missing}
use Rattle.stored_tree.specs.Checked.{IsRightSoFar, answer_of, failing}
use Rattle.stored_tree.specs.Stored.{HasTree, HoldsTreeOf, IsStored, OfBoth, Stored, held_path}
use Rattle.dmv_volume.specs.Reading.{VolumeParts, tree_of_volume}
use Rattle.dmv_volume.proofs.Answering.{has_tree, is_stored}
use Rattle.dmv_volume.proofs.volume.Volume.read_block.Goals as goal

pub read_block-read-requires-clause-tree : goal.read_block-read-requires-clause-tree
read_block-read-requires-clause-tree g c =
    subst (λ (t : Stored). IsStored t) (sym c.stored_tree-tree.ensures)
    (is_stored c.block_sizes_are_spelled.ensures.filled c.self.inside.table c.self.invariant)

pub read_block-read-requires-clause-has_tree : goal.read_block-read-requires-clause-has_tree
read_block-read-requires-clause-has_tree g c =
    let told = g.D.Devices.contents c.args.dev.now in
    subst (λ (t : Stored). HasTree told t) (sym c.stored_tree-tree.ensures)
    (subst (λ (v : VolumeParts). HasTree told (tree_of_volume v.table)) (sym c.self.view_is)
    (has_tree told c.args.self.now.table c.requires.has_hashes))

pub returns-clause-right : goal.returns-clause-right
returns-clause-right g c =
    let result = c.read_block-read.result in
    let is = c.stored_tree-tree.ensures ∙ ap (λ (v : VolumeParts). tree_of_volume v.table) c.self.view_is in
    subst (λ (t : Stored). IsErrOf result DeviceFault ⊎ IsErrOf result Missing →
    IsRightSoFar t c.args.i c.read_block-read.new.self) is c.read_block-read.ensures.right

pub returns-clause-answer : goal.returns-clause-answer
returns-clause-answer g c =
    let told = g.D.Devices.contents c.args.dev.now in
    let result = c.read_block-read.result in
    let i = c.args.i in
    let is = c.stored_tree-tree.ensures ∙ ap (λ (v : VolumeParts). tree_of_volume v.table) c.self.view_is in
    let named = c.device.ensures ∙ ap (λ (v : VolumeParts). v.table.device) c.self.view_is in
    subst (λ (t : Stored). OfBoth told c.args.self.now.table.device t (λ bytes hashes.
    (IsErrOf result DeviceFault → ⊥) → result ≡ answer_of (failing t i (held_path t bytes hashes i)))) is
    (subst (λ (name : List ℕ). OfBoth told name c.stored_tree-tree.result (λ bytes hashes.
    (IsErrOf result DeviceFault → ⊥) →
    result ≡ answer_of (failing c.stored_tree-tree.result i (held_path c.stored_tree-tree.result bytes hashes i))))
    named c.read_block-read.ensures.answer)

pub returns-clause-complete : goal.returns-clause-complete
returns-clause-complete g c =
    let told = g.D.Devices.contents c.args.dev.now in
    let result = c.read_block-read.result in
    let i = c.args.i in
    let is = c.stored_tree-tree.ensures ∙ ap (λ (v : VolumeParts). tree_of_volume v.table) c.self.view_is in
    let named = c.device.ensures ∙ ap (λ (v : VolumeParts). v.table.device) c.self.view_is in
    subst (λ (t : Stored). OfBoth told c.args.self.now.table.device t (λ bytes hashes.
    (image : List (List ℕ)) → HoldsTreeOf t hashes image → slice_chunk bytes t.block_size i ≡ get_or image i [] →
    (IsErrOf result DeviceFault → ⊥) → result ≡ Ok tt)) is
    (subst (λ (name : List ℕ). OfBoth told name c.stored_tree-tree.result (λ bytes hashes.
    (image : List (List ℕ)) → HoldsTreeOf c.stored_tree-tree.result hashes image →
    slice_chunk bytes c.stored_tree-tree.result.block_size i ≡ get_or image i [] →
    (IsErrOf result DeviceFault → ⊥) → result ≡ Ok tt)) named c.read_block-read.ensures.complete)
