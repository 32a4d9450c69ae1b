use Rattle.std.proofs.Common.{rules, ◌≡◌, List, ℕ, get_or, [], Ok}
use Rattle.std.specs.Prelude.{IsErrOf, OnOk}
use Rattle.blk_device.specs.declared.devices.VerityError.TheVariants.{DeviceFault}
use Rattle.stored_tree.specs.Checked.{IsOfImage}
use Rattle.stored_tree.specs.Stored.{HoldsTreeOf, OfHashes}
use Rattle.fsv_file.specs.File.{tree_of_file}
use Rattle.fsv_file.proofs.Answering.{after_ok, complete, of_file}
use Rattle.fsv_file.proofs.file.FsvFile.check_block.Goals as goal

pub returns-clause-file : goal.returns-clause-file
returns-clause-file g c =
    let file = c.args.self.now in
    let image : OnOk c.check_block.result (IsOfImage (tree_of_file file) c.args.i c.check_block.new.self
    c.args.block.now) = search rules in
    after_ok c.check_block.result _ _ (of_file c.roots_are_of_trees.ensures file c.args.i c.check_block.new.self c.args.block.now
    c.requires.block) image

pub returns-clause-complete : goal.returns-clause-complete
returns-clause-complete g c =
    let file = c.args.self.now in
    let whole : OfHashes (g.D.Devices.contents c.args.dev.now) (tree_of_file file) (λ hashes. (image : List (List ℕ)) →
    HoldsTreeOf (tree_of_file file) hashes image → c.args.block.now ≡ get_or image c.args.i [] →
    (IsErrOf c.check_block.result DeviceFault → ⊥) → c.check_block.result ≡ Ok tt) = search rules in
    complete (g.D.Devices.contents c.args.dev.now) file c.args.block.now c.args.i c.check_block.result whole
