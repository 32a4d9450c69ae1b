use Rattle.std.proofs.Common.{rules, ap, sym, ◌∙◌, refl, arith}
use Rattle.std.specs.Prelude.{take}
use Rattle.hash_tree.specs.Tree.{filled}
use Rattle.hash_tree.proofs.HashBlocks.{length-filled}
use Rattle.std.proofs.lemmas.List.{take_all}
use Rattle.fsv_tree.proofs.Files.{salt_none, salt_some, copied}
use Rattle.fsv_tree.proofs.salt.BlockSalt.new.Goals as goal

pub returns-then-is_empty : goal.returns-then-is_empty
returns-then-is_empty c = sym (salt_none c.args.salt.now (search rules))

pub returns : goal.returns
returns c =
    let row = copied 64 c.args.salt.now c.copy_from_slice.new.self _ c.copy_from_slice.ensures.after refl in
    (ap (λ xs. take 64 xs) row ∙ take_all 64 (filled 64 c.args.salt.now) (omega (arith, length-filled 64 c.args.salt.now (search rules))))
    ∙ sym (salt_some c.args.salt.now (search rules))
