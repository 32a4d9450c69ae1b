use Rattle.std.proofs.Common.{◌≡◌, ◌∙◌, ℕ, ◌+◌, ◌≤◌, List, ap, sym, subst, arith}
use Rattle.std.specs.Prelude.{IsSomeAnd}
use Rattle.line_words.specs.Words.{is_text}
use Rattle.blk_device.specs.Contents.{content}
use Rattle.fsv_tree.specs.Descriptor.{DescriptorParts}
use Rattle.fsv_file.specs.File.{FileParts, tree_of_file}
use Rattle.stored_tree.specs.Stored.{end_of}
use Rattle.ipe_requests.specs.declared.script.SealLine.{SealLine}
use Rattle.ipe_objects.specs.Devices.{HasRoom, Naming}
use Rattle.ipe_objects.specs.Seals.{sealed_file}
use Rattle.ipe_objects.proofs.Checking.{room-for, room-most}
use Rattle.ipe_objects.proofs.Loaded.{room_of, seal-named}
use Rattle.ipe_objects.proofs.Sealing.{ends-within}
use Rattle.ipe_objects.proofs.Standing.{stands-find}
use Rattle.ipe_objects.proofs.reading.own_content.Goals as goal

pub descriptor_of-requires-clause-room : goal.descriptor_of-requires-clause-room
descriptor_of-requires-clause-room c =
    let seal : SealLine = c.in-Some.seal.now in
    let images = c.args.images.now in
    let naming : Naming = record { name = seal.device; need = seal.at + 256 } in
    let room : IsSomeAnd (content seal.device images) (HasRoom (seal.at + 256)) =
    room_of c.args.declared.now images c.requires.images naming
    (seal-named c.args.declared.now seal
    (stands-find (λ (other : SealLine). is_text c.as_slice.result.now other.path) c.args.declared.now.seals seal
    (sym c.in-Some.ensures))) in
    room

pub attach-requires : goal.attach-requires
attach-requires c =
    let seal : SealLine = c.in-Some.seal.now in
    let images = c.args.images.now in
    let naming : Naming = record { name = seal.device; need = seal.at + 256 } in
    let room : IsSomeAnd (content seal.device images) (HasRoom (seal.at + 256)) =
    room_of c.args.declared.now images c.requires.images naming
    (seal-named c.args.declared.now seal
    (stands-find (λ (other : SealLine). is_text c.as_slice.result.now other.path) c.args.declared.now.seals seal
    (sym c.in-Some.ensures))) in
    room-most (seal.at + 256) (content seal.device images) room

pub overflow_add-seal : goal.overflow_add-seal
overflow_add-seal c =
    let seal : SealLine = c.in-Some.seal.now in
    let images = c.args.images.now in
    let naming : Naming = record { name = seal.device; need = seal.at + 256 } in
    let room : IsSomeAnd (content seal.device images) (HasRoom (seal.at + 256)) =
    room_of c.args.declared.now images c.requires.images naming
    (seal-named c.args.declared.now seal
    (stands-find (λ (other : SealLine). is_text c.as_slice.result.now other.path) c.args.declared.now.seals seal
    (sym c.in-Some.ensures))) in
    let few : seal.at + 256 ≤ 16777216 = room-most (seal.at + 256) (content seal.device images) room in
    omega (arith, few)

pub file_fault-requires-clause-tree : goal.file_fault-requires-clause-tree
file_fault-requires-clause-tree c =
    let seal : SealLine = c.in-Some.seal.now in
    let images = c.args.images.now in
    let naming : Naming = record { name = seal.device; need = seal.at + 256 } in
    let room : IsSomeAnd (content seal.device images) (HasRoom (seal.at + 256)) =
    room_of c.args.declared.now images c.requires.images naming
    (seal-named c.args.declared.now seal
    (stands-find (λ (other : SealLine). is_text c.as_slice.result.now other.path) c.args.declared.now.seals seal
    (sym c.in-Some.ensures))) in
    let sealed : FileParts = c.in_ok-sealed.sealed in
    let device : seal.device ≡ sealed.device = sym (c.in_ok-sealed.ensures.device ∙ c.as_slice-2.ensures) in
    let place : end_of (tree_of_file (sealed_file seal c.in-Ok.descriptor)) ≡ end_of (tree_of_file sealed) =
    ap (λ (d : DescriptorParts). end_of (tree_of_file (sealed_file seal d))) (sym c.in_ok-sealed.ensures.descriptor)
    ∙ ap (λ (at : ℕ). end_of (tree_of_file (record sealed { tree_at = at }))) (sym c.in_ok-sealed.ensures.tree_at) in
    subst (λ (name : List ℕ). IsSomeAnd (content name images) (HasRoom (end_of (tree_of_file sealed)))) device
    (subst (λ (n : ℕ). IsSomeAnd (content seal.device images) (HasRoom n)) place
    (room-for (seal.at + 256) (end_of (tree_of_file (sealed_file seal c.in-Ok.descriptor))) (content seal.device images) room
    (ends-within images seal c.size.result c.in-Ok.descriptor c.in-Ok.ensures.accepted)))
