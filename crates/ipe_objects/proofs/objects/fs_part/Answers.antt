use Rattle.std.proofs.Common.{◌+◌, sym}
use Rattle.line_words.specs.Words.{is_text}
use Rattle.ipe_requests.specs.declared.script.SealLine.{SealLine}
use Rattle.ipe_objects.specs.Devices.{Naming}
use Rattle.ipe_objects.proofs.Loaded.{room_of, seal-named}
use Rattle.ipe_objects.proofs.Standing.{stands-find}
use Rattle.ipe_objects.proofs.objects.fs_part.Goals as goal

pub descriptor_of-requires-clause-room : goal.descriptor_of-requires-clause-room
descriptor_of-requires-clause-room g c =
    let seal : SealLine = c.in_ok-seal.seal.now in
    let naming : Naming = record { name = seal.device; need = seal.at + 256 } in
    room_of c.args.declared.now c.args.images.now c.requires.images naming
    (seal-named c.args.declared.now seal
    (stands-find (λ (other : SealLine). is_text c.as_slice.result.now other.path) c.args.declared.now.seals seal
    (sym c.in_ok-seal.ensures)))
