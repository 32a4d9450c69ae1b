-- What the hash that a file comes to says of its bytes.
use Rattle.std.proofs.Common.{◌≡◌, ◌∙◌, ℕ, ◌+◌, ◌≤◌, List, [], length, Option, Some, None, Result, Ok, Err, refl, ap, sym}
use Rattle.std.specs.List.{AllByRecursion}
use Rattle.std.specs.Option.{option_and_then, option_map_or}
use Rattle.std.specs.Prelude.{IsOkAnd, IsSomeAnd}
use Rattle.sha2.specs.Sha256.{sha256}
use Rattle.line_words.specs.Words.{is_text}
use Rattle.blk_device.specs.Contents.{Contents, content}
use Rattle.stored_tree.specs.Checked.{CheckedBlocksAreOfTheImage}
use Rattle.dmv_tree.specs.Law.{HashBlocksMayHaveThem}
use Rattle.dmv_volume.specs.Reading.{data_need, hash_need}
use Rattle.fsv_tree.specs.Descriptor.{DescriptorParts}
use Rattle.fsv_tree.specs.File.{DigestsTellDescriptors, RootsAreOfTrees}
use Rattle.ipe_transcript.specs.declared.transcript.Content.TheVariants.{Hash}
use Rattle.ipe_requests.specs.declared.script.VolumeLine.{VolumeLine}
use Rattle.ipe_requests.specs.declared.script.FileForm.{FileForm}
use Rattle.ipe_requests.specs.declared.script.FileForm.TheVariants as form
use Rattle.ipe_requests.specs.declared.script.FileLine.{FileLine}
use Rattle.ipe_requests.specs.declared.script.SealLine.{SealLine}
use Rattle.ipe_requests.specs.Requests.{Script, requests_of, volume_of}
use Rattle.ipe_requests.specs.Rules.{EndsWithin, IsFileOf, IsFormOf}
use Rattle.ipe_requests.specs.Spelling.{request_text}
use Rattle.ipe_objects.specs.Contents.{content_after, content_at, content_by, file_content, file_fault, own_content, range_fault, sealed_content, volume_fault}
use Rattle.ipe_objects.specs.Devices.{AreImages, HasRoom}
use Rattle.ipe_objects.specs.Files.{bytes_by, range_of, seal_of}
use Rattle.ipe_objects.specs.Law.{AreOfEachFile, AreOfEachImage, HashedFilesAreTheImages, SaysOfSeal, SaysOfVolume}
use Rattle.ipe_objects.specs.Seals.{descriptor_of, sealed_file}
use Rattle.ipe_objects.proofs.Checking.{room-most}
use Rattle.ipe_objects.proofs.FileBytes.{is-accepted, of-each-file}
use Rattle.ipe_objects.proofs.ImageBytes.{of-each-image}
use Rattle.ipe_objects.proofs.Loaded.{data-named, hashes-named, room_of, seal-named}
use Rattle.ipe_objects.proofs.Sizes.{bytes-few}
use Rattle.ipe_objects.proofs.Standing.{all-at, stands-find}
use Rattle.ipe_objects.proofs.Tables.{IsSized, VolumesAre, volumes-sized}

-- ---- nothing fails of a file that comes to a hash

after-hash : (images : Contents) (bytes : List ℕ) (seal : Option SealLine) (fault : Option (ℕ × ℕ)) (digest : List ℕ)
    → content_after images bytes seal fault ≡ Hash digest → (fault ≡ None) × (own_content images bytes seal ≡ Hash digest)
after-hash images bytes seal None digest e = (refl, e)
after-hash images bytes seal (Some (level, block)) digest e = absurd (cc)

own-hash : (bytes : List ℕ) (fault : Option (ℕ × ℕ)) (digest : List ℕ) → file_content bytes fault ≡ Hash digest
    → (fault ≡ None) × (digest ≡ sha256 bytes)
own-hash bytes None digest e = (refl, cc)
own-hash bytes (Some (level, block)) digest e = absurd (cc)

-- ---- a file of a volume

module _ (may_have : HashBlocksMayHaveThem) (of_image : CheckedBlocksAreOfTheImage) (script : Script) (images : Contents)
    (are : AreImages script images) (sized : VolumesAre script.volumes) where
  volume-says : (name : List ℕ) (first size : ℕ) (o : Option VolumeLine) → volume_of script name ≡ o
      → EndsWithin o first size
      → option_and_then (λ (declared : VolumeLine). range_fault images first size declared.table) o ≡ None
      → IsSomeAnd o (λ (declared : VolumeLine). AreOfEachImage images declared.table first size
      (option_map_or (λ (volume : VolumeLine). range_of images first size volume.table) o []))
  volume-says name first size None found within none = absurd within
  volume-says name first size (Some volume) found within none =
      let stands = stands-find (λ (other : VolumeLine). is_text name other.id) script.volumes volume found in
      let disk : IsSomeAnd (content volume.table.device images) (HasRoom (data_need volume.table)) =
      room_of script images are _ (data-named script volume stands) in
      let hashes : IsSomeAnd (content volume.table.hash_device images) (HasRoom (hash_need volume.table)) =
      room_of script images are _ (hashes-named script volume stands) in
      of-each-image may_have of_image images volume.table first size
      (all-at (λ (v : VolumeLine). IsSized v.table) volume script.volumes sized stands) disk
      (room-most (hash_need volume.table) (content volume.table.hash_device images) hashes) within none

  form-says : (form : FileForm) → IsFormOf script form → volume_fault script images form ≡ None
      → SaysOfVolume script images form (bytes_by script images form)
  form-says (form.Boot dev ino text) of none = tt
  form-says (form.Volume volume first size ino) of none =
      volume-says volume first size (volume_of script volume) refl of.1 none
  form-says (form.Plain device at size dev ino) of none = tt

-- ---- a sealed file

-- what a hash says of a file with a seal or none
record OfSeal (images : Contents) (seal : Option SealLine) (bytes digest : List ℕ) : Type 0 where
  hash : digest ≡ sha256 bytes
  says : SaysOfSeal images seal bytes

module _ (of_image : CheckedBlocksAreOfTheImage) (root_some : RootsAreOfTrees) (tell : DigestsTellDescriptors)
    (script : Script) (images : Contents) (are : AreImages script images) (bytes digest : List ℕ)
    (few : length bytes ≤ 16777216) where
  sealed-says : (seal : SealLine) → IsSomeAnd (content seal.device images) (HasRoom (seal.at + 256))
      → (r : Result DescriptorParts ℕ) → descriptor_of images seal (length bytes) ≡ r
      → sealed_content images bytes seal r ≡ Hash digest
      → (digest ≡ sha256 bytes)
      × IsOkAnd r (λ (descriptor : DescriptorParts). AreOfEachFile images (sealed_file seal descriptor) bytes)
  sealed-says seal room (Err byte) found e = absurd (cc)
  sealed-says seal room (Ok descriptor) found e =
      let own = own-hash bytes (file_fault images bytes (sealed_file seal descriptor)) digest e in (
        own.1,
        of-each-file of_image root_some images seal bytes descriptor
            (room-most (seal.at + 256) (content seal.device images) room) few
            (is-accepted images seal (length bytes) descriptor room few found) own.0 tell,
      )

  seal-says : (path : List ℕ) (o : Option SealLine) → seal_of script path ≡ o → own_content images bytes o ≡ Hash digest
      → OfSeal images o bytes digest
  seal-says path None found e = record { hash = cc; says = tt }
  seal-says path (Some seal) found e =
      let room : IsSomeAnd (content seal.device images) (HasRoom (seal.at + 256)) =
      room_of script images are _ (seal-named script seal
      (stands-find (λ (other : SealLine). is_text path other.path) script.seals seal found)) in
      let said = sealed-says seal room (descriptor_of images seal (length bytes)) refl e in
      record { hash = said.0; says = said.1 }

-- ---- the law

pub hash-says : HashBlocksMayHaveThem → CheckedBlocksAreOfTheImage → RootsAreOfTrees → DigestsTellDescriptors
    → ((input : List ℕ) (script : Script) → requests_of input ≡ Ok script → AllByRecursion (IsFileOf script) script.files)
    → HashedFilesAreTheImages
hash-says may_have of_image root_some tell rules script images path file digest of_file are found e =
    let bytes : List ℕ = bytes_by script images file.form in
    let stands = stands-find (λ (other : FileLine). is_text path other.path) script.files file found in
    let rule : IsFileOf script file =
    all-at (IsFileOf script) file script.files (rules (request_text script) script of_file.read) stands in
    let here : content_by script images file ≡ Hash digest =
    sym (ap (content_at script images) found) ∙ e in
    let after = after-hash images bytes (seal_of script file.path) (volume_fault script images file.form) digest here in
    let own = seal-says of_image root_some tell script images are bytes digest (bytes-few script images of_file are file stands)
    file.path (seal_of script file.path) refl after.1 in
    record {
      hash = own.hash;
      volume = form-says may_have of_image script images are (volumes-sized (request_text script) script of_file.read)
          file.form rule.1 after.0;
      seal = own.says;
    }
