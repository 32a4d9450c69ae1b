-- How many bytes declared files have.
use Rattle.std.proofs.Common.{◌≡◌, ℕ, ◌+◌, ◌*◌, ◌≤◌, List, [], ◌∷◌, ◌++◌, length, take, drop, Option, Some, None, refl, ap, sym, subst, arith, inl, inr, length-append, length-take, length-drop}
use Rattle.std.specs.Prelude.{IsSomeAnd}
use Rattle.std.specs.List.{concat, flat_map}
use Rattle.std.specs.Option.{option_map_or, unwrap_or}
use Rattle.blk_device.specs.Contents.{Contents, content}
use Rattle.dmv_volume.specs.Reading.{data_need}
use Rattle.ipe_requests.specs.declared.script.TextLine.{TextLine}
use Rattle.ipe_requests.specs.declared.script.VolumeLine.{VolumeLine}
use Rattle.ipe_requests.specs.declared.script.FileForm.{FileForm}
use Rattle.ipe_requests.specs.declared.script.FileForm.TheVariants as form
use Rattle.ipe_requests.specs.declared.script.FileLine.{FileLine}
use Rattle.ipe_requests.specs.declared.line.Line.TheVariants as line
use Rattle.ipe_requests.specs.Law.{IsOfFile}
use Rattle.ipe_requests.specs.Requests.{Script, text_of, volume_of}
use Rattle.ipe_requests.specs.Spelling.{file_text, head_text, mark_text, phase_text, said_text, seal_text, text_text, volume_text}
use Rattle.ipe_objects.specs.Devices.{AreImages, HasRoom, bytes_under, most_bytes, named_by_form}
use Rattle.ipe_objects.specs.Files.{bytes_by, range_of, volume_data}
use Rattle.ipe_objects.proofs.Standing.{Stands, stands-find}
use Rattle.ipe_objects.proofs.Loaded.{data-named, file-named, room_of}

-- each text is within all of them
text-within : (f : TextLine → List ℕ) → ((text : TextLine) → length text.bytes ≤ length (f text)) → (text : TextLine)
    (texts : List TextLine) → Stands text texts → length text.bytes ≤ length (flat_map f texts)
text-within f each text [] stands = absurd stands
text-within f each text (other ∷ texts) (inl is) =
    let same : length other.bytes ≡ length text.bytes = ap (λ (t : TextLine). length t.bytes) is in
    omega (arith, same, each other, length-append (f other) (flat_map f texts))
text-within f each text (other ∷ texts) (inr among) =
    omega (arith, text-within f each text texts among, length-append (f other) (flat_map f texts))

inner-le : (a b c d : List ℕ) → length b ≤ length (a ++ (b ++ c) ++ d)
inner-le a b c d =
    omega (arith, length-append (a ++ (b ++ c)) d, length-append a (b ++ c), length-append b c)

ends-with-le : (a b : List ℕ) → length b ≤ length (a ++ b)
ends-with-le a b = omega (arith, length-append a b)

-- a text isn't longer than its file
pub text-few : (script : Script) → IsOfFile script → (id : List ℕ) (text : TextLine) → text_of script id ≡ Some text
    → length text.bytes ≤ most_bytes
text-few script of_file id text found =
    let within : length text.bytes ≤ length (flat_map text_text script.texts) =
    text-within text_text
    (λ (t : TextLine). ends-with-le
    (said_text (line.Text (record { line = t.line; id = t.id; lines = t.lines; bytes = [] }))) t.bytes)
    text script.texts (stands-find _ script.texts text found) in
    let all : length (flat_map text_text script.texts) ≤ 16777216 =
    omega (
      arith,
      of_file.few,
      inner-le (head_text script.workers) (flat_map text_text script.texts)
          (concat (
          flat_map volume_text script.volumes
          ∷ flat_map file_text script.files
          ∷ flat_map seal_text script.seals
          ∷ flat_map mark_text script.marks
          ∷ flat_map phase_text script.phases
          ∷ [])) (said_text line.End),
    ) in
    omega (arith, within, all)

part-le : (size at : ℕ) (bytes : List ℕ) → length (take size (drop at bytes)) ≤ length bytes
part-le size at bytes = omega (arith, length-take size (drop at bytes), length-drop at bytes)

range-le : (images : Contents) (first size : ℕ) (volume : VolumeLine)
    → length (range_of images first size volume.table) ≤ length (bytes_under images volume.table.device)
range-le images first size volume =
    omega (
      arith,
      part-le size (first * volume.table.block_size) (volume_data images volume.table),
      length-take (data_need volume.table) (bytes_under images volume.table.device),
    )

room-few : (need : ℕ) (o : Option (List ℕ)) → IsSomeAnd o (HasRoom need) → length (unwrap_or o []) ≤ most_bytes
room-few need None room = absurd room
room-few need (Some bytes) room = room.few

-- a declared file has at most so many bytes
pub bytes-few : (script : Script) (images : Contents) → IsOfFile script → AreImages script images → (file : FileLine)
    → Stands file script.files → length (bytes_by script images file.form) ≤ most_bytes
bytes-few script images of_file are file stands = by file.form refl
  where
    text-by : (id : List ℕ) (o : Option TextLine) → text_of script id ≡ o
        → length (option_map_or (λ (text : TextLine). text.bytes) o []) ≤ most_bytes
    text-by id None is = omega arith
    text-by id (Some text) is = text-few script of_file id text is

    volume-by : (id : List ℕ) (first size : ℕ) (o : Option VolumeLine) → volume_of script id ≡ o
        → length (option_map_or (λ (volume : VolumeLine). range_of images first size volume.table) o []) ≤ most_bytes
    volume-by id first size None is = omega arith
    volume-by id first size (Some volume) is =
        let room : IsSomeAnd (content volume.table.device images) (HasRoom (data_need volume.table)) =
        room_of script images are _ (data-named script volume (stands-find _ script.volumes volume is)) in
        omega (arith, range-le images first size volume, room-few (data_need volume.table) (content volume.table.device images) room)

    by : (f : FileForm) → file.form ≡ f → length (bytes_by script images f) ≤ most_bytes
    by (form.Boot dev ino text) is = text-by text (text_of script text) refl
    by (form.Volume volume first size ino) is = volume-by volume first size (volume_of script volume) refl
    by (form.Plain device at size dev ino) is =
        let room : IsSomeAnd (content device images) (HasRoom (at + size)) =
        room_of script images are (record { name = device; need = at + size }) (file-named script file _ stands
        (subst (λ (f : FileForm). Stands (record { name = device; need = at + size }) (named_by_form f)) (sym is) (inl refl))) in
        omega (arith, part-le size at (bytes_under images device), room-few (at + size) (content device images) room)
