use Rattle.std.proofs.Common.{◌≡◌, ◌∙◌, ℕ, ◌<◌, List, [], map, set, length, get_or, position, Option, Some, None, ap, sym, subst}
use Rattle.std.specs.Prelude.{slice_index_or}
use Rattle.std.specs.List.{find}
use Rattle.std.specs.Option.{option_and_then}
use Rattle.std.proofs.lemmas.List.{get_or-map, length-map, map-set, set-get_or}
use Rattle.std.proofs.lemmas.List.Quantifiers.{position-Some}
use Rattle.std.proofs.lemmas.Option.{slice_get-get_or}
use Rattle.line_words.specs.Words.{is_text}
use Rattle.dmv_volume.specs.Reading.{VolumeParts, data_need, hash_need}
use Rattle.dmv_volume.specs.Table.{TableParts}
use Rattle.ipe_requests.specs.declared.script.VolumeLine.{VolumeLine}
use Rattle.ipe_requests.specs.Requests.{Script, volume_of}
use Rattle.ipe_objects.specs.Contents.{range_fault, volume_fault}
use Rattle.ipe_objects.specs.Devices.{Naming}
use Rattle.ipe_objects.proofs.Loaded.{data-named, hashes-named, room_of}
use Rattle.ipe_objects.proofs.Named.{if_ok}
use Rattle.ipe_objects.proofs.Placing.{named-find}
use Rattle.ipe_objects.proofs.Standing.{stands-find}
use Rattle.ipe_objects.proofs.reading.volume_fault.Goals as goal

pub returns-in_default-volume_place-clause-fault : goal.returns-in_default-volume_place-clause-fault
returns-in_default-volume_place-clause-fault c =
    let script : Script = c.args.declared.now in
    let images = c.args.images.now in
    let volumes : List VolumeLine = script.volumes in
    let name : List ℕ = c.as_slice.result.now in
    let id_of : VolumeLine → List ℕ = λ volume. volume.id in
    let nothing : Option VolumeLine = None in
    let none : None ≡ position (is_text name) (map id_of volumes) =
    sym c.in_default-volume_place.is ∙ c.volume_place.ensures in
    let found : nothing ≡ volume_of script c.in-Volume.id =
    named-find id_of name volumes None none
    ∙ ap (λ (n : List ℕ). find (λ (v : VolumeLine). is_text n v.id) volumes) c.as_slice.ensures.bytes in
    ap (λ (o : Option VolumeLine).
    option_and_then (λ (v : VolumeLine). range_fault images c.in-Volume.first c.in-Volume.size v.table) o) found
    ∙ sym (ap (volume_fault script images) c.in-Volume.is)

pub range_fault-requires-clause-table : goal.range_fault-requires-clause-table
range_fault-requires-clause-table c =
    let script : Script = c.args.declared.now in
    let images = c.args.images.now in
    let volumes : List VolumeLine = script.volumes in
    let name : List ℕ = c.as_slice.result.now in
    let place : ℕ = c.in-Some.place in
    let id_of : VolumeLine → List ℕ = λ volume. volume.id in
    let first : VolumeLine = c.index-volumes-place.result in
    let volume : VolumeLine = slice_index_or c.volumes.result.now place first in
    let at : Some place ≡ position (is_text name) (map id_of volumes) = sym c.in-Some.is ∙ c.volume_place.ensures in
    let within : place < length volumes =
    subst (λ (n : ℕ). place < n) (length-map volumes id_of)
    (position-Some (is_text name) (map id_of volumes) place [] (sym at)).0 in
    let read : volume ≡ get_or volumes place first =
    ap (λ (l : List VolumeLine). get_or l place first) c.volumes.ensures in
    let found : volume_of script c.in-Volume.id ≡ Some volume =
    sym (ap (λ (n : List ℕ). find (λ (v : VolumeLine). is_text n v.id) volumes) c.as_slice.ensures.bytes)
    ∙ sym (named-find id_of name volumes (Some place) at)
    ∙ slice_get-get_or volumes place first within
    ∙ ap Some (sym read) in
    let items : List VolumeParts = c.view.inside.volumes.items in
    let table_of : VolumeParts → TableParts = λ attached. attached.table in
    let line_table : VolumeLine → TableParts = λ line. line.table in
    let attached : VolumeParts = c.index_mut-volume.result.now in
    let tables : map table_of items ≡ map line_table volumes = c.view.view_is ∙ c.requires.view in
    let long : length items ≡ length volumes =
    sym (length-map items table_of) ∙ ap (λ (l : List TableParts). length l) tables ∙ length-map volumes line_table in
    let inside : place < length items = subst (λ (n : ℕ). place < n) (sym long) within in
    let kept : attached.table ≡ get_or (map table_of items) place volume.table =
    ap table_of c.index_mut-volume.ensures.value ∙ sym (get_or-map table_of items place attached volume.table inside) in
    kept
    ∙ ap (λ (l : List TableParts). get_or l place volume.table) tables
    ∙ get_or-map line_table volumes place first volume.table within
    ∙ ap line_table (sym read)

pub range_fault-requires-clause-data : goal.range_fault-requires-clause-data
range_fault-requires-clause-data c =
    let script : Script = c.args.declared.now in
    let images = c.args.images.now in
    let volumes : List VolumeLine = script.volumes in
    let name : List ℕ = c.as_slice.result.now in
    let place : ℕ = c.in-Some.place in
    let id_of : VolumeLine → List ℕ = λ volume. volume.id in
    let first : VolumeLine = c.index-volumes-place.result in
    let volume : VolumeLine = slice_index_or c.volumes.result.now place first in
    let at : Some place ≡ position (is_text name) (map id_of volumes) = sym c.in-Some.is ∙ c.volume_place.ensures in
    let within : place < length volumes =
    subst (λ (n : ℕ). place < n) (length-map volumes id_of)
    (position-Some (is_text name) (map id_of volumes) place [] (sym at)).0 in
    let read : volume ≡ get_or volumes place first =
    ap (λ (l : List VolumeLine). get_or l place first) c.volumes.ensures in
    let found : volume_of script c.in-Volume.id ≡ Some volume =
    sym (ap (λ (n : List ℕ). find (λ (v : VolumeLine). is_text n v.id) volumes) c.as_slice.ensures.bytes)
    ∙ sym (named-find id_of name volumes (Some place) at)
    ∙ slice_get-get_or volumes place first within
    ∙ ap Some (sym read) in
    let naming : Naming = record { name = volume.table.device; need = data_need volume.table } in
    room_of script images c.requires.images naming
    (data-named script volume
    (stands-find (λ (v : VolumeLine). is_text c.in-Volume.id v.id) volumes volume found))

pub range_fault-requires-clause-hashes : goal.range_fault-requires-clause-hashes
range_fault-requires-clause-hashes c =
    let script : Script = c.args.declared.now in
    let images = c.args.images.now in
    let volumes : List VolumeLine = script.volumes in
    let name : List ℕ = c.as_slice.result.now in
    let place : ℕ = c.in-Some.place in
    let id_of : VolumeLine → List ℕ = λ volume. volume.id in
    let first : VolumeLine = c.index-volumes-place.result in
    let volume : VolumeLine = slice_index_or c.volumes.result.now place first in
    let at : Some place ≡ position (is_text name) (map id_of volumes) = sym c.in-Some.is ∙ c.volume_place.ensures in
    let within : place < length volumes =
    subst (λ (n : ℕ). place < n) (length-map volumes id_of)
    (position-Some (is_text name) (map id_of volumes) place [] (sym at)).0 in
    let read : volume ≡ get_or volumes place first =
    ap (λ (l : List VolumeLine). get_or l place first) c.volumes.ensures in
    let found : volume_of script c.in-Volume.id ≡ Some volume =
    sym (ap (λ (n : List ℕ). find (λ (v : VolumeLine). is_text n v.id) volumes) c.as_slice.ensures.bytes)
    ∙ sym (named-find id_of name volumes (Some place) at)
    ∙ slice_get-get_or volumes place first within
    ∙ ap Some (sym read) in
    let naming : Naming = record { name = volume.table.hash_device; need = hash_need volume.table } in
    room_of script images c.requires.images naming
    (hashes-named script volume
    (stands-find (λ (v : VolumeLine). is_text c.in-Volume.id v.id) volumes volume found))

pub returns-clause-fault : goal.returns-clause-fault
returns-clause-fault c =
    let script : Script = c.args.declared.now in
    let images = c.args.images.now in
    let volumes : List VolumeLine = script.volumes in
    let name : List ℕ = c.as_slice.result.now in
    let place : ℕ = c.in-Some.place in
    let id_of : VolumeLine → List ℕ = λ volume. volume.id in
    let first : VolumeLine = c.index-volumes-place.result in
    let volume : VolumeLine = slice_index_or c.volumes.result.now place first in
    let at : Some place ≡ position (is_text name) (map id_of volumes) = sym c.in-Some.is ∙ c.volume_place.ensures in
    let within : place < length volumes =
    subst (λ (n : ℕ). place < n) (length-map volumes id_of)
    (position-Some (is_text name) (map id_of volumes) place [] (sym at)).0 in
    let read : volume ≡ get_or volumes place first =
    ap (λ (l : List VolumeLine). get_or l place first) c.volumes.ensures in
    let found : volume_of script c.in-Volume.id ≡ Some volume =
    sym (ap (λ (n : List ℕ). find (λ (v : VolumeLine). is_text n v.id) volumes) c.as_slice.ensures.bytes)
    ∙ sym (named-find id_of name volumes (Some place) at)
    ∙ slice_get-get_or volumes place first within
    ∙ ap Some (sym read) in
    let rest : range_fault images c.in-Volume.first c.in-Volume.size volume.table
    ≡ volume_fault script images c.args.file.now.form =
    sym (ap (λ (o : Option VolumeLine).
    option_and_then (λ (v : VolumeLine). range_fault images c.in-Volume.first c.in-Volume.size v.table) o) found)
    ∙ sym (ap (volume_fault script images) c.in-Volume.is) in
    if_ok (λ (fault : Option (ℕ × ℕ)). fault ≡ range_fault images c.in-Volume.first c.in-Volume.size volume.table)
    (λ (fault : Option (ℕ × ℕ)). fault ≡ volume_fault script images c.args.file.now.form) c.range_fault.result
    (λ fault is. is ∙ rest) c.range_fault.ensures.fault

pub returns-clause-same : goal.returns-clause-same
returns-clause-same c =
    let script : Script = c.args.declared.now in
    let images = c.args.images.now in
    let volumes : List VolumeLine = script.volumes in
    let name : List ℕ = c.as_slice.result.now in
    let place : ℕ = c.in-Some.place in
    let id_of : VolumeLine → List ℕ = λ volume. volume.id in
    let first : VolumeLine = c.index-volumes-place.result in
    let volume : VolumeLine = slice_index_or c.volumes.result.now place first in
    let at : Some place ≡ position (is_text name) (map id_of volumes) = sym c.in-Some.is ∙ c.volume_place.ensures in
    let within : place < length volumes =
    subst (λ (n : ℕ). place < n) (length-map volumes id_of)
    (position-Some (is_text name) (map id_of volumes) place [] (sym at)).0 in
    let read : volume ≡ get_or volumes place first =
    ap (λ (l : List VolumeLine). get_or l place first) c.volumes.ensures in
    let found : volume_of script c.in-Volume.id ≡ Some volume =
    sym (ap (λ (n : List ℕ). find (λ (v : VolumeLine). is_text n v.id) volumes) c.as_slice.ensures.bytes)
    ∙ sym (named-find id_of name volumes (Some place) at)
    ∙ slice_get-get_or volumes place first within
    ∙ ap Some (sym read) in
    let items : List VolumeParts = c.view.inside.volumes.items in
    let table_of : VolumeParts → TableParts = λ attached. attached.table in
    let line_table : VolumeLine → TableParts = λ line. line.table in
    let attached : VolumeParts = c.index_mut-volume.result.now in
    let tables : map table_of items ≡ map line_table volumes = c.view.view_is ∙ c.requires.view in
    let long : length items ≡ length volumes =
    sym (length-map items table_of) ∙ ap (λ (l : List TableParts). length l) tables ∙ length-map volumes line_table in
    let inside : place < length items = subst (λ (n : ℕ). place < n) (sym long) within in
    let kept : attached.table ≡ get_or (map table_of items) place volume.table =
    ap table_of c.index_mut-volume.ensures.value ∙ sym (get_or-map table_of items place attached volume.table inside) in
    map-set table_of items place c.range_fault.new.volume
    ∙ ap (λ (t : TableParts). set (map table_of items) place t) (c.range_fault.ensures.same ∙ kept)
    ∙ set-get_or (map table_of items) place volume.table
    ∙ c.view.view_is
