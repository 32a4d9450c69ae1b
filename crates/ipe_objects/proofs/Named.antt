-- The names of devices, as lines are taken one by one.
use Rattle.std.proofs.Common.{◌≡◌, ◌∙◌, ℕ, ◌+◌, ◌<◌, List, [], ◌++◌, map, fold, length, get_or, drop, Result, Ok, Err, ap, sym}
use Rattle.std.specs.Prelude.{IfOk}
use Rattle.std.specs.List.{flat_map}
use Rattle.std.proofs.lemmas.List.{drop_more, map-append}
use Rattle.std.proofs.lemmas.List.Sums.{fold-append}
use Rattle.ipe_requests.specs.Known.{with_device}
use Rattle.ipe_requests.specs.declared.script.VolumeLine.{VolumeLine}
use Rattle.ipe_requests.specs.declared.script.FileLine.{FileLine}
use Rattle.ipe_requests.specs.declared.script.SealLine.{SealLine}
use Rattle.ipe_requests.specs.Requests.{Script}
use Rattle.ipe_objects.specs.Devices.{Naming, named_by_file, named_by_seal, named_by_volume, named_devices, with_named}

-- the names of two lists, one after the other
pub with_named_append : (names : List (List ℕ)) (some others : List Naming)
    → with_named names (some ++ others) ≡ with_named (with_named names some) others
with_named_append names some others =
    ap (λ (all : List (List ℕ)). fold with_device names all) (map-append (λ (naming : Naming). naming.name) some others)
    ∙ fold-append with_device names (map (λ (naming : Naming). naming.name) some)
    (map (λ (naming : Naming). naming.name) others)

-- the names of lines of which one is taken
pub names_left : {A : Type 0} (f : A → List Naming) (names : List (List ℕ)) (items : List A) (k : ℕ) (item : A)
    → k < length items → item ≡ get_or items k item
    → with_named names (flat_map f (drop k items)) ≡ with_named (with_named names (f item)) (flat_map f (drop (k + 1) items))
names_left {A} f names items k item within is =
    ap (λ (left : List A). with_named names (flat_map f left)) (drop_more items k item within)
    ∙ ap (λ (x : A). with_named names (f x ++ flat_map f (drop (k + 1) items))) (sym is)
    ∙ with_named_append names (f item) (flat_map f (drop (k + 1) items))

-- the names of the volumes, the files and the seals are those of all lines
pub named_all : (script : Script) (volumes : List VolumeLine) (files : List FileLine) (seals : List SealLine)
    (start one two three : List (List ℕ)) → volumes ≡ script.volumes → files ≡ script.files → seals ≡ script.seals
    → start ≡ [] → one ≡ with_named start (flat_map named_by_volume volumes)
    → two ≡ with_named one (flat_map named_by_file files)
    → three ≡ with_named two (flat_map named_by_seal seals)
    → three ≡ named_devices script
named_all script volumes files seals start one two three vs fs ss none first second third =
    let V : List Naming = flat_map named_by_volume script.volumes in
    let F : List Naming = flat_map named_by_file script.files in
    let S : List Naming = flat_map named_by_seal script.seals in
    let is_one : one ≡ with_named [] V =
    first ∙ ap (λ (names : List (List ℕ)). with_named names (flat_map named_by_volume volumes)) none
    ∙ ap (λ (lines : List VolumeLine). with_named [] (flat_map named_by_volume lines)) vs in
    let is_two : two ≡ with_named (with_named [] V) F =
    second ∙ ap (λ (names : List (List ℕ)). with_named names (flat_map named_by_file files)) is_one
    ∙ ap (λ (lines : List FileLine). with_named (with_named [] V) (flat_map named_by_file lines)) fs in
    let is_three : three ≡ with_named (with_named (with_named [] V) F) S =
    third ∙ ap (λ (names : List (List ℕ)). with_named names (flat_map named_by_seal seals)) is_two
    ∙ ap (λ (lines : List SealLine). with_named (with_named (with_named [] V) F) (flat_map named_by_seal lines)) ss in
    is_three
    ∙ sym (with_named_append (with_named [] V) F S)
    ∙ sym (with_named_append [] V (F ++ S))

-- what an `Ok` has, if it has what follows from it
pub if_ok : {A E : Type 0} (P Q : A → Type 0) (r : Result A E) → ((x : A) → P x → Q x) → IfOk r P → IfOk r Q
if_ok P Q (Ok x) each holds = each x holds
if_ok P Q (Err e) each holds = holds
