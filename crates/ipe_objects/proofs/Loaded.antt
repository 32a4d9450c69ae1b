-- What is loaded, device by device.
use Rattle.std.proofs.Common.{◌≡◌, ◌∙◌, ℕ, ◌+◌, ◌<◌, ◌≤◌, min, nat_lt, Bool, true, false, cond, ◌||◌, List, [], ◌∷◌, ◌++◌, map, length, get_or, drop, Option, Some, None, is_some, position, Err, refl, ap, sym, subst, arith, inl, inr, ◌⊎◌}
use Rattle.std.specs.Prelude.{All, IfSome, IsSomeAnd}
use Rattle.std.specs.List.{filter, flat_map, list_any, AllByRecursion}
use Rattle.std.specs.Map.{lookup}
use Rattle.std.specs.Option.{option_or, unwrap_or}
use Rattle.std.proofs.lemmas.List.{drop_all, drop_more}
use Rattle.std.specs.Str.{bytes_eq}
use Rattle.std.proofs.lemmas.Bool.{cases_lt, le-ltb, lt-ltb, ltb-false}
use Rattle.std.proofs.lemmas.List.Elements.{recursion_from_All, All-from_recursion}
use Rattle.std.proofs.lemmas.Slice.Eq.{bytes_eq-Decides}
use Rattle.line_words.specs.Words.{is_text}
use Rattle.line_words.proofs.Places.{list_any-is_some}
use Rattle.blk_device.specs.Contents.{Contents, content}
use Rattle.dmv_volume.specs.Reading.{data_need, hash_need}
use Rattle.ipe_requests.specs.declared.script.VolumeLine.{VolumeLine}
use Rattle.ipe_requests.specs.declared.script.FileLine.{FileLine}
use Rattle.ipe_requests.specs.declared.script.SealLine.{SealLine}
use Rattle.ipe_requests.specs.Known.{with_device}
use Rattle.ipe_requests.specs.Requests.{Script}
use Rattle.ipe_objects.specs.Devices.{AreImages, HasRoom, Naming, greatest, most_bytes, named_by_file, named_by_seal, named_by_volume, bytes_under, named_devices, namings, need_in, need_of, with_named}
use Rattle.ipe_objects.specs.Firsts.{first_some}
use Rattle.ipe_objects.specs.Loading.{Answers, first_refusal, refusal, refusal_of}
use Rattle.ipe_objects.specs.declared.images.ImagesError.{ImagesError}
use Rattle.ipe_objects.specs.declared.images.ImagesError.TheVariants.{DeviceFault, Missing, TooLarge, TooSmall, NoMemory}
use Rattle.ipe_objects.proofs.Standing.{Stands, all-at, each-all, stands-left, stands-right, stands-flat_map}

-- ---- each device that is named is among the names

same_text : (name other : List ℕ) → is_text name other ≡ true → other ≡ name
same_text name other e = (bytes_eq-Decides other name).0 e

is_text-same : (name : List ℕ) → is_text name name ≡ true
is_text-same name = (bytes_eq-Decides name name).1 refl

stands-any : (name : List ℕ) (names : List (List ℕ)) → list_any (is_text name) names ≡ true → Stands name names
stands-any name [] e = absurd (cc)
stands-any name (other ∷ names) e = by (is_text name other) refl (λ found. stands-any name names found) e
  where
    by : (b : Bool) → is_text name other ≡ b → (list_any (is_text name) names ≡ true → Stands name names)
        → (b || list_any (is_text name) names) ≡ true → (other ≡ name) ⊎ Stands name names
    by true is rest found = inl (same_text name other is)
    by false is rest found = inr (rest found)

with_device-keeps : (x name : List ℕ) (names : List (List ℕ)) → Stands x names → Stands x (with_device names name)
with_device-keeps x name names stands = by (is_some (position (is_text name) names))
  where
    by : (b : Bool) → Stands x (cond b names (names ++ name ∷ []))
    by true = stands
    by false = stands-left x names (name ∷ []) stands

with_device-adds : (name : List ℕ) (names : List (List ℕ)) → Stands name (with_device names name)
with_device-adds name names = by (is_some (position (is_text name) names)) refl
  where
    by : (b : Bool) → is_some (position (is_text name) names) ≡ b → Stands name (cond b names (names ++ name ∷ []))
    by true is = stands-any name names (list_any-is_some (is_text name) names ∙ is)
    by false is = stands-right name names (name ∷ []) (inl refl)

with_named-keeps : (x : List ℕ) (names : List (List ℕ)) (all : List Naming) → Stands x names → Stands x (with_named names all)
with_named-keeps x names [] stands = stands
with_named-keeps x names (naming ∷ all) stands =
    with_named-keeps x (with_device names naming.name) all (with_device-keeps x naming.name names stands)

with_named-adds : (naming : Naming) (names : List (List ℕ)) (all : List Naming) → Stands naming all
    → Stands naming.name (with_named names all)
with_named-adds naming names [] stands = absurd stands
with_named-adds naming names (other ∷ all) (inl is) =
    with_named-keeps naming.name (with_device names other.name) all
    (subst (λ (n : List ℕ). Stands n (with_device names other.name)) (ap (λ (n : Naming). n.name) is)
    (with_device-adds other.name names))
with_named-adds naming names (other ∷ all) (inr among) = with_named-adds naming (with_device names other.name) all among

-- ---- each need is at most the greatest

abbrev needs : List Naming → List ℕ
needs all = map (λ (naming : Naming). naming.need) all

abbrev is_of : List ℕ → Naming → Bool
is_of name naming = is_text name naming.name

kept-if : (b : Bool) (naming : Naming) (rest : List Naming) (n : ℕ) → n ≤ greatest (needs rest)
    → n ≤ greatest (needs (cond b (naming ∷ rest) rest))
kept-if true naming rest n le = omega arith
kept-if false naming rest n le = le

need-within : (naming : Naming) (all : List Naming) → Stands naming all → naming.need ≤ need_in all naming.name
need-within naming [] stands = absurd stands
need-within naming (other ∷ all) (inl is) = here (is_text naming.name other.name) test
  where
    test : is_text naming.name other.name ≡ true
    test = subst (λ (n : Naming). is_text naming.name n.name ≡ true) (sym is) (is_text-same naming.name)

    need : other.need ≡ naming.need
    need = ap (λ (n : Naming). n.need) is

    here : (b : Bool) → b ≡ true
        → naming.need ≤ greatest (needs (cond b (other ∷ filter (is_of naming.name) all) (filter (is_of naming.name) all)))
    here true e = omega (arith, need)
    here false e = absurd (cc)
need-within naming (other ∷ all) (inr among) =
    kept-if (is_text naming.name other.name) other (filter (is_of naming.name) all) naming.need (need-within naming all among)

-- ---- what images have

smaller-room : (need more : ℕ) (o : Option (List ℕ)) → need ≤ more → IsSomeAnd o (HasRoom more) → IsSomeAnd o (HasRoom need)
smaller-room need more None le room = room
smaller-room need more (Some bytes) le room = record { enough = omega (arith, room.enough); few = room.few }

-- each device that a line names is there, and has what the line needs
pub room_of : (script : Script) (images : Contents) → AreImages script images → (naming : Naming)
    → Stands naming (namings script) → IsSomeAnd (content naming.name images) (HasRoom naming.need)
room_of script images are naming stands =
    smaller-room naming.need (need_of script naming.name) (content naming.name images)
    (need-within naming (namings script) stands)
    (all-at (λ (name : List ℕ). IsSomeAnd (content name images) (HasRoom (need_of script name))) naming.name
    (named_devices script)
    (recursion_from_All (λ (name : List ℕ). IsSomeAnd (content name images) (HasRoom (need_of script name)))
    (named_devices script) are)
    (with_named-adds naming [] (namings script) stands))

pub data-named : (script : Script) (volume : VolumeLine) → Stands volume script.volumes
    → Stands (record { name = volume.table.device; need = data_need volume.table }) (namings script)
data-named script volume stands =
    stands-left _ (flat_map named_by_volume script.volumes) _
    (stands-flat_map named_by_volume volume script.volumes _ stands (inl refl))

pub hashes-named : (script : Script) (volume : VolumeLine) → Stands volume script.volumes
    → Stands (record { name = volume.table.hash_device; need = hash_need volume.table }) (namings script)
hashes-named script volume stands =
    stands-left _ (flat_map named_by_volume script.volumes) _
    (stands-flat_map named_by_volume volume script.volumes _ stands (inr (inl refl)))

pub file-named : (script : Script) (file : FileLine) (naming : Naming) → Stands file script.files
    → Stands naming (named_by_file file) → Stands naming (namings script)
file-named script file naming stands within =
    stands-right naming (flat_map named_by_volume script.volumes) _
    (stands-left naming (flat_map named_by_file script.files) _
    (stands-flat_map named_by_file file script.files naming stands within))

pub seal-named : (script : Script) (seal : SealLine) → Stands seal script.seals
    → Stands (record { name = seal.device; need = seal.at + 256 }) (namings script)
seal-named script seal stands =
    stands-right _ (flat_map named_by_volume script.volumes) _
    (stands-right _ (flat_map named_by_file script.files) _
    (stands-flat_map named_by_seal seal script.seals _ stands (inl refl)))

-- ---- what is loaded is found under its name

found : (P : List ℕ → List ℕ → Type 0) (items : Contents) (name : List ℕ)
    → AllByRecursion (λ (item : List ℕ × List ℕ). P item.0 item.1) items
    → Stands name (map (λ (item : List ℕ × List ℕ). item.0) items) → IsSomeAnd (lookup (bytes_eq name) items) (P name)
found P [] name holds stands = absurd stands
found P (item ∷ items) name holds stands =
    by (bytes_eq name item.0) refl (λ among. found P items name holds.1 among) stands
  where
    by : (b : Bool) → bytes_eq name item.0 ≡ b
        → (Stands name (map (λ (other : List ℕ × List ℕ). other.0) items)
        → IsSomeAnd (lookup (bytes_eq name) items) (P name))
        → (item.0 ≡ name) ⊎ Stands name (map (λ (other : List ℕ × List ℕ). other.0) items)
        → IsSomeAnd (cond b (Some item.1) (lookup (bytes_eq name) items)) (P name)
    by true is rest s = subst (λ (n : List ℕ). P n item.1) (sym ((bytes_eq-Decides name item.0).0 is)) holds.0
    by false is rest (inl same) =
        let other : bytes_eq name item.0 ≡ true = (bytes_eq-Decides name item.0).1 (sym same) in absurd (cc)
    by false is rest (inr among) = rest among

pub all-found : (P : List ℕ → List ℕ → Type 0) (items : Contents) (names : List (List ℕ))
    → map (λ (item : List ℕ × List ℕ). item.0) items ≡ names
    → All (λ (item : List ℕ × List ℕ). P item.0 item.1) items
    → All (λ (name : List ℕ). IsSomeAnd (content name items) (P name)) names
unfolding content
all-found P items names are holds =
    All-from_recursion (λ (name : List ℕ). IsSomeAnd (lookup (bytes_eq name) items) (P name)) names
    (each-all (λ (name : List ℕ). IsSomeAnd (lookup (bytes_eq name) items) (P name)) names
    (λ name stands.
    found P items name (recursion_from_All (λ (item : List ℕ × List ℕ). P item.0 item.1) items holds)
    (subst (λ (ns : List (List ℕ)). Stands name ns) (sym are) stands)))

-- ---- what is refused

same-test : (most need len : ℕ) → len < most → nat_lt len (min need most) ≡ nat_lt len need
same-test most need len few =
    elim (cases_lt len need) [
      | inl lt ↦ lt-ltb len (min need most) (omega arith) ∙ sym (lt-ltb len need lt)
      | inr le ↦ le-ltb len (min need most) (omega arith) ∙ sym (le-ltb len need le)
    ]

held-by : (most need : ℕ) (name bytes : List ℕ) (b : Bool) → nat_lt most_bytes (length bytes) ≡ b → most_bytes < most
    → cond b (Some (TooLarge name)) (cond (nat_lt (length bytes) (min need most)) (Some (TooSmall name)) None)
    ≡ cond b (Some (TooLarge name)) (cond (nat_lt (length bytes) need) (Some (TooSmall name)) None)
held-by most need name bytes true is le = refl
held-by most need name bytes false is le =
    ap (λ (b : Bool). cond b (Some (TooSmall name)) None) (same-test most need (length bytes)
    (omega (arith, ltb-false most_bytes (length bytes) is)))

-- a need that stands still above the most bytes of a device refuses the same
pub refusal-held : (most need : ℕ) (name : List ℕ) (o : Option (List ℕ)) → most_bytes < most
    → refusal (min need most) name o ≡ refusal need name o
refusal-held most need name None le = refl
refusal-held most need name (Some bytes) le = held-by most need name bytes (nat_lt most_bytes (length bytes)) refl le

-- an error that is the refusal of one device is the first, where it is the first
pub answers-first : (A B : Type 0) (error : ImagesError) (one first : Option ImagesError)
    → ((e : ImagesError) → one ≡ Some e → first ≡ Some e) → Answers {A = A} (Err error) one → Answers {A = B} (Err error) first
answers-first A B DeviceFault one first same answers = tt
answers-first A B NoMemory one first same answers = tt
answers-first A B (Missing name) one first same answers = same (Missing name) answers
answers-first A B (TooLarge name) one first same answers = same (TooLarge name) answers
answers-first A B (TooSmall name) one first same answers = same (TooSmall name) answers

-- one device more of which nothing is refused
pub refused-more : (told : Option Contents) (script : Script) (names : List (List ℕ)) (k : ℕ) (name : List ℕ)
    (need : ℕ) → k < length names → name ≡ get_or names k name → need ≡ min (need_of script name) 18446744073709551615
    → IfSome told (λ items. refusal need name (content name items) ≡ None)
    → IfSome told (λ items. first_some (refusal_of script items) (drop k names) ≡ first_refusal script items)
    → IfSome told (λ items. first_some (refusal_of script items) (drop (k + 1) names) ≡ first_refusal script items)
refused-more None script names k name need within is held none before = tt
refused-more (Some items) script names k name need within is held none before =
    let nothing : refusal_of script items name ≡ None =
    sym (refusal-held 18446744073709551615 (need_of script name) name (content name items) (omega arith))
    ∙ ap (λ (n : ℕ). refusal n name (content name items)) (sym held) ∙ none in
    sym (ap (first_some (refusal_of script items)) (drop_more names k name within)
    ∙ ap (λ (n : List ℕ). option_or (refusal_of script items n) (first_some (refusal_of script items) (drop (k + 1) names))) (sym is)
    ∙ ap (λ (o : Option ImagesError). option_or o (first_some (refusal_of script items) (drop (k + 1) names))) nothing)
    ∙ before

-- what is refused of the next device is refused first
pub refused-first : (A B : Type 0) (told : Option Contents) (script : Script) (names : List (List ℕ)) (k : ℕ)
    (name : List ℕ) (need : ℕ) (error : ImagesError) → k < length names → name ≡ get_or names k name
    → need ≡ min (need_of script name) 18446744073709551615
    → IfSome told (λ items. Answers {A = A} (Err error) (refusal need name (content name items)))
    → IfSome told (λ items. first_some (refusal_of script items) (drop k names) ≡ first_refusal script items)
    → IfSome told (λ items. Answers {A = B} (Err error) (first_refusal script items))
refused-first A B None script names k name need error within is held answers before = tt
refused-first A B (Some items) script names k name need error within is held answers before =
    answers-first A B error (refusal need name (content name items)) (first_refusal script items)
    (λ e refused.
    let one : refusal_of script items name ≡ Some e =
    sym (refusal-held 18446744073709551615 (need_of script name) name (content name items) (omega arith))
    ∙ ap (λ (n : ℕ). refusal n name (content name items)) (sym held) ∙ refused in
    sym before
    ∙ ap (first_some (refusal_of script items)) (drop_more names k name within)
    ∙ ap (λ (n : List ℕ). option_or (refusal_of script items n) (first_some (refusal_of script items) (drop (k + 1) names))) (sym is)
    ∙ ap (λ (o : Option ImagesError). option_or o (first_some (refusal_of script items) (drop (k + 1) names))) one)
    answers

-- nothing is refused where no device is left
pub refused-none : (told : Option Contents) (script : Script) (names : List (List ℕ)) (k : ℕ) → length names ≤ k
    → IfSome told (λ items. first_some (refusal_of script items) (drop k names) ≡ first_refusal script items)
    → IfSome told (λ items. first_refusal script items ≡ None)
refused-none None script names k past before = tt
refused-none (Some items) script names k past before =
    sym before ∙ ap (first_some (refusal_of script items)) (drop_all k names past)

-- a need that stands still is met as the need itself
pub room-held : (need most : ℕ) (bytes : List ℕ) → most_bytes < most → HasRoom (min need most) bytes → HasRoom need bytes
room-held need most bytes le room = record { enough = omega (arith, room.enough, room.few); few = room.few }

-- each of so many pairs with one more
pub all-push : {A : Type 0} (P : A → Type 0) (items : List A) (item : A) → All P items → P item → All P (items ++ item ∷ [])
all-push {A} P items item holds more =
    All-from_recursion P (items ++ item ∷ []) (by items (recursion_from_All P items holds))
  where
    by : (xs : List A) → AllByRecursion P xs → AllByRecursion P (xs ++ item ∷ [])
    by [] all = (more, tt)
    by (x ∷ xs) all = (all.0, by xs all.1)

-- the bytes under a name that is there
under : (P : List ℕ → Type 0) (o : Option (List ℕ)) → IsSomeAnd o P → P (unwrap_or o [])
under P None holds = absurd holds
under P (Some bytes) holds = holds

pub all-under : (P : List ℕ → List ℕ → Type 0) (items : Contents) (names : List (List ℕ))
    → All (λ (name : List ℕ). IsSomeAnd (content name items) (P name)) names
    → All (λ (name : List ℕ). P name (bytes_under items name)) names
all-under P items names holds = λ k d within. under (P (get_or names k d)) (content (get_or names k d) items) (holds k d within)

-- what is answered of a device, where the contents and the name are told otherwise
pub moved : (A : Type 0) (told now : Option Contents) (name other : List ℕ) (need : ℕ) (error : ImagesError) → now ≡ told
    → other ≡ name → IfSome now (λ items. Answers {A = A} (Err error) (refusal need other (content other items)))
    → IfSome told (λ items. Answers {A = A} (Err error) (refusal need name (content name items)))
moved A told now name other need error same is answers =
    subst (λ (t : Option Contents). IfSome t (λ items. Answers {A = A} (Err error) (refusal need name (content name items)))) same
    (subst (λ (n : List ℕ). IfSome now (λ items. Answers {A = A} (Err error) (refusal need n (content n items)))) is answers)

pub moved-none : (told now : Option Contents) (name other : List ℕ) (need : ℕ) → now ≡ told → other ≡ name
    → IfSome now (λ items. refusal need other (content other items) ≡ None)
    → IfSome told (λ items. refusal need name (content name items) ≡ None)
moved-none told now name other need same is none =
    subst (λ (t : Option Contents). IfSome t (λ items. refusal need name (content name items) ≡ None)) same
    (subst (λ (n : List ℕ). IfSome now (λ items. refusal need n (content n items) ≡ None)) is none)
