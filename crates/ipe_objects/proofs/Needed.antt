-- The greatest need of a device, as lines are taken one by one.
use Rattle.std.proofs.Common.{◌≡◌, ◌∙◌, ℕ, ◌+◌, ◌<◌, max, min, Bool, true, false, cond, List, [], ◌∷◌, ◌++◌, map, length, get_or, drop, refl, ap, sym, arith}
use Rattle.std.specs.List.{filter, flat_map}
use Rattle.std.proofs.lemmas.List.{drop_more, map-append}
use Rattle.line_words.specs.Words.{is_text}
use Rattle.ipe_requests.specs.declared.script.VolumeLine.{VolumeLine}
use Rattle.ipe_requests.specs.declared.script.FileLine.{FileLine}
use Rattle.ipe_requests.specs.declared.script.SealLine.{SealLine}
use Rattle.ipe_requests.specs.Requests.{Script}
use Rattle.ipe_objects.specs.Devices.{Naming, greatest, named_by_file, named_by_seal, named_by_volume, need_in, need_of}

-- the need of a naming
abbrev needs : List Naming → List ℕ
needs all = map (λ (naming : Naming). naming.need) all

-- the test of a name
abbrev is_of : List ℕ → Naming → Bool
is_of name naming = is_text name naming.name

one-if : (b : Bool) (naming : Naming) (rest : List Naming)
    → greatest (needs (cond b (naming ∷ rest) rest)) ≡ max (cond b naming.need 0) (greatest (needs rest))
one-if true naming rest = refl
one-if false naming rest = omega arith

-- one need more, of the device or of another
pub need_in_more : (name : List ℕ) (naming : Naming) (rest : List Naming)
    → need_in (naming ∷ rest) name ≡ max (cond (is_text name naming.name) naming.need 0) (need_in rest name)
need_in_more name naming rest = one-if (is_text name naming.name) naming (filter (is_of name) rest)

-- the need of one
pub need_in_one : (name : List ℕ) (naming : Naming)
    → need_in (naming ∷ []) name ≡ cond (is_text name naming.name) naming.need 0
need_in_one name naming = omega (arith, need_in_more name naming [])

-- a need that stands still at a number, of the device or of another
pub held_if : (b : Bool) (need most : ℕ) → cond b (min need most) 0 ≡ min (cond b need 0) most
held_if true need most = refl
held_if false need most = omega arith

greatest-append : (some others : List ℕ) → greatest (some ++ others) ≡ max (greatest some) (greatest others)
greatest-append [] others = omega arith
greatest-append (number ∷ numbers) others = omega (arith, greatest-append numbers others)

filter-if : (b : Bool) (naming : Naming) (some others : List Naming)
    → cond b (naming ∷ (some ++ others)) (some ++ others) ≡ cond b (naming ∷ some) some ++ others
filter-if true naming some others = refl
filter-if false naming some others = refl

filter-append : (name : List ℕ) (some others : List Naming)
    → filter (is_of name) (some ++ others) ≡ filter (is_of name) some ++ filter (is_of name) others
filter-append name [] others = refl
filter-append name (naming ∷ some) others =
    ap (λ (rest : List Naming). cond (is_of name naming) (naming ∷ rest) rest) (filter-append name some others)
    ∙ filter-if (is_of name naming) naming (filter (is_of name) some) (filter (is_of name) others)

-- the need of two lists is the greater of their needs
pub need_in_append : (name : List ℕ) (some others : List Naming)
    → need_in (some ++ others) name ≡ max (need_in some name) (need_in others name)
need_in_append name some others =
    ap (λ (all : List Naming). greatest (needs all)) (filter-append name some others)
    ∙ ap greatest (map-append (λ (naming : Naming). naming.need) (filter (is_of name) some) (filter (is_of name) others))
    ∙ greatest-append (needs (filter (is_of name) some)) (needs (filter (is_of name) others))

-- the need of lines of which one is taken
pub need_left : {A : Type 0} (f : A → List Naming) (name : List ℕ) (items : List A) (k : ℕ) (item : A) → k < length items
    → item ≡ get_or items k item
    → need_in (flat_map f (drop k items)) name ≡ max (need_in (f item) name) (need_in (flat_map f (drop (k + 1) items)) name)
need_left {A} f name items k item within is =
    ap (λ (left : List A). need_in (flat_map f left) name) (drop_more items k item within)
    ∙ ap (λ (x : A). need_in (f x ++ flat_map f (drop (k + 1) items)) name) (sym is)
    ∙ need_in_append name (f item) (flat_map f (drop (k + 1) items))

-- the need of all lines is the greatest of those of the volumes, the files and the seals
pub need_all : (script : Script) (name : List ℕ) (most v f s : ℕ) (volumes : List VolumeLine) (files : List FileLine)
    (seals : List SealLine) → volumes ≡ script.volumes → files ≡ script.files → seals ≡ script.seals
    → v ≡ min (need_in (flat_map named_by_volume volumes) name) most
    → f ≡ min (need_in (flat_map named_by_file files) name) most
    → s ≡ min (need_in (flat_map named_by_seal seals) name) most
    → max (max v f) s ≡ min (need_of script name) most
need_all script name most v f s volumes files seals vs fs ss one two three =
    let V : List Naming = flat_map named_by_volume script.volumes in
    let F : List Naming = flat_map named_by_file script.files in
    let S : List Naming = flat_map named_by_seal script.seals in
    let first : v ≡ min (need_in V name) most =
    one ∙ ap (λ (lines : List VolumeLine). min (need_in (flat_map named_by_volume lines) name) most) vs in
    let second : f ≡ min (need_in F name) most =
    two ∙ ap (λ (lines : List FileLine). min (need_in (flat_map named_by_file lines) name) most) fs in
    let third : s ≡ min (need_in S name) most =
    three ∙ ap (λ (lines : List SealLine). min (need_in (flat_map named_by_seal lines) name) most) ss in
    omega (arith, first, second, third, need_in_append name V (F ++ S), need_in_append name F S)
