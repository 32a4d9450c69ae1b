-- The entry of a name, after the list has changed.
use Rattle.std.proofs.Common.{◌≡◌, ℕ, ◌<◌, suc, Bool, true, false, cond, List, [], ◌∷◌, ◌++◌, length, get_or, take, drop, Option, Some, None, refl, sym, ap, ◌∙◌, inl, inr, drop-cons, ltb}
use Rattle.std.specs.List.{find, slice_get, remove, position, position_or_len}
use Rattle.std.specs.Option.{option_and_then, option_or}
use Rattle.std.proofs.lemmas.Bool.{cases_lt, lt-ltb, le-ltb, true≢false}
use Rattle.std.proofs.lemmas.Option.{slice_get_past}
use Rattle.std.proofs.lemmas.List.{take-append-drop}
use Rattle.std.proofs.lemmas.List.Folds.{find_at, find-append}
use Rattle.std.specs.Prelude.{is_none}
use Rattle.ipe_machine.specs.Policies.{Loaded, entry_named, is_named, no_policy}

read_within : {X : Type 0} (xs : List X) (n : ℕ) → option_and_then (slice_get xs) (cond (ltb n (length xs)) (Some n) None) ≡ slice_get xs n
read_within {X} xs n =
    elim (cases_lt n (length xs)) [
      | inl within ↦ ap (λ (b : Bool). option_and_then (slice_get xs) (cond {A = Option ℕ} b (Some n) None)) (lt-ltb n (length xs) within)
      | inr past ↦ ap (λ (b : Bool). option_and_then (slice_get xs) (cond {A = Option ℕ} b (Some n) None)) (le-ltb n (length xs) past) ∙ sym (slice_get_past xs n past)
    ]

-- an entry, where a place is past the end
abbrev pub no_entry : Loaded
no_entry = record { name = []; version = no_policy.version; text = []; serial = 0 }

-- the entry of a name is the first that has it
pub entry_named_is : (name : List ℕ) (loaded : List Loaded) → entry_named name loaded ≡ find (is_named name) loaded
entry_named_is name loaded = read_within loaded (position_or_len (is_named name) loaded) ∙ sym (find_at (is_named name) loaded)

-- an element that is taken out, and that fails
pub find-remove : {X : Type 0} (p : X → Bool) (xs : List X) (i : ℕ) (d : X) → i < length xs → p (get_or xs i d) ≡ false → find p (remove xs i) ≡ find p xs
find-remove {X} p xs i d within fails =
    let whole : xs ≡ take i xs ++ (get_or xs i d ∷ drop (suc i) xs) = sym (take-append-drop i xs) ∙ ap (λ (rest : List X). take i xs ++ rest) (drop-cons xs i d within) in
    let after : find p (get_or xs i d ∷ drop (suc i) xs) ≡ find p (drop (suc i) xs) = ap (λ (b : Bool). cond {A = Option X} b (Some (get_or xs i d)) (find p (drop (suc i) xs))) fails in
    find-append p (take i xs) (drop (suc i) xs)
    ∙ sym (ap (λ (o : Option X). option_or (find p (take i xs)) o) after)
    ∙ sym (find-append p (take i xs) (get_or xs i d ∷ drop (suc i) xs))
    ∙ sym (ap (find p) whole)

-- the place is the first that passes
pub place_is : {X : Type 0} (p : X → Bool) (xs : List X) (i : ℕ) → position p xs ≡ Some i → i ≡ position_or_len p xs
place_is p xs i at = is_it (ltb (position_or_len p xs) (length xs)) (position_or_len p xs) i at
  where
    is_it : (b : Bool) (n i : ℕ) → cond {A = Option ℕ} b (Some n) None ≡ Some i → i ≡ n
    is_it true n i at = cc
    is_it false n i at = cc

-- an element that is found is found in front of more
pub find_more : {X : Type 0} (p : X → Bool) (xs ys : List X) (x : X) → find p xs ≡ Some x → find p (xs ++ ys) ≡ Some x
find_more {X} p xs ys x found = find-append p xs ys ∙ ap (λ (o : Option X). option_or o (find p ys)) found

-- a name that is loaded has an entry
pub entry_there : (entry : Option Loaded) → is_none entry ≡ false → (there : Loaded) × (entry ≡ Some there)
entry_there None none = absurd (true≢false none)
entry_there (Some there) none = (there, refl)
