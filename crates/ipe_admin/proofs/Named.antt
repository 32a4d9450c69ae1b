-- The slot of a name, after one place has changed.
use Rattle.std.proofs.Common.{◌≡◌, ◌≢◌, ℕ, zero, suc, ◌+◌, ◌<◌, Bool, true, false, cond, List, [], ◌∷◌, ◌++◌, length, get_or, set, remove, Option, Some, None, is_some, refl, sym, ap, ◌∙◌, arith}
use Rattle.std.specs.Prelude.{slice_get, slice_index, nat_lt, not}
use Rattle.std.specs.List.{AllZip, find, position_or_len}
use Rattle.std.specs.Option.{option_and_then, option_map, option_map_or}
use Rattle.std.proofs.lemmas.Bool.{eq-eqb, true≢false}
use Rattle.ipe_machine.specs.Policies.{Loaded, entry_named, is_named, no_policy, place_of}
use Rattle.ipe_gate.specs.declared.administrator.GateAdmin.{GateAdmin}
use Rattle.ipe_gate.specs.Seats.{IsBound, admin_seen}
use Rattle.ipe_weave.specs.Gate.{Holds}
use Rattle.ipe_admin.specs.Agreement.{IsSeated, slot_named}
use Rattle.ipe_admin.proofs.Lists.{Off}

-- an entry, where a place is past the end
abbrev pub no_entry : Loaded
no_entry = record { name = []; version = no_policy.version; text = []; serial = 0 }

pub place_cons : (name : List ℕ) (entry : Loaded) (loaded : List Loaded) → place_of name (entry ∷ loaded) ≡ cond (is_named name entry) (Some 0) (option_map suc (place_of name loaded))
place_cons name entry loaded = by (is_named name entry) (position_or_len (is_named name) loaded) (length loaded)
  where
    by : (b : Bool) (n l : ℕ) → cond (nat_lt (cond (not b) (1 + n) 0) (suc l)) (Some (cond (not b) (1 + n) 0)) None ≡ cond b (Some 0) (option_map suc (cond (nat_lt n l) (Some n) None))
    by true n l = grind arith
    by false n l = grind arith

-- the entry of a name is the first that has it
pub found_is : (name : List ℕ) (loaded : List Loaded) → entry_named name loaded ≡ find (is_named name) loaded
found_is name [] = refl
found_is name (entry ∷ loaded) = ap (option_and_then (slice_get (entry ∷ loaded))) (place_cons name entry loaded) ∙ by (is_named name entry) (place_of name loaded) (found_is name loaded)
  where
    by : (b : Bool) (o : Option ℕ) → option_and_then (slice_get loaded) o ≡ find (is_named name) loaded → option_and_then (slice_get (entry ∷ loaded)) (cond b (Some 0) (option_map suc o)) ≡ cond b (Some entry) (find (is_named name) loaded)
    by true o same = refl
    by false None same = same
    by false (Some n) same = same

-- the slot of a name is that at its place
pub named_at : (name : List ℕ) (loaded : List Loaded) (slots : List ℕ) → length slots ≡ length loaded → slot_named name loaded slots ≡ option_map_or (slice_index slots) (place_of name loaded) 0
named_at name [] slots long = refl
named_at name (entry ∷ loaded) [] long = absurd (omega arith)
named_at name (entry ∷ loaded) (slot ∷ slots) long =
    by (is_named name entry) (place_of name loaded) (named_at name loaded slots (omega arith))
    ∙ sym (ap (λ (o : Option ℕ). option_map_or (slice_index (slot ∷ slots)) o 0) (place_cons name entry loaded))
  where
    by : (b : Bool) (o : Option ℕ) → slot_named name loaded slots ≡ option_map_or (slice_index slots) o 0
        → cond b slot (slot_named name loaded slots) ≡ option_map_or (slice_index (slot ∷ slots)) (cond b (Some 0) (option_map suc o)) 0
    by true o e = refl
    by false None e = e
    by false (Some n) e = e

-- one more entry, where the name is loaded
pub named_last : (name : List ℕ) (loaded : List Loaded) (slots : List ℕ) (entry : Loaded) (slot : ℕ) → length slots ≡ length loaded → is_some (find (is_named name) loaded) ≡ true → slot_named name (loaded ++ entry ∷ []) (slots ++ slot ∷ []) ≡ slot_named name loaded slots
named_last name [] slots entry slot long found = absurd (cc)
named_last name (x ∷ loaded) [] entry slot long found = absurd (omega arith)
named_last name (x ∷ loaded) (s ∷ slots) entry slot long found = by (is_named name x) (named_last name loaded slots entry slot (omega arith)) found
  where
    by : (b : Bool) → (is_some (find (is_named name) loaded) ≡ true → slot_named name (loaded ++ entry ∷ []) (slots ++ slot ∷ []) ≡ slot_named name loaded slots) → is_some (cond b (Some x) (find (is_named name) loaded)) ≡ true
        → cond b s (slot_named name (loaded ++ entry ∷ []) (slots ++ slot ∷ [])) ≡ cond b s (slot_named name loaded slots)
    by true more found = refl
    by false more found = more found

-- an entry of another name is replaced by such a one
pub named_set : (name : List ℕ) (loaded : List Loaded) (slots : List ℕ) (i : ℕ) (entry : Loaded) (slot : ℕ) → length slots ≡ length loaded → is_named name (get_or loaded i no_entry) ≡ false → is_named name entry ≡ false → slot_named name (set loaded i entry) (set slots i slot) ≡ slot_named name loaded slots
named_set name [] slots i entry slot long old new = refl
named_set name (x ∷ loaded) [] i entry slot long old new = absurd (omega arith)
named_set name (x ∷ loaded) (s ∷ slots) zero entry slot long old new = rw new (rw old refl)
named_set name (x ∷ loaded) (s ∷ slots) (suc i) entry slot long old new = ap (cond (is_named name x) s) (named_set name loaded slots i entry slot (omega arith) old new)

-- an entry of another name is taken out
pub named_remove : (name : List ℕ) (loaded : List Loaded) (slots : List ℕ) (i : ℕ) → length slots ≡ length loaded → i < length loaded → is_named name (get_or loaded i no_entry) ≡ false → slot_named name (remove loaded i) (remove slots i) ≡ slot_named name loaded slots
named_remove name [] slots i long within old = absurd (omega arith)
named_remove name (x ∷ loaded) [] i long within old = absurd (omega arith)
named_remove name (x ∷ loaded) (s ∷ slots) zero long within old = rw old refl
named_remove name (x ∷ loaded) (s ∷ slots) (suc i) long within old = ap (cond (is_named name x) s) (named_remove name loaded slots i (omega arith) (omega arith) old)

-- the slot of a name holds the image of its entry
pub named_holds : (gate : GateAdmin) (name : List ℕ) (loaded : List Loaded) (slots : List ℕ) → AllZip (IsSeated gate) loaded slots → Holds (slot_named name loaded slots) (admin_seen gate) (find (is_named name) loaded)
named_holds gate name [] [] zip = refl
named_holds gate name [] (slot ∷ slots) zip = absurd zip
named_holds gate name (entry ∷ loaded) [] zip = absurd zip
named_holds gate name (entry ∷ loaded) (slot ∷ slots) zip = by (is_named name entry) (named_holds gate name loaded slots zip.1)
  where
    by : (b : Bool) → Holds (slot_named name loaded slots) (admin_seen gate) (find (is_named name) loaded)
        → Holds (cond b slot (slot_named name loaded slots)) (admin_seen gate) (cond b (Some entry) (find (is_named name) loaded))
    by true more = zip.0.1
    by false more = more

-- it is bound
pub named_bound : (gate : GateAdmin) (name : List ℕ) (loaded : List Loaded) (slots : List ℕ) → AllZip (IsSeated gate) loaded slots → 0 < slot_named name loaded slots → IsBound gate (slot_named name loaded slots)
named_bound gate name [] [] zip some = absurd (omega arith)
named_bound gate name [] (slot ∷ slots) zip some = absurd zip
named_bound gate name (entry ∷ loaded) [] zip some = absurd zip
named_bound gate name (entry ∷ loaded) (slot ∷ slots) zip some = by (is_named name entry) (named_bound gate name loaded slots zip.1) some
  where
    by : (b : Bool) → (0 < slot_named name loaded slots → IsBound gate (slot_named name loaded slots)) → 0 < cond b slot (slot_named name loaded slots) → IsBound gate (cond b slot (slot_named name loaded slots))
    by true more some = zip.0.0
    by false more some = more some

-- it is one of the slots
pub named_off : (k : ℕ) (name : List ℕ) (loaded : List Loaded) (slots : List ℕ) → 0 < k → Off k slots → k ≢ slot_named name loaded slots
named_off k name [] slots some off = λ e. absurd (omega arith)
named_off k name (entry ∷ loaded) [] some off = λ e. absurd (omega arith)
named_off k name (entry ∷ loaded) (slot ∷ slots) some off = by (is_named name entry) (named_off k name loaded slots some off.1)
  where
    by : (b : Bool) → k ≢ slot_named name loaded slots → k ≢ cond b slot (slot_named name loaded slots)
    by true more = λ e. true≢false (sym (eq-eqb k slot e) ∙ off.0)
    by false more = more
