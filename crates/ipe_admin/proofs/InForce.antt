-- The slot of the active policy.
use Rattle.std.proofs.Common.{◌≡◌, ◌≢◌, ℕ, ◌+◌, ◌<◌, ◌==◌, ◌&&◌, Bool, true, false, cond, List, [], ◌∷◌, ◌++◌, length, get_or, remove, Option, Some, None, is_some, nat_lt, inl, inr, refl, sym, ap, subst, ◌∙◌, arith}
use Rattle.std.specs.Prelude.{slice_set}
use Rattle.std.specs.List.{AllZip}
use Rattle.std.specs.Option.{option_and_then, option_map_or}
use Rattle.std.specs.Cmp.Lexicographic.{same_text}
use lib.Pointwise.{bytes_decides}
use Rattle.std.proofs.lemmas.Bool.{cases_Bool, true≢false, both_ways}
use Rattle.std.proofs.lemmas.List.Quantifiers.{position-Some}
use Rattle.line_words.specs.Words.{is_text}
use Rattle.ipe_machine.specs.Policies.{Policies, Loaded, active_entry, entry_named, is_active, is_named, place_of, replaced}
use Rattle.ipe_machine.specs.Change.{Change, Loads, Updates, Activates, Deletes, SetsEnforce, SetsSuccess, later, made, raises, updated}
use Rattle.ipe_machine.specs.Epochs.{ActiveIsLoaded}
use Rattle.ipe_gate.specs.declared.administrator.GateAdmin.{GateAdmin}
use Rattle.ipe_gate.specs.Seats.{IsBound, admin_seen}
use Rattle.ipe_weave.specs.Gate.{Holds}
use Rattle.ipe_admin.specs.Agreement.{IsSeated, slot_in_force, slot_named}
use Rattle.ipe_admin.specs.Changes.{slots_after}
use Rattle.ipe_admin.proofs.Lists.{Off}
use Rattle.ipe_admin.proofs.Named.{found_is, named_bound, named_holds, named_last, named_off, named_remove, named_set, no_entry}
use Rattle.ipe_admin.proofs.Planned.{Fits}

-- a name that is active is loaded, as a test and as a law
pub sound_of : (policies : Policies) → is_some policies.active ≡ is_some (active_entry policies) → ActiveIsLoaded policies
sound_of policies same name named = by (active_entry policies) (sym same ∙ ap is_some named)
  where
    by : (entry : Option Loaded) → is_some entry ≡ true → (there : Loaded) × (entry ≡ Some there)
    by None some = absurd (true≢false (sym some))
    by (Some there) some = (there, refl)

pub test_of : (policies : Policies) → ActiveIsLoaded policies → is_some policies.active ≡ is_some (active_entry policies)
test_of policies sound = by policies.active sound
  where
    by : (active : Option (List ℕ)) → ((name : List ℕ) → active ≡ Some name → (entry : Loaded) × (option_and_then (λ n. entry_named n policies.loaded) active ≡ Some entry))
        → is_some active ≡ is_some (option_and_then (λ n. entry_named n policies.loaded) active)
    by None sound = refl
    by (Some name) sound = sym (ap is_some (sound name refl).1)

-- the slot of the active policy holds its image
pub holds_in_force : (gate : GateAdmin) (policies : Policies) (slots : List ℕ) → AllZip (IsSeated gate) policies.loaded slots → Holds (slot_in_force policies slots) (admin_seen gate) (active_entry policies)
holds_in_force gate policies slots zip = by policies.active
  where
    by : (active : Option (List ℕ)) → Holds (option_map_or (λ name. slot_named name policies.loaded slots) active 0) (admin_seen gate) (option_and_then (λ n. entry_named n policies.loaded) active)
    by None = refl
    by (Some name) = subst (Holds (slot_named name policies.loaded slots) (admin_seen gate)) (sym (found_is name policies.loaded)) (named_holds gate name policies.loaded slots zip)

-- it is bound
pub bound_in_force : (gate : GateAdmin) (policies : Policies) (slots : List ℕ) → AllZip (IsSeated gate) policies.loaded slots → 0 < slot_in_force policies slots → IsBound gate (slot_in_force policies slots)
bound_in_force gate policies slots zip some = by policies.active some
  where
    by : (active : Option (List ℕ)) → 0 < option_map_or (λ name. slot_named name policies.loaded slots) active 0 → IsBound gate (option_map_or (λ name. slot_named name policies.loaded slots) active 0)
    by None some = absurd (omega arith)
    by (Some name) some = named_bound gate name policies.loaded slots zip some

-- a slot that isn't one of the policies'
pub off_in_force : (k : ℕ) (policies : Policies) (slots : List ℕ) → 0 < k → Off k slots → k ≢ slot_in_force policies slots
off_in_force k policies slots some off = by policies.active
  where
    by : (active : Option (List ℕ)) → k ≢ option_map_or (λ name. slot_named name policies.loaded slots) active 0
    by None = λ e. absurd (omega arith)
    by (Some name) = named_off k name policies.loaded slots some off

-- an entry of one name hasn't another
other_name : (active name : List ℕ) (entry : Loaded) → is_text name active ≡ false → is_named name entry ≡ true → is_named active entry ≡ false
other_name active name entry differs is = elim (cases_Bool (is_named active entry)) [
  | inl same ↦
      let e : active ≡ name = sym (same_text entry.name active (sym same)) ∙ same_text entry.name name (sym is) in
      let shown : is_text name active ≡ true = ap (is_text name) e ∙ (bytes_decides name name).1 refl in
      absurd (both_ways (is_text name active) differs shown)
  | inr apart ↦ apart
]

-- the slot of the active name, as a function of the lists
abbrev of_active : Option (List ℕ) → List Loaded → List ℕ → ℕ
of_active active loaded slots = option_map_or (λ name. slot_named name loaded slots) active 0

load_still : (active : Option (List ℕ)) (loaded : List Loaded) (slots : List ℕ) (entry : Loaded) (placed : ℕ) → length slots ≡ length loaded → is_some active ≡ is_some (option_and_then (λ n. entry_named n loaded) active)
    → of_active active (loaded ++ entry ∷ []) (slots ++ placed ∷ []) ≡ of_active active loaded slots
load_still None loaded slots entry placed long same = refl
load_still (Some name) loaded slots entry placed long same = named_last name loaded slots entry placed long (ap is_some (sym (found_is name loaded)) ∙ sym same)

update_still : (active : Option (List ℕ)) (loaded : List Loaded) (slots : List ℕ) (name : List ℕ) (entry : Loaded) (placed : ℕ) → length slots ≡ length loaded → option_map_or (is_text name) active false ≡ false → is_named name entry ≡ true → (at : Option ℕ) → place_of name loaded ≡ at
    → of_active active (option_map_or (λ place. slice_set loaded place entry) at loaded) (option_map_or (λ place. slice_set slots place placed) at slots) ≡ of_active active loaded slots
update_still active loaded slots name entry placed long idle is None at = refl
update_still None loaded slots name entry placed long idle is (Some place) at = refl
update_still (Some other) loaded slots name entry placed long idle is (Some place) at =
    let there = position-Some (is_named name) loaded place no_entry at in
    named_set other loaded slots place entry placed long (other_name other name (get_or loaded place no_entry) idle there.1) (other_name other name entry idle is)

delete_still : (active : Option (List ℕ)) (loaded : List Loaded) (slots : List ℕ) (name : List ℕ) → length slots ≡ length loaded → option_map_or (is_text name) active false ≡ false → (at : Option ℕ) → place_of name loaded ≡ at
    → of_active active (option_map_or (remove loaded) at loaded) (option_map_or (remove slots) at slots) ≡ of_active active loaded slots
delete_still active loaded slots name long idle None at = refl
delete_still None loaded slots name long idle (Some place) at = refl
delete_still (Some other) loaded slots name long idle (Some place) at =
    let there = position-Some (is_named name) loaded place no_entry at in
    named_remove other loaded slots place long there.0 (other_name other name (get_or loaded place no_entry) idle there.1)

next_raises : (n : ℕ) → nat_lt n (n + 1) ≡ true
next_raises n = grind arith

-- policies of one epoch, with the same slot in force
pub record Still (before after : Policies) (slots next : List ℕ) : Type 0 where
  pub slot : slot_in_force after next ≡ slot_in_force before slots
  pub epoch : after.epoch ≡ before.epoch
  pub enforce : after.enforce ≡ before.enforce
  pub success : after.success ≡ before.success

-- a change that leaves the epoch
pub still : (policies : Policies) (slots : List ℕ) (placed : ℕ) (change : Change) → length slots ≡ length policies.loaded → is_some policies.active ≡ is_some (active_entry policies) → Fits policies change → raises policies change ≡ false → Still policies (made policies change) slots (slots_after policies slots placed change)
still policies slots placed (Loads entry) long same fits calm =
    record { slot = load_still policies.active policies.loaded slots entry placed long same; epoch = refl; enforce = refl; success = refl }
still policies slots placed (Updates name entry) long same fits calm =
    by (is_active name policies) calm (λ idle. update_still policies.active policies.loaded slots name entry placed long idle fits.0 (place_of name policies.loaded) refl)
  where
    next : List ℕ
    next = slots_after policies slots placed (Updates name entry)

    new : Bool → Policies
    new b = cond b (later (updated policies name entry)) (updated policies name entry)

    by : (b : Bool) → nat_lt policies.epoch (new b).epoch ≡ false → (b ≡ false → of_active policies.active (replaced policies.loaded name entry) next ≡ slot_in_force policies slots)
        → Still policies (new b) slots next
    by true calm more = absurd (true≢false (sym (next_raises policies.epoch) ∙ calm))
    by false calm more = record { slot = more refl; epoch = refl; enforce = refl; success = refl }
still policies slots placed (Activates name) long same fits calm = absurd (true≢false (sym (next_raises policies.epoch) ∙ calm))
still policies slots placed (Deletes name) long same fits calm =
    record { slot = delete_still policies.active policies.loaded slots name long fits (place_of name policies.loaded) refl; epoch = refl; enforce = refl; success = refl }
still policies slots placed (SetsEnforce on) long same fits calm = absurd (true≢false (sym (next_raises policies.epoch) ∙ calm))
still policies slots placed (SetsSuccess on) long same fits calm = absurd (true≢false (sym (next_raises policies.epoch) ∙ calm))

-- a change that raises the epoch comes before the last one, and begins the next
pub begins : (policies : Policies) (change : Change) → Fits policies change → raises policies change ≡ true → ((made policies change).epoch ≡ policies.epoch + 1) × ((policies.epoch == 65535) ≡ false)
begins policies (Loads entry) fits rises = absurd (let e = rises in grind arith)
begins policies (Updates name entry) fits rises = by (is_active name policies) rises fits.1
  where
    new : Bool → Policies
    new b = cond b (later (updated policies name entry)) (updated policies name entry)

    by : (b : Bool) → nat_lt policies.epoch (new b).epoch ≡ true → (b && (policies.epoch == 65535)) ≡ false → ((new b).epoch ≡ policies.epoch + 1) × ((policies.epoch == 65535) ≡ false)
    by true rises last = (refl, last)
    by false rises last = absurd (let e = rises in grind arith)
begins policies (Activates name) fits rises = (refl, fits)
begins policies (Deletes name) fits rises = absurd (let e = rises in grind arith)
begins policies (SetsEnforce on) fits rises = (refl, fits)
begins policies (SetsSuccess on) fits rises = (refl, fits)
