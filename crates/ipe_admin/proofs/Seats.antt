-- What is bound and what it holds, from one step of a change to the next.
use Rattle.std.proofs.Common.{◌≡◌, ◌≢◌, ℕ, zero, suc, ◌+◌, ◌<◌, ◌≤◌, Bool, true, false, cond, List, [], ◌∷◌, length, get_or, remove, Option, Some, None, refl, sym, ap, subst, ◌∙◌, arith, length-append, length-set}
use Rattle.std.specs.Prelude.{slice_index, slice_index_or, slice_set}
use Rattle.std.specs.List.{AllZip}
use Rattle.std.specs.Option.{option_map_or}
use Rattle.std.proofs.lemmas.Bool.{true≢false}
use Rattle.std.proofs.lemmas.List.{get_or-set_other}
use Rattle.std.proofs.lemmas.List.Edits.{length-remove}
use Rattle.std.proofs.lemmas.List.Quantifiers.{position-Some}
use Rattle.ipe_image.specs.Law.{ReadAsThemselves, AreOfPolicies}
use Rattle.ipe_image.specs.Reading.{image_in}
use Rattle.ipe_machine.specs.Policies.{Policies, Loaded, is_active, is_named, place_of, replaced}
use Rattle.ipe_machine.specs.Change.{Change, Loads, Updates, Activates, Deletes, SetsEnforce, SetsSuccess, entry_in, later, made, updated}
use Rattle.ipe_records.specs.Ruled.{parts_in}
use Rattle.ipe_gate_rule.specs.History.{content}
use Rattle.ipe_gate_rule.specs.Regions.{region, words_at}
use Rattle.ipe_gate.specs.declared.administrator.GateAdmin.{GateAdmin}
use Rattle.ipe_gate.specs.Seats.{IsBound, admin_seen, bound_slots}
use Rattle.ipe_gate.specs.Slots.{bound_count}
use Rattle.ipe_gate.specs.Placing.{IsPlacement}
use Rattle.ipe_admin.specs.Agreement.{AreSeated, IsSeated}
use Rattle.ipe_admin.specs.Changes.{IsLetGo, IsPlaced, one_for, slot_left, slots_after}
use Rattle.ipe_admin.proofs.Lists.{Apart, Off, apart_last, apart_pairs, apart_remove, apart_set, off_none, removed_off, set_off, each_zip, pairs_apart, zip_all, zip_each, zip_last, zip_length, zip_off, zip_remove, zip_set}
use Rattle.ipe_admin.proofs.Named.{no_entry}
use Rattle.ipe_admin.proofs.Planned.{Fits}
use Rattle.ipe_admin.proofs.Regions.{region_told}

-- each loaded policy has a slot of its own, and besides them at most this one is bound
pub record Seats (gate : GateAdmin) (loaded : List Loaded) (slots : List ℕ) (spare : ℕ) : Type 0 where
  pub each : AllZip (IsSeated gate) loaded slots
  pub apart : Apart slots
  pub off : 0 < spare → Off spare slots
  pub bound : 0 < spare → IsBound gate spare
  pub count : bound_slots gate ≡ length slots + one_for spare
  pub few : length slots ≤ 32

-- a slot stays so where it stays bound and its region is as it was
pub seated_still : (a b : GateAdmin) (entry : Loaded) (slot : ℕ) → (IsBound a slot → IsBound b slot) → ((i : ℕ) → content slot i (admin_seen b) ≡ content slot i (admin_seen a)) → IsSeated a entry slot → IsSeated b entry slot
seated_still a b entry slot stays same seated =
    let words : region slot (admin_seen b) ≡ region slot (admin_seen a) = ap words_at (λ j i. same i j) in
    (stays seated.0, (seated.1.0, ap image_in words ∙ seated.1.1))

one_is : (k : ℕ) → 0 < k → one_for k ≡ 1
one_is zero some = absurd (omega arith)
one_is (suc k) some = refl

is_one : (k : ℕ) → k ≢ 0 → 0 < k
is_one zero ne = absurd (ne refl)
is_one (suc k) ne = omega arith

pub seats_none : (gate : GateAdmin) (loaded : List Loaded) (slots : List ℕ) → AreSeated gate loaded slots → Seats gate loaded slots 0
seats_none gate loaded slots s = record {
  each = each_zip (IsSeated gate) loaded slots s.long s.each;
  apart = pairs_apart slots s.apart;
  off = λ some. absurd (omega arith);
  bound = λ some. absurd (omega arith);
  count = let e = s.count in let z : one_for 0 ≡ 0 = refl in omega arith;
  few = s.few;
}

still_bound : (xs : List Bool) (slot k : ℕ) (b : Bool) → k ≢ slot → slice_index_or xs k false ≡ true → slice_index_or (slice_set xs slot b) k false ≡ true
still_bound xs slot k b apart is = get_or-set_other xs slot k b false apart ∙ is

-- an image was put into a slot, or none
pub placed_seats : (a b : GateAdmin) (loaded : List Loaded) (slots : List ℕ) (image : Option (List ℕ)) (slot : ℕ) → AreSeated a loaded slots → IsPlaced image a b slot → Seats b loaded slots slot
placed_seats a b loaded slots None slot s placed =
    subst (λ (k : ℕ). Seats b loaded slots k) (sym placed.1) (subst (λ (g : GateAdmin). Seats g loaded slots 0) (sym placed.0) (seats_none a loaded slots s))
placed_seats a b loaded slots (Some words) slot s placed =
    let zip = each_zip (IsSeated a) loaded slots s.long s.each in
    let apart : (entry : Loaded) (k : ℕ) → IsSeated a entry k → k ≢ slot = λ entry k seated e. true≢false (sym (subst (IsBound a) e seated.0) ∙ placed.0.unbound) in record {
      each = zip_all (IsSeated a) (IsSeated b) loaded slots (λ entry k seated.
          let ne = apart entry k seated in
          seated_still a b entry k (λ is. subst (λ (bs : List Bool). slice_index_or bs k false ≡ true) (sym placed.0.bound) (still_bound a.bound slot k true ne is)) (λ i. placed.0.others k i ne) seated) zip;
      apart = pairs_apart slots s.apart;
      off = λ some. off_none (IsSeated a) slot loaded slots (λ entry seated. apart entry slot seated refl) zip;
      bound = λ some. placed.0.is_bound;
      count = let m = placed.0.more in let e = s.count in let o = one_is slot placed.0.some in omega arith;
      few = s.few;
    }

-- the slot into which the image of an entry was put
pub newly_seated : ReadAsThemselves → AreOfPolicies → (a b : GateAdmin) (entry : Loaded) (slot : ℕ) (words : List ℕ) → length words ≤ 4096 → IsPlacement a b slot words → image_in words ≡ Some (parts_in entry) → IsSeated b entry slot
newly_seated read policies a b entry slot words few placed told =
    (placed.is_bound, (λ e. let p = placed.some in absurd (omega arith), region_told read policies slot (admin_seen b) words (parts_in entry) few placed.region told))

-- the slot that a change brings an entry in
abbrev pub Brings : GateAdmin → Option Loaded → ℕ → Type 0
Brings gate None slot = slot ≡ 0
Brings gate (Some entry) slot = IsSeated gate entry slot

unspared : (gate : GateAdmin) (loaded : List Loaded) (slots : List ℕ) (spare : ℕ) → spare ≡ 0 → Seats gate loaded slots spare → Seats gate loaded slots 0
unspared gate loaded slots spare none s = subst (λ (k : ℕ). Seats gate loaded slots k) none s

updated_loaded : (policies : Policies) (name : List ℕ) (entry : Loaded) → (made policies (Updates name entry)).loaded ≡ replaced policies.loaded name entry
updated_loaded policies name entry = by (is_active name policies)
  where
    by : (b : Bool) → (cond b (later (updated policies name entry)) (updated policies name entry)).loaded ≡ replaced policies.loaded name entry
    by true = refl
    by false = refl

-- the slot at a place is bound
seat_at : (gate : GateAdmin) (loaded : List Loaded) (slots : List ℕ) (place : ℕ) → AllZip (IsSeated gate) loaded slots → place < length slots → IsBound gate (get_or slots place 0) × (0 < get_or slots place 0)
seat_at gate [] [] place zip within = absurd (omega arith)
seat_at gate [] (k ∷ slots) place zip within = absurd zip
seat_at gate (x ∷ loaded) [] place zip within = absurd zip
seat_at gate (x ∷ loaded) (k ∷ slots) zero zip within = (zip.0.0, is_one k zip.0.1.0)
seat_at gate (x ∷ loaded) (k ∷ slots) (suc place) zip within = seat_at gate loaded slots place zip.1 (omega arith)

update_seats : (gate : GateAdmin) (loaded : List Loaded) (slots : List ℕ) (placed : ℕ) (name : List ℕ) (entry : Loaded) → Seats gate loaded slots placed → IsSeated gate entry placed → (at : Option ℕ) → place_of name loaded ≡ at
    → Seats gate (option_map_or (λ place. slice_set loaded place entry) at loaded) (option_map_or (λ place. slice_set slots place placed) at slots) (option_map_or (slice_index slots) at placed)
update_seats gate loaded slots placed name entry s new None at = s
update_seats gate loaded slots placed name entry s new (Some place) at =
    let there = position-Some (is_named name) loaded place no_entry at in
    let some : 0 < placed = is_one placed new.1.0 in
    let long = zip_length (IsSeated gate) loaded slots s.each in
    let within : place < length slots = (let t = there.0 in omega arith) in
    let old = seat_at gate loaded slots place s.each within in record {
      each = zip_set (IsSeated gate) loaded slots place entry placed s.each new;
      apart = apart_set slots place placed s.apart (s.off some);
      off = λ pos. set_off slots place placed s.apart (s.off some) within;
      bound = λ pos. old.0;
      count =
          let c = s.count in
          let l = length-set slots place placed in
          let m = one_is placed some in
          let n = one_is (get_or slots place 0) old.1 in
          omega arith;
      few = let f = s.few in let l = length-set slots place placed in omega arith;
    }

delete_seats : (gate : GateAdmin) (loaded : List Loaded) (slots : List ℕ) (name : List ℕ) → Seats gate loaded slots 0 → (at : Option ℕ) → place_of name loaded ≡ at
    → Seats gate (option_map_or (remove loaded) at loaded) (option_map_or (remove slots) at slots) (option_map_or (slice_index slots) at 0)
delete_seats gate loaded slots name s None at = s
delete_seats gate loaded slots name s (Some place) at =
    let there = position-Some (is_named name) loaded place no_entry at in
    let long = zip_length (IsSeated gate) loaded slots s.each in
    let within : place < length slots = (let t = there.0 in omega arith) in
    let old = seat_at gate loaded slots place s.each within in record {
      each = zip_remove (IsSeated gate) loaded slots place s.each;
      apart = apart_remove slots place s.apart;
      off = λ pos. removed_off slots place s.apart within;
      bound = λ pos. old.0;
      count =
          let c = s.count in
          let l = length-remove slots place within in
          let z : one_for 0 ≡ 0 = refl in
          let n = one_is (get_or slots place 0) old.1 in
          omega arith;
      few = let f = s.few in let l = length-remove slots place within in omega arith;
    }

-- the slots follow a change
pub followed : (gate : GateAdmin) (policies : Policies) (slots : List ℕ) (placed : ℕ) (change : Change) → Seats gate policies.loaded slots placed → Brings gate (entry_in change) placed → Fits policies change → Seats gate (made policies change).loaded (slots_after policies slots placed change) (slot_left policies slots placed change)
followed gate policies slots placed (Loads entry) s new fits =
    let some : 0 < placed = is_one placed new.1.0 in record {
      each = zip_last (IsSeated gate) policies.loaded slots entry placed s.each new;
      apart = apart_last slots placed s.apart (s.off some);
      off = λ pos. absurd (omega arith);
      bound = λ pos. absurd (omega arith);
      count = let c = s.count in let l = length-append slots (placed ∷ []) in let m = one_is placed some in let z : one_for 0 ≡ 0 = refl in omega arith;
      few = let long = zip_length (IsSeated gate) policies.loaded slots s.each in let l = length-append slots (placed ∷ []) in let f = fits in omega arith;
    }
followed gate policies slots placed (Updates name entry) s new fits =
    subst (λ (loaded : List Loaded). Seats gate loaded (slots_after policies slots placed (Updates name entry)) (slot_left policies slots placed (Updates name entry))) (sym (updated_loaded policies name entry))
    (update_seats gate policies.loaded slots placed name entry s new (place_of name policies.loaded) refl)
followed gate policies slots placed (Activates name) s new fits = unspared gate policies.loaded slots placed new s
followed gate policies slots placed (Deletes name) s new fits = delete_seats gate policies.loaded slots name (unspared gate policies.loaded slots placed new s) (place_of name policies.loaded) refl
followed gate policies slots placed (SetsEnforce on) s new fits = unspared gate policies.loaded slots placed new s
followed gate policies slots placed (SetsSuccess on) s new fits = unspared gate policies.loaded slots placed new s

-- all stay where what is bound and the regions are as they were
pub seats_still : (a b : GateAdmin) (loaded : List Loaded) (slots : List ℕ) (spare : ℕ) → b.bound ≡ a.bound → ((k i : ℕ) → content k i (admin_seen b) ≡ content k i (admin_seen a)) → Seats a loaded slots spare → Seats b loaded slots spare
seats_still a b loaded slots spare bound same s =
    let stays : (k : ℕ) → IsBound a k → IsBound b k = λ k is. subst (λ (bs : List Bool). slice_index_or bs k false ≡ true) (sym bound) is in record {
      each = zip_all (IsSeated a) (IsSeated b) loaded slots (λ entry k seated. seated_still a b entry k (stays k) (same k) seated) s.each;
      apart = s.apart;
      off = s.off;
      bound = λ some. stays spare (s.bound some);
      count = ap bound_count bound ∙ s.count;
      few = s.few;
    }

-- one slot was let go of
pub let_go_seats : (a b : GateAdmin) (loaded : List Loaded) (slots : List ℕ) (spare : ℕ) → IsLetGo spare a b → Seats a loaded slots spare → AreSeated b loaded slots
let_go_seats a b loaded slots spare gone s =
    record {
      long = zip_length (IsSeated a) loaded slots s.each;
      each = zip_each (IsSeated b) loaded slots (by spare s.off gone.others);
      apart = apart_pairs slots s.apart;
      count = let f = gone.fewer in let c = s.count in omega arith;
      few = s.few;
    }
  where
    same : (k i : ℕ) → content k i (admin_seen b) ≡ content k i (admin_seen a)
    same k i = ap (content k i) gone.seen_is

    by : (spare : ℕ) → (0 < spare → Off spare slots) → ((k : ℕ) → k ≢ spare → IsBound a k → IsBound b k) → AllZip (IsSeated b) loaded slots
    by zero off others = zip_all (IsSeated a) (IsSeated b) loaded slots (λ entry k seated. seated_still a b entry k (others k seated.1.0) (same k) seated) s.each
    by (suc n) off others = zip_off (IsSeated a) (IsSeated b) (suc n) loaded slots (λ entry k ne seated. seated_still a b entry k (others k ne) (same k) seated) (off (omega arith)) s.each
