-- A command leaves the epoch, and then what is in force too, or it begins the next epoch.
use Rattle.std.proofs.Common.{◌≡◌, ℕ, ◌+◌, ◌≤◌, not, Bool, true, false, cond, List, [], ◌∷◌, ◌++◌, length, get_or, Option, Some, None, Result, Ok, Err, refl, sym, ap, subst, ◌∙◌, inl, inr, ◌⊎◌}
use Rattle.std.specs.Prelude.{is_none}
use Rattle.std.specs.List.{find, slice_set, remove}
use Rattle.std.specs.Option.{option_map_or, option_and_then}
use Rattle.std.proofs.lemmas.Bool.{cases_Bool, both_ways}
use Rattle.std.proofs.lemmas.List.Folds.{find_past}
use Rattle.std.proofs.lemmas.List.Quantifiers.{position-Some}
use Rattle.line_words.specs.Words.{is_text}
use Rattle.ipe_machine.specs.declared.command.Act.{Act}
use Rattle.ipe_machine.specs.declared.command.Act.TheVariants.{Load, Update, Activate, Delete, Enforce, SuccessAudit}
use Rattle.ipe_machine.specs.declared.command.Command.{Command}
use Rattle.ipe_machine.specs.declared.command.Value.{Value}
use Rattle.ipe_machine.specs.declared.answer.Done as done
use Rattle.ipe_machine.specs.declared.answer.Done.{Done}
use Rattle.ipe_machine.specs.declared.answer.Refusal as refusal
use Rattle.ipe_machine.specs.declared.answer.Refusal.{Refusal}
use Rattle.ipe_machine.specs.Policies.{Policies, Loaded, place_of, entry_named, is_named, is_active, active_entry, policy_in, entry_of, replaced, without}
use Rattle.ipe_machine.specs.Change.{changed, is_true, later, updated}
use Rattle.ipe_machine.specs.Answer.{Verdicts, act_answer, after, after_answer}
use Rattle.ipe_machine.specs.Epochs.{ActiveIsLoaded, StaysOrBegins, CommandsStayOrBegin}
use Rattle.ipe_machine.proofs.Answers.{passed}
use Rattle.ipe_machine.proofs.Entries.{entry_named_is, entry_there, no_entry, find-remove, find_more}
use Rattle.ipe_machine.proofs.Kept.{named_same, named_self, update_ok, with_loaded, Keeps, AtLeast, act_keeps}

near_itself : (policies : Policies) → StaysOrBegins policies policies
near_itself policies = inl (refl, (refl, refl, refl))

-- a change of the list alone, that keeps the entry of the active name
calm_by_name : (policies : Policies) (loaded : List Loaded) → ActiveIsLoaded policies → ((name : List ℕ) → policies.active ≡ Some name → (entry : Loaded) → find (is_named name) policies.loaded ≡ Some entry → find (is_named name) loaded ≡ Some entry) → active_entry (with_loaded policies loaded) ≡ active_entry policies
calm_by_name policies loaded sound keeps = go policies.active keeps sound
  where
    go : (active : Option (List ℕ)) → ((name : List ℕ) → active ≡ Some name → (entry : Loaded) → find (is_named name) policies.loaded ≡ Some entry → find (is_named name) loaded ≡ Some entry)
        → ((name : List ℕ) → active ≡ Some name → (entry : Loaded) × (option_and_then (λ name. entry_named name policies.loaded) active ≡ Some entry))
        → option_and_then (λ name. entry_named name loaded) active ≡ option_and_then (λ name. entry_named name policies.loaded) active
    go None keeps sound = refl
    go (Some name) keeps sound =
        let found = sound name refl in
        entry_named_is name loaded ∙ keeps name refl found.0 (sym (entry_named_is name policies.loaded) ∙ found.1) ∙ sym found.1

load_near : (policies : Policies) (text : List ℕ) → ActiveIsLoaded policies → StaysOrBegins policies (changed policies (Load text))
load_near policies text sound =
    let loaded : List Loaded = policies.loaded ++ entry_of policies.next text ∷ [] in
    inl (refl, (calm_by_name policies loaded sound (λ name named entry found. find_more (is_named name) policies.loaded (entry_of policies.next text ∷ []) entry found), refl, refl))

-- the entry at the place of another name isn't the active one
other_name : (policies : Policies) (active name : List ℕ) (entry : Loaded) → policies.active ≡ Some active → is_active name policies ≡ false → is_named name entry ≡ true → is_named active entry ≡ false
other_name policies active name entry named idle is = elim (cases_Bool (is_named active entry)) [
  | inl same ↦
      let e : active ≡ name = sym (named_same active entry same) ∙ named_same name entry is in
      let shown : is_active name policies ≡ true = ap (λ (o : Option (List ℕ)). option_map_or (is_text name) o false) (named ∙ ap (λ (n : List ℕ). Some n) e) ∙ named_self name in
      absurd (both_ways (is_active name policies) idle shown)
  | inr differs ↦ differs
]

delete_near : (policies : Policies) (name : List ℕ) (wanted : Value) → ActiveIsLoaded policies → is_active name policies ≡ false → StaysOrBegins policies (changed policies (Delete name wanted))
delete_near policies name wanted sound idle = inl (refl, (calm_by_name policies (without policies.loaded name) sound (λ active named entry found. go active named entry found (place_of name policies.loaded) refl), refl, refl))
  where
    go : (active : List ℕ) → policies.active ≡ Some active → (entry : Loaded) → find (is_named active) policies.loaded ≡ Some entry → (at : Option ℕ) → place_of name policies.loaded ≡ at → find (is_named active) (option_map_or (remove policies.loaded) at policies.loaded) ≡ Some entry
    go active named entry found None at = found
    go active named entry found (Some place) at =
        let there = position-Some (is_named name) policies.loaded place no_entry at in
        find-remove (is_named active) policies.loaded place no_entry there.0 (other_name policies active name (get_or policies.loaded place no_entry) named idle there.1) ∙ found

-- an update of a name that isn't active
update_calm : (policies : Policies) (name : List ℕ) (new : Loaded) → ActiveIsLoaded policies → is_active name policies ≡ false → new.name ≡ name → active_entry (with_loaded policies (replaced policies.loaded name new)) ≡ active_entry policies
update_calm policies name new sound idle named = calm_by_name policies (replaced policies.loaded name new) sound (λ active is entry found. go active is entry found (place_of name policies.loaded) refl)
  where
    go : (active : List ℕ) → policies.active ≡ Some active → (entry : Loaded) → find (is_named active) policies.loaded ≡ Some entry → (at : Option ℕ) → place_of name policies.loaded ≡ at → find (is_named active) (option_map_or (λ place. slice_set policies.loaded place new) at policies.loaded) ≡ Some entry
    go active is entry found None at = found
    go active is entry found (Some place) at =
        let there = position-Some (is_named name) policies.loaded place no_entry at in
        let differs = other_name policies active name (get_or policies.loaded place no_entry) is idle there.1 in
        let own : (get_or policies.loaded place no_entry).name ≡ name = named_same name (get_or policies.loaded place no_entry) there.1 in
        find_past (is_named active) policies.loaded place new no_entry differs (ap (is_text active) (named ∙ sym own) ∙ differs) ∙ found

update_near : (policies : Policies) (name text : List ℕ) → ActiveIsLoaded policies → (policy_in text).name ≡ name → StaysOrBegins policies (changed policies (Update name text))
update_near policies name text sound named = go (is_active name policies) refl
  where
    go : (active : Bool) → is_active name policies ≡ active → StaysOrBegins policies (cond active (later (updated policies name (entry_of policies.next text))) (updated policies name (entry_of policies.next text)))
    go true is = inr refl
    go false is = inl (refl, (update_calm policies name (entry_of policies.next text) sound is named, refl, refl))

-- an act that is done changes the policies, or leaves them as they are
by_done : (policies : Policies) (act : Act) (did : Done) → StaysOrBegins policies (changed policies act) → StaysOrBegins policies (after_answer policies act (Ok did))
by_done policies act done.TheVariants.Loaded near = near
by_done policies act done.TheVariants.Updated near = near
by_done policies act done.TheVariants.Activated near = near
by_done policies act done.TheVariants.AlreadyActive near = near_itself policies
by_done policies act done.TheVariants.Deleted near = near
by_done policies act done.TheVariants.Changed near = near
by_done policies act done.TheVariants.Same near = near_itself policies

by_answer : (policies : Policies) (act : Act) (given : Result Done Refusal) → ((did : Done) → given ≡ Ok did → StaysOrBegins policies (after_answer policies act (Ok did))) → StaysOrBegins policies (after_answer policies act given)
by_answer policies act (Ok did) near = near did refl
by_answer policies act (Err why) near = near_itself policies

act_near : (verdicts : Verdicts) (policies : Policies) (act : Act) → ActiveIsLoaded policies → StaysOrBegins policies (after_answer policies act (act_answer verdicts policies act))
act_near verdicts policies (Load text) sound = by_answer policies (Load text) (act_answer verdicts policies (Load text)) (λ did is. by_done policies (Load text) did (load_near policies text sound))
act_near verdicts policies (Update name text) sound = by_answer policies (Update name text) (act_answer verdicts policies (Update name text)) (λ did is.
    let found = update_ok verdicts policies name text did is in
    by_done policies (Update name text) did (update_near policies name text sound found.2))
act_near verdicts policies (Activate name wanted) sound = by_answer policies (Activate name wanted) (act_answer verdicts policies (Activate name wanted)) (λ did is. by_done policies (Activate name wanted) did (inr refl))
act_near verdicts policies (Delete name wanted) sound = by_answer policies (Delete name wanted) (act_answer verdicts policies (Delete name wanted)) (λ did is.
    let one = passed (not (is_true wanted)) refusal.TheVariants.BadValue _ did is in
    let two = passed (is_none (entry_named name policies.loaded)) refusal.TheVariants.NoEntry _ did one.1 in
    let three = passed (is_active name policies) refusal.TheVariants.IsActive _ did two.1 in
    by_done policies (Delete name wanted) did (delete_near policies name wanted sound three.0))
act_near verdicts policies (Enforce wanted) sound = by_answer policies (Enforce wanted) (act_answer verdicts policies (Enforce wanted)) (λ did is. by_done policies (Enforce wanted) did (inr refl))
act_near verdicts policies (SuccessAudit wanted) sound = by_answer policies (SuccessAudit wanted) (act_answer verdicts policies (SuccessAudit wanted)) (λ did is. by_done policies (SuccessAudit wanted) did (inr refl))

-- a command leaves the epoch and all that a claim is answered by, or begins the next
pub command_near : (verdicts : Verdicts) (policies : Policies) (command : Command) → ActiveIsLoaded policies → StaysOrBegins policies (after verdicts policies command)
command_near verdicts policies command sound = go command.may
  where
    go : (may : Bool) → StaysOrBegins policies (after_answer policies command.act (cond {A = Result Done Refusal} (not may) (Err refusal.TheVariants.NotPermitted) (act_answer verdicts policies command.act)))
    go true = act_near verdicts policies command.act sound
    go false = near_itself policies

-- a name that is active stays loaded, where the active name is as it was
sound_kept : (before after : Policies) → Keeps before after → after.active ≡ before.active → ActiveIsLoaded before → ActiveIsLoaded after
sound_kept before after keeps same sound name named =
    let found = sound name (sym same ∙ named) in
    let kept : AtLeast found.0 (active_entry after) = keeps found.0 found.1 in
    (kept.0, kept.1)

-- an activation that is done is of a loaded name
activation_sound : (policies : Policies) (name : List ℕ) (wanted : Value) (entry : Loaded) → entry_named name policies.loaded ≡ Some entry → ActiveIsLoaded (changed policies (Activate name wanted))
activation_sound policies name wanted entry found other named =
    let is : name ≡ other = cc in
    (entry, found)

-- what is done leaves the active name, but an activation
done_sound : (policies : Policies) (act : Act) (did : Done) → ActiveIsLoaded policies → ActiveIsLoaded (changed policies act) → ActiveIsLoaded (after_answer policies act (Ok did))
done_sound policies act done.TheVariants.Loaded sound then = then
done_sound policies act done.TheVariants.Updated sound then = then
done_sound policies act done.TheVariants.Activated sound then = then
done_sound policies act done.TheVariants.AlreadyActive sound then = sound
done_sound policies act done.TheVariants.Deleted sound then = then
done_sound policies act done.TheVariants.Changed sound then = then
done_sound policies act done.TheVariants.Same sound then = sound

-- the active name after an act, other than an activation
same_active : (policies : Policies) (act : Act) (given : Result Done Refusal) → (changed policies act).active ≡ policies.active → (after_answer policies act given).active ≡ policies.active
same_active policies act (Err why) same = refl
same_active policies act (Ok done.TheVariants.Loaded) same = same
same_active policies act (Ok done.TheVariants.Updated) same = same
same_active policies act (Ok done.TheVariants.Activated) same = same
same_active policies act (Ok done.TheVariants.AlreadyActive) same = refl
same_active policies act (Ok done.TheVariants.Deleted) same = same
same_active policies act (Ok done.TheVariants.Changed) same = same
same_active policies act (Ok done.TheVariants.Same) same = refl

updated_active : (policies : Policies) (name text : List ℕ) → (changed policies (Update name text)).active ≡ policies.active
updated_active policies name text = go (is_active name policies)
  where
    go : (b : Bool) → (cond b (later (updated policies name (entry_of policies.next text))) (updated policies name (entry_of policies.next text))).active ≡ policies.active
    go true = refl
    go false = refl

act_sound : (verdicts : Verdicts) (policies : Policies) (act : Act) → ActiveIsLoaded policies → ActiveIsLoaded (after_answer policies act (act_answer verdicts policies act))
act_sound verdicts policies (Load text) sound = sound_kept policies (after_answer policies (Load text) (act_answer verdicts policies (Load text))) (act_keeps verdicts policies (Load text)) (same_active policies (Load text) (act_answer verdicts policies (Load text)) refl) sound
act_sound verdicts policies (Update name text) sound = sound_kept policies (after_answer policies (Update name text) (act_answer verdicts policies (Update name text))) (act_keeps verdicts policies (Update name text)) (same_active policies (Update name text) (act_answer verdicts policies (Update name text)) (updated_active policies name text)) sound
act_sound verdicts policies (Activate name wanted) sound = by (act_answer verdicts policies (Activate name wanted)) refl
  where
    by : (given : Result Done Refusal) → act_answer verdicts policies (Activate name wanted) ≡ given → ActiveIsLoaded (after_answer policies (Activate name wanted) given)
    by (Err why) is = sound
    by (Ok did) is =
        let one = passed (not (is_true wanted)) refusal.TheVariants.BadValue _ did is in
        let two = passed (is_none (entry_named name policies.loaded)) refusal.TheVariants.NoEntry _ did one.1 in
        let found = entry_there (entry_named name policies.loaded) two.0 in
        done_sound policies (Activate name wanted) did sound (activation_sound policies name wanted found.0 found.1)
act_sound verdicts policies (Delete name wanted) sound = sound_kept policies (after_answer policies (Delete name wanted) (act_answer verdicts policies (Delete name wanted))) (act_keeps verdicts policies (Delete name wanted)) (same_active policies (Delete name wanted) (act_answer verdicts policies (Delete name wanted)) refl) sound
act_sound verdicts policies (Enforce wanted) sound = sound_kept policies (after_answer policies (Enforce wanted) (act_answer verdicts policies (Enforce wanted))) (act_keeps verdicts policies (Enforce wanted)) (same_active policies (Enforce wanted) (act_answer verdicts policies (Enforce wanted)) refl) sound
act_sound verdicts policies (SuccessAudit wanted) sound = sound_kept policies (after_answer policies (SuccessAudit wanted) (act_answer verdicts policies (SuccessAudit wanted))) (act_keeps verdicts policies (SuccessAudit wanted)) (same_active policies (SuccessAudit wanted) (act_answer verdicts policies (SuccessAudit wanted)) refl) sound

-- so each command keeps it
pub command_sound : (verdicts : Verdicts) (policies : Policies) (command : Command) → ActiveIsLoaded policies → ActiveIsLoaded (after verdicts policies command)
command_sound verdicts policies command sound = go command.may
  where
    go : (may : Bool) → ActiveIsLoaded (after_answer policies command.act (cond {A = Result Done Refusal} (not may) (Err refusal.TheVariants.NotPermitted) (act_answer verdicts policies command.act)))
    go true = act_sound verdicts policies command.act sound
    go false = sound

-- the law
pub commands_near : CommandsStayOrBegin
commands_near verdicts policies command sound = (command_near verdicts policies command sound, command_sound verdicts policies command sound)
