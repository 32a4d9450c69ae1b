-- What each command keeps of the active policy: one stays active, and its version doesn't fall.
use Rattle.std.proofs.Common.{◌≡◌, ℕ, ◌≤◌, not, Bool, true, false, cond, List, [], ◌∷◌, ◌++◌, length, get_or, Option, Some, None, Result, Ok, Err, refl, sym, ap, subst, ◌∙◌, inl, inr, arith}
use Rattle.std.specs.Prelude.{is_none, nat_lt}
use Rattle.std.specs.List.{find, slice_set, remove}
use Rattle.std.specs.Option.{option_map_or, option_and_then}
use Rattle.std.specs.Result.{is_err}
use Rattle.std.specs.Cmp.Lexicographic.{same_text}
use lib.Pointwise.{bytes_decides}
use Rattle.std.proofs.lemmas.Bool.{cases_Bool, ltb-false, not-false, both_ways}
use Rattle.std.proofs.lemmas.List.Folds.{find-set, find_past}
use Rattle.std.proofs.lemmas.List.Quantifiers.{position-Some}
use Rattle.line_words.specs.Words.{is_text}
use Rattle.ipe_policy.specs.Request.{evaluated_op}
use Rattle.ipe_policy.specs.declared.op.Op.{Op}
use Rattle.ipe_policy.specs.declared.version.Version.{Version}
use Rattle.ipe_policy.specs.Version.{packed}
use Rattle.ipe_parse.specs.Reading.{reading}
use Rattle.ipe_machine.specs.declared.command.Act.{Act}
use Rattle.ipe_machine.specs.declared.command.Act.TheVariants.{Load, Update, Activate, Delete, Enforce, SuccessAudit}
use Rattle.ipe_machine.specs.declared.command.Command.{Command}
use Rattle.ipe_machine.specs.declared.command.Value.{Value}
use Rattle.ipe_machine.specs.declared.answer.Done as done
use Rattle.ipe_machine.specs.declared.answer.Done.{Done}
use Rattle.ipe_machine.specs.declared.answer.Refusal as refusal
use Rattle.ipe_machine.specs.declared.answer.Refusal.{Refusal}
use Rattle.ipe_machine.specs.declared.event.Event.{Event}
use Rattle.ipe_machine.specs.declared.event.Event.TheVariants as event
use Rattle.ipe_machine.specs.Policies.{Policies, Loaded, place_of, entry_named, entry_version, is_named, is_active, active_entry, policy_in, fault_in, entry_of, replaced, without}
use Rattle.ipe_machine.specs.Change.{changed, is_true, later, updated}
use Rattle.ipe_machine.specs.Answer.{Verdicts, act_answer, after, after_answer, most_text, most_words, verdict_on, is_revoked, is_unknown, words_in}
use Rattle.ipe_machine.specs.Machine.{Machine, after_event, after_claim, claimed, first_machine}
use Rattle.ipe_machine.specs.Run.{after_all}
use Rattle.ipe_machine.specs.Law.{ActiveVersionNeverFalls}
use Rattle.ipe_machine.proofs.Answers.{passed, either_way}
use Rattle.ipe_machine.proofs.Runs.{after_all-append}
use Rattle.ipe_machine.proofs.Entries.{entry_named_is, entry_there, no_entry, find-remove, find_more, place_is}

-- an entry at this version or a higher one
abbrev pub AtLeast : Loaded → Option Loaded → Type 0
AtLeast entry found = (later : Loaded) × (found ≡ Some later) × (packed entry.version ≤ packed later.version)

-- where a policy is active before, one is after, and its version is at least that
abbrev pub Keeps : Policies → Policies → Type 0
Keeps before after = (entry : Loaded) → active_entry before ≡ Some entry → AtLeast entry (active_entry after)

keeps_itself : (policies : Policies) → Keeps policies policies
keeps_itself policies entry is = (entry, is, omega arith)

-- an act that is done changes the policies, or leaves them as they are
by_done : (policies : Policies) (act : Act) (did : Done) → Keeps policies (changed policies act) → Keeps policies (after_answer policies act (Ok did))
by_done policies act done.TheVariants.Loaded keeps = keeps
by_done policies act done.TheVariants.Updated keeps = keeps
by_done policies act done.TheVariants.Activated keeps = keeps
by_done policies act done.TheVariants.AlreadyActive keeps = keeps_itself policies
by_done policies act done.TheVariants.Deleted keeps = keeps
by_done policies act done.TheVariants.Changed keeps = keeps
by_done policies act done.TheVariants.Same keeps = keeps_itself policies

by_answer : (policies : Policies) (act : Act) (given : Result Done Refusal) → ((did : Done) → given ≡ Ok did → Keeps policies (after_answer policies act (Ok did))) → Keeps policies (after_answer policies act given)
by_answer policies act (Ok did) keeps = keeps did refl
by_answer policies act (Err why) keeps = keeps_itself policies

-- the policies that a list of entries makes
abbrev pub with_loaded : Policies → List Loaded → Policies
with_loaded policies loaded = record policies { loaded = loaded }

-- a change of the list alone, that keeps the entry of the active name
by_name : (policies : Policies) (loaded : List Loaded) → ((name : List ℕ) → policies.active ≡ Some name → (entry : Loaded) → find (is_named name) policies.loaded ≡ Some entry → AtLeast entry (find (is_named name) loaded)) → Keeps policies (with_loaded policies loaded)
by_name policies loaded keeps entry is = go policies.active keeps is
  where
    go : (active : Option (List ℕ)) → ((name : List ℕ) → active ≡ Some name → (entry : Loaded) → find (is_named name) policies.loaded ≡ Some entry → AtLeast entry (find (is_named name) loaded)) → option_and_then (λ name. entry_named name policies.loaded) active ≡ Some entry → AtLeast entry (option_and_then (λ name. entry_named name loaded) active)
    go None keeps is = cc
    go (Some name) keeps is =
        let kept : AtLeast entry (find (is_named name) loaded) = keeps name refl entry (sym (entry_named_is name policies.loaded) ∙ is) in
        (kept.0, entry_named_is name loaded ∙ kept.1, kept.2)

load_keeps : (policies : Policies) (text : List ℕ) → Keeps policies (changed policies (Load text))
load_keeps policies text =
    by_name policies (policies.loaded ++ entry_of policies.next text ∷ [])
    (λ name named entry found. (entry, find_more (is_named name) policies.loaded (entry_of policies.next text ∷ []) entry found, omega arith))

-- two tests of a name
pub named_same : (name : List ℕ) (entry : Loaded) → is_named name entry ≡ true → entry.name ≡ name
named_same name entry named = same_text entry.name name (sym named)

pub named_self : (name : List ℕ) → is_text name name ≡ true
named_self name = (bytes_decides name name).1 refl

delete_keeps : (policies : Policies) (name : List ℕ) (wanted : Value) → is_active name policies ≡ false → Keeps policies (changed policies (Delete name wanted))
delete_keeps policies name wanted idle = by_name policies (without policies.loaded name) (λ active named entry found. go active named entry found (place_of name policies.loaded) refl)
  where
    go : (active : List ℕ) → policies.active ≡ Some active → (entry : Loaded) → find (is_named active) policies.loaded ≡ Some entry → (at : Option ℕ) → place_of name policies.loaded ≡ at → AtLeast entry (find (is_named active) (option_map_or (remove policies.loaded) at policies.loaded))
    go active named entry found None at = (entry, found, omega arith)
    go active named entry found (Some place) at =
        let there = position-Some (is_named name) policies.loaded place no_entry at in
        let other : is_named active (get_or policies.loaded place no_entry) ≡ false = elim (cases_Bool (is_named active (get_or policies.loaded place no_entry))) [
          | inl same ↦
              let e : active ≡ name = sym (named_same active (get_or policies.loaded place no_entry) same) ∙ named_same name (get_or policies.loaded place no_entry) there.1 in
              let shown : is_active name policies ≡ true = ap (λ (o : Option (List ℕ)). option_map_or (is_text name) o false) (named ∙ ap (λ (n : List ℕ). Some n) e) ∙ named_self name in
              absurd (both_ways (is_active name policies) idle shown)
          | inr differs ↦ differs
        ] in
        (entry, find-remove (is_named active) policies.loaded place no_entry there.0 other ∙ found, omega arith)

-- an update that is done is of a loaded name, and brings this name and no lower version
pub update_ok : (verdicts : Verdicts) (policies : Policies) (name text : List ℕ) (did : Done) → act_answer verdicts policies (Update name text) ≡ Ok did → (entry : Loaded) × (entry_named name policies.loaded ≡ Some entry) × ((policy_in text).name ≡ name) × (packed entry.version ≤ packed (policy_in text).version)
update_ok verdicts policies name text did is =
    let standing : Version = entry_version (entry_named name policies.loaded) in
    let there = passed (is_none (entry_named name policies.loaded)) refusal.TheVariants.NoEntry _ did is in
    let small = passed (nat_lt most_text (length text)) refusal.TheVariants.TooBig _ did there.1 in
    let kept = passed (is_revoked (verdict_on verdicts text)) refusal.TheVariants.Rejected _ did small.1 in
    let known = passed (is_unknown (verdict_on verdicts text)) refusal.TheVariants.NoKey _ did kept.1 in
    let read = passed (is_err (reading text)) (refusal.TheVariants.BadPolicy (fault_in text)) _ did known.1 in
    let fits = passed (nat_lt most_words (words_in text)) (refusal.TheVariants.TooWide (words_in text)) _ did read.1 in
    let one = passed (not (is_text name (policy_in text).name)) refusal.TheVariants.OtherName _ did fits.1 in
    let two = passed (nat_lt (packed (policy_in text).version) (packed standing)) (refusal.TheVariants.Stale standing (policy_in text).version) _ did one.1 in
    let named : (policy_in text).name ≡ name = same_text (policy_in text).name name (sym (not-false (is_text name (policy_in text).name) one.0)) in
    let higher : packed standing ≤ packed (policy_in text).version = ltb-false (packed (policy_in text).version) (packed standing) two.0 in
    let found = entry_there (entry_named name policies.loaded) there.0 in
    (found.0, found.1, named, subst (λ (o : Option Loaded). packed (entry_version o) ≤ packed (policy_in text).version) found.1 higher)

-- an entry of the same name and no lower version takes the place of that of the name
replaced_keeps : (policies : Policies) (name : List ℕ) (old new : Loaded) → entry_named name policies.loaded ≡ Some old → new.name ≡ name → packed old.version ≤ packed new.version → Keeps policies (with_loaded policies (replaced policies.loaded name new))
replaced_keeps policies name old new was named higher = by_name policies (replaced policies.loaded name new) (λ active is_it entry found. go active entry found (place_of name policies.loaded) refl)
  where
    go : (active : List ℕ) (entry : Loaded) → find (is_named active) policies.loaded ≡ Some entry → (at : Option ℕ) → place_of name policies.loaded ≡ at → AtLeast entry (find (is_named active) (option_map_or (λ place. slice_set policies.loaded place new) at policies.loaded))
    go active entry found None at = (entry, found, omega arith)
    go active entry found (Some place) at =
        let there = position-Some (is_named name) policies.loaded place no_entry at in
        let own : (get_or policies.loaded place no_entry).name ≡ name = named_same name (get_or policies.loaded place no_entry) there.1 in
        elim (cases_Bool (is_named active (get_or policies.loaded place no_entry))) [
          | inl same ↦
              let e : active ≡ name = sym (named_same active (get_or policies.loaded place no_entry) same) ∙ own in
              let fresh : is_named name new ≡ true = ap (is_text name) named ∙ named_self name in
              let here : find (is_named name) (slice_set policies.loaded place new) ≡ Some new = find-set (is_named name) policies.loaded place new (place_is (is_named name) policies.loaded place at) there.0 fresh in
              let found_old : find (is_named name) policies.loaded ≡ Some old = sym (entry_named_is name policies.loaded) ∙ was in
              let found_entry : find (is_named name) policies.loaded ≡ Some entry = subst (λ (n : List ℕ). find (is_named n) policies.loaded ≡ Some entry) e found in
              let same_entry : entry ≡ old = cc in
              (new, subst (λ (n : List ℕ). find (is_named n) (slice_set policies.loaded place new) ≡ Some new) (sym e) here, subst (λ (x : Loaded). packed x.version ≤ packed new.version) (sym same_entry) higher)
          | inr differs ↦
              let alike : is_named active new ≡ false = ap (is_text active) (named ∙ sym own) ∙ differs in
              (entry, find_past (is_named active) policies.loaded place new no_entry differs alike ∙ found, omega arith)
        ]

update_keeps : (policies : Policies) (name text : List ℕ) → Keeps policies (with_loaded policies (replaced policies.loaded name (entry_of policies.next text))) → Keeps policies (changed policies (Update name text))
update_keeps policies name text keeps = go (is_active name policies)
  where
    go : (active : Bool) → Keeps policies (cond active (later (updated policies name (entry_of policies.next text))) (updated policies name (entry_of policies.next text)))
    go true = keeps
    go false = keeps

-- an activation that makes a step is of a loaded name, and of no lower version than the active one
activation_keeps : (verdicts : Verdicts) (policies : Policies) (name : List ℕ) (wanted : Value) (did : Done) → act_answer verdicts policies (Activate name wanted) ≡ Ok did → Keeps policies (after_answer policies (Activate name wanted) (Ok did))
activation_keeps verdicts policies name wanted did is entry standing =
    let present : Version = entry_version (active_entry policies) in
    let offered : Version = entry_version (entry_named name policies.loaded) in
    let one = passed (not (is_true wanted)) refusal.TheVariants.BadValue _ did is in
    let two = passed (is_none (entry_named name policies.loaded)) refusal.TheVariants.NoEntry _ did one.1 in
    let found = entry_there (entry_named name policies.loaded) two.0 in
    elim (either_way (is_active name policies) done.TheVariants.AlreadyActive _ did two.1) [
      | inl already ↦ subst (λ (d : Done). AtLeast entry (active_entry (after_answer policies (Activate name wanted) (Ok d)))) (sym already) (entry, standing, omega arith)
      | inr goes_on ↦
          let low : packed present ≤ packed offered = ltb-false (packed offered) (packed present) (passed (nat_lt (packed offered) (packed present)) (refusal.TheVariants.Stale present offered) _ did goes_on).0 in
          let higher : packed present ≤ packed found.0.version = subst (λ (o : Option Loaded). packed present ≤ packed (entry_version o)) found.1 low in
          by_done policies (Activate name wanted) did (λ e is_e. (found.0, found.1, subst (λ (o : Option Loaded). packed (entry_version o) ≤ packed found.0.version) is_e higher)) entry standing
    ]

pub act_keeps : (verdicts : Verdicts) (policies : Policies) (act : Act) → Keeps policies (after_answer policies act (act_answer verdicts policies act))
act_keeps verdicts policies (Load text) = by_answer policies (Load text) (act_answer verdicts policies (Load text)) (λ did is. by_done policies (Load text) did (load_keeps policies text))
act_keeps verdicts policies (Update name text) = by_answer policies (Update name text) (act_answer verdicts policies (Update name text)) (λ did is.
    let found = update_ok verdicts policies name text did is in
    by_done policies (Update name text) did (update_keeps policies name text (replaced_keeps policies name found.0 (entry_of policies.next text) found.1 found.2 found.3)))
act_keeps verdicts policies (Activate name wanted) = by_answer policies (Activate name wanted) (act_answer verdicts policies (Activate name wanted)) (activation_keeps verdicts policies name wanted)
act_keeps verdicts policies (Delete name wanted) = by_answer policies (Delete name wanted) (act_answer verdicts policies (Delete name wanted)) (λ did is.
    let one = passed (not (is_true wanted)) refusal.TheVariants.BadValue _ did is in
    let two = passed (is_none (entry_named name policies.loaded)) refusal.TheVariants.NoEntry _ did one.1 in
    let three = passed (is_active name policies) refusal.TheVariants.IsActive _ did two.1 in
    by_done policies (Delete name wanted) did (delete_keeps policies name wanted three.0))
act_keeps verdicts policies (Enforce wanted) = by_answer policies (Enforce wanted) (act_answer verdicts policies (Enforce wanted)) (λ did is. by_done policies (Enforce wanted) did (keeps_itself policies))
act_keeps verdicts policies (SuccessAudit wanted) = by_answer policies (SuccessAudit wanted) (act_answer verdicts policies (SuccessAudit wanted)) (λ did is. by_done policies (SuccessAudit wanted) did (keeps_itself policies))

command_keeps : (verdicts : Verdicts) (policies : Policies) (command : Command) → Keeps policies (after verdicts policies command)
command_keeps verdicts policies command = go command.may
  where
    go : (may : Bool) → Keeps policies (after_answer policies command.act (cond {A = Result Done Refusal} (not may) (Err refusal.TheVariants.NotPermitted) (act_answer verdicts policies command.act)))
    go true = act_keeps verdicts policies command.act
    go false = keeps_itself policies

event_keeps : (verdicts : Verdicts) (machine : Machine) (happens : Event) → Keeps machine.policies (after_event verdicts machine happens).policies
event_keeps verdicts machine (event.Command command) = command_keeps verdicts machine.policies command
event_keeps verdicts machine (event.Claim pass request subject object context) = go (evaluated_op request)
  where
    go : (op : Option Op) → Keeps machine.policies (after_claim machine pass op).policies
    go None = keeps_itself machine.policies
    go (Some op) = on (active_entry machine.policies)
      where
        on : (active : Option Loaded) → Keeps machine.policies (claimed machine pass active).policies
        on None = keeps_itself machine.policies
        on (Some entry) = keeps_itself machine.policies
event_keeps verdicts machine (event.Return pass) = keeps_itself machine.policies

all_keep : (verdicts : Verdicts) (machine : Machine) (events : List Event) → Keeps machine.policies (after_all verdicts machine events).policies
all_keep verdicts machine [] entry is = keeps_itself machine.policies entry is
all_keep verdicts machine (happens ∷ events) entry is =
    let one = event_keeps verdicts machine happens entry is in
    let rest = all_keep verdicts (after_event verdicts machine happens) events one.0 one.1 in
    (rest.0, rest.1, omega (arith, one.2, rest.2))

pub never_falls : ActiveVersionNeverFalls
never_falls verdicts passes before more entry is =
    let later = all_keep verdicts (after_all verdicts (first_machine passes) before) more entry is in
    (later.0, ap (λ (m : Machine). active_entry m.policies) (after_all-append verdicts (first_machine passes) before more) ∙ later.1, later.2)
