-- What an act that is done changes.
use Rattle.std.specs.Prelude.{ℕ, ◌+◌, Bool, true, false, nat_lt, if◌then◌else◌, List, Option, Some, None}
use Rattle.ipe_machine.specs.declared.command.Act.{Act}
use Rattle.ipe_machine.specs.declared.command.Act.TheVariants.{Load, Update, Activate, Delete, Enforce, SuccessAudit}
use Rattle.ipe_machine.specs.declared.command.Value.{Value}
use Rattle.ipe_machine.specs.declared.command.Value.TheVariants as value
use Rattle.ipe_machine.specs.declared.answer.Done as done
use Rattle.ipe_machine.specs.Policies.{Policies, Loaded, is_active, entry_of, added, replaced, without}

-- a change: it loads an entry, updates a name with an entry, activates a name, deletes a name, or sets a switch
pub data Change : Type 0 where
  Loads : Loaded → Change
  Updates : List ℕ → Loaded → Change
  Activates : List ℕ → Change
  Deletes : List ℕ → Change
  SetsEnforce : Bool → Change
  SetsSuccess : Bool → Change

-- one epoch later
abbrev pub later : Policies → Policies
later policies = record policies { epoch = policies.epoch + 1 }

-- the policies with an entry in the place of that of a name
abbrev pub updated : Policies → List ℕ → Loaded → Policies
updated policies name entry =
    record policies { loaded = replaced policies.loaded name entry; next = policies.next + 1 }

-- the policies after a change: the epoch rises with the active policy's name or entry, and with a switch
abbrev pub made : Policies → Change → Policies
made policies (Loads entry) = added policies entry
made policies (Updates name entry) =
    if is_active name policies then later (updated policies name entry) else updated policies name entry
made policies (Activates name) = later (record policies { active = Some name })
made policies (Deletes name) = record policies { loaded = without policies.loaded name }
made policies (SetsEnforce on) = later (record policies { enforce = on })
made policies (SetsSuccess on) = later (record policies { success = on })

-- a change raises the epoch
abbrev pub raises : Policies → Change → Bool
raises policies change = nat_lt policies.epoch (made policies change).epoch

-- how a change is done
abbrev pub done_by : Change → done.Done
done_by (Loads entry) = done.TheVariants.Loaded
done_by (Updates name entry) = done.TheVariants.Updated
done_by (Activates name) = done.TheVariants.Activated
done_by (Deletes name) = done.TheVariants.Deleted
done_by (SetsEnforce on) = done.TheVariants.Changed
done_by (SetsSuccess on) = done.TheVariants.Changed

-- the entry that a change brings
abbrev pub entry_in : Change → Option Loaded
entry_in (Loads entry) = Some entry
entry_in (Updates name entry) = Some entry
entry_in (Activates name) = None
entry_in (Deletes name) = None
entry_in (SetsEnforce on) = None
entry_in (SetsSuccess on) = None

-- what was written says true
abbrev pub is_true : Value → Bool
is_true value.True = true
is_true value.False = false
is_true value.Bad = false

-- the change that an act makes where it is done and made a step
abbrev pub change_of : Policies → Act → Change
change_of policies (Load text) = Loads (entry_of policies.next text)
change_of policies (Update name text) = Updates name (entry_of policies.next text)
change_of policies (Activate name wanted) = Activates name
change_of policies (Delete name wanted) = Deletes name
change_of policies (Enforce wanted) = SetsEnforce (is_true wanted)
change_of policies (SuccessAudit wanted) = SetsSuccess (is_true wanted)

-- the policies after an act that is done and made a step
abbrev pub changed : Policies → Act → Policies
changed policies act = made policies (change_of policies act)
