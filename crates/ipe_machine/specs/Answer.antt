-- What each command is answered: the first case of its list whose condition holds, else done.
use Rattle.std.specs.Prelude.{ℕ, ◌==◌, Bool, true, false, not, ◌&&◌, nat_lt, nat_le, if◌then◌else◌, List, [], ◌∷◌, ◌++◌, length, Option, Some, None, is_some, is_none, Result, Ok, Err}
use Rattle.std.specs.Result.{is_err}
use Rattle.sha2.specs.Sha256.{sha256}
use Rattle.ipe_policy.specs.declared.version.Version.{Version}
use Rattle.line_words.specs.Words.{is_text}
use Rattle.ipe_policy.specs.Version.{packed}
use Rattle.ipe_policy.specs.Spelling.{words_of_image}
use Rattle.ipe_parse.specs.Reading.{reading}
use Rattle.ipe_signer.specs.declared.signer.Purpose.{Purpose}
use Rattle.ipe_signer.specs.declared.signer.Purpose.TheVariants as purpose
use Rattle.ipe_signer.specs.declared.signer.Verdict.{Verdict}
use Rattle.ipe_signer.specs.declared.signer.Verdict.TheVariants.{Trusted, Unknown, Revoked}
use Rattle.ipe_machine.specs.declared.command.Act.{Act}
use Rattle.ipe_machine.specs.declared.command.Act.TheVariants.{Load, Update, Activate, Delete, Enforce, SuccessAudit}
use Rattle.ipe_machine.specs.declared.command.Command.{Command}
use Rattle.ipe_machine.specs.declared.command.Value.{Value}
use Rattle.ipe_machine.specs.declared.command.Value.TheVariants as value
use Rattle.ipe_machine.specs.declared.answer.Done.{Done}
use Rattle.ipe_machine.specs.declared.answer.Done.TheVariants.{Loaded, Updated, Activated, AlreadyActive, Deleted, Changed, Same}
use Rattle.ipe_machine.specs.declared.answer.Refusal.{Refusal}
use Rattle.ipe_machine.specs.declared.answer.Refusal.TheVariants.{NotPermitted, TooBig, Rejected, NoKey, BadPolicy, TooWide, Exists, NoSpace, NoEntry, OtherName, Stale, EpochFull, BadValue, IsActive}
use Rattle.ipe_machine.specs.Policies.{Policies, entry_named, is_active, active_entry, policy_in, fault_in, entry_version}
use Rattle.ipe_machine.specs.Change.{Change, change_of, changed, done_by, is_true}

-- one verdict for each purpose and digest
abbrev pub Verdicts : Type 0
Verdicts = Purpose → List ℕ → Verdict

-- the greatest size of a policy text, in bytes
abbrev pub most_text : ℕ
most_text = 1048576

-- the most words of a loaded policy's image
abbrev pub most_words : ℕ
most_words = 4096

-- the most policies that are loaded at once
abbrev pub most_loaded : ℕ
most_loaded = 32

-- the last epoch, which has no next
abbrev pub last_epoch : ℕ
last_epoch = 65535

-- what was vouched for no longer is
abbrev pub is_revoked : Verdict → Bool
is_revoked Trusted = false
is_revoked Unknown = false
is_revoked Revoked = true

-- nobody has vouched
abbrev pub is_unknown : Verdict → Bool
is_unknown Trusted = false
is_unknown Unknown = true
is_unknown Revoked = false

-- what the signer says of a policy's text
abbrev pub verdict_on : Verdicts → List ℕ → Verdict
verdict_on verdicts text = verdicts purpose.Policy (sha256 text)

-- the words that the image of a text's policy needs
abbrev pub words_in : List ℕ → ℕ
words_in text = words_of_image (policy_in text).items

-- what was written is no truth value
abbrev pub is_bad : Value → Bool
is_bad value.True = false
is_bad value.False = false
is_bad value.Bad = true

-- what was written says the value that a switch has
abbrev pub says : Value → Bool → Bool
says value.True present = present
says value.False present = not present
says value.Bad present = false

-- a condition, and what is answered where it holds
abbrev pub Case : Type 0
Case = Bool × Result Done Refusal

-- the answer of the first case whose condition holds, else done
abbrev pub answer_by : List Case → Done → Result Done Refusal
answer_by [] done = Ok done
answer_by (case ∷ cases) done = if case.0 then case.1 else answer_by cases done

-- a version that is lower than the one that stands is stale
abbrev pub stale_case : Version → Version → Case
stale_case present offered = (nat_lt (packed offered) (packed present), Err (Stale present offered))

-- what a text alone meets
abbrev pub text_cases : Verdicts → List ℕ → List Case
text_cases verdicts text =
    (nat_lt most_text (length text), Err TooBig)
    ∷ (is_revoked (verdict_on verdicts text), Err Rejected)
    ∷ (is_unknown (verdict_on verdicts text), Err NoKey)
    ∷ (is_err (reading text), Err (BadPolicy (fault_in text)))
    ∷ (nat_lt most_words (words_in text), Err (TooWide (words_in text)))
    ∷ []

-- a load: the name isn't loaded yet, and there is room
abbrev pub load_cases : Verdicts → Policies → List ℕ → List Case
load_cases verdicts policies text =
    text_cases verdicts text
    ++ (is_some (entry_named (policy_in text).name policies.loaded), Err Exists)
    ∷ (nat_le most_loaded (length policies.loaded), Err NoSpace)
    ∷ []

-- an update: the version of the name's entry may not fall, and that of the active policy begins an epoch
abbrev pub update_cases : Verdicts → Policies → List ℕ → List ℕ → List Case
update_cases verdicts policies name text =
    (is_none (entry_named name policies.loaded), Err NoEntry)
    ∷ text_cases verdicts text
    ++ (not (is_text name (policy_in text).name), Err OtherName)
    ∷ stale_case (entry_version (entry_named name policies.loaded)) (policy_in text).version
    ∷ (is_active name policies && (policies.epoch == last_epoch), Err EpochFull)
    ∷ []

-- an activation: only true may be written, and the active version may not fall, whatever the names
abbrev pub activation_cases : Policies → List ℕ → Value → List Case
activation_cases policies name wanted =
    (not (is_true wanted), Err BadValue)
    ∷ (is_none (entry_named name policies.loaded), Err NoEntry)
    ∷ (is_active name policies, Ok AlreadyActive)
    ∷ stale_case (entry_version (active_entry policies)) (entry_version (entry_named name policies.loaded))
    ∷ (policies.epoch == last_epoch, Err EpochFull)
    ∷ []

-- a deletion: only true may be written, and the active policy stays
abbrev pub deletion_cases : Policies → List ℕ → Value → List Case
deletion_cases policies name wanted =
    (not (is_true wanted), Err BadValue)
    ∷ (is_none (entry_named name policies.loaded), Err NoEntry)
    ∷ (is_active name policies, Err IsActive)
    ∷ []

-- a switch that has this value
abbrev pub switch_cases : Policies → Bool → Value → List Case
switch_cases policies present wanted =
    (is_bad wanted, Err BadValue)
    ∷ (says wanted present, Ok Same)
    ∷ (policies.epoch == last_epoch, Err EpochFull)
    ∷ []

-- the cases of an act of one who may administer
abbrev pub act_cases : Verdicts → Policies → Act → List Case
act_cases verdicts policies (Load text) = load_cases verdicts policies text
act_cases verdicts policies (Update name text) = update_cases verdicts policies name text
act_cases verdicts policies (Activate name wanted) = activation_cases policies name wanted
act_cases verdicts policies (Delete name wanted) = deletion_cases policies name wanted
act_cases verdicts policies (Enforce wanted) = switch_cases policies policies.enforce wanted
act_cases verdicts policies (SuccessAudit wanted) = switch_cases policies policies.success wanted

-- the answer to an act of one who may administer
abbrev pub act_answer : Verdicts → Policies → Act → Result Done Refusal
act_answer verdicts policies act =
    answer_by (act_cases verdicts policies act) (done_by (change_of policies act))

-- the answer to a command: first of all it wants the right
abbrev pub answer : Verdicts → Policies → Command → Result Done Refusal
answer verdicts policies command =
    answer_by
    ((not command.may, Err NotPermitted) ∷ act_cases verdicts policies command.act)
    (done_by (change_of policies command.act))

-- an answer is of a step that was made: nothing is refused, nor was it the case already
abbrev pub is_step : Result Done Refusal → Bool
is_step (Err refusal) = false
is_step (Ok Loaded) = true
is_step (Ok Updated) = true
is_step (Ok Activated) = true
is_step (Ok AlreadyActive) = false
is_step (Ok Deleted) = true
is_step (Ok Changed) = true
is_step (Ok Same) = false

-- what a command changes, where it makes a step
abbrev pub change_by : Verdicts → Policies → Command → Option Change
change_by verdicts policies command =
    if is_step (answer verdicts policies command) then Some (change_of policies command.act) else None

-- the policies after an answer
abbrev pub after_answer : Policies → Act → Result Done Refusal → Policies
after_answer policies act given = if is_step given then changed policies act else policies

-- the policies after a command
abbrev pub after : Verdicts → Policies → Command → Policies
after verdicts policies command = after_answer policies command.act (answer verdicts policies command)
