-- Which records a command and an access make.
use Rattle.std.specs.Prelude.{ℕ, Bool, if◌then◌else◌, List, [], ◌∷◌, Option, Some, None}
use Rattle.std.specs.Option.{option_map, option_map_or}
use Rattle.sha2.specs.Sha256.{sha256}
use Rattle.ipe_policy.specs.declared.op.Op.{Op}
use Rattle.ipe_policy.specs.declared.request.Request.{Request}
use Rattle.ipe_policy.specs.declared.request.Subject.{Subject}
use Rattle.ipe_policy.specs.declared.request.Object.{Object}
use Rattle.ipe_policy.specs.declared.evaluation.Context.{Context}
use Rattle.ipe_policy.specs.declared.statement.Statement.{Statement}
use Rattle.ipe_policy.specs.Evaluation.{deciding_statement}
use Rattle.ipe_policy.specs.Request.{evaluated_op, hook_of}
use Rattle.ipe_policy.specs.Spelling.{statement_text}
use Rattle.ipe_audit.specs.declared.records.Brief.{Brief}
use Rattle.ipe_audit.specs.Records.{access_text, activation_text, enforce_text, load_text}
use Rattle.ipe_machine.specs.declared.command.Command.{Command}
use Rattle.ipe_machine.specs.Policies as state
use Rattle.ipe_machine.specs.Policies.{Policies, active_entry, entry_named, is_active, policy_in}
use Rattle.ipe_machine.specs.Change.{Change, Loads, Updates, Activates, Deletes, SetsEnforce, SetsSuccess}
use Rattle.ipe_machine.specs.Answer.{Verdicts, change_by}
use Rattle.ipe_machine.specs.Machine.{due_for}

-- what records tell of a loaded policy
abbrev pub brief_of : state.Loaded → Brief
brief_of entry = record { name = entry.name; version = entry.version; digest = sha256 entry.text }

-- the record of a change of the active policy to this one
abbrev pub activation_of : Policies → state.Loaded → List ℕ
activation_of policies entry = activation_text (option_map brief_of (active_entry policies)) (brief_of entry)

-- the records of a change: a load's; an update's, and after it a change of the active policy where it is that one; an
-- activation's; a change of enforce
abbrev pub change_records : Policies → Change → List (List ℕ)
change_records policies (Loads entry) = load_text (brief_of entry) ∷ []
change_records policies (Updates name entry) =
    load_text (brief_of entry) ∷ (if is_active name policies then activation_of policies entry ∷ [] else [])
change_records policies (Activates name) =
    option_map_or (λ entry. activation_of policies entry ∷ []) (entry_named name policies.loaded) []
change_records policies (Deletes name) = []
change_records policies (SetsEnforce on) = enforce_text on ∷ []
change_records policies (SetsSuccess on) = []

-- the records of a change, if there is one
abbrev pub records_with : Policies → Option Change → List (List ℕ)
records_with policies change = option_map_or (change_records policies) change []

-- the records of a command: those of its change
abbrev pub records_of : Verdicts → Policies → Command → List (List ℕ)
records_of verdicts policies command = records_with policies (change_by verdicts policies command)

-- the record of an access that this statement decided
abbrev pub access_by : Policies → Request → Subject → Object → Op → Statement → List ℕ
access_by policies request subject object op statement =
    access_text op (hook_of request) policies.enforce subject object (statement_text statement)

-- the record of an access that is ruled by an entry's policy: its deciding statement decided
abbrev pub access_under : Policies → Request → Subject → Object → Context → Op → state.Loaded → Option (List ℕ)
access_under policies request subject object context op entry =
    option_map (access_by policies request subject object op)
    (deciding_statement (policy_in entry.text).items op context)

-- the same of an access for an operation, if a policy is active
abbrev pub access_for : Policies → Request → Subject → Object → Context → Option Op → Option state.Loaded
    → Option (List ℕ)
access_for policies request subject object context None entry = None
access_for policies request subject object context (Some op) None = None
access_for policies request subject object context (Some op) (Some entry) =
    access_under policies request subject object context op entry

-- the record of an access for an operation, if it has one, on an entry, if one is active, where a record is due
abbrev pub access_with : Policies → Request → Subject → Object → Context → Option Op → Option state.Loaded
    → Option (List ℕ)
access_with policies request subject object context op entry =
    if due_for policies op entry context then access_for policies request subject object context op entry else None

-- the record of an access is due
abbrev pub is_access_due : Policies → Request → Context → Bool
is_access_due policies request context = due_for policies (evaluated_op request) (active_entry policies) context

-- the record of an access, where one is due
abbrev pub access_of : Policies → Request → Subject → Object → Context → Option (List ℕ)
access_of policies request subject object context =
    access_with policies request subject object context (evaluated_op request) (active_entry policies)
