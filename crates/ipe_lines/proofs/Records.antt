-- The records of commands and accesses stand within lines, and none of them begins as an entry does.
use Rattle.std.proofs.Common.{◌≡◌, ℕ, ◌+◌, ◌-◌, suc, Bool, true, false, cond, List, [], ◌∷◌, ◌++◌, drop, take, Option, Some, None, Result, Ok, Err, refl}
use Rattle.std.specs.Prelude.{codes, is_some, slice_get, slice_set}
use Rattle.std.specs.List.{AllByRecursion, filter, find, remove}
use Rattle.std.specs.Fmt.{decimal}
use Rattle.std.specs.Option.{option_map, option_map_or}
use Rattle.std.proofs.lemmas.List.Elements.{All-append, All-drop, All-from_recursion, All-set, All-take, recursion_from_All}
use Rattle.hex.specs.Hex.{encode_lower}
use Rattle.ipe_policy.specs.declared.op.Op.{Op}
use Rattle.ipe_policy.specs.declared.request.Hook.{Hook}
use Rattle.ipe_policy.specs.declared.request.Hook.TheVariants as hook
use Rattle.ipe_policy.specs.declared.request.Object.{Object}
use Rattle.ipe_policy.specs.declared.request.Object.TheVariants as object
use Rattle.ipe_policy.specs.declared.request.Request.{Request}
use Rattle.ipe_policy.specs.declared.request.Subject.{Subject}
use Rattle.ipe_policy.specs.declared.evaluation.Context.{Context}
use Rattle.ipe_policy.specs.declared.evaluation.Found as found
use Rattle.ipe_policy.specs.declared.evaluation.Which.{Which}
use Rattle.ipe_policy.specs.declared.evaluation.Which.TheVariants as which
use Rattle.ipe_policy.specs.declared.statement.Statement.{Statement}
use Rattle.ipe_policy.specs.Evaluation.{decision, deciding_statement, found_statement}
use Rattle.ipe_policy.specs.Request.{evaluated_op, hook_of}
use Rattle.ipe_policy.specs.Spelling.{bit_text, op_word, statement_text, version_text}
use Rattle.ipe_policy.specs.Statement.{global_default_of, op_default_of, rule_of}
use Rattle.ipe_audit.specs.declared.records.Brief.{Brief}
use Rattle.ipe_audit.specs.Records.{access_text, activation_text, enforce_text, hook_word, load_text, new_text}
use Rattle.ipe_audit.specs.Records.{object_text, old_text, told}
use Rattle.ipe_machine.specs.declared.command.Act.{Act}
use Rattle.ipe_machine.specs.declared.command.Act.TheVariants as act
use Rattle.ipe_machine.specs.declared.command.Command.{Command}
use Rattle.ipe_machine.specs.declared.answer.Done.{Done}
use Rattle.ipe_machine.specs.declared.answer.Done.TheVariants as done
use Rattle.ipe_machine.specs.declared.answer.Refusal.{Refusal}
use Rattle.ipe_machine.specs.Policies.{Policies, Loaded, active_entry, entry_named, entry_of, is_active, place_of, policy_in, replaced}
use Rattle.ipe_machine.specs.Change.{Change, change_of, changed, is_true, later}
use Rattle.ipe_machine.specs.Answer.{Verdicts, after, after_answer, answer, is_step}
use Rattle.ipe_records.specs.Records.{access_by, access_for, access_of, access_under, activation_of, brief_of, change_records, is_access_due, records_of, records_with}
use Rattle.ipe_lines.specs.Spelled.{line_spells}
use Rattle.ipe_lines.proofs.Each.{All_both}
use Rattle.ipe_lines.proofs.Found.{Found, found_and_then, found_made, found_on, get_all}
use Rattle.ipe_lines.proofs.Within.{Whole, both, chain_whole, decimal_whole, hex_whole, then_part, version_whole, words_whole}
use Rattle.ipe_lines.proofs.ReadPolicies.{IsWholeStatement, op_whole, statement_whole}
use Rattle.ipe_lines.proofs.WholePolicies.{policy_whole}

-- a record that stands within a line, and spells no number
abbrev pub IsRecord : List ℕ → Type 0
IsRecord text = Whole text × (line_spells text ≡ None)

-- ---- what records tell

-- a policy, after its keys
told_whole : (name version digest : List ℕ) (policy : Brief) → Whole name → Whole version → Whole digest → Whole policy.name → Whole (told name version digest policy)
told_whole name version digest policy first second third named =
    chain_whole name (policy.name ∷ version ∷ version_text policy.version ∷ digest ∷ encode_lower policy.digest ∷ []) first
    (named, (second, (version_whole policy.version, (third, (hex_whole policy.digest, tt)))))

-- a load or an update
load_record : (policy : Brief) → Whole policy.name → IsRecord (load_text policy)
load_record policy named =
    let front : List ℕ = told (codes "type=1422 policy_name=\"") (codes "\" policy_version=") (codes " policy_digest=sha256:") policy in
    let front_whole : Whole front =
    told_whole (codes "type=1422 policy_name=\"") (codes "\" policy_version=") (codes " policy_digest=sha256:") policy
    (words_whole (codes "type=1422 policy_name=\"") refl) (words_whole (codes "\" policy_version=") refl) (words_whole (codes " policy_digest=sha256:") refl) named in
    let end : Whole (codes " auid=4294967295 ses=4294967295 lsm=ipe res=1 errno=0") = words_whole (codes " auid=4294967295 ses=4294967295 lsm=ipe res=1 errno=0") refl in
    (chain_whole front (codes " auid=4294967295 ses=4294967295 lsm=ipe res=1 errno=0" ∷ []) front_whole (end, tt), refl)

-- a policy whose name stands within a line
abbrev IsNamedBrief : Brief → Type 0
IsNamedBrief policy = Whole policy.name

-- the policy that was active
old_whole : (old : Option Brief) → Found IsNamedBrief old → Whole (old_text old)
old_whole None named = words_whole (old_text None) refl
old_whole (Some policy) named =
    told_whole (codes "old_active_pol_name=\"") (codes "\" old_active_pol_version=") (codes " old_policy_digest=sha256:") policy
    (words_whole (codes "old_active_pol_name=\"") refl) (words_whole (codes "\" old_active_pol_version=") refl) (words_whole (codes " old_policy_digest=sha256:") refl) named

-- the policy that is active now
new_whole : (policy : Brief) → Whole policy.name → Whole (new_text policy)
new_whole policy named =
    told_whole (codes "new_active_pol_name=\"") (codes "\" new_active_pol_version=") (codes " new_policy_digest=sha256:") policy
    (words_whole (codes "new_active_pol_name=\"") refl) (words_whole (codes "\" new_active_pol_version=") refl) (words_whole (codes " new_policy_digest=sha256:") refl) named

-- a change of the active policy
activation_record : (old : Option Brief) (new : Brief) → Found IsNamedBrief old → Whole new.name → IsRecord (activation_text old new)
activation_record old new before named =
    let blank : Whole (codes " ") = words_whole (codes " ") refl in
    let end : Whole (codes " auid=4294967295 ses=4294967295 lsm=ipe res=1") = words_whole (codes " auid=4294967295 ses=4294967295 lsm=ipe res=1") refl in (
      chain_whole (codes "type=1421 ") (old_text old ∷ codes " " ∷ new_text new ∷ codes " auid=4294967295 ses=4294967295 lsm=ipe res=1" ∷ []) (words_whole (codes "type=1421 ") refl)
          (old_whole old before, (blank, (new_whole new named, (end, tt)))),
      refl,
    )

-- a change of the switch enforce
enforce_record : (enforce : Bool) → IsRecord (enforce_text enforce)
enforce_record true = (words_whole (enforce_text true) refl, refl)
enforce_record false = (words_whole (enforce_text false) refl, refl)

-- the name of a hook
hook_whole : (what : Hook) → Whole (hook_word what)
hook_whole hook.BprmCheck = words_whole (hook_word hook.BprmCheck) refl
hook_whole hook.Mmap = words_whole (hook_word hook.Mmap) refl
hook_whole hook.Mprotect = words_whole (hook_word hook.Mprotect) refl
hook_whole hook.KernelRead = words_whole (hook_word hook.KernelRead) refl
hook_whole hook.KernelLoad = words_whole (hook_word hook.KernelLoad) refl

-- a truth value as a digit
bit_whole : (value : Bool) → Whole (bit_text value)
bit_whole true = words_whole (bit_text true) refl
bit_whole false = words_whole (bit_text false) refl

-- a file whose words stand within lines
abbrev pub IsWholeObject : Object → Type 0
IsWholeObject object.NoFile = Unit {0}
IsWholeObject (object.File path dev ino) = Whole path × Whole dev

-- the file that was asked about
object_whole : (file : Object) → IsWholeObject file → Whole (object_text file)
object_whole object.NoFile whole = words_whole (object_text object.NoFile) refl
object_whole (object.File path dev ino) whole =
    chain_whole (codes "path=\"") (path ∷ codes "\" dev=\"" ∷ dev ∷ codes "\" ino=" ∷ decimal ino ∷ []) (words_whole (codes "path=\"") refl)
    (whole.0, (words_whole (codes "\" dev=\"") refl, (whole.1, (words_whole (codes "\" ino=") refl, (decimal_whole ino, tt)))))

-- an access stands within a line
access_whole : (what : Op) (by : Hook) (enforce : Bool) (subject : Subject) (file : Object) (rule : List ℕ) → Whole subject.comm → IsWholeObject file → Whole rule
    → Whole (access_text what by enforce subject file rule)
access_whole what by enforce subject file rule named whole spelled =
    let asked : List ℕ = codes "type=1420 ipe_op=" ++ op_word what in
    let hooked : List ℕ = asked ++ codes " ipe_hook=" ++ hook_word by in
    let enforced : List ℕ = hooked ++ codes " enforcing=" ++ bit_text enforce in
    let numbered : List ℕ = enforced ++ codes " pid=" ++ decimal subject.pid in
    let called : List ℕ = numbered ++ codes " comm=\"" ++ subject.comm in
    let about : List ℕ = called ++ codes "\" " ++ object_text file in
    let ruled : List ℕ = about ++ codes " rule=\"" ++ rule in
    let asked_whole : Whole asked = both (codes "type=1420 ipe_op=") (op_word what) (words_whole (codes "type=1420 ipe_op=") refl) (op_whole what) in
    let hooked_whole : Whole hooked = then_part asked (codes " ipe_hook=") (hook_word by) asked_whole refl (hook_whole by) in
    let enforced_whole : Whole enforced = then_part hooked (codes " enforcing=") (bit_text enforce) hooked_whole refl (bit_whole enforce) in
    let numbered_whole : Whole numbered = then_part enforced (codes " pid=") (decimal subject.pid) enforced_whole refl (decimal_whole subject.pid) in
    let called_whole : Whole called = then_part numbered (codes " comm=\"") subject.comm numbered_whole refl named in
    let about_whole : Whole about = then_part called (codes "\" ") (object_text file) called_whole refl (object_whole file whole) in
    let ruled_whole : Whole ruled = then_part about (codes " rule=\"") rule about_whole refl spelled in
    both ruled (codes "\"") ruled_whole (words_whole (codes "\"") refl)

-- and is a record
access_record : (what : Op) (by : Hook) (enforce : Bool) (subject : Subject) (file : Object) (rule : List ℕ) → Whole subject.comm → IsWholeObject file → Whole rule
    → IsRecord (access_text what by enforce subject file rule)
access_record what by enforce subject file rule named whole spelled = (access_whole what by enforce subject file rule named whole spelled, refl)

-- ---- the policies that are loaded

-- a loaded policy whose name stands within a line
abbrev pub IsNamed : Loaded → Type 0
IsNamed entry = Whole entry.name

-- so it is for each
abbrev pub AreNamed : List Loaded → Type 0
AreNamed loaded = AllByRecursion IsNamed loaded

-- the entry of a name
entry_named_named : (name : List ℕ) (loaded : List Loaded) → AreNamed loaded → Found IsNamed (entry_named name loaded)
entry_named_named name loaded all = found_and_then IsNamed (slice_get loaded) (place_of name loaded) (λ place. get_all IsNamed loaded place all)

-- the entry of the active policy
active_named : (policies : Policies) → AreNamed policies.loaded → Found IsNamed (active_entry policies)
active_named policies all = found_and_then IsNamed (λ name. entry_named name policies.loaded) policies.active (λ name. entry_named_named name policies.loaded all)

-- the list with one more entry in a place
replaced_named : (loaded : List Loaded) (entry : Loaded) (place : Option ℕ) → AreNamed loaded → IsNamed entry → AreNamed (option_map_or (λ at. slice_set loaded at entry) place loaded)
replaced_named loaded entry None all named = all
replaced_named loaded entry (Some at) all named =
    recursion_from_All IsNamed (slice_set loaded at entry) (All-set IsNamed loaded at entry named (All-from_recursion IsNamed loaded all))

-- the list without the entry at a place
without_named : (loaded : List Loaded) (place : Option ℕ) → AreNamed loaded → AreNamed (option_map_or (remove loaded) place loaded)
without_named loaded None all = all
without_named loaded (Some at) all =
    let each = All-from_recursion IsNamed loaded all in
    recursion_from_All IsNamed (remove loaded at) (All-append IsNamed (take at loaded) (drop (suc at) loaded) (All-take IsNamed at loaded each) (All-drop IsNamed (suc at) loaded each))

-- one of two states
either_named : (test : Bool) (one two : Policies) → AreNamed one.loaded → AreNamed two.loaded → AreNamed (cond test one two).loaded
either_named true one two h k = h
either_named false one two h k = k

-- the policies after an act that was done
changed_named : (policies : Policies) (what : Act) → AreNamed policies.loaded → AreNamed (changed policies what).loaded
changed_named policies (act.Load text) all = All_both IsNamed policies.loaded (entry_of policies.next text ∷ []) all ((policy_whole text).0, tt)
changed_named policies (act.Update name text) all =
    let with_entry : Policies = record policies { loaded = replaced policies.loaded name (entry_of policies.next text); next = policies.next + 1 } in
    let named : AreNamed with_entry.loaded = replaced_named policies.loaded (entry_of policies.next text) (place_of name policies.loaded) all (policy_whole text).0 in
    either_named (is_active name policies) (later with_entry) with_entry named named
changed_named policies (act.Activate name wanted) all = all
changed_named policies (act.Delete name wanted) all = without_named policies.loaded (place_of name policies.loaded) all
changed_named policies (act.Enforce wanted) all = all
changed_named policies (act.SuccessAudit wanted) all = all

-- the policies after an answer
answer_named : (policies : Policies) (what : Act) (answered : Result Done Refusal) → AreNamed policies.loaded → AreNamed (after_answer policies what answered).loaded
answer_named policies what (Err refusal) all = all
answer_named policies what (Ok done.AlreadyActive) all = all
answer_named policies what (Ok done.Same) all = all
answer_named policies what (Ok done.Loaded) all = changed_named policies what all
answer_named policies what (Ok done.Updated) all = changed_named policies what all
answer_named policies what (Ok done.Activated) all = changed_named policies what all
answer_named policies what (Ok done.Deleted) all = changed_named policies what all
answer_named policies what (Ok done.Changed) all = changed_named policies what all

-- the policies after a command
pub after_named : (verdicts : Verdicts) (policies : Policies) (command : Command) → AreNamed policies.loaded → AreNamed (after verdicts policies command).loaded
after_named verdicts policies command all = answer_named policies command.act (answer verdicts policies command) all

-- ---- the records of commands

-- records of a command
abbrev pub AreRecords : List (List ℕ) → Type 0
AreRecords records = AllByRecursion IsRecord records

-- a change of the active policy to a named one
activation_named : (policies : Policies) (entry : Loaded) → AreNamed policies.loaded → IsNamed entry → IsRecord (activation_of policies entry)
activation_named policies entry all named =
    activation_record (option_map brief_of (active_entry policies)) (brief_of entry) (found_made IsNamed IsNamedBrief brief_of (active_entry policies) (active_named policies all) (λ (e : Loaded) h. h)) named

-- one record, or none
either_records : (test : Bool) (text : List ℕ) → IsRecord text → AreRecords (cond test (text ∷ []) [])
either_records true text h = (h, tt)
either_records false text h = tt

-- a change of the active policy to an entry, if there is one
found_records : (policies : Policies) (entry : Option Loaded) → AreNamed policies.loaded → Found IsNamed entry → AreRecords (option_map_or (λ e. activation_of policies e ∷ []) entry [])
found_records policies None all named = tt
found_records policies (Some entry) all named = (activation_named policies entry all named, tt)

-- the records of an act that was done
act_recorded : (policies : Policies) (what : Act) → AreNamed policies.loaded → AreRecords (change_records policies (change_of policies what))
act_recorded policies (act.Load text) all = (load_record (brief_of (entry_of policies.next text)) (policy_whole text).0, tt)
act_recorded policies (act.Update name text) all =
    let entry : Loaded = entry_of policies.next text in
    let named : IsNamed entry = (policy_whole text).0 in
    (load_record (brief_of entry) named, either_records (is_active name policies) (activation_of policies entry) (activation_named policies entry all named))
act_recorded policies (act.Activate name wanted) all = found_records policies (entry_named name policies.loaded) all (entry_named_named name policies.loaded all)
act_recorded policies (act.Delete name wanted) all = tt
act_recorded policies (act.Enforce wanted) all = (enforce_record (is_true wanted), tt)
act_recorded policies (act.SuccessAudit wanted) all = tt

-- the records of a change that is made or isn't
made_recorded : (policies : Policies) (change : Change) (made : Bool) → AreRecords (change_records policies change) → AreRecords (records_with policies (cond {A = Option Change} made (Some change) None))
made_recorded policies change true records = records
made_recorded policies change false records = tt

-- the records of a command
pub command_recorded : (verdicts : Verdicts) (policies : Policies) (command : Command) → AreNamed policies.loaded → AreRecords (records_of verdicts policies command)
command_recorded verdicts policies command all = made_recorded policies (change_of policies command.act) (is_step (answer verdicts policies command)) (act_recorded policies command.act all)

-- ---- the record of an access

-- the statements that pass a test
kept_whole : (test : Bool) (item : Statement) (items : List Statement) → IsWholeStatement item → AllByRecursion IsWholeStatement items → AllByRecursion IsWholeStatement (cond test (item ∷ items) items)
kept_whole true item items whole all = (whole, all)
kept_whole false item items whole all = all

filtered_whole : (passes : Statement → Bool) (items : List Statement) → AllByRecursion IsWholeStatement items → AllByRecursion IsWholeStatement (filter passes items)
filtered_whole passes [] all = tt
filtered_whole passes (item ∷ items) all = kept_whole (passes item) item (filter passes items) all.0 (filtered_whole passes items all.1)

-- the first statement that passes a test
either_whole : (test : Bool) (item : Statement) (later : Option Statement) → IsWholeStatement item → Found IsWholeStatement later → Found IsWholeStatement (cond test (Some item) later)
either_whole true item later whole all = whole
either_whole false item later whole all = all

sought_whole : (passes : Statement → Bool) (items : List Statement) → AllByRecursion IsWholeStatement items → Found IsWholeStatement (find passes items)
sought_whole passes [] all = tt
sought_whole passes (item ∷ items) all = either_whole (passes item) item (find passes items) all.0 (sought_whole passes items all.1)

-- the statement that decided
by_which_whole : (items : List Statement) (what : Op) (decided : Which) → AllByRecursion IsWholeStatement items → Found IsWholeStatement (found_statement items what decided)
by_which_whole items what (which.Rule number) all =
    let rules : List Statement = filter (λ item. is_some (rule_of item)) items in
    get_all IsWholeStatement rules (number - 1) (filtered_whole (λ item. is_some (rule_of item)) items all)
by_which_whole items what which.OpDefault all = sought_whole (λ item. is_some (op_default_of what item)) items all
by_which_whole items what which.GlobalDefault all = sought_whole (λ item. is_some (global_default_of item)) items all

deciding_whole : (items : List Statement) (what : Op) (context : Context) → AllByRecursion IsWholeStatement items → Found IsWholeStatement (deciding_statement items what context)
deciding_whole items what context all =
    found_and_then IsWholeStatement (λ (decided : found.Found). found_statement items what decided.which) (decision items what context)
    (λ (decided : found.Found). by_which_whole items what decided.which all)

module _ (policies : Policies) (request : Request) (subject : Subject) (file : Object) (context : Context) (named : Whole subject.comm) (whole : IsWholeObject file) where
  -- an access that is ruled by an entry's policy
  under_recorded : (what : Op) (entry : Loaded) → Found IsRecord (access_under policies request subject file context what entry)
  under_recorded what entry =
      let items : List Statement = (policy_in entry.text).items in
      found_made IsWholeStatement IsRecord (access_by policies request subject file what) (deciding_statement items what context)
      (deciding_whole items what context (policy_whole entry.text).1)
      (λ (statement : Statement) h. access_record what (hook_of request) policies.enforce subject file (statement_text statement) named whole (statement_whole statement h))

  -- an access for an operation, if a policy is active
  for_recorded : (what : Option Op) (entry : Option Loaded) → Found IsRecord (access_for policies request subject file context what entry)
  for_recorded None entry = tt
  for_recorded (Some what) None = tt
  for_recorded (Some what) (Some entry) = under_recorded what entry

  -- the record of an access, where one is due
  pub access_recorded : Found IsRecord (access_of policies request subject file context)
  access_recorded =
      found_on IsRecord (is_access_due policies request context) (access_for policies request subject file context (evaluated_op request) (active_entry policies))
      (λ due. for_recorded (evaluated_op request) (active_entry policies))
