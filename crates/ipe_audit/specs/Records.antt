-- The lines of audit records (after the records shown in kernel admin-guide/LSM/ipe.rst, without time stamps).
use Rattle.std.specs.Prelude.{Bool, not, codes, List, ◌++◌, ℕ, Option, Some, None}
use Rattle.hex.specs.Hex.{encode_lower}
use Rattle.std.specs.Fmt.{decimal}
use Rattle.std.specs.Option.{option_map}
use Rattle.ipe_policy.specs.declared.statement.Statement.{Statement}
use Rattle.ipe_policy.specs.declared.op.Op.{Op}
use Rattle.ipe_policy.specs.declared.request.Hook.{Hook}
use Rattle.ipe_policy.specs.declared.request.Hook.TheVariants.{BprmCheck, Mmap, Mprotect, KernelRead, KernelLoad}
use Rattle.ipe_policy.specs.declared.request.Subject.{Subject}
use Rattle.ipe_policy.specs.declared.request.Object.{Object}
use Rattle.ipe_policy.specs.declared.request.Object.TheVariants.{NoFile, File}
use Rattle.ipe_policy.specs.Spelling.{bit_text, op_word, statement_text, version_text}
use Rattle.ipe_audit.specs.declared.records.Brief.{Brief}

-- a policy's name, version and digest, each after these bytes
abbrev pub told : List ℕ → List ℕ → List ℕ → Brief → List ℕ
told name version digest policy =
    name ++ policy.name ++ version ++ version_text policy.version ++ digest ++ encode_lower policy.digest

-- the record of a load or an update
abbrev pub load_text : Brief → List ℕ
load_text policy =
    told (codes "type=1422 policy_name=\"") (codes "\" policy_version=") (codes " policy_digest=sha256:") policy
    ++ codes " auid=4294967295 ses=4294967295 lsm=ipe res=1 errno=0"

-- the policy that was active, or question marks where none was
abbrev pub old_text : Option Brief → List ℕ
old_text None = codes "old_active_pol_name=? old_active_pol_version=? old_policy_digest=?"
old_text (Some policy) =
    told (codes "old_active_pol_name=\"") (codes "\" old_active_pol_version=")
    (codes " old_policy_digest=sha256:") policy

-- the policy that is active now
abbrev pub new_text : Brief → List ℕ
new_text policy =
    told (codes "new_active_pol_name=\"") (codes "\" new_active_pol_version=")
    (codes " new_policy_digest=sha256:") policy

-- the record of a change of the active policy
abbrev pub activation_text : Option Brief → Brief → List ℕ
activation_text old new =
    codes "type=1421 " ++ old_text old ++ codes " " ++ new_text new
    ++ codes " auid=4294967295 ses=4294967295 lsm=ipe res=1"

-- the record of a change of the switch enforce to this value
abbrev pub enforce_text : Bool → List ℕ
enforce_text enforce =
    codes "type=1404 enforcing=" ++ bit_text enforce ++ codes " old_enforcing=" ++ bit_text (not enforce)
    ++ codes " auid=4294967295 ses=4294967295 enabled=1 old-enabled=1 lsm=ipe res=1"

-- the name of a hook
abbrev pub hook_word : Hook → List ℕ
hook_word BprmCheck = codes "BPRM_CHECK"
hook_word Mmap = codes "MMAP"
hook_word Mprotect = codes "MPROTECT"
hook_word KernelRead = codes "KERNEL_READ"
hook_word KernelLoad = codes "KERNEL_LOAD"

-- the file that was asked about, or question marks where there was none
abbrev pub object_text : Object → List ℕ
object_text NoFile = codes "path=? dev=? ino=?"
object_text (File path dev ino) = codes "path=\"" ++ path ++ codes "\" dev=\"" ++ dev ++ codes "\" ino=" ++ decimal ino

-- the record of an access: the operation, the hook, the switch enforce at the claim, the task, the file, and the
-- statement that decided as it is spelled
abbrev pub access_text : Op → Hook → Bool → Subject → Object → List ℕ → List ℕ
access_text op hook enforce subject object rule =
    codes "type=1420 ipe_op=" ++ op_word op ++ codes " ipe_hook=" ++ hook_word hook ++ codes " enforcing="
    ++ bit_text enforce
    ++ codes " pid=" ++ decimal subject.pid ++ codes " comm=\"" ++ subject.comm ++ codes "\" " ++ object_text object
    ++ codes " rule=\"" ++ rule ++ codes "\""

-- the record of an access that a statement decided, if there is one
abbrev pub decided_text : Op → Hook → Bool → Subject → Object → Option Statement → Option (List ℕ)
decided_text op hook enforce subject object statement =
    option_map (access_text op hook enforce subject object) (option_map statement_text statement)
