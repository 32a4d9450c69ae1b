-- The one spelling of a policy that is printed, and the number of words of its image.
use Rattle.std.specs.Prelude.{ℕ, ◌+◌, ◌/◌, Bool, true, false, codes, List, [], ◌∷◌, ◌++◌, length, map, sum_by}
use Rattle.std.specs.List.{filter_map, flat_map}
use Rattle.std.specs.Fmt.{decimal}
use Rattle.hex.specs.Hex.{encode_lower}
use Rattle.ipe_policy.specs.declared.op.Op.{Op}
use Rattle.ipe_policy.specs.declared.op.Op.TheVariants.{Execute, Firmware, Kmodule, KexecImage, KexecInitramfs, Policy, X509Cert}
use Rattle.ipe_policy.specs.declared.op.Action.{Action}
use Rattle.ipe_policy.specs.declared.op.Action.TheVariants.{Allow, Deny}
use Rattle.ipe_policy.specs.declared.statement.Digest.{Digest}
use Rattle.ipe_policy.specs.declared.statement.Property.{Property}
use Rattle.ipe_policy.specs.declared.statement.Property.TheVariants.{BootVerified, DmverityRoothash, DmveritySignature, FsverityDigest, FsveritySignature}
use Rattle.ipe_policy.specs.declared.statement.Statement.{Statement}
use Rattle.ipe_policy.specs.declared.statement.Statement.TheVariants.{Rule, OpDefault, GlobalDefault}
use Rattle.ipe_policy.specs.declared.version.Version.{Version}
use Rattle.ipe_policy.specs.Statement.{RuleParts, rule_of}
use Rattle.ipe_policy.specs.Policy.{PolicyParts}
use Rattle.line_words.specs.Lines.{joined}

-- the word of an operation
abbrev pub op_word : Op → List ℕ
op_word Execute = codes "EXECUTE"
op_word Firmware = codes "FIRMWARE"
op_word Kmodule = codes "KMODULE"
op_word KexecImage = codes "KEXEC_IMAGE"
op_word KexecInitramfs = codes "KEXEC_INITRAMFS"
op_word Policy = codes "POLICY"
op_word X509Cert = codes "X509_CERT"

-- the token of an operation
abbrev pub op_token : Op → List ℕ
op_token op = codes "op=" ++ op_word op

-- the token of an action
abbrev pub action_token : Action → List ℕ
action_token Allow = codes "action=ALLOW"
action_token Deny = codes "action=DENY"

-- the word of a truth value
abbrev pub truth_word : Bool → List ℕ
truth_word true = codes "TRUE"
truth_word false = codes "FALSE"

-- a truth value as a digit
abbrev pub bit_text : Bool → List ℕ
bit_text true = codes "1"
bit_text false = codes "0"

-- ALG:HEX
abbrev pub digest_word : Digest → List ℕ
digest_word digest = digest.alg ++ codes ":" ++ encode_lower digest.bytes

-- the token of a property
abbrev pub property_token : Property → List ℕ
property_token (BootVerified wanted) = codes "boot_verified=" ++ truth_word wanted
property_token (DmverityRoothash digest) = codes "dmverity_roothash=" ++ digest_word digest
property_token (DmveritySignature wanted) = codes "dmverity_signature=" ++ truth_word wanted
property_token (FsverityDigest digest) = codes "fsverity_digest=" ++ digest_word digest
property_token (FsveritySignature wanted) = codes "fsverity_signature=" ++ truth_word wanted

-- the tokens of a statement, in order
abbrev pub statement_tokens : Statement → List (List ℕ)
statement_tokens (Rule op properties action) = op_token op ∷ (map property_token properties ++ action_token action ∷ [])
statement_tokens (OpDefault op action) = codes "DEFAULT" ∷ op_token op ∷ action_token action ∷ []
statement_tokens (GlobalDefault action) = codes "DEFAULT" ∷ action_token action ∷ []

-- a statement as it is printed, without the end of its line
abbrev pub statement_text : Statement → List ℕ
statement_text statement = joined (statement_tokens statement)

-- X.Y.Z without leading zeros
abbrev pub version_text : Version → List ℕ
version_text version = decimal version.major ++ codes "." ++ decimal version.minor ++ codes "." ++ decimal version.rev

-- the first line, without its end
abbrev pub header_text : List ℕ → Version → List ℕ
header_text name version = codes "policy_name=" ++ name ++ codes " policy_version=" ++ version_text version

-- the whole text, each line with its line feed
abbrev pub policy_text : PolicyParts → List ℕ
policy_text policy =
    (header_text policy.name policy.version ++ 10 ∷ [])
    ++ flat_map (λ statement. statement_text statement ++ 10 ∷ []) policy.items

-- how many words of eight bytes some bytes fill
abbrev pub words_for : ℕ → ℕ
words_for bytes = (bytes + 7) / 8

-- the words of a property in an image
abbrev pub property_words : Property → ℕ
property_words (BootVerified wanted) = 1
property_words (DmverityRoothash digest) = 1 + words_for (length digest.alg) + words_for (length digest.bytes)
property_words (DmveritySignature wanted) = 1
property_words (FsverityDigest digest) = 1 + words_for (length digest.alg) + words_for (length digest.bytes)
property_words (FsveritySignature wanted) = 1

-- the words of a rule's record: its head and its properties
abbrev pub rule_words : RuleParts → ℕ
rule_words rule = 1 + sum_by property_words rule.properties

-- the words of a policy's image: 25 before the records, and the records
abbrev pub words_of_image : List Statement → ℕ
words_of_image items = 25 + sum_by rule_words (filter_map rule_of items)
