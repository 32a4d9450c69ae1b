-- The words of an image, bits counted from the lowest.
use Rattle.std.specs.Prelude.{ℕ, ◌+◌, ◌*◌, ◌^◌, ◌==◌, if◌then◌else◌, Bool, true, false, List, [], ◌∷◌, ◌++◌, length, map, sum_by, take, Option, Some, None}
use Rattle.std.specs.List.{enumerate_from, filter, flat_map}
use Rattle.ipe_policy.specs.declared.op.Op.{Op}
use Rattle.ipe_policy.specs.declared.op.Action.{Action}
use Rattle.ipe_policy.specs.declared.op.Action.TheVariants.{Allow, Deny}
use Rattle.ipe_policy.specs.declared.statement.Digest.{Digest}
use Rattle.ipe_policy.specs.declared.statement.Property.{Property}
use Rattle.ipe_policy.specs.declared.statement.Property.TheVariants.{BootVerified, DmverityRoothash, DmveritySignature, FsverityDigest, FsveritySignature}
use Rattle.ipe_policy.specs.Statement.{RuleParts, op_number, operations, same_op}
use Rattle.ipe_policy.specs.Spelling.{rule_words}
use Rattle.ipe_image.specs.Packing.{byte_words}
use Rattle.ipe_image.specs.Parts.{ImageParts}

-- the number of an action
abbrev pub action_number : Action → ℕ
action_number Allow = 1
action_number Deny = 2

-- the word of a default: 0 where there is none
abbrev pub default_word : Option Action → ℕ
default_word None = 0
default_word (Some action) = action_number action

-- the number of a property's kind
abbrev pub kind_number : Property → ℕ
kind_number (BootVerified wanted) = 0
kind_number (DmveritySignature wanted) = 1
kind_number (FsveritySignature wanted) = 2
kind_number (DmverityRoothash digest) = 3
kind_number (FsverityDigest digest) = 4

-- the number of a truth value
abbrev pub truth_number : Bool → ℕ
truth_number true = 1
truth_number false = 0

-- the truth value that a property wants; false for a digest
abbrev pub wanted_truth : Property → Bool
wanted_truth (BootVerified wanted) = wanted
wanted_truth (DmveritySignature wanted) = wanted
wanted_truth (FsveritySignature wanted) = wanted
wanted_truth (DmverityRoothash digest) = false
wanted_truth (FsverityDigest digest) = false

-- the digest that a property names; an empty one for a truth value
abbrev pub named_digest : Property → Digest
named_digest (BootVerified wanted) = record { alg = []; bytes = [] }
named_digest (DmveritySignature wanted) = record { alg = []; bytes = [] }
named_digest (FsveritySignature wanted) = record { alg = []; bytes = [] }
named_digest (DmverityRoothash digest) = digest
named_digest (FsverityDigest digest) = digest

-- the head of a property: from bit 0 its kind, 8 its truth value, 16 its algorithm's length, 24 its digest's length
abbrev pub property_head : Property → ℕ
property_head property =
    kind_number property + 2 ^ 8 * truth_number (wanted_truth property)
    + 2 ^ 16 * length (named_digest property).alg + 2 ^ 24 * length (named_digest property).bytes

-- the words of a property: its head, and the bytes of the algorithm's name and of the digest, each in whole words
abbrev pub property_image : Property → List ℕ
property_image property =
    property_head property ∷ (byte_words (named_digest property).alg ++ byte_words (named_digest property).bytes)

-- the head of a rule: from bit 0 its number, 32 its operation, 40 its action, 48 how many properties, 56 how many words
abbrev pub rule_head : ℕ → RuleParts → ℕ
rule_head number rule =
    number + 2 ^ 32 * op_number rule.op + 2 ^ 40 * action_number rule.action
    + 2 ^ 48 * length rule.properties + 2 ^ 56 * rule_words rule

-- the words of the rule of this number
abbrev pub rule_record : ℕ → RuleParts → List ℕ
rule_record number rule = rule_head number rule ∷ flat_map property_image rule.properties

-- the rules of an operation in text order, each with its number in the text, from 1
abbrev pub rules_of : List RuleParts → Op → List (ℕ × RuleParts)
rules_of rules op = filter (λ rule. same_op op rule.1.op) (enumerate_from 1 rules)

-- the rules grouped by operation in order, in text order within each
abbrev pub grouped : List RuleParts → List (ℕ × RuleParts)
grouped rules = flat_map (rules_of rules) operations

-- the records of numbered rules, one after the other
abbrev pub records : List (ℕ × RuleParts) → List ℕ
records rules = flat_map (λ rule. rule_record rule.0 rule.1) rules

-- how many words the records of numbered rules have
abbrev pub words_of : List (ℕ × RuleParts) → ℕ
words_of rules = sum_by (λ rule. rule_words rule.1) rules

-- how many words the records of an operation have
abbrev pub words_of_op : List RuleParts → Op → ℕ
words_of_op rules op = words_of (rules_of rules op)

-- the place of the first of so many records; 0 where there is none
abbrev pub place_if_any : ℕ → ℕ → ℕ
place_if_any at count = if count == 0 then 0 else at

-- the place of an operation's first record, after 25 words and the records of the operations before; 0 where it has none
abbrev pub place_of : List RuleParts → Op → ℕ
place_of rules op =
    place_if_any (25 + sum_by (words_of_op rules) (take (op_number op) operations)) (length (rules_of rules op))

-- how many words the image has: 25 before the records, and the records
abbrev pub words_used : ImageParts → ℕ
words_used parts = 25 + sum_by rule_words parts.rules

-- the words that tell where the records of each operation begin, and how many there are of each
abbrev pub tables : List RuleParts → List ℕ
tables rules = map (place_of rules) operations ++ map (λ op. length (rules_of rules op)) operations

-- the words before the records
abbrev pub image_head : ImageParts → List ℕ
image_head parts =
    words_used parts ∷ parts.serial ∷ default_word parts.global
    ∷ (map default_word parts.defaults ++ length parts.rules ∷ tables parts.rules)

-- the words of a whole image
abbrev pub image_of : ImageParts → List ℕ
image_of parts = image_head parts ++ records (grouped parts.rules)
