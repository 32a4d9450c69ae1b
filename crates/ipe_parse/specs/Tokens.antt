-- What each token and each line of a policy text stands for, or what is wrong with it.
use Rattle.std.specs.Prelude.{ℕ, ◌-◌, ◌&&◌, Bool, true, false, nat_eq, nat_le, if◌then◌else◌, codes, List, [], ◌∷◌, length, take, drop, Option, Some, None, Result, Ok, Err, slice_get}
use Rattle.std.specs.List.{before_first, after_first, starts_with, find}
use Rattle.std.specs.Option.{option_map, option_and_then, ok_or}
use Rattle.std.specs.Result.{result_ok}
use Rattle.hex.specs.Hex.{decode_of}
use Rattle.ipe_policy.specs.declared.op.Op.{Op}
use Rattle.ipe_policy.specs.declared.op.Action.{Action}
use Rattle.ipe_policy.specs.declared.op.Action.TheVariants.{Allow, Deny}
use Rattle.ipe_policy.specs.declared.statement.Digest.{Digest}
use Rattle.ipe_policy.specs.declared.statement.Property.{Property}
use Rattle.ipe_policy.specs.declared.statement.Property.TheVariants.{BootVerified, DmverityRoothash, DmveritySignature, FsverityDigest, FsveritySignature}
use Rattle.ipe_policy.specs.declared.statement.Statement.{Statement}
use Rattle.ipe_policy.specs.declared.statement.Statement.TheVariants.{Rule, OpDefault, GlobalDefault}
use Rattle.line_words.specs.Words.{is_byte, is_text}
use Rattle.ipe_policy.specs.Words.{is_alg_name, is_name}
use Rattle.ipe_policy.specs.Version.{version_of}
use Rattle.ipe_policy.specs.Statement.{operations}
use Rattle.ipe_policy.specs.Spelling.{op_word, action_token}
use Rattle.ipe_parse.specs.declared.header.Header.{Header}
use Rattle.ipe_parse.specs.declared.error.BadKind.{BadKind}
use Rattle.ipe_parse.specs.declared.error.BadKind.TheVariants.{NoHeader, BadName, BadVersion, BadOp, BadAction, PropertyInDefault, TooManyProperties, BadProperty, BadDigest}

-- the second step, where the first gave a value
infixl 10 ◌>>=◌
abbrev pub ◌>>=◌ : {A B E : Type 0} → Result A E → (A → Result B E) → Result B E
Ok x >>= next = next x
Err error >>= next = Err error

-- the token begins with this text
abbrev pub begins : List ℕ → List ℕ → Bool
begins text token = starts_with nat_eq token text

-- what stands after a key in a token
abbrev pub behind : List ℕ → List ℕ → List ℕ
behind key token = drop (length key) token

-- the operation of a word
abbrev pub op_named : List ℕ → Option Op
op_named word = find (λ op. is_text (op_word op) word) operations

-- the action of a token
abbrev pub action_named : List ℕ → Option Action
action_named token =
    if is_text (action_token Allow) token then Some Allow else if is_text (action_token Deny) token then Some Deny
    else None

-- the action that the last token says
abbrev pub last_action : List (List ℕ) → Option Action
last_action tokens = option_and_then action_named (slice_get tokens (length tokens - 1))

-- 2 to 128 hexadecimal digits of either case, an even number of them
abbrev pub hex_bytes : List ℕ → Option (List ℕ)
hex_bytes text = if nat_le 2 (length text) && nat_le (length text) 128 then result_ok (decode_of text) else None

-- the colon between an algorithm and its digits
abbrev pub is_colon : ℕ → Bool
is_colon = is_byte 58

-- the digest of a word ALG:HEX
abbrev pub digest_of : List ℕ → Option Digest
digest_of word =
    if is_alg_name (before_first is_colon word)
    then option_map (λ bytes. record { alg = before_first is_colon word; bytes = bytes })
    (hex_bytes (after_first is_colon word))
    else None

-- the property of a token that says TRUE or FALSE
abbrev pub truth_property_of : List ℕ → Option Property
truth_property_of token =
    if is_text (codes "boot_verified=TRUE") token then Some (BootVerified true)
    else if is_text (codes "boot_verified=FALSE") token then Some (BootVerified false)
    else if is_text (codes "dmverity_signature=TRUE") token then Some (DmveritySignature true)
    else if is_text (codes "dmverity_signature=FALSE") token then Some (DmveritySignature false)
    else if is_text (codes "fsverity_signature=TRUE") token then Some (FsveritySignature true)
    else if is_text (codes "fsverity_signature=FALSE") token then Some (FsveritySignature false)
    else None

-- the property of any other token
abbrev pub digest_property_of : List ℕ → Result Property BadKind
digest_property_of token =
    if begins (codes "dmverity_roothash=") token
    then ok_or (option_map DmverityRoothash (digest_of (behind (codes "dmverity_roothash=") token))) BadDigest
    else if begins (codes "fsverity_digest=") token
    then ok_or (option_map FsverityDigest (digest_of (behind (codes "fsverity_digest=") token))) BadDigest
    else Err BadProperty

-- the first of two answers that is there
abbrev pub or_else : Option Property → Result Property BadKind → Result Property BadKind
or_else (Some property) other = Ok property
or_else None other = other

-- the property of a token
abbrev pub property_of : List ℕ → Result Property BadKind
property_of token = or_else (truth_property_of token) (digest_property_of token)

-- the properties of tokens, or the kind of the first bad one from the left
abbrev pub properties_of : List (List ℕ) → Result (List Property) BadKind
properties_of [] = Ok []
properties_of (token ∷ tokens) =
    property_of token >>= λ property. properties_of tokens >>= λ properties. Ok (property ∷ properties)

-- the action of a default, which stands alone after the words before it
abbrev pub lone_action : List (List ℕ) → Result Action BadKind
lone_action tokens =
    ok_or (last_action tokens) BadAction >>= λ action.
    if nat_le (length tokens) 1 then Ok action else Err PropertyInDefault

-- the default that stands after the word DEFAULT
abbrev pub default_of : List (List ℕ) → Result Statement BadKind
default_of [] = Err BadAction
default_of (second ∷ others) =
    if begins (codes "op=") second
    then (ok_or (op_named (behind (codes "op=") second)) BadOp >>= λ op. lone_action others >>= λ action. Ok (OpDefault op action))
    else (lone_action (second ∷ others) >>= λ action. Ok (GlobalDefault action))

-- the operation of the first token of a rule
abbrev pub op_of : List ℕ → Option Op
op_of token = if begins (codes "op=") token then op_named (behind (codes "op=") token) else None

-- the rule of a line that begins with this token
abbrev pub rule_of_line : List ℕ → List (List ℕ) → Result Statement BadKind
rule_of_line first others =
    ok_or (op_of first) BadOp >>= λ op.
    ok_or (last_action others) BadAction >>= λ action.
    if nat_le (length others) 17
    then (properties_of (take (length others - 1) others) >>= λ properties. Ok (Rule op properties action))
    else Err TooManyProperties

-- the statement of a line, but for what the lines before it say
abbrev pub statement_of : List (List ℕ) → Result Statement BadKind
statement_of [] = Err BadOp
statement_of (first ∷ others) = if is_text (codes "DEFAULT") first then default_of others else rule_of_line first others

-- a name that meets its rule, and a version, each after its key
abbrev pub header_parts : List ℕ → List ℕ → Result Header BadKind
header_parts name version =
    if is_name name
    then (ok_or (version_of version) BadVersion >>= λ value. Ok (record { name = name; version = value }))
    else Err BadName

-- a name and a version after their keys
abbrev pub header_words : List ℕ → List ℕ → Result Header BadKind
header_words name version =
    if begins (codes "policy_name=") name && begins (codes "policy_version=") version
    then header_parts (behind (codes "policy_name=") name) (behind (codes "policy_version=") version)
    else Err NoHeader

-- the header of a line: exactly two tokens
abbrev pub header_of : List (List ℕ) → Result Header BadKind
header_of [] = Err NoHeader
header_of (name ∷ []) = Err NoHeader
header_of (name ∷ version ∷ []) = header_words name version
header_of (name ∷ version ∷ third ∷ others) = Err NoHeader
