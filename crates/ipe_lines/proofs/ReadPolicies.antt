-- The name and the statements of a policy that is read stand within lines.
use Rattle.std.proofs.Common.{◌≡◌, ℕ, ◌-◌, true, false, cond, not, ◌&&◌, List, [], ◌∷◌, ◌++◌, map, Option, Some, None, Result, Ok, Err, refl}
use Rattle.std.specs.Prelude.{codes, drop, take, length, nat_le}
use Rattle.std.specs.List.{AllByRecursion, after_first, before_first}
use Rattle.std.specs.Option.{ok_or, option_map}
use Rattle.std.specs.Result.{IfOk}
use Rattle.std.proofs.lemmas.Bool.{and_parts}
use Rattle.ipe_policy.specs.declared.op.Op.{Op}
use Rattle.ipe_policy.specs.declared.op.Op.TheVariants as op
use Rattle.ipe_policy.specs.declared.op.Action.{Action}
use Rattle.ipe_policy.specs.declared.op.Action.TheVariants.{Allow, Deny}
use Rattle.ipe_policy.specs.declared.statement.Digest.{Digest}
use Rattle.ipe_policy.specs.declared.statement.Property.{Property}
use Rattle.ipe_policy.specs.declared.statement.Property.TheVariants.{BootVerified, DmverityRoothash, DmveritySignature, FsverityDigest, FsveritySignature}
use Rattle.ipe_policy.specs.declared.statement.Statement.{Statement}
use Rattle.ipe_policy.specs.declared.statement.Statement.TheVariants.{Rule, OpDefault, GlobalDefault}
use Rattle.ipe_policy.specs.Words.{is_alg_byte, is_alg_name, is_name, is_name_byte}
use Rattle.line_words.specs.Words.{is_text, is_word}
use Rattle.ipe_policy.specs.Spelling.{action_token, digest_word, op_token, op_word, property_token, statement_text, statement_tokens}
use Rattle.hex.specs.Hex.{encode_lower}
use Rattle.ipe_parse.specs.declared.header.Header.{Header}
use Rattle.ipe_parse.specs.declared.error.BadKind.{BadKind}
use Rattle.ipe_parse.specs.declared.error.BadKind.TheVariants.{NoHeader, BadName, BadVersion, BadOp, BadAction, TooManyProperties, BadProperty, BadDigest, TwiceDefault}
use Rattle.ipe_parse.specs.Tokens.{◌>>=◌, begins, default_of, digest_of, digest_property_of, header_of, header_parts, hex_bytes, is_colon, last_action, lone_action, op_named, op_of, or_else, properties_of, property_of, rule_of_line, statement_of, truth_property_of}
use Rattle.ipe_parse.specs.Defaults.{repeats_default}
use Rattle.ipe_parse.specs.Reading.{SpokenLine, at_line, not_twice, next_statement}
use Rattle.ipe_policy.specs.Version.{version_of}
use Rattle.ipe_lines.proofs.Found.{Found, found_either, found_made, found_map, found_on, ok_each, ok_either, ok_found, ok_on}
use Rattle.ipe_lines.proofs.Within.{Whole, both, chain_whole, hex_whole, joined_whole, word_whole, words_whole}

-- what a second step makes of a first value
pub ok_then : {X Y E : Type 0} (P : X → Type 0) (Q : Y → Type 0) (r : Result X E) (next : X → Result Y E) → IfOk r P → ((x : X) → P x → IfOk (next x) Q) → IfOk (r >>= next) Q
ok_then P Q (Ok x) next h k = k x h
ok_then P Q (Err error) next h k = tt

-- ---- tokens

-- a digest stands within a line
abbrev IsWholeDigest : Digest → Type 0
IsWholeDigest digest = Whole digest.alg

-- the property of a digest
digest_whole : (digest : Digest) → IsWholeDigest digest → Whole (digest_word digest)
digest_whole digest h = chain_whole digest.alg (codes ":" ∷ encode_lower digest.bytes ∷ []) h (words_whole (codes ":") refl, (hex_whole digest.bytes, tt))

-- a property whose token stands within a line
abbrev pub IsWholeProperty : Property → Type 0
IsWholeProperty property = Whole (property_token property)

-- a statement whose tokens stand within lines
abbrev pub IsWholeStatement : Statement → Type 0
IsWholeStatement (Rule op properties action) = AllByRecursion IsWholeProperty properties
IsWholeStatement (OpDefault op action) = Unit {0}
IsWholeStatement (GlobalDefault action) = Unit {0}

-- the token of an action
action_whole : (action : Action) → Whole (action_token action)
action_whole Allow = words_whole (action_token Allow) refl
action_whole Deny = words_whole (action_token Deny) refl

-- the word of an operation
pub op_whole : (what : Op) → Whole (op_word what)
op_whole op.Execute = words_whole (op_word op.Execute) refl
op_whole op.Firmware = words_whole (op_word op.Firmware) refl
op_whole op.Kmodule = words_whole (op_word op.Kmodule) refl
op_whole op.KexecImage = words_whole (op_word op.KexecImage) refl
op_whole op.KexecInitramfs = words_whole (op_word op.KexecInitramfs) refl
op_whole op.Policy = words_whole (op_word op.Policy) refl
op_whole op.X509Cert = words_whole (op_word op.X509Cert) refl

-- its token
op_token_whole : (what : Op) → Whole (op_token what)
op_token_whole what = both (codes "op=") (op_word what) (words_whole (codes "op=") refl) (op_whole what)

-- the tokens of a rule after the first
rule_tokens : (properties : List Property) (action : Action) → AllByRecursion IsWholeProperty properties → AllByRecursion Whole (map property_token properties ++ action_token action ∷ [])
rule_tokens [] action all = (action_whole action, tt)
rule_tokens (property ∷ properties) action all = (all.0, rule_tokens properties action all.1)

-- the tokens of a statement
tokens_whole : (statement : Statement) → IsWholeStatement statement → AllByRecursion Whole (statement_tokens statement)
tokens_whole (Rule what properties action) all = (op_token_whole what, rule_tokens properties action all)
tokens_whole (OpDefault what action) all = (words_whole (codes "DEFAULT") refl, (op_token_whole what, (action_whole action, tt)))
tokens_whole (GlobalDefault action) all = (words_whole (codes "DEFAULT") refl, (action_whole action, tt))

-- its spelling
pub statement_whole : (statement : Statement) → IsWholeStatement statement → Whole (statement_text statement)
statement_whole statement all = joined_whole (statement_tokens statement) (tokens_whole statement all)

-- a digest that is read
digest_read : (word : List ℕ) → Found IsWholeDigest (digest_of word)
digest_read word =
    let alg : List ℕ = before_first is_colon word in
    found_on IsWholeDigest (is_alg_name alg) (option_map {U = Digest} (λ bytes. record { alg = alg; bytes = bytes }) (hex_bytes (after_first is_colon word)))
    (λ name. found_map {Y = Digest} IsWholeDigest (λ bytes. record { alg = alg; bytes = bytes }) (hex_bytes (after_first is_colon word)) (λ bytes. word_whole 1 16 is_alg_byte alg refl name))

-- a property that is made of a digest
made_read : (made : Digest → Property) (word : List ℕ) → ((digest : Digest) → IsWholeDigest digest → IsWholeProperty (made digest)) → IfOk (ok_or (option_map made (digest_of word)) BadDigest) IsWholeProperty
made_read made word each =
    ok_found IsWholeProperty (option_map made (digest_of word)) BadDigest (found_made IsWholeDigest IsWholeProperty made (digest_of word) (digest_read word) each)

-- a property of a digest that is read
digest_property_read : (token : List ℕ) → IfOk (digest_property_of token) IsWholeProperty
digest_property_read token =
    ok_either IsWholeProperty (begins (codes "dmverity_roothash=") token) (ok_or (option_map DmverityRoothash (digest_of (drop 18 token))) BadDigest) _
    (made_read DmverityRoothash (drop 18 token) (λ digest h. both (codes "dmverity_roothash=") (digest_word digest) (words_whole (codes "dmverity_roothash=") refl) (digest_whole digest h)))
    (ok_on IsWholeProperty (begins (codes "fsverity_digest=") token) (ok_or (option_map FsverityDigest (digest_of (drop 16 token))) BadDigest) BadProperty
    (λ begun. made_read FsverityDigest (drop 16 token) (λ digest h. both (codes "fsverity_digest=") (digest_word digest) (words_whole (codes "fsverity_digest=") refl) (digest_whole digest h))))

-- one of these properties, or what else is read
truth_at : (text token : List ℕ) (property : Property) (found : Option Property) → IsWholeProperty property → Found IsWholeProperty found → Found IsWholeProperty (cond (is_text text token) (Some property) found)
truth_at text token property found h others = found_either IsWholeProperty (is_text text token) (Some property) found h others

-- a property of a truth value that is read
truth_property_read : (token : List ℕ) → Found IsWholeProperty (truth_property_of token)
truth_property_read token =
    truth_at (codes "boot_verified=TRUE") token (BootVerified true) _ (words_whole (property_token (BootVerified true)) refl)
    (truth_at (codes "boot_verified=FALSE") token (BootVerified false) _ (words_whole (property_token (BootVerified false)) refl)
    (truth_at (codes "dmverity_signature=TRUE") token (DmveritySignature true) _ (words_whole (property_token (DmveritySignature true)) refl)
    (truth_at (codes "dmverity_signature=FALSE") token (DmveritySignature false) _ (words_whole (property_token (DmveritySignature false)) refl)
    (truth_at (codes "fsverity_signature=TRUE") token (FsveritySignature true) _ (words_whole (property_token (FsveritySignature true)) refl)
    (truth_at (codes "fsverity_signature=FALSE") token (FsveritySignature false) None (words_whole (property_token (FsveritySignature false)) refl) tt)))))

-- one of two properties
or_else_read : (found : Option Property) (other : Result Property BadKind) → Found IsWholeProperty found → IfOk other IsWholeProperty → IfOk (or_else found other) IsWholeProperty
or_else_read None other h k = k
or_else_read (Some property) other h k = h

-- a property that is read
property_read : (token : List ℕ) → IfOk (property_of token) IsWholeProperty
property_read token = or_else_read (truth_property_of token) (digest_property_of token) (truth_property_read token) (digest_property_read token)

-- properties that are read
properties_read : (tokens : List (List ℕ)) → IfOk (properties_of tokens) (AllByRecursion IsWholeProperty)
properties_read [] = tt
properties_read (token ∷ tokens) =
    ok_then IsWholeProperty (AllByRecursion IsWholeProperty) (property_of token) (λ property. properties_of tokens >>= λ properties. Ok (property ∷ properties)) (property_read token)
    (λ property h. ok_then (AllByRecursion IsWholeProperty) (AllByRecursion IsWholeProperty) (properties_of tokens) (λ properties. Ok (property ∷ properties)) (properties_read tokens)
    (λ properties all. (h, all)))

-- ---- statements

-- a default that is read
default_read : (tokens : List (List ℕ)) → IfOk (default_of tokens) IsWholeStatement
default_read [] = tt
default_read (second ∷ others) =
    ok_either IsWholeStatement (begins (codes "op=") second) (ok_or (op_named (drop 3 second)) BadOp >>= λ what. lone_action others >>= λ action. Ok (OpDefault what action)) _
    (ok_then (λ x. Unit {0}) IsWholeStatement (ok_or (op_named (drop 3 second)) BadOp) (λ what. lone_action others >>= λ action. Ok (OpDefault what action)) (ok_each (ok_or (op_named (drop 3 second)) BadOp))
    (λ what h. ok_then (λ x. Unit {0}) IsWholeStatement (lone_action others) (λ action. Ok (OpDefault what action)) (ok_each (lone_action others)) (λ action h. tt)))
    (ok_then (λ x. Unit {0}) IsWholeStatement (lone_action (second ∷ others)) (λ action. Ok (GlobalDefault action)) (ok_each (lone_action (second ∷ others))) (λ action h. tt))

-- the rule of properties that are read
rule_made : (others : List (List ℕ)) (what : Op) (action : Action)
    → IfOk (cond (nat_le (length others) 17) (properties_of (take (length others - 1) others) >>= λ properties. Ok (Rule what properties action)) (Err TooManyProperties)) IsWholeStatement
rule_made others what action =
    ok_on IsWholeStatement (nat_le (length others) 17) (properties_of (take (length others - 1) others) >>= λ properties. Ok (Rule what properties action)) TooManyProperties
    (λ few. ok_then (AllByRecursion IsWholeProperty) IsWholeStatement (properties_of (take (length others - 1) others)) (λ properties. Ok (Rule what properties action))
    (properties_read (take (length others - 1) others)) (λ properties all. all))

-- a rule that is read
rule_read : (first : List ℕ) (others : List (List ℕ)) → IfOk (rule_of_line first others) IsWholeStatement
rule_read first others =
    ok_then (λ x. Unit {0}) IsWholeStatement (ok_or (op_of first) BadOp) _ (ok_each (ok_or (op_of first) BadOp))
    (λ what h. ok_then (λ x. Unit {0}) IsWholeStatement (ok_or (last_action others) BadAction) _ (ok_each (ok_or (last_action others) BadAction))
    (λ action h. rule_made others what action))

-- a statement that is read
statement_read : (tokens : List (List ℕ)) → IfOk (statement_of tokens) IsWholeStatement
statement_read [] = tt
statement_read (first ∷ others) = ok_either IsWholeStatement (is_text (codes "DEFAULT") first) (default_of others) (rule_of_line first others) (default_read others) (rule_read first others)

-- ---- the header

-- a policy's name stands within a line
pub name_whole : (name : List ℕ) → is_name name ≡ true → Whole name
name_whole name is =
    let first = and_parts (is_word 1 255 is_name_byte name && not (is_text (codes ".") name)) (not (is_text (codes "..") name)) is in
    let second = and_parts (is_word 1 255 is_name_byte name) (not (is_text (codes ".") name)) first.0 in
    word_whole 1 255 is_name_byte name refl second.0

-- a header whose name stands within a line
abbrev pub IsWholeHeader : Header → Type 0
IsWholeHeader header = Whole header.name

-- the parts of a header that are read
parts_read : (name version : List ℕ) → IfOk (header_parts name version) IsWholeHeader
parts_read name version =
    ok_on IsWholeHeader (is_name name) _ BadName
    (λ is. ok_then (λ x. Unit {0}) IsWholeHeader (ok_or (version_of version) BadVersion) (λ value. Ok (record { name = name; version = value })) (ok_each (ok_or (version_of version) BadVersion))
    (λ value h. name_whole name is))

-- a header that is read
pub header_read : (tokens : List (List ℕ)) → IfOk (header_of tokens) IsWholeHeader
header_read [] = tt
header_read (name ∷ []) = tt
header_read (name ∷ version ∷ []) =
    ok_on IsWholeHeader (begins (codes "policy_name=") name && begins (codes "policy_version=") version) (header_parts (drop 12 name) (drop 15 version)) NoHeader
    (λ begun. parts_read (drop 12 name) (drop 15 version))
header_read (name ∷ version ∷ third ∷ others) = tt

-- ---- lines

-- what is read at a line
pub line_read : {X : Type 0} (P : X → Type 0) (number : ℕ) (r : Result X BadKind) → IfOk r P → IfOk (at_line number r) P
line_read P number (Ok x) h = h
line_read P number (Err fault) h = tt

-- a statement that repeats no default
not_twice_read : (before : List Statement) (r : Result Statement BadKind) → IfOk r IsWholeStatement → IfOk (not_twice before r) IsWholeStatement
not_twice_read before (Ok statement) h = ok_either IsWholeStatement (repeats_default before statement) (Err TwiceDefault) (Ok statement) tt h
not_twice_read before (Err fault) h = tt

-- a statement that is read after others
pub next_read : (before : List Statement) (line : SpokenLine) → IfOk (next_statement before line) IsWholeStatement
next_read before line =
    line_read IsWholeStatement line.number (not_twice before (statement_of line.tokens)) (not_twice_read before (statement_of line.tokens) (statement_read line.tokens))
