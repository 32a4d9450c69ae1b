-- The tokens of a printed statement or header are words, and spell it.
use Rattle.std.proofs.Common.{◌≡◌, ℕ, ◌<◌, true, false, not, ◌&&◌, codes, List, [], ◌∷◌, ◌++◌, length, map, refl, arith, length-append}
use Rattle.std.specs.List.{list_all, AllByRecursion, AllZip}
use Rattle.std.specs.Fmt.{decimal}
use Rattle.std.proofs.lemmas.Bool.{and_parts}
use Rattle.std.proofs.lemmas.Bool.Decides.{nat_tests}
use Rattle.std.proofs.lemmas.List.Sums.{list_all-from_AllPass}
use Rattle.hex.specs.Hex.{IsBytes, encode_lower, is_hex_digit}
use Rattle.hex.proofs.HexLemmas.{decode_of-encode_lower, decode_of-ok}
use Rattle.ipe_policy.specs.declared.op.Op.{Op}
use Rattle.ipe_policy.specs.declared.op.Op.TheVariants.{Execute, Firmware, Kmodule, KexecImage, KexecInitramfs, Policy, X509Cert}
use Rattle.ipe_policy.specs.declared.op.Action.{Action}
use Rattle.ipe_policy.specs.declared.op.Action.TheVariants.{Allow, Deny}
use Rattle.ipe_policy.specs.declared.statement.Digest.{Digest}
use Rattle.ipe_policy.specs.declared.statement.Property.{Property}
use Rattle.ipe_policy.specs.declared.statement.Property.TheVariants.{BootVerified, DmverityRoothash, DmveritySignature, FsverityDigest, FsveritySignature}
use Rattle.ipe_policy.specs.declared.statement.Statement.{Statement}
use Rattle.ipe_policy.specs.declared.statement.Statement.TheVariants.{Rule, OpDefault, GlobalDefault}
use Rattle.ipe_policy.specs.declared.version.Version.{Version}
use Rattle.ipe_policy.specs.Policy.{IsNamedDigest, IsProperty, IsStatement}
use Rattle.ipe_policy.specs.Words.{is_alg_byte, is_name, is_name_byte}
use Rattle.line_words.specs.Words.{is_digit, is_text, is_word}
use Rattle.ipe_policy.specs.Spelling.{action_token, digest_word, op_token, property_token, statement_tokens, version_text}
use Rattle.ipe_parse.specs.Reads.{SpellsDigest, SpellsProperty, SpellsStatement}
use Rattle.ipe_parse.proofs.Bytes.{IsWord, all-append, all-weaker, is_plain}
use Rattle.ipe_parse.proofs.Digests.{alg-bytes}
use Rattle.ipe_parse.proofs.Values.{IsSmall, bytes-by_index, decimal-digits, hex_bytes-encode_lower}

-- ---- each token is a word

-- a digit can stand in a word
digit-plain : (byte : ℕ) → is_digit byte ≡ true → is_plain byte ≡ true
digit-plain byte h = grind (arith, nat_tests)

-- a byte of the name of an algorithm can stand in a word
alg-plain : (byte : ℕ) → is_alg_byte byte ≡ true → is_plain byte ≡ true
alg-plain byte h = grind (arith, nat_tests)

-- a hexadecimal digit can stand in a word
hex-plain : (byte : ℕ) → is_hex_digit byte ≡ true → is_plain byte ≡ true
hex-plain byte h = grind (arith, nat_tests)

-- the bytes of a digest
digest-plain : (digest : Digest) → IsNamedDigest digest → list_all is_plain (digest_word digest) ≡ true
digest-plain digest h =
    let bytes : IsBytes digest.bytes = bytes-by_index digest.bytes h.bytes in
    let ok = decode_of-ok (encode_lower digest.bytes) digest.bytes (decode_of-encode_lower digest.bytes bytes) in
    let digits : list_all is_hex_digit (encode_lower digest.bytes) ≡ true = list_all-from_AllPass is_hex_digit (encode_lower digest.bytes) ok.1 in
    all-append is_plain (digest.alg ++ codes ":") (encode_lower digest.bytes) (all-append is_plain digest.alg (codes ":") (all-weaker is_alg_byte is_plain alg-plain digest.alg (alg-bytes digest.alg h.alg)) refl)
    (all-weaker is_hex_digit is_plain hex-plain (encode_lower digest.bytes) digits)

-- a word after a key
behind_key : (key rest : List ℕ) → list_all is_plain key ≡ true → 0 < length key → list_all is_plain rest ≡ true → IsWord (key ++ rest)
behind_key key rest a some b = record { plain = all-append is_plain key rest a b; not_empty = omega (arith, length-append key rest) }

-- the token of an operation is a word
op-word : (op : Op) → IsWord (op_token op)
op-word Execute = record { plain = refl; not_empty = omega arith }
op-word Firmware = record { plain = refl; not_empty = omega arith }
op-word Kmodule = record { plain = refl; not_empty = omega arith }
op-word KexecImage = record { plain = refl; not_empty = omega arith }
op-word KexecInitramfs = record { plain = refl; not_empty = omega arith }
op-word Policy = record { plain = refl; not_empty = omega arith }
op-word X509Cert = record { plain = refl; not_empty = omega arith }

-- the token of an action is a word
action-word : (action : Action) → IsWord (action_token action)
action-word Allow = record { plain = refl; not_empty = omega arith }
action-word Deny = record { plain = refl; not_empty = omega arith }

-- the token of a property is a word
property-word : (property : Property) → IsProperty property → IsWord (property_token property)
property-word (BootVerified true) h = record { plain = refl; not_empty = omega arith }
property-word (BootVerified false) h = record { plain = refl; not_empty = omega arith }
property-word (DmverityRoothash digest) h = behind_key (codes "dmverity_roothash=") (digest_word digest) refl (omega arith) (digest-plain digest h)
property-word (DmveritySignature true) h = record { plain = refl; not_empty = omega arith }
property-word (DmveritySignature false) h = record { plain = refl; not_empty = omega arith }
property-word (FsverityDigest digest) h = behind_key (codes "fsverity_digest=") (digest_word digest) refl (omega arith) (digest-plain digest h)
property-word (FsveritySignature true) h = record { plain = refl; not_empty = omega arith }
property-word (FsveritySignature false) h = record { plain = refl; not_empty = omega arith }

-- the tokens of a rule after its operation are words
rule-words : (properties : List Property) (action : Action) → AllByRecursion IsProperty properties → AllByRecursion IsWord (map property_token properties ++ action_token action ∷ [])
rule-words [] action h = (action-word action, tt)
rule-words (property ∷ properties) action h = (property-word property h.0, rule-words properties action h.1)

-- each token of a statement is a word
pub statement-words : (statement : Statement) → IsStatement statement → AllByRecursion IsWord (statement_tokens statement)
statement-words (Rule op properties action) h = (op-word op, rule-words properties action h.each)
statement-words (OpDefault op action) h = (record { plain = refl; not_empty = omega arith }, (op-word op, (action-word action, tt)))
statement-words (GlobalDefault action) h = (record { plain = refl; not_empty = omega arith }, (action-word action, tt))

-- ---- the header

-- a byte of a name can stand in a word
name-plain : (byte : ℕ) → is_name_byte byte ≡ true → is_plain byte ≡ true
name-plain byte h = grind (arith, nat_tests)

-- the bytes of a name
name-bytes : (name : List ℕ) → is_name name ≡ true → list_all is_name_byte name ≡ true
name-bytes name h =
    let first = and_parts (is_word 1 255 is_name_byte name && not (is_text (codes ".") name)) (not (is_text (codes "..") name)) h in
    let second = and_parts (is_word 1 255 is_name_byte name) (not (is_text (codes ".") name)) first.0 in
    (and_parts _ (list_all is_name_byte name) second.0).1

-- the bytes of a version
version-plain : (version : Version) → IsSmall version → list_all is_plain (version_text version) ≡ true
version-plain version h =
    let a : List ℕ = decimal version.major in
    let b : List ℕ = decimal version.minor in
    let c : List ℕ = decimal version.rev in
    let major = all-append is_plain a (codes ".") (all-weaker is_digit is_plain digit-plain a (decimal-digits version.major h.major)) refl in
    let minor = all-append is_plain (a ++ codes ".") b major (all-weaker is_digit is_plain digit-plain b (decimal-digits version.minor h.minor)) in
    all-append is_plain (((a ++ codes ".") ++ b) ++ codes ".") c (all-append is_plain ((a ++ codes ".") ++ b) (codes ".") minor refl) (all-weaker is_digit is_plain digit-plain c (decimal-digits version.rev h.rev))

-- the two tokens of the header
abbrev pub header_tokens : List ℕ → Version → List (List ℕ)
header_tokens name version = (codes "policy_name=" ++ name) ∷ (codes "policy_version=" ++ version_text version) ∷ []

-- both tokens of the header are words
pub header-words : (name : List ℕ) (version : Version) → is_name name ≡ true → IsSmall version → AllByRecursion IsWord (header_tokens name version)
header-words name version n v = (
  behind_key (codes "policy_name=") name refl (omega arith) (all-weaker is_name_byte is_plain name-plain name (name-bytes name n)),
  (behind_key (codes "policy_version=") (version_text version) refl (omega arith) (version-plain version v), tt),
)

-- ---- what the tokens spell

-- what is made of each element has a relation to it
pub each-made : {X Y : Type 0} (make : X → Y) (P : X → Type 0) (R : Y → X → Type 0) → ((x : X) → P x → R (make x) x)
    → (xs : List X) → AllByRecursion P xs → AllZip R (map make xs) xs
each-made make P R one [] h = tt
each-made make P R one (x ∷ xs) h = (one x h.0, each-made make P R one xs h.1)

-- the word of a digest spells it
digest-spells : (digest : Digest) → IsNamedDigest digest → SpellsDigest (digest_word digest) digest
digest-spells digest h = record {
  digits = encode_lower digest.bytes;
  whole = refl;
  alg = h.alg;
  bytes = hex_bytes-encode_lower digest.bytes (bytes-by_index digest.bytes h.bytes) h.has_byte h.few;
}

-- the token of a property spells it
property-spells : (property : Property) → IsProperty property
    → SpellsProperty (property_token property) property
property-spells (BootVerified wanted) h = refl
property-spells (DmverityRoothash digest) h = (digest_word digest, refl, digest-spells digest h)
property-spells (DmveritySignature wanted) h = refl
property-spells (FsverityDigest digest) h = (digest_word digest, refl, digest-spells digest h)
property-spells (FsveritySignature wanted) h = refl

-- the tokens of a statement spell it
pub statement-spells : (statement : Statement) → IsStatement statement
    → SpellsStatement (statement_tokens statement) statement
statement-spells (Rule op properties action) h =
    let each = each-made property_token IsProperty SpellsProperty property-spells properties h.each in
    (map property_token properties, refl, each, h.few)
statement-spells (OpDefault op action) h = refl
statement-spells (GlobalDefault action) h = refl
