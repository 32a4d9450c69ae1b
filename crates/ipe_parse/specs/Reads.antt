-- A text reads as a policy, said without the order in which lines are examined.
use Rattle.std.specs.Prelude.{◌≡◌, ℕ, ◌≤◌, IsTrue, codes, List, [], ◌∷◌, ◌++◌, length, map, Some, Err}
use Rattle.std.specs.List.{AllZip}
use Rattle.ipe_policy.specs.declared.statement.Digest.{Digest}
use Rattle.ipe_policy.specs.declared.statement.Property.{Property}
use Rattle.ipe_policy.specs.declared.statement.Property.TheVariants.{BootVerified, DmverityRoothash, DmveritySignature, FsverityDigest, FsveritySignature}
use Rattle.ipe_policy.specs.declared.statement.Statement.{Statement}
use Rattle.ipe_policy.specs.declared.statement.Statement.TheVariants.{Rule, OpDefault, GlobalDefault}
use Rattle.ipe_policy.specs.Words.{is_name, is_alg_name}
use Rattle.ipe_policy.specs.Version.{version_of}
use Rattle.ipe_policy.specs.Policy.{PolicyParts, IsPolicy}
use Rattle.ipe_policy.specs.Spelling.{op_token, action_token, truth_word}
use Rattle.ipe_parse.specs.Tokens.{hex_bytes}
use Rattle.ipe_parse.specs.declared.error.BadText.{BadText}
use Rattle.ipe_parse.specs.declared.error.BadText.TheVariants.{Bad, NoDefault}
use Rattle.ipe_parse.specs.declared.error.ParseError.{ParseError}
use Rattle.ipe_parse.specs.declared.error.ParseError.TheVariants as error
use Rattle.ipe_parse.specs.Reading.{SpokenLine, reading, spoken_lines}

-- the word is ALG:HEX of this digest, its digits of either case
pub record SpellsDigest (word : List ℕ) (digest : Digest) : Type 0 where
  pub digits : List ℕ
  pub whole : word ≡ digest.alg ++ codes ":" ++ digits
  pub alg : IsTrue (is_alg_name digest.alg)
  pub bytes : hex_bytes digits ≡ Some digest.bytes

-- the token spells the property
abbrev pub SpellsProperty : List ℕ → Property → Type 0
SpellsProperty token (BootVerified wanted) = token ≡ codes "boot_verified=" ++ truth_word wanted
SpellsProperty token (DmverityRoothash digest) =
    (word : List ℕ) × (token ≡ codes "dmverity_roothash=" ++ word) × SpellsDigest word digest
SpellsProperty token (DmveritySignature wanted) = token ≡ codes "dmverity_signature=" ++ truth_word wanted
SpellsProperty token (FsverityDigest digest) =
    (word : List ℕ) × (token ≡ codes "fsverity_digest=" ++ word) × SpellsDigest word digest
SpellsProperty token (FsveritySignature wanted) = token ≡ codes "fsverity_signature=" ++ truth_word wanted

-- the tokens of a line spell the statement
abbrev pub SpellsStatement : List (List ℕ) → Statement → Type 0
SpellsStatement tokens (Rule op properties action) =
    (words : List (List ℕ)) × (tokens ≡ op_token op ∷ (words ++ action_token action ∷ []))
    × AllZip SpellsProperty words properties × (length properties ≤ 16)
SpellsStatement tokens (OpDefault op action) = tokens ≡ codes "DEFAULT" ∷ op_token op ∷ action_token action ∷ []
SpellsStatement tokens (GlobalDefault action) = tokens ≡ codes "DEFAULT" ∷ action_token action ∷ []

-- the text reads as the policy: of its lines with tokens the first is the header, and the others are the statements,
-- one for one
pub record Reads (text : List ℕ) (policy : PolicyParts) : Type 0 where
  pub version_word : List ℕ
  pub lines : List (List (List ℕ))
  pub whole : map (λ (line : SpokenLine). line.tokens) (spoken_lines text)
      ≡ ((codes "policy_name=" ++ policy.name) ∷ (codes "policy_version=" ++ version_word) ∷ []) ∷ lines
  pub name : IsTrue (is_name policy.name)
  pub version : version_of version_word ≡ Some policy.version
  pub statements : AllZip SpellsStatement lines policy.items
  pub keeps_rules : IsPolicy policy.items

-- the text reads as this policy and as no other, and has no fault
pub record ReadsAsOne (text : List ℕ) (policy : PolicyParts) : Type 0 where
  pub reads : Reads text policy
  pub alone : (other : PolicyParts) → Reads text other → other ≡ policy
  pub faultless : (fault : BadText) → reading text ≡ Err fault → ⊥

-- this is the text's first fault, and the text reads as no policy
pub record HasFault (text : List ℕ) (fault : BadText) : Type 0 where
  pub first : reading text ≡ Err fault
  pub unread : (policy : PolicyParts) → Reads text policy → ⊥

-- a refusal is by the text's first fault, unless memory runs out
abbrev pub Refuses : List ℕ → ParseError → Type 0
Refuses text (error.Bad line kind) = HasFault text (Bad line kind)
Refuses text (error.NoDefault missing) = HasFault text (NoDefault missing)
Refuses text error.NoMemory = Unit {0}
