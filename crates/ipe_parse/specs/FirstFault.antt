-- The first fault of a policy's text: each line has a row of checks in order, and the first line that fails a check has the
-- fault of the first check that it fails.
use Rattle.std.specs.Prelude.{◌≡◌, ◌⊎◌, ℕ, ◌-◌, ◌&&◌, ◌||◌, ◌↔◌, Bool, false, not, nat_le, if◌then◌else◌, codes, List, [], ◌∷◌, ◌++◌, length, take, drop, slice_index_or, Option, Some, None, Err, is_some}
use Rattle.std.specs.List.{find}
use Rattle.std.specs.Option.{option_map_or}
use Rattle.std.specs.Result.{result_ok}
use Rattle.ipe_policy.specs.declared.statement.Statement.{Statement}
use Rattle.ipe_policy.specs.Words.{is_name}
use Rattle.ipe_policy.specs.Version.{version_of}
use Rattle.line_words.specs.Words.{is_text}
use Rattle.ipe_parse.specs.declared.error.BadKind.{BadKind}
use Rattle.ipe_parse.specs.declared.error.BadKind.TheVariants.{NoHeader, BadName, BadVersion, BadOp, BadAction, PropertyInDefault, TwiceDefault, TooManyProperties, BadProperty, BadDigest}
use Rattle.ipe_parse.specs.declared.error.BadText.{BadText}
use Rattle.ipe_parse.specs.declared.error.BadText.TheVariants.{Bad, NoDefault}
use Rattle.ipe_parse.specs.Tokens.{begins, behind, last_action, op_named, op_of, property_of}
use Rattle.ipe_parse.specs.Defaults.{first_missing, has_global_default, has_op_default}
use Rattle.ipe_parse.specs.Reading.{SpokenLine, reading, spoken_lines}
use Rattle.ipe_parse.specs.Reads.{SpellsStatement}

-- a check of a line: the kind of its fault, and the test that the line's tokens pass after the statements before it
pub record Check : Type 0 where
  pub kind : BadKind
  pub passes : List Statement → List (List ℕ) → Bool

-- the kind of the first check of a row that a line fails
abbrev pub first_failed : List Check → List Statement → List (List ℕ) → Option BadKind
first_failed [] before tokens = None
first_failed (check ∷ checks) before tokens =
    if check.passes before tokens then first_failed checks before tokens else Some check.kind

-- the token at a place; an empty one where there is none
abbrev pub token_at : ℕ → List (List ℕ) → List ℕ
token_at place tokens = slice_index_or tokens place []

-- two tokens, after the keys of a name and of a version
abbrev pub is_keyed : List (List ℕ) → Bool
is_keyed [] = false
is_keyed (name ∷ []) = false
is_keyed (name ∷ version ∷ []) = begins (codes "policy_name=") name && begins (codes "policy_version=") version
is_keyed (name ∷ version ∷ third ∷ others) = false

-- the checks of the header
abbrev pub header_row : List Check
header_row =
    record { kind = NoHeader; passes = λ before tokens. is_keyed tokens }
    ∷ record { kind = BadName; passes = λ before tokens. is_name (behind (codes "policy_name=") (token_at 0 tokens)) }
    ∷ record { kind = BadVersion; passes = λ before tokens. is_some (version_of (behind (codes "policy_version=") (token_at 1 tokens))) }
    ∷ []

-- a default names an operation
abbrev pub names_op : List (List ℕ) → Bool
names_op tokens = begins (codes "op=") (token_at 1 tokens)

-- the tokens of a default after DEFAULT and after its operation, if it names one
abbrev pub behind_op : List (List ℕ) → List (List ℕ)
behind_op tokens = if names_op tokens then drop 2 tokens else drop 1 tokens

-- the statements before a default give it already
abbrev pub is_given : List Statement → List (List ℕ) → Bool
is_given before tokens =
    if names_op tokens
    then option_map_or (λ op. has_op_default op before) (op_named (behind (codes "op=") (token_at 1 tokens))) false
    else has_global_default before

-- the checks of a default
abbrev pub default_row : List Check
default_row =
    record {
      kind = BadOp;
      passes = λ before tokens. not (names_op tokens) || is_some (op_named (behind (codes "op=") (token_at 1 tokens)));
    }
    ∷ record { kind = BadAction; passes = λ before tokens. is_some (last_action (behind_op tokens)) }
    ∷ record { kind = PropertyInDefault; passes = λ before tokens. nat_le (length (behind_op tokens)) 1 }
    ∷ record { kind = TwiceDefault; passes = λ before tokens. not (is_given before tokens) }
    ∷ []

-- the first token between a rule's operation and its last one that is no property
abbrev pub first_bad : List (List ℕ) → Option (List ℕ)
first_bad tokens =
    find (λ token. not (is_some (result_ok (property_of token)))) (take (length (drop 1 tokens) - 1) (drop 1 tokens))

-- a token begins as a property that names a digest
abbrev pub names_digest : List ℕ → Bool
names_digest token = begins (codes "dmverity_roothash=") token || begins (codes "fsverity_digest=") token

-- the checks of a rule
abbrev pub rule_row : List Check
rule_row =
    record { kind = BadOp; passes = λ before tokens. is_some (op_of (token_at 0 tokens)) }
    ∷ record { kind = BadAction; passes = λ before tokens. is_some (last_action (drop 1 tokens)) }
    ∷ record { kind = TooManyProperties; passes = λ before tokens. nat_le (length (drop 1 tokens)) 17 }
    ∷ record { kind = BadDigest; passes = λ before tokens. not (option_map_or names_digest (first_bad tokens) false) }
    ∷ record { kind = BadProperty; passes = λ before tokens. not (is_some (first_bad tokens)) }
    ∷ []

-- the checks of a line with this first token
abbrev pub row_of : List (List ℕ) → List Check
row_of tokens = if is_text (codes "DEFAULT") (token_at 0 tokens) then default_row else rule_row

-- the fault of a line after the statements before it
abbrev pub line_fault : List Statement → List (List ℕ) → Option BadKind
line_fault before tokens = first_failed (row_of tokens) before tokens

-- the lines have no fault, and with the statements before them they spell these
abbrev pub FaultFree : List Statement → List SpokenLine → List Statement → Type 0
FaultFree before [] items = items ≡ before
FaultFree before (line ∷ lines) items =
    (statement : Statement) × SpellsStatement line.tokens statement × (line_fault before line.tokens ≡ None)
    × FaultFree (before ++ statement ∷ []) lines items

-- a line of these has this number and this fault, and none before it has one
pub record IsFirstFaulty (before : List Statement) (lines : List SpokenLine) (number : ℕ) (kind : BadKind) : Type 0 where
  pub front : List SpokenLine
  pub line : SpokenLine
  pub others : List SpokenLine
  pub items : List Statement
  pub whole : lines ≡ front ++ line ∷ others
  pub free : FaultFree before front items
  pub number_is : line.number ≡ number
  pub fails : line_fault items line.tokens ≡ Some kind

-- the first fault of the lines with tokens: of the header, of a line after it, or that an operation has no default
abbrev pub FirstFault : List SpokenLine → BadText → Type 0
FirstFault [] (Bad number kind) = (number ≡ 1) × (kind ≡ NoHeader)
FirstFault [] (NoDefault op) = ⊥
FirstFault (header ∷ lines) (Bad number kind) =
    ((header.number ≡ number) × (first_failed header_row [] header.tokens ≡ Some kind))
    ⊎ ((first_failed header_row [] header.tokens ≡ None) × IsFirstFaulty [] lines number kind)
FirstFault (header ∷ lines) (NoDefault op) =
    (items : List Statement) × (first_failed header_row [] header.tokens ≡ None) × FaultFree [] lines items
    × (first_missing items ≡ Some op)

-- what the reader names is the first fault, and nothing else is
abbrev pub TheReaderNamesTheFirstFault : Type 0
TheReaderNamesTheFirstFault =
    (text : List ℕ) (fault : BadText) → (reading text ≡ Err fault) ↔ FirstFault (spoken_lines text) fault
