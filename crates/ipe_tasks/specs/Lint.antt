-- What the linter writes of a policy's text.
use Rattle.std.specs.Prelude.{◌≡◌, ℕ, codes, List, ◌++◌, length, Ok, Err}
use Rattle.std.specs.List.{filter_map}
use Rattle.std.specs.Fmt.{decimal}
use Rattle.ipe_policy.specs.Statement.{rule_of}
use Rattle.ipe_policy.specs.Policy.{PolicyParts}
use Rattle.ipe_policy.specs.Spelling.{op_word, version_text, words_of_image}
use Rattle.ipe_parse.specs.declared.error.BadKind.{BadKind}
use Rattle.ipe_parse.specs.declared.error.BadKind.TheVariants.{NoHeader, BadName, BadVersion, BadOp, BadAction}
use Rattle.ipe_parse.specs.declared.error.BadKind.TheVariants.{PropertyInDefault, TwiceDefault, TooManyProperties}
use Rattle.ipe_parse.specs.declared.error.BadKind.TheVariants.{BadProperty, BadDigest}
use Rattle.ipe_parse.specs.declared.error.BadText.{BadText}
use Rattle.ipe_parse.specs.declared.error.BadText.TheVariants.{Bad, NoDefault}
use Rattle.ipe_parse.specs.Reading.{reading}
use Rattle.line_words.specs.Lines.{line_text}
use Rattle.ipe_tasks.specs.Refusals.{bad_line_text}

-- a policy's name, version, number of rules and number of 64-bit words of its image
abbrev pub lint_text : PolicyParts → List ℕ
lint_text policy =
    codes "ok " ++ policy.name ++ (codes " " ++ version_text policy.version ++ codes " rules="
    ++ decimal (length (filter_map rule_of policy.items)) ++ codes " words="
    ++ decimal (words_of_image policy.items) ++ line_text (codes ""))

-- the name of a kind of fault
abbrev pub kind_name : BadKind → List ℕ
kind_name NoHeader = codes "NoHeader"
kind_name BadName = codes "BadName"
kind_name BadVersion = codes "BadVersion"
kind_name BadOp = codes "BadOp"
kind_name BadAction = codes "BadAction"
kind_name PropertyInDefault = codes "PropertyInDefault"
kind_name TwiceDefault = codes "TwiceDefault"
kind_name TooManyProperties = codes "TooManyProperties"
kind_name BadProperty = codes "BadProperty"
kind_name BadDigest = codes "BadDigest"

-- the refusal of a text by its first fault
abbrev pub fault_text : BadText → List ℕ
fault_text (Bad line kind) = bad_line_text line (kind_name kind)
fault_text (NoDefault missing) = codes "refused: no default for " ++ op_word missing ++ line_text (codes "")

-- the text reads as a policy, and what is written tells it
pub record IsLinted (input text : List ℕ) : Type 0 where
  pub policy : PolicyParts
  pub reads : reading input ≡ Ok policy
  pub bytes : text ≡ lint_text policy

-- the text has a first fault, and what is written names it
pub record IsFaulty (input text : List ℕ) : Type 0 where
  pub fault : BadText
  pub faulty : reading input ≡ Err fault
  pub bytes : text ≡ fault_text fault
