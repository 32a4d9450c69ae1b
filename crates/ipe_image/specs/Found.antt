-- What is found on the way to an answer.
use Rattle.std.specs.Prelude.{◌≡◌, ℕ, ◌+◌, ◌^◌, ◌<◌, ◌≤◌, IsTrue, List, ◌++◌, length, take, drop, Option, Some, None}
use Rattle.ipe_policy.specs.declared.op.Op.{Op}
use Rattle.ipe_policy.specs.declared.evaluation.Context.{Context}
use Rattle.ipe_policy.specs.Statement.{RuleParts}
use Rattle.ipe_policy.specs.Spelling.{rule_words}
use Rattle.ipe_image.specs.declared.deciding.Matched.{Matched}
use Rattle.ipe_image.specs.Parts.{ImageParts}
use Rattle.ipe_image.specs.Image.{image_of, rule_record}
use Rattle.ipe_image.specs.Reading.{fits_rule, is_complete}
use Rattle.ipe_image.specs.Decision.{first_match_in}

-- words begin with the image of these parts
pub record BeginsWithImage (words : List ℕ) (parts : ImageParts) : Type 0 where
  pub complete : IsTrue (is_complete parts)
  pub behind : List ℕ
  pub whole : words ≡ image_of parts ++ behind

-- the record of a rule stands at a place of words
pub record IsRecordAt (words : List ℕ) (at number : ℕ) (rule : RuleParts) : Type 0 where
  pub narrow : number < 2 ^ 32
  pub fits : IsTrue (fits_rule rule)
  pub few : rule_words rule ≤ 177
  pub within : at + rule_words rule ≤ length words
  pub below : at + rule_words rule ≤ 4096
  pub whole : take (rule_words rule) (drop at words) ≡ rule_record number rule

-- a rule is the first match, and this is its record
pub record IsMatch (parts : ImageParts) (op : Op) (context : Context) (found : Matched) : Type 0 where
  pub matched : RuleParts
  pub first : first_match_in parts op context ≡ Some (found.number, matched)
  pub action : found.action ≡ matched.action
  pub whole : found.record.items ≡ rule_record found.number matched

-- the first match, if there is one
abbrev pub IsFirstMatch : ImageParts → Op → Context → Option Matched → Type 0
IsFirstMatch parts op context (Some found) = IsMatch parts op context found
IsFirstMatch parts op context None = first_match_in parts op context ≡ None
