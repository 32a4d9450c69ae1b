-- What the heads of rules and of properties tell.
use Rattle.std.specs.Prelude.{◌≡◌, ℕ, ◌<◌, ◌^◌, IsTrue, List, ◌++◌, length}
use Rattle.std.specs.List.{flat_map, list_all}
use Rattle.ipe_policy.specs.declared.statement.Property.{Property}
use Rattle.ipe_policy.specs.declared.statement.Property.TheVariants as property
use Rattle.ipe_policy.specs.Statement.{RuleParts}
use Rattle.ipe_policy.specs.Spelling.{rule_words}
use Rattle.ipe_image.specs.declared.head.PropertyKind.{PropertyKind}
use Rattle.ipe_image.specs.declared.head.PropertyKind.TheVariants as kind
use Rattle.ipe_image.specs.declared.head.RuleHead.{RuleHead}
use Rattle.ipe_image.specs.declared.head.PropertyHead.{PropertyHead}
use Rattle.ipe_image.specs.Packing.{byte_words}
use Rattle.ipe_image.specs.Image.{named_digest, property_head, property_image, rule_head, wanted_truth}
use Rattle.ipe_image.specs.Reading.{fits_property, fits_rule}

-- a word is the head of this rule with this number
pub record IsRuleHead (word number : ℕ) (rule : RuleParts) : Type 0 where
  pub narrow : number < 2 ^ 32
  pub fits : IsTrue (fits_rule rule)
  pub head : word ≡ rule_head number rule

-- what the head of a rule tells
abbrev pub told_of_rule : ℕ → RuleParts → RuleHead
told_of_rule number rule = record { number = number; action = rule.action; words = rule_words rule }

-- a word is the head of this property
pub record IsPropertyHead (word : ℕ) (property : Property) : Type 0 where
  pub fits : IsTrue (fits_property property)
  pub head : word ≡ property_head property

-- the kind of a property
abbrev pub kind_of : Property → PropertyKind
kind_of (property.BootVerified wanted) = kind.BootVerified
kind_of (property.DmveritySignature wanted) = kind.DmveritySignature
kind_of (property.FsveritySignature wanted) = kind.FsveritySignature
kind_of (property.DmverityRoothash digest) = kind.DmverityRoothash
kind_of (property.FsverityDigest digest) = kind.FsverityDigest

-- the number of a kind
abbrev pub kind_code : PropertyKind → ℕ
kind_code kind.BootVerified = 0
kind_code kind.DmveritySignature = 1
kind_code kind.FsveritySignature = 2
kind_code kind.DmverityRoothash = 3
kind_code kind.FsverityDigest = 4

-- what the head of a property tells
abbrev pub told_of_property : Property → PropertyHead
told_of_property property = record {
  kind = kind_of property;
  wanted = wanted_truth property;
  alg_len = length (named_digest property).alg;
  digest_len = length (named_digest property).bytes;
}

-- words begin with the image of a property, and these stand after it
pub record BeginsWithProperty (words : List ℕ) (property : Property) (behind : List ℕ) : Type 0 where
  pub fits : IsTrue (fits_property property)
  pub whole : words ≡ property_image property ++ behind

-- what a head tells, and the words after it, are a property's
pub record IsWordsOf (head : PropertyHead) (alg digest : List ℕ) (property : Property) : Type 0 where
  pub fits : IsTrue (fits_property property)
  pub head_is : head ≡ told_of_property property
  pub alg_is : alg ≡ byte_words (named_digest property).alg
  pub digest_is : digest ≡ byte_words (named_digest property).bytes

-- words are the images of these properties, one after the other
pub record ArePropertyImages (words : List ℕ) (properties : List Property) : Type 0 where
  pub fit : IsTrue (list_all fits_property properties)
  pub whole : words ≡ flat_map property_image properties
