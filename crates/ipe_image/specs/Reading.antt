-- What words tell, if they begin with an image.
use Rattle.std.specs.Prelude.{ℕ, ◌/◌, ◌%◌, ◌^◌, ◌==◌, ◌&&◌, ◌||◌, nat_eq, nat_le, nat_lt, Bool, true, zero, suc, if◌then◌else◌, List, [], ◌∷◌, length, map, take, drop, slice_get, slice_index, Option, Some, None, is_some}
use Rattle.std.specs.List.{enumerate_from, filter_map, find, list_all}
use Rattle.std.specs.Option.{option_and_then, option_map}
use Rattle.ipe_policy.specs.declared.op.Action.{Action}
use Rattle.ipe_policy.specs.declared.op.Action.TheVariants.{Allow, Deny}
use Rattle.ipe_policy.specs.declared.statement.Digest.{Digest}
use Rattle.ipe_policy.specs.declared.statement.Property.{Property}
use Rattle.ipe_policy.specs.declared.statement.Property.TheVariants.{BootVerified, DmverityRoothash, DmveritySignature, FsverityDigest, FsveritySignature}
use Rattle.ipe_policy.specs.Statement.{RuleParts, operations}
use Rattle.ipe_policy.specs.Spelling.{property_words, rule_words, words_for}
use Rattle.ipe_policy.specs.Words.{is_alg_name}
use Rattle.line_words.specs.Words.{is_text, is_word}
use Rattle.ipe_image.specs.Packing.{unpacked}
use Rattle.ipe_image.specs.Parts.{ImageParts}
use Rattle.ipe_image.specs.Image.{image_of, words_used}

-- the default of a word, or the action of a number
abbrev pub default_read : ℕ → Option Action
default_read word = if word == 1 then Some Allow else (if word == 2 then Some Deny else None)

-- the property of a kind, with this truth value or this digest
abbrev pub kind_read : ℕ → Bool → Digest → Option Property
kind_read kind wanted digest =
    if kind == 0 then Some (BootVerified wanted)
    else (if kind == 1 then Some (DmveritySignature wanted)
    else (if kind == 2 then Some (FsveritySignature wanted)
    else (if kind == 3 then Some (DmverityRoothash digest)
    else (if kind == 4 then Some (FsverityDigest digest) else None))))

-- the digest after a property's head
abbrev pub digest_read : ℕ → List ℕ → Digest
digest_read head words = record {
  alg = unpacked (head / 2 ^ 16 % 256) words;
  bytes = unpacked (head / 2 ^ 24 % 256) (drop (words_for (head / 2 ^ 16 % 256)) words);
}

-- the property with which words begin
abbrev pub property_read : List ℕ → Option Property
property_read words =
    let head = slice_index words 0 in
    kind_read (head % 256) (head / 256 % 256 == 1) (digest_read head (drop 1 words))

-- so many properties, one after the other
abbrev pub properties_read : ℕ → List ℕ → Option (List Property)
properties_read zero words = Some []
properties_read (suc count) words =
    option_and_then (λ property. option_map (λ properties. property ∷ properties)
    (properties_read count (drop (property_words property) words)))
    (property_read words)

-- the rule with which words begin
abbrev pub rule_read : List ℕ → Option RuleParts
rule_read words =
    let head = slice_index words 0 in
    option_and_then (λ op. option_and_then (λ action. option_map (λ properties.
    record { op = op; properties = properties; action = action })
    (properties_read (head / 2 ^ 48 % 256) (drop 1 words)))
    (default_read (head / 2 ^ 40 % 256)))
    (slice_get operations (head / 2 ^ 32 % 256))

-- so many rules, one after the other, each with the number that its record has
abbrev pub rules_read : ℕ → List ℕ → Option (List (ℕ × RuleParts))
rules_read zero words = Some []
rules_read (suc count) words =
    option_and_then (λ rule. option_map (λ rules. (slice_index words 0 % 2 ^ 32, rule) ∷ rules)
    (rules_read count (drop (rule_words rule) words))) (rule_read words)

-- the first rule of this number
abbrev pub rule_numbered : List (ℕ × RuleParts) → ℕ → Option RuleParts
rule_numbered rules number = option_map (λ rule. rule.1) (find (λ rule. rule.0 == number) rules)

-- the rules in the order of their numbers, from 1 to as many as they are
abbrev pub in_text_order : List (ℕ × RuleParts) → List RuleParts
in_text_order rules = filter_map (λ place. rule_numbered rules place.0) (enumerate_from 1 rules)

-- the parts that words tell from their beginning, record by record
abbrev pub decoded : List ℕ → Option ImageParts
decoded words =
    option_map (λ rules. record {
      serial = slice_index words 1;
      global = default_read (slice_index words 2);
      defaults = map default_read (take 7 (drop 3 words));
      rules = in_text_order rules;
    }) (rules_read (slice_index words 10) (drop 25 words))

-- a number that a byte holds
abbrev pub fits_byte : ℕ → Bool
fits_byte byte = nat_lt byte 256

-- a digest that a policy may name: the name of an algorithm, and 1 to 64 bytes
abbrev pub fits_digest : Digest → Bool
fits_digest digest = is_alg_name digest.alg && is_word 1 64 fits_byte digest.bytes

-- a property's digest, if it has one, fits
abbrev pub fits_property : Property → Bool
fits_property (BootVerified wanted) = true
fits_property (DmveritySignature wanted) = true
fits_property (FsveritySignature wanted) = true
fits_property (DmverityRoothash digest) = fits_digest digest
fits_property (FsverityDigest digest) = fits_digest digest

-- at most 16 properties, each of which fits
abbrev pub fits_rule : RuleParts → Bool
fits_rule rule = nat_le (length rule.properties) 16 && list_all fits_property rule.properties

-- each operation has a default or there is a global one
abbrev pub has_defaults : ImageParts → Bool
has_defaults parts = nat_eq (length parts.defaults) 7 && (is_some parts.global || list_all is_some parts.defaults)

-- the parts have a default for each operation, each rule fits, and there are at most 4,096 words
abbrev pub is_complete : ImageParts → Bool
is_complete parts = has_defaults parts && (list_all fits_rule parts.rules && nat_le (words_used parts) 4096)

-- words begin with these words
abbrev pub begin_with : List ℕ → List ℕ → Bool
begin_with front words = is_text front (take (length front) words)

-- the parts that words tell, where they are complete and the words begin with the image of these very parts
abbrev pub image_in : List ℕ → Option ImageParts
image_in words =
    option_and_then (λ parts. if is_complete parts && begin_with (image_of parts) words then Some parts else None)
    (decoded words)
