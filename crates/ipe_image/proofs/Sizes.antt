-- How many words images have.
use Rattle.std.proofs.Common.{◌≡◌, ℕ, ◌+◌, ◌*◌, ◌≤◌, true, ◌||◌, ◌==◌, ◌⊎◌, inl, inr, List, [], ◌∷◌, length, sum_by, refl, arith, length-append}
use Rattle.std.specs.Prelude.{nat_le}
use Rattle.std.specs.List.{list_all, flat_map}
use Rattle.std.proofs.lemmas.Bool.{and_from, and_parts, eqb-true, lt-ltb, or_cases}
use Rattle.std.proofs.lemmas.List.Sums.{sum_by-cons}
use borrow.Author.Tests.{leb-true}
use Rattle.ipe_policy.specs.declared.statement.Digest.{Digest}
use Rattle.ipe_policy.specs.declared.statement.Property.{Property}
use Rattle.ipe_policy.specs.declared.statement.Property.TheVariants.{BootVerified, DmverityRoothash, DmveritySignature, FsverityDigest, FsveritySignature}
use Rattle.ipe_policy.specs.Statement.{RuleParts}
use Rattle.ipe_policy.specs.Words.{is_alg_byte, is_alg_name}
use Rattle.line_words.specs.Words.{is_digit, is_lower}
use Rattle.ipe_policy.specs.Spelling.{property_words, rule_words, words_for}
use Rattle.ipe_image.specs.Packing.{byte_words}
use Rattle.ipe_image.specs.Image.{named_digest, property_image, rule_record, records, words_of}
use Rattle.ipe_image.specs.Reading.{fits_digest, fits_property, fits_rule, fits_byte}
use Rattle.ipe_image.proofs.Bytes.{length-packed_words}

-- a property's words, by the lengths of its digest
words-by-lengths : (property : Property)
    → property_words property ≡ 1 + words_for (length (named_digest property).alg) + words_for (length
    (named_digest property).bytes)
words-by-lengths (BootVerified wanted) = refl
words-by-lengths (DmveritySignature wanted) = refl
words-by-lengths (FsveritySignature wanted) = refl
words-by-lengths (DmverityRoothash digest) = refl
words-by-lengths (FsverityDigest digest) = refl

pub length-property_image : (property : Property) → length (property_image property) ≡ property_words property
length-property_image property =
    let alg = (named_digest property).alg in
    let bytes = (named_digest property).bytes in
    omega (
      arith,
      words-by-lengths property,
      length-append (byte_words alg) (byte_words bytes),
      length-packed_words
          (words_for (length alg)) alg,
      length-packed_words (words_for (length bytes)) bytes,
    )

pub length-properties : (properties : List Property)
    → length (flat_map property_image properties) ≡ sum_by property_words properties
length-properties [] = refl
length-properties (property ∷ properties) =
    omega (
      arith,
      length-append (property_image property)
          (flat_map property_image properties),
      length-property_image property,
      length-properties properties,
      sum_by-cons property_words property properties,
    )

pub length-rule_record : (number : ℕ) (rule : RuleParts) → length (rule_record number rule) ≡ rule_words rule
length-rule_record number rule = omega (arith, length-properties rule.properties)

pub length-records : (rules : List (ℕ × RuleParts)) → length (records rules) ≡ words_of rules
length-records [] = refl
length-records (rule ∷ rules) =
    omega (
      arith,
      length-append (rule_record rule.0 rule.1) (records rules),
      length-rule_record rule.0 rule.1,
      length-records rules,
      sum_by-cons (λ (r : ℕ × RuleParts). rule_words r.1) rule rules,
    )

-- the byte of an algorithm's name is a byte
alg-byte : (byte : ℕ) → is_alg_byte byte ≡ true → fits_byte byte ≡ true
alg-byte byte e = at (or_cases _ _ e)
  where
    at : ((is_lower byte || is_digit byte) ≡ true) ⊎ ((byte == 45) ≡ true) → fits_byte byte ≡ true
    at (inr h) = lt-ltb byte 256 (let same : byte ≡ 45 = eqb-true byte 45 h in omega arith)
    at (inl h) = among (or_cases _ _ h)
      where
        among : (is_lower byte ≡ true) ⊎ (is_digit byte ≡ true) → fits_byte byte ≡ true
        among (inl h) = lt-ltb byte 256 (let top : byte ≤ 122 = leb-true byte 122 (and_parts (nat_le 97 byte) (nat_le byte 122) h).1 in omega arith)
        among (inr h) = lt-ltb byte 256 (let top : byte ≤ 57 = leb-true byte 57 (and_parts (nat_le 48 byte) (nat_le byte 57) h).1 in omega arith)

alg-bytes : (bytes : List ℕ) → list_all is_alg_byte bytes ≡ true → list_all fits_byte bytes ≡ true
alg-bytes [] all = refl
alg-bytes (byte ∷ bytes) all =
    let parts = and_parts (is_alg_byte byte) (list_all is_alg_byte bytes) all in
    and_from (fits_byte byte) (list_all fits_byte bytes) (alg-byte byte parts.0) (alg-bytes bytes parts.1)

-- a digest's name and its value are bytes, at most 16 and 64 of them
pub record Bounds (digest : Digest) : Type 0 where
  pub few_alg : length digest.alg ≤ 16
  pub alg : list_all fits_byte digest.alg ≡ true
  pub few : length digest.bytes ≤ 64
  pub bytes : list_all fits_byte digest.bytes ≡ true

pub digest-bounds : (digest : Digest) → fits_digest digest ≡ true → Bounds digest
digest-bounds digest fits =
    let both = and_parts (is_alg_name digest.alg) _ fits in
    let alg = and_parts _ (list_all is_alg_byte digest.alg) both.0 in
    let bytes = and_parts _ (list_all fits_byte digest.bytes) both.1 in
    record {
      few_alg = leb-true _ 16 (and_parts (nat_le 1 (length digest.alg)) (nat_le (length digest.alg) 16) alg.0).1;
      alg = alg-bytes digest.alg alg.1;
      few = leb-true _ 64 (and_parts (nat_le 1 (length digest.bytes)) (nat_le (length digest.bytes) 64) bytes.0).1;
      bytes = bytes.1;
    }

none-bounds : Bounds (record { alg = []; bytes = [] })
none-bounds = record { few_alg = omega arith; alg = refl; few = omega arith; bytes = refl }

-- the digest of a property that fits is within the bounds; a truth value has an empty one
pub property-bounds : (property : Property) → fits_property property ≡ true → Bounds (named_digest property)
property-bounds (BootVerified wanted) fits = none-bounds
property-bounds (DmveritySignature wanted) fits = none-bounds
property-bounds (FsveritySignature wanted) fits = none-bounds
property-bounds (DmverityRoothash digest) fits = digest-bounds digest fits
property-bounds (FsverityDigest digest) fits = digest-bounds digest fits

-- a property that fits has at most 11 words
pub few-property_words : (property : Property) → fits_property property ≡ true → property_words property ≤ 11
few-property_words property fits =
    let bounds = property-bounds property fits in
    let alg : length (named_digest property).alg ≤ 16 = bounds.few_alg in
    let bytes : length (named_digest property).bytes ≤ 64 = bounds.few in
    omega (arith, words-by-lengths property)

few-properties : (properties : List Property) → list_all fits_property properties ≡ true
    → sum_by property_words properties ≤ 11 * length properties
few-properties [] fit = omega arith
few-properties (property ∷ properties) fit =
    let parts = and_parts (fits_property property) (list_all fits_property properties) fit in
    omega (
      arith,
      few-property_words property parts.0,
      few-properties properties parts.1,
      sum_by-cons property_words
          property properties,
    )

-- a rule that fits has at most 16 properties and 177 words
pub few-rule_properties : (rule : RuleParts) → fits_rule rule ≡ true → length rule.properties ≤ 16
few-rule_properties rule fits = leb-true _ 16 (and_parts _ _ fits).0

pub few-rule_words : (rule : RuleParts) → fits_rule rule ≡ true → rule_words rule ≤ 177
few-rule_words rule fits = omega (
  arith,
  few-rule_properties rule fits,
  few-properties rule.properties
      (and_parts _ _ fits).1,
)

-- there are no more rules than words of rules
pub fewer-rules : (rules : List RuleParts) → length rules ≤ sum_by rule_words rules
fewer-rules [] = omega arith
fewer-rules (rule ∷ rules) = omega (arith, fewer-rules rules, sum_by-cons rule_words rule rules)
