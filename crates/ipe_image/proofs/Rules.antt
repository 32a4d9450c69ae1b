-- The test that a rule fits is the rule on a policy's statements.
use Rattle.std.proofs.Common.{◌≡◌, ℕ, ◌<◌, true, List, [], ◌∷◌, length, map, refl}
use Rattle.std.specs.Prelude.{nat_le}
use Rattle.std.specs.List.{AllByRecursion, filter_map, list_all}
use Rattle.std.proofs.lemmas.Bool.{and_from, and_parts, le-leb, leb-true, lt-ltb, ltb-true}
use Rattle.ipe_policy.specs.declared.statement.Digest.{Digest}
use Rattle.ipe_policy.specs.declared.statement.Property.{Property}
use Rattle.ipe_policy.specs.declared.statement.Property.TheVariants.{BootVerified, DmverityRoothash, DmveritySignature, FsverityDigest, FsveritySignature}
use Rattle.ipe_policy.specs.declared.statement.Statement.{Statement}
use Rattle.ipe_policy.specs.declared.statement.Statement.TheVariants.{Rule, OpDefault, GlobalDefault}
use Rattle.ipe_policy.specs.Policy.{AreProperties, IsNamedDigest, IsProperty, IsStatement}
use Rattle.ipe_policy.specs.Statement.{RuleParts, rule_of}
use Rattle.ipe_policy.specs.Words.{is_alg_name}
use Rattle.ipe_image.specs.Reading.{fits_digest, fits_property, fits_rule, fits_byte}
use Rattle.ipe_image.specs.Parts.{rule_statement}

-- numbers below 256, as a test
bytes-pass : (bytes : List ℕ) → AllByRecursion (λ byte. byte < 256) bytes → list_all fits_byte bytes ≡ true
bytes-pass [] h = refl
bytes-pass (byte ∷ bytes) h = and_from (fits_byte byte) (list_all fits_byte bytes) (lt-ltb byte 256 h.0) (bytes-pass bytes h.1)

bytes-below : (bytes : List ℕ) → list_all fits_byte bytes ≡ true → AllByRecursion (λ byte. byte < 256) bytes
bytes-below [] h = tt
bytes-below (byte ∷ bytes) h =
    let both = and_parts (fits_byte byte) (list_all fits_byte bytes) h in (ltb-true byte 256 both.0, bytes-below bytes both.1)

digest-fits : (digest : Digest) → IsNamedDigest digest → fits_digest digest ≡ true
digest-fits digest h =
    and_from (is_alg_name digest.alg) _ h.alg (and_from _ (list_all fits_byte digest.bytes)
    (and_from (nat_le 1 (length digest.bytes)) (nat_le (length digest.bytes) 64) (le-leb 1 _ h.has_byte) (le-leb _ 64 h.few))
    (bytes-pass digest.bytes h.bytes))

named-digest : (digest : Digest) → fits_digest digest ≡ true → IsNamedDigest digest
named-digest digest fits =
    let both = and_parts (is_alg_name digest.alg) _ fits in
    let bytes = and_parts _ (list_all fits_byte digest.bytes) both.1 in
    let count = and_parts (nat_le 1 (length digest.bytes)) (nat_le (length digest.bytes) 64) bytes.0 in
    record {
      alg = both.0;
      has_byte = leb-true 1 _ count.0;
      few = leb-true _ 64 count.1;
      bytes = bytes-below digest.bytes bytes.1;
    }

property-fits : (property : Property) → IsProperty property → fits_property property ≡ true
property-fits (BootVerified wanted) h = refl
property-fits (DmveritySignature wanted) h = refl
property-fits (FsveritySignature wanted) h = refl
property-fits (DmverityRoothash digest) h = digest-fits digest h
property-fits (FsverityDigest digest) h = digest-fits digest h

is-property : (property : Property) → fits_property property ≡ true → IsProperty property
is-property (BootVerified wanted) fits = tt
is-property (DmveritySignature wanted) fits = tt
is-property (FsveritySignature wanted) fits = tt
is-property (DmverityRoothash digest) fits = named-digest digest fits
is-property (FsverityDigest digest) fits = named-digest digest fits

properties-fit : (properties : List Property) → AllByRecursion IsProperty properties
    → list_all fits_property properties ≡ true
properties-fit [] h = refl
properties-fit (property ∷ properties) h =
    and_from (fits_property property) (list_all fits_property properties) (property-fits property h.0)
    (properties-fit properties h.1)

each-property : (properties : List Property) → list_all fits_property properties ≡ true
    → AllByRecursion IsProperty properties
each-property [] fit = tt
each-property (property ∷ properties) fit =
    let both = and_parts (fits_property property) (list_all fits_property properties) fit in
    (is-property property both.0, each-property properties both.1)

rule-fits : (rule : RuleParts) → AreProperties rule.properties → fits_rule rule ≡ true
rule-fits rule h =
    and_from (nat_le (length rule.properties) 16) (list_all fits_property rule.properties) (le-leb _ 16 h.few)
    (properties-fit rule.properties h.each)

-- the rules of a policy's statements fit
pub rules-fit : (items : List Statement) → AllByRecursion IsStatement items
    → list_all fits_rule (filter_map rule_of items) ≡ true
rules-fit [] h = refl
rules-fit (Rule op properties action ∷ items) h =
    let rule : RuleParts = record { op = op; properties = properties; action = action } in
    and_from (fits_rule rule) (list_all fits_rule (filter_map rule_of items)) (rule-fits rule h.0) (rules-fit items h.1)
rules-fit (OpDefault op action ∷ items) h = rules-fit items h.1
rules-fit (GlobalDefault action ∷ items) h = rules-fit items h.1

-- rules that fit are statements of a policy
pub rules-are : (rules : List RuleParts) → list_all fits_rule rules ≡ true
    → AllByRecursion IsStatement (map rule_statement rules)
rules-are [] fit = tt
rules-are (rule ∷ rules) fit =
    let both = and_parts (fits_rule rule) (list_all fits_rule rules) fit in
    let parts = and_parts (nat_le (length rule.properties) 16) (list_all fits_property rule.properties) both.0 in (
      record { few = leb-true _ 16 parts.0; each = each-property rule.properties parts.1 },
      rules-are rules both.1,
    )
