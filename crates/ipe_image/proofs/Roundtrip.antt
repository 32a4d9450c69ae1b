-- An image is read as the parts that it was made of.
use Rattle.std.proofs.Common.{◌≡◌, ◌∙◌, ℕ, ◌+◌, ◌*◌, ◌/◌, ◌%◌, ◌^◌, ◌<◌, ◌≤◌, suc, Bool, true, false, ◌==◌, ◌&&◌, cond, List, [], ◌∷◌, ◌++◌, length, map, get_or, take, drop, slice_get, Option, Some, None, is_some, ◌-◌, replicate, sum_by, sym, option_map, refl, ap, arith, append_assoc, length-append}
use Rattle.std.specs.Prelude.{nat_le, option_and_then}
use Rattle.std.specs.List.{flat_map, list_all}
use Rattle.std.proofs.lemmas.Bool.{and_parts, and_from, leb-true}
use Rattle.std.proofs.lemmas.List.{drop_at, length-map, take_at}
use Rattle.std.proofs.lemmas.Slice.Eq.{bytes_eq-Decides}
use Rattle.ipe_policy.specs.declared.op.Op.{Op}
use Rattle.ipe_policy.specs.declared.op.Op.TheVariants.{Execute, Firmware, Kmodule, KexecImage, KexecInitramfs, Policy, X509Cert}
use Rattle.ipe_policy.specs.declared.op.Action.{Action}
use Rattle.ipe_policy.specs.declared.op.Action.TheVariants.{Allow, Deny}
use Rattle.ipe_policy.specs.declared.statement.Digest.{Digest}
use Rattle.ipe_policy.specs.declared.statement.Property.{Property}
use Rattle.ipe_policy.specs.declared.statement.Property.TheVariants.{BootVerified, DmverityRoothash, DmveritySignature, FsverityDigest, FsveritySignature}
use Rattle.ipe_policy.specs.Statement.{RuleParts, op_number, operations}
use Rattle.ipe_policy.specs.Spelling.{property_words, rule_words, words_for}
use Rattle.ipe_image.specs.Packing.{byte_words, unpacked}
use Rattle.ipe_image.specs.Parts.{ImageParts}
use Rattle.ipe_image.specs.Image.{action_number, default_word, grouped, image_head, image_of, property_image, records, rule_head, rule_record, tables, words_used}
use Rattle.ipe_image.specs.Reading.{begin_with, decoded, default_read, digest_read, fits_digest, fits_property, fits_rule, image_in, in_text_order, is_complete, kind_read, properties_read, property_read, rule_read, rules_read}
use Rattle.ipe_image.specs.Reader.{filled}
use Rattle.ipe_image.proofs.Told.{read-begins, read-some}
use Rattle.ipe_image.proofs.Bytes.{bytes-read, length-packed_words}
use Rattle.ipe_image.proofs.Groups.{in-text-order, length-grouped, sound, sound-grouped, words-grouped}
use Rattle.ipe_image.proofs.Sizes.{digest-bounds, few-rule_properties, few-rule_words, fewer-rules, length-property_image, length-records, length-rule_record}
use Rattle.ipe_image.proofs.Places.{Complete, complete-facts, default-read, op-below, places}

-- a digest is read back from its words
digest-back : (digest : Digest) (alg_len len : ℕ) (more : List ℕ) → fits_digest digest ≡ true
    → alg_len ≡ length digest.alg → len ≡ length digest.bytes
    → ◌≡◌ {A = Digest} (record {
      alg = unpacked alg_len
          ((byte_words digest.alg ++ byte_words digest.bytes) ++ more);
      bytes =
          unpacked len (drop (words_for alg_len)
          ((byte_words digest.alg ++ byte_words digest.bytes) ++ more));
    }) digest
digest-back digest alg_len len more fits alg_is len_is =
    let bounds = digest-bounds digest fits in
    let alg_words = byte_words digest.alg in
    let words = byte_words digest.bytes in
    let spread : (alg_words ++ words) ++ more ≡ alg_words ++ (words ++ more) = append_assoc alg_words words more in
    let alg : unpacked alg_len ((alg_words ++ words) ++ more) ≡ digest.alg =
    ap (λ (n : ℕ). unpacked n ((alg_words ++ words) ++ more)) alg_is
    ∙ ap (λ (ws : List ℕ). unpacked (length digest.alg) ws) spread
    ∙ bytes-read digest.alg (words ++ more) bounds.alg in
    let behind : drop (words_for alg_len) ((alg_words ++ words) ++ more) ≡ words ++ more =
    ap (λ (n : ℕ). drop (words_for n) ((alg_words ++ words) ++ more)) alg_is
    ∙ ap (drop (words_for (length digest.alg))) spread
    ∙ drop_at alg_words (words ++ more) (words_for (length digest.alg)) (length-packed_words (words_for
    (length digest.alg)) digest.alg) in
    let bytes : unpacked len (drop (words_for alg_len) ((alg_words ++ words) ++ more)) ≡ digest.bytes =
    ap (λ (n : ℕ). unpacked n (drop (words_for alg_len) ((alg_words ++ words) ++ more))) len_is
    ∙ ap (λ (ws : List ℕ). unpacked (length digest.bytes) ws) behind
    ∙ bytes-read digest.bytes more bounds.bytes in
    ap (λ (a : List ℕ). record {
      alg = a;
      bytes = unpacked len (drop (words_for alg_len)
          ((alg_words ++ words) ++ more));
    }) alg
    ∙ ap (λ (b : List ℕ). record { alg = digest.alg; bytes = b }) bytes

-- the fields of the head of a digest's property
digest-property : (kind alg_len len : ℕ) (digest : Digest) (more : List ℕ) → kind < 256
    → alg_len ≡ length digest.alg → len ≡ length digest.bytes → fits_digest digest ≡ true
    → property_read ((kind + 2 ^ 8 * 0 + 2 ^ 16 * alg_len + 2 ^ 24 * len) ∷
    ((byte_words digest.alg ++ byte_words digest.bytes) ++ more)) ≡ kind_read kind false digest
digest-property kind alg_len len digest more small alg_is len_is fits =
    let bounds = digest-bounds digest fits in
    let few_alg : length digest.alg ≤ 16 = bounds.few_alg in
    let few : length digest.bytes ≤ 64 = bounds.few in
    let head : ℕ = kind + 2 ^ 8 * 0 + 2 ^ 16 * alg_len + 2 ^ 24 * len in
    let kind_is : head % 256 ≡ kind = omega arith in
    let truth_is : head / 256 % 256 ≡ 0 = omega arith in
    let alg_field : head / 2 ^ 16 % 256 ≡ length digest.alg = omega arith in
    let field : head / 2 ^ 24 % 256 ≡ length digest.bytes = omega arith in
    ap (λ (k : ℕ). kind_read k (head / 256 % 256 == 1) (digest_read head
    ((byte_words digest.alg ++ byte_words digest.bytes) ++ more))) kind_is
    ∙ ap (λ (t : ℕ). kind_read kind (t == 1) (digest_read head
    ((byte_words digest.alg ++ byte_words digest.bytes) ++ more))) truth_is
    ∙ ap (λ (d : Digest). kind_read kind false d) (digest-back digest (head / 2 ^ 16 % 256)
    (head / 2 ^ 24 % 256) more fits alg_field field)

pub property-back : (property : Property) (more : List ℕ) → fits_property property ≡ true
    → property_read (property_image property ++ more) ≡ Some property
property-back (BootVerified true) more fits = refl
property-back (BootVerified false) more fits = refl
property-back (DmveritySignature true) more fits = refl
property-back (DmveritySignature false) more fits = refl
property-back (FsveritySignature true) more fits = refl
property-back (FsveritySignature false) more fits = refl
property-back (DmverityRoothash digest) more fits =
    digest-property 3 (length digest.alg) (length digest.bytes) digest more (omega arith) refl refl fits
property-back (FsverityDigest digest) more fits =
    digest-property 4 (length digest.alg) (length digest.bytes) digest more (omega arith) refl refl fits

-- properties are read back from their words
pub properties-back : (properties : List Property) (more : List ℕ) → list_all fits_property properties ≡ true
    → properties_read (length properties) (flat_map property_image properties ++ more) ≡ Some properties
properties-back [] more fit = refl
properties-back (property ∷ properties) more fit =
    let parts = and_parts (fits_property property) (list_all fits_property properties) fit in
    let rest = flat_map property_image properties ++ more in
    let spread : flat_map property_image (property ∷ properties) ++ more ≡ property_image property ++ rest =
    append_assoc (property_image property) (flat_map property_image properties) more in
    let dropped : drop (property_words property) (property_image property ++ rest) ≡ rest =
    drop_at (property_image property) rest (property_words property) (length-property_image property) in
    ap (properties_read (suc (length properties))) spread
    ∙ ap (λ (o : Option Property). option_and_then (λ p. option_map (λ ps. p ∷ ps) (properties_read
    (length properties) (drop (property_words p) (property_image property ++ rest)))) o)
    (property-back property rest parts.0)
    ∙ ap (λ (ws : List ℕ). option_map (λ ps. property ∷ ps) (properties_read (length properties) ws)) dropped
    ∙ ap (λ (o : Option (List Property)). option_map (λ ps. property ∷ ps) o) (properties-back properties more parts.1)

pub op-back : (op : Op) → slice_get operations (op_number op) ≡ Some op
op-back Execute = refl
op-back Firmware = refl
op-back Kmodule = refl
op-back KexecImage = refl
op-back KexecInitramfs = refl
op-back Policy = refl
op-back X509Cert = refl

action-back : (action : Action) → default_read (action_number action) ≡ Some action
action-back Allow = refl
action-back Deny = refl

action-small : (action : Action) → action_number action < 3
action-small Allow = omega arith
action-small Deny = omega arith

-- a rule is read back from its record
rule-from : (head : ℕ) (words : List ℕ) (op : ℕ) (action : ℕ) (count : ℕ) (rule : RuleParts)
    → head / 2 ^ 32 % 256 ≡ op → head / 2 ^ 40 % 256 ≡ action → head / 2 ^ 48 % 256 ≡ count
    → slice_get operations op ≡ Some rule.op → default_read action ≡ Some rule.action
    → properties_read count words ≡ Some rule.properties → rule_read (head ∷ words) ≡ Some rule
rule-from head words op action count rule op_is action_is count_is op_back action_back back =
    rw (op_is, op_back, action_is, action_back, count_is, back)

pub rule-back : (number : ℕ) (rule : RuleParts) (more : List ℕ) → number < 2 ^ 32 → fits_rule rule ≡ true
    → rule_read (rule_record number rule ++ more) ≡ Some rule
rule-back number rule more narrow fits =
    let few : length rule.properties ≤ 16 = few-rule_properties rule fits in
    let words : rule_words rule ≤ 177 = few-rule_words rule fits in
    let op : op_number rule.op < 7 = op-below rule.op in
    let action : action_number rule.action < 3 = action-small rule.action in
    let head : ℕ = rule_head number rule in
    rule-from head (flat_map property_image rule.properties ++ more) (op_number rule.op) (action_number rule.action)
    (length rule.properties) rule
    (omega arith) (omega arith) (omega arith) (op-back rule.op) (action-back rule.action)
    (properties-back rule.properties more (and_parts _ _ fits).1)

-- a rule's number is read back from its record
number-back : (number : ℕ) (rule : RuleParts) (more : List ℕ) → number < 2 ^ 32
    → get_or (rule_record number rule ++ more) 0 0 % 2 ^ 32 ≡ number
number-back number rule more narrow = omega arith

-- rules are read back from their records, with their numbers
pub rules-back : (rules : List (ℕ × RuleParts)) (more : List ℕ) → list_all sound rules ≡ true
    → rules_read (length rules) (records rules ++ more) ≡ Some rules
rules-back [] more all = refl
rules-back (rule ∷ rules) more all =
    let parts = and_parts (sound rule) (list_all sound rules) all in
    let one = and_parts (nat_le rule.0 4096) (fits_rule rule.1) parts.0 in
    let narrow : rule.0 < 2 ^ 32 = omega (arith, leb-true rule.0 4096 one.0) in
    let record_of = rule_record rule.0 rule.1 in
    let rest = records rules ++ more in
    let spread : records (rule ∷ rules) ++ more ≡ record_of ++ rest = append_assoc record_of (records rules) more in
    let dropped : drop (rule_words rule.1) (record_of ++ rest) ≡ rest =
    drop_at record_of rest (rule_words rule.1) (length-rule_record rule.0 rule.1) in
    let number : get_or (record_of ++ rest) 0 0 % 2 ^ 32 ≡ rule.0 = number-back rule.0 rule.1 rest narrow in
    ap (rules_read (suc (length rules))) spread
    ∙ ap (λ (o : Option RuleParts). option_and_then (λ r. option_map (λ rs. (get_or (record_of ++ rest) 0 0 % 2 ^ 32, r)
    ∷ rs) (rules_read (length rules) (drop (rule_words r) (record_of ++ rest)))) o)
    (rule-back rule.0 rule.1 rest narrow one.1)
    ∙ ap (λ (n : ℕ). option_map (λ rs. (n, rule.1) ∷ rs) (rules_read (length rules) (drop (rule_words rule.1)
    (record_of ++ rest)))) number
    ∙ ap (λ (ws : List ℕ). option_map (λ rs. rule ∷ rs) (rules_read (length rules) ws)) dropped
    ∙ ap (λ (o : Option (List (ℕ × RuleParts))). option_map (λ rs. rule ∷ rs) o) (rules-back rules more parts.1)

-- defaults are read back from their words
defaults-back : (defaults : List (Option Action)) → map default_read (map default_word defaults) ≡ defaults
defaults-back [] = refl
defaults-back (own ∷ defaults) =
    ap (λ (o : Option Action). o ∷ map default_read (map default_word defaults)) (default-read own)
    ∙ ap (λ (os : List (Option Action)). own ∷ os) (defaults-back defaults)

-- parts that are put together again
parts-from : (parts : ImageParts) (rules : List (ℕ × RuleParts)) (serial global count : ℕ) (defaults words : List ℕ)
    → serial ≡ parts.serial → default_read global ≡ parts.global → map default_read defaults ≡ parts.defaults
    → rules_read count words ≡ Some rules → in_text_order rules ≡ parts.rules
    → option_map (λ rules. record {
      serial = serial;
      global = default_read global;
      defaults = map default_read defaults;
      rules = in_text_order rules;
    }) (rules_read count words) ≡ Some parts
parts-from parts rules serial global count defaults words serial_is global_is defaults_is rules_are order =
    rw (serial_is, global_is, defaults_is, rules_are, order)

pub decoded-back : (parts : ImageParts) (more : List ℕ) → Complete parts → decoded (image_of parts ++ more) ≡ Some parts
decoded-back parts more complete =
    let words = image_of parts ++ more in
    let p = places words parts more complete refl in
    let all = grouped parts.rules in
    let few = complete.few in
    let fewer : length parts.rules ≤ 4096 = omega (arith, fewer-rules parts.rules) in
    let back : rules_read (get_or words 10 0) (drop 25 words) ≡ Some all =
    ap (λ (n : ℕ). rules_read n (drop 25 words)) (p.count ∙ sym (length-grouped parts.rules))
    ∙ ap (rules_read (length all)) p.rest
    ∙ rules-back all more (sound-grouped parts.rules fewer complete.fit) in
    parts-from parts all (get_or words 1 0) (get_or words 2 0) (get_or words 10 0) (take 7 (drop 3 words)) (drop 25 words)
    p.serial (ap default_read p.global ∙ default-read parts.global) (ap (map default_read) p.defaults
    ∙ defaults-back parts.defaults) back (in-text-order parts.rules)

-- words that begin with the image of complete parts tell these
pub image-back : (parts : ImageParts) (more : List ℕ) → is_complete parts ≡ true
    → image_in (image_of parts ++ more) ≡ Some parts
image-back parts more complete =
    let words = image_of parts ++ more in
    let front : take (length (image_of parts)) words ≡ image_of parts =
    take_at (image_of parts) more (length (image_of parts)) refl in
    let passes : begin_with (image_of parts) words ≡ true =
    (bytes_eq-Decides (take (length (image_of parts)) words) (image_of parts)).1 front in
    let both : (is_complete parts && begin_with (image_of parts) words) ≡ true = and_from _ _ complete passes in
    ap (λ (o : Option ImageParts). option_and_then (λ told. cond (is_complete told && begin_with (image_of told) words)
    (Some told) None) o) (decoded-back parts more (complete-facts parts complete))
    ∙ ap (λ (b : Bool). cond b (Some parts) None) both

-- what words tell they tell with more words after them
pub image-more : (words more : List ℕ) (parts : ImageParts) → image_in words ≡ Some parts
    → image_in (words ++ more) ≡ Some parts
image-more words more parts told =
    let h = read-begins words parts told in
    ap (λ (ws : List ℕ). image_in (ws ++ more)) h.whole
    ∙ ap image_in (append_assoc (image_of parts) h.behind more) ∙ image-back parts (h.behind ++ more) h.complete

-- and with zeros
pub image-filled : (count : ℕ) (words : List ℕ) (parts : ImageParts) → image_in words ≡ Some parts
    → image_in (filled count words) ≡ Some parts
unfolding filled
image-filled count words parts told = image-more words (replicate (count - length words) 0) parts told

pub some-filled : (count : ℕ) (words : List ℕ) → is_some (image_in words) ≡ true
    → is_some (image_in (filled count words)) ≡ true
some-filled count words some = let s = read-some words some in ap is_some (image-filled count words s.0 s.1)

-- an image of complete parts is as long as it says
pub length-image : (parts : ImageParts) → Complete parts → length (image_of parts) ≡ words_used parts
length-image parts complete =
    let all = records (grouped parts.rules) in
    let seven : length (map default_word parts.defaults) ≡ 7 = length-map parts.defaults default_word
    ∙ complete.seven in
    let rules : length all ≡ sum_by rule_words parts.rules =
    length-records (grouped parts.rules) ∙ words-grouped parts.rules in
    let tail : length (length parts.rules ∷ tables parts.rules) ≡ 15 = omega arith in
    omega (
      arith,
      length-append (image_head parts) all,
      length-append (map default_word parts.defaults) (length parts.rules ∷ tables parts.rules),
    )
