-- Tokens that spell properties are read as them, and no others are.
use Rattle.std.proofs.Common.{◌≡◌, ℕ, ◌⊎◌, inl, inr, ⊎_elim, true, false, cond, List, [], ◌∷◌, ◌++◌, drop, codes, Option, Some, None, Result, Ok, ok_or, option_map, refl, sym, ◌∙◌, ap, subst}
use Rattle.std.specs.List.{AllZip}
use Rattle.ipe_policy.specs.declared.statement.Digest.{Digest}
use Rattle.ipe_policy.specs.declared.statement.Property.{Property}
use Rattle.ipe_policy.specs.declared.statement.Property.TheVariants.{BootVerified, DmverityRoothash, DmveritySignature, FsverityDigest, FsveritySignature}
use Rattle.line_words.specs.Words.{is_text}
use Rattle.ipe_parse.specs.declared.error.BadKind.{BadKind}
use Rattle.ipe_parse.specs.declared.error.BadKind.TheVariants.{BadProperty, BadDigest}
use Rattle.ipe_parse.specs.Tokens.{◌>>=◌, begins, digest_of, digest_property_of, or_else, property_of, properties_of, truth_property_of}
use Rattle.ipe_parse.specs.Reads.{SpellsProperty}
use Rattle.ipe_parse.proofs.Steps.{chosen, map-parts, ok_or-parts, passed, same-ok, split, then-ok, then-parts}
use Rattle.ipe_parse.proofs.Spells.{begins-is, text-is}
use Rattle.ipe_parse.proofs.Digests.{digest-read, digest-spelled}

-- a token that spells a property is read as it
property-read : (token : List ℕ) (property : Property) → SpellsProperty token property → property_of token ≡ Ok property
property-read token (BootVerified true) h = ap property_of h
property-read token (BootVerified false) h = ap property_of h
property-read token (DmverityRoothash digest) h =
    ap property_of h.1 ∙ ap (λ (d : Option Digest). ok_or (option_map DmverityRoothash d) BadDigest) (digest-read h.0 digest h.2)
property-read token (DmveritySignature true) h = ap property_of h
property-read token (DmveritySignature false) h = ap property_of h
property-read token (FsverityDigest digest) h =
    ap property_of h.1 ∙ ap (λ (d : Option Digest). ok_or (option_map FsverityDigest d) BadDigest) (digest-read h.0 digest h.2)
property-read token (FsveritySignature true) h = ap property_of h
property-read token (FsveritySignature false) h = ap property_of h

-- a token that is one of the texts spells its property
truth-at : (text token : List ℕ) (x property : Property) (o : Option Property) → SpellsProperty text x → cond (is_text text token) (Some x) o ≡ Some property → (o ≡ Some property → SpellsProperty token property) → SpellsProperty token property
truth-at text token x property o spelled e others =
    ⊎_elim (λ h. subst (λ (t : List ℕ). SpellsProperty t property) (sym (text-is text token h.0)) (subst (λ (p : Property). SpellsProperty text p) h.1 spelled)) others
    (chosen (is_text text token) x property o e)

-- a token that is read as a property of a truth value spells it
truth-spelled : (token : List ℕ) (property : Property) → truth_property_of token ≡ Some property → SpellsProperty token property
truth-spelled token property e =
    truth-at (codes "boot_verified=TRUE") token (BootVerified true) property _ refl e λ e.
    truth-at (codes "boot_verified=FALSE") token (BootVerified false) property _ refl e λ e.
    truth-at (codes "dmverity_signature=TRUE") token (DmveritySignature true) property _ refl e λ e.
    truth-at (codes "dmverity_signature=FALSE") token (DmveritySignature false) property _ refl e λ e.
    truth-at (codes "fsverity_signature=TRUE") token (FsveritySignature true) property _ refl e λ e.
    truth-at (codes "fsverity_signature=FALSE") token (FsveritySignature false) property None refl e λ e. absurd (cc)

-- a token that is read as the root hash of a volume spells it
roothash-spelled : (token word : List ℕ) (property : Property) → token ≡ codes "dmverity_roothash=" ++ word → ok_or (option_map DmverityRoothash (digest_of word)) BadDigest ≡ Ok property → SpellsProperty token property
roothash-spelled token word property whole e =
    let read = map-parts DmverityRoothash (digest_of word) property (ok_or-parts _ BadDigest property e) in
    subst (λ (p : Property). SpellsProperty token p) read.2 (word, whole, digest-spelled word read.0 read.1)

-- a token that is read as the digest of a file spells it
fsverity-spelled : (token word : List ℕ) (property : Property) → token ≡ codes "fsverity_digest=" ++ word → ok_or (option_map FsverityDigest (digest_of word)) BadDigest ≡ Ok property → SpellsProperty token property
fsverity-spelled token word property whole e =
    let read = map-parts FsverityDigest (digest_of word) property (ok_or-parts _ BadDigest property e) in
    subst (λ (p : Property). SpellsProperty token p) read.2 (word, whole, digest-spelled word read.0 read.1)

-- a token that is read as a property of a digest spells it
digest_property-spelled : (token : List ℕ) (property : Property) → digest_property_of token ≡ Ok property → SpellsProperty token property
digest_property-spelled token property e =
    ⊎_elim
    (λ h. roothash-spelled token (drop 18 token) property (begins-is (codes "dmverity_roothash=") token h.0) h.1)
    (λ h.
    let both = passed (begins (codes "fsverity_digest=") token) _ BadProperty property h.1 in
    fsverity-spelled token (drop 16 token) property (begins-is (codes "fsverity_digest=") token both.0) both.1)
    (split (begins (codes "dmverity_roothash=") token) _ _ property e)

-- one of two answers was taken
or_else-cases : (o : Option Property) (other : Result Property BadKind) (property : Property) → or_else o other ≡ Ok property → (o ≡ Some property) ⊎ (other ≡ Ok property)
or_else-cases (Some x) other property e = inl (cc)
or_else-cases None other property e = inr e

-- a token that is read as a property spells it
property-spelled : (token : List ℕ) (property : Property) → property_of token ≡ Ok property → SpellsProperty token property
property-spelled token property e =
    ⊎_elim (truth-spelled token property) (digest_property-spelled token property)
    (or_else-cases (truth_property_of token) (digest_property_of token) property e)

-- tokens that spell properties, one for one, are read as them
pub properties-read : (tokens : List (List ℕ)) (properties : List Property) → AllZip SpellsProperty tokens properties → properties_of tokens ≡ Ok properties
properties-read [] [] h = refl
properties-read [] (property ∷ properties) h = absurd h
properties-read (token ∷ tokens) [] h = absurd h
properties-read (token ∷ tokens) (property ∷ properties) h =
    then-ok (property_of token) property (λ property. properties_of tokens >>= λ properties. Ok (property ∷ properties)) (property-read token property h.0)
    ∙ then-ok (properties_of tokens) properties (λ properties. Ok (property ∷ properties)) (properties-read tokens properties h.1)

-- tokens that are read as properties spell them, one for one
pub properties-spelled : (tokens : List (List ℕ)) (properties : List Property) → properties_of tokens ≡ Ok properties → AllZip SpellsProperty tokens properties
properties-spelled [] properties e = subst (λ (ps : List Property). AllZip SpellsProperty [] ps) (same-ok [] properties e) tt
properties-spelled (token ∷ tokens) properties e =
    let one = then-parts (property_of token) (λ property. properties_of tokens >>= λ properties. Ok (property ∷ properties)) properties e in
    let more = then-parts (properties_of tokens) (λ (others : List Property). Ok (one.0 ∷ others)) properties one.2 in
    subst (λ (ps : List Property). AllZip SpellsProperty (token ∷ tokens) ps) (same-ok (one.0 ∷ more.0) properties more.2)
    (property-spelled token one.0 one.1, properties-spelled tokens more.0 more.1)
