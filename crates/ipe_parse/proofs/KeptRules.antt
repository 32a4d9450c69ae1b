-- Statements that a text spells keep the rules on their properties.
use Rattle.std.proofs.Common.{◌≡◌, ℕ, suc, ◌*◌, ◌<◌, ◌≤◌, ◌&&◌, nat_le, List, [], ◌∷◌, length, Some, Result, Ok, Err, arith}
use Rattle.std.specs.List.{AllByRecursion, AllZip}
use Rattle.std.specs.Result.{result_ok}
use Rattle.std.proofs.lemmas.Bool.{and_parts, leb-true}
use Rattle.hex.specs.Hex.{IsBytes, decode_of}
use Rattle.hex.proofs.HexLemmas.{decode_of-ok}
use Rattle.ipe_policy.specs.declared.statement.Digest.{Digest}
use Rattle.ipe_policy.specs.declared.statement.Property.{Property}
use Rattle.ipe_policy.specs.declared.statement.Property.TheVariants.{BootVerified, DmverityRoothash, DmveritySignature, FsverityDigest, FsveritySignature}
use Rattle.ipe_policy.specs.declared.statement.Statement.{Statement}
use Rattle.ipe_policy.specs.declared.statement.Statement.TheVariants.{Rule, OpDefault, GlobalDefault}
use Rattle.ipe_policy.specs.Policy.{IsNamedDigest, IsProperty, IsStatement}
use Rattle.ipe_parse.specs.Reads.{SpellsDigest, SpellsProperty, SpellsStatement}
use Rattle.ipe_parse.proofs.Steps.{there}

-- where each pair of two lists is related, what follows for the second of a pair holds of each in the second list
each-second : {A B : Type 0} (R : A → B → Type 0) (P : B → Type 0) → ((x : A) (y : B) → R x y → P y)
    → (xs : List A) (ys : List B) → AllZip R xs ys → AllByRecursion P ys
each-second R P follows [] [] h = tt
each-second R P follows [] (y ∷ ys) h = absurd h
each-second R P follows (x ∷ xs) [] h = absurd h
each-second R P follows (x ∷ xs) (y ∷ ys) h = (follows x y h.0, each-second R P follows xs ys h.1)

-- ---- digests

-- a result that gives a value is that value
ok-is : {A E : Type 0} (r : Result A E) (x : A) → result_ok r ≡ Some x → r ≡ Ok x
ok-is (Ok y) x e = cc
ok-is (Err error) x e = absurd (cc)

-- bytes by index are bytes by cases on the list
bytes-by_cases : (bytes : List ℕ) → IsBytes bytes → AllByRecursion (λ byte. byte < 256) bytes
bytes-by_cases [] h = tt
bytes-by_cases (byte ∷ bytes) h = (h 0, bytes-by_cases bytes (λ i. h (suc i)))

-- a digest that is spelled has 1 to 64 bytes and a policy may name it
digest-named : (word : List ℕ) (digest : Digest) → SpellsDigest word digest → IsNamedDigest digest
digest-named word digest h =
    let long = length h.digits in
    let both = there (nat_le 2 long && nat_le long 128) (result_ok (decode_of h.digits)) digest.bytes h.bytes in
    let bounds = and_parts (nat_le 2 long) (nat_le long 128) both.0 in
    let low : 2 ≤ length h.digits = leb-true 2 long bounds.0 in
    let high : length h.digits ≤ 128 = leb-true long 128 bounds.1 in
    let decoded = decode_of-ok h.digits digest.bytes (ok-is (decode_of h.digits) digest.bytes both.1) in
    let twice : length h.digits ≡ 2 * length digest.bytes = decoded.2 in
    record {
      alg = h.alg;
      has_byte = omega (arith, twice, low);
      few = omega (arith, twice, high);
      bytes = bytes-by_cases digest.bytes decoded.3;
    }

-- ---- statements

-- a property that is spelled keeps its rule
property-keeps_rule : (token : List ℕ) (property : Property) → SpellsProperty token property
    → IsProperty property
property-keeps_rule token (BootVerified wanted) h = tt
property-keeps_rule token (DmverityRoothash digest) h = digest-named h.0 digest h.2
property-keeps_rule token (DmveritySignature wanted) h = tt
property-keeps_rule token (FsverityDigest digest) h = digest-named h.0 digest h.2
property-keeps_rule token (FsveritySignature wanted) h = tt

-- a statement that is spelled keeps the rules on its properties
statement-keeps_rules : (tokens : List (List ℕ)) (statement : Statement) → SpellsStatement tokens statement
    → IsStatement statement
statement-keeps_rules tokens (Rule op properties action) h = record {
  few = h.3;
  each = each-second SpellsProperty IsProperty property-keeps_rule h.0 properties h.2;
}
statement-keeps_rules tokens (OpDefault op action) h = tt
statement-keeps_rules tokens (GlobalDefault action) h = tt

-- statements that lines spell keep the rules on their properties
pub spelled-keep_rules : (lines : List (List (List ℕ))) (items : List Statement) → AllZip SpellsStatement lines items
    → AllByRecursion IsStatement items
spelled-keep_rules lines items h = each-second SpellsStatement IsStatement statement-keeps_rules lines items h
