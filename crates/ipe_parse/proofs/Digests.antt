-- The word of a digest is read as the digest that it spells.
use Rattle.std.proofs.Common.{◌≡◌, ℕ, ◌⊎◌, inl, inr, true, not, cond, arith, length, List, [], ◌∷◌, ◌++◌, codes, Some, None, option_map, refl, sym, ◌∙◌, ap, subst, append_assoc}
use Rattle.std.specs.List.{before_first, after_first, list_all, position_or_len}
use Rattle.std.proofs.Math.ListN.{drop_of_length-le}
use Rattle.std.proofs.lemmas.Bool.{and_parts, cases_lt, eqb-true}
use Rattle.std.proofs.lemmas.Bool.Decides.{nat_tests}
use Rattle.std.proofs.lemmas.List.Sums.{passes_at_first, split_at_first}
use Rattle.ipe_policy.specs.declared.statement.Digest.{Digest}
use Rattle.ipe_policy.specs.Words.{is_alg_byte, is_alg_name}
use Rattle.ipe_parse.specs.Tokens.{digest_of, hex_bytes, is_colon}
use Rattle.ipe_parse.specs.Reads.{SpellsDigest}
use Rattle.ipe_parse.proofs.Steps.{map-parts, there}
use Rattle.ipe_parse.proofs.Bytes.{after-at, all-weaker, before-at}

-- a byte of an algorithm's name is no colon
no-colon : (byte : ℕ) → is_alg_byte byte ≡ true → not (is_colon byte) ≡ true
no-colon byte e = grind (arith, nat_tests)

-- a word is cut at its first colon, or nothing stands after one
colon-cut : (word : List ℕ) → (after_first is_colon word ≡ []) ⊎ (word ≡ before_first is_colon word ++ 58 ∷ after_first is_colon word)
colon-cut word = elim (cases_lt (position_or_len is_colon word) (length word)) [
  | inl within ↦ inr (
      split_at_first is_colon word 0 within
      ∙ ap (λ (byte : ℕ). before_first is_colon word ++ byte ∷ after_first is_colon word)
      (eqb-true _ 58 (passes_at_first is_colon word 0 within)))
  | inr beyond ↦ inl (drop_of_length-le word (omega arith))
]

-- a name of an algorithm has only bytes that may stand in one
pub alg-bytes : (alg : List ℕ) → is_alg_name alg ≡ true → list_all is_alg_byte alg ≡ true
alg-bytes alg e = (and_parts _ _ e).1

-- the digest of a word that is cut into a name and digits
read-digest : (alg digits bytes front rest : List ℕ) → front ≡ alg → rest ≡ digits → is_alg_name alg ≡ true → hex_bytes digits ≡ Some bytes
    → cond (is_alg_name front) (option_map {U = Digest} (λ bytes. record { alg = front; bytes = bytes }) (hex_bytes rest)) None ≡ Some (record { alg = alg; bytes = bytes })
read-digest alg digits bytes front rest front_is rest_is name read = rw (front_is, rest_is, name, read)

-- a word that spells a digest is read as it
pub digest-read : (word : List ℕ) (digest : Digest) → SpellsDigest word digest → digest_of word ≡ Some digest
digest-read word digest h =
    let apart = all-weaker is_alg_byte (λ byte. not (is_colon byte)) no-colon digest.alg (alg-bytes digest.alg h.alg) in
    ap digest_of (h.whole ∙ append_assoc digest.alg (codes ":") h.digits)
    ∙ read-digest digest.alg h.digits digest.bytes _ _ (before-at is_colon digest.alg 58 h.digits apart refl)
    (after-at is_colon digest.alg 58 h.digits apart refl) h.alg h.bytes

-- a name, a colon and digits spell a digest
spelled : (word alg digits bytes : List ℕ) (digest : Digest) → word ≡ alg ++ 58 ∷ digits → is_alg_name alg ≡ true → hex_bytes digits ≡ Some bytes
    → ◌≡◌ {A = Digest} (record { alg = alg; bytes = bytes }) digest → SpellsDigest word digest
spelled word alg digits bytes digest whole name read same =
    subst (λ (d : Digest). SpellsDigest word d) same (record { digits = digits; whole = whole ∙ sym (append_assoc alg (codes ":") digits); alg = name; bytes = read })

-- a word that is read as a digest spells it
pub digest-spelled : (word : List ℕ) (digest : Digest) → digest_of word ≡ Some digest → SpellsDigest word digest
digest-spelled word digest e =
    let front = before_first is_colon word in
    let rest = after_first is_colon word in
    let both = there (is_alg_name front) (option_map {U = Digest} (λ (bytes : List ℕ). record { alg = front; bytes = bytes }) (hex_bytes rest)) digest e in
    let read = map-parts {B = Digest} (λ (bytes : List ℕ). record { alg = front; bytes = bytes }) (hex_bytes rest) digest both.1 in
    elim (colon-cut word) [
      | inl none ↦ absurd (let nothing : hex_bytes rest ≡ None = ap hex_bytes none in let found = read.1 in cc)
      | inr cut ↦ spelled word front rest read.0 digest cut both.0 read.1 read.2
    ]
