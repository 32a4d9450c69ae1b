-- Verdicts that are found by their digests are those of the last marks.
use Rattle.std.proofs.Common.{◌≡◌, ◌∙◌, ℕ, Bool, true, false, cond, List, [], ◌∷◌, Option, Some, refl, ap, sym, Vec}
use Rattle.std.specs.Map.{lookup}
use Rattle.std.specs.Option.{unwrap_or}
use Rattle.std.proofs.lemmas.Slice.Eq.{bytes_eq-Decides}
use Rattle.std.specs.Str.{bytes_eq}
use Rattle.indexmap.specs.IndexMap.{insert_entry}
use Rattle.line_words.specs.Words.{is_text}
use Rattle.ipe_signer.specs.declared.signer.Verdict.{Verdict}
use Rattle.ipe_signer.specs.declared.signer.Verdict.TheVariants.{Unknown}
use Rattle.ipe_signer.specs.Marks.{verdict_at}

-- two lists of bytes are compared either way round
pub bytes-swap : (a b : List ℕ) → bytes_eq a b ≡ bytes_eq b a
bytes-swap a b =
    by (bytes_eq a b) (bytes_eq b a) (λ e. (bytes_eq-Decides b a).1 (sym ((bytes_eq-Decides a b).0 e)))
    (λ e. (bytes_eq-Decides a b).1 (sym ((bytes_eq-Decides b a).0 e)))
  where
    by : (x y : Bool) → (x ≡ true → y ≡ true) → (y ≡ true → x ≡ true) → x ≡ y
    by true y there back = sym (there refl)
    by false true there back = back refl
    by false false there back = refl

-- one choice made twice is made once
cond-twice : {X : Type 0} (b : Bool) (x y z : X) → cond b x z ≡ cond b x (cond b y z)
cond-twice true x y z = refl
cond-twice false x y z = refl

-- two choices of which not both are made, in either order
cond-swap : {X : Type 0} (a b : Bool) (x y z : X) → (a ≡ true → b ≡ true → ⊥)
    → cond a x (cond b y z) ≡ cond b y (cond a x z)
cond-swap true true x y z apart = absurd (apart refl refl)
cond-swap true false x y z apart = refl
cond-swap false b x y z apart = refl

module _ {A : Type 0} where
  -- what is found after an insertion
  pub lookup-insert : (entries : List (Vec ℕ A × Verdict)) (key : Vec ℕ A) (verdict : Verdict) (digest : List ℕ)
      → lookup (λ k. is_text k.items digest) (insert_entry (λ x y. bytes_eq x.items y.items) entries key verdict)
      ≡ cond (is_text key.items digest) (Some verdict) (lookup (λ k. is_text k.items digest) entries)
  lookup-insert [] key verdict digest = refl
  lookup-insert (entry ∷ entries) key verdict digest =
      at (bytes_eq key.items entry.0.items) refl (lookup-insert entries key verdict digest)
    where
      test : Vec ℕ A → Bool
      test k = is_text k.items digest

      at : (b : Bool) → bytes_eq key.items entry.0.items ≡ b
          → lookup (λ k. is_text k.items digest) (insert_entry (λ x y. bytes_eq x.items y.items) entries key verdict)
          ≡ cond (is_text key.items digest) (Some verdict) (lookup (λ k. is_text k.items digest) entries)
          → lookup (λ k. is_text k.items digest)
          (cond b ((entry.0, verdict) ∷ entries) (entry ∷ insert_entry (λ x y. bytes_eq x.items y.items) entries key verdict))
          ≡ cond (is_text key.items digest) (Some verdict)
          (cond (is_text entry.0.items digest) (Some entry.1) (lookup (λ k. is_text k.items digest) entries))
      at true same rest =
          let items : key.items ≡ entry.0.items = (bytes_eq-Decides key.items entry.0.items).0 same in
          let here : is_text entry.0.items digest ≡ is_text key.items digest =
          ap (λ (bytes : List ℕ). is_text bytes digest) (sym items) in
          let found : Option Verdict = lookup (λ k. is_text k.items digest) entries in
          ap (λ (b : Bool). cond b (Some verdict) found) here
          ∙ cond-twice (is_text key.items digest) (Some verdict) (Some entry.1) found
          ∙ ap (λ (b : Bool). cond (is_text key.items digest) (Some verdict) (cond b (Some entry.1) found)) (sym here)
      at false same rest =
          let found : Option Verdict = lookup (λ k. is_text k.items digest) entries in
          ap (λ (o : Option Verdict). cond (is_text entry.0.items digest) (Some entry.1) o) rest
          ∙ cond-swap (is_text entry.0.items digest) (is_text key.items digest) (Some entry.1) (Some verdict) found
          (λ one other.
          let first : digest ≡ entry.0.items = (bytes_eq-Decides digest entry.0.items).0 one in
          let second : digest ≡ key.items = (bytes_eq-Decides digest key.items).0 other in
          let both : bytes_eq key.items entry.0.items ≡ true =
          (bytes_eq-Decides key.items entry.0.items).1 (sym second ∙ first) in
          absurd (cc))

  -- the verdict after an insertion
  pub verdict-noted : (entries : List (Vec ℕ A × Verdict)) (key : Vec ℕ A) (bytes : List ℕ) (verdict : Verdict)
      (digest : List ℕ) → key.items ≡ bytes
      → verdict_at (insert_entry (λ x y. bytes_eq x.items y.items) entries key verdict) digest
      ≡ cond (is_text digest bytes) verdict (verdict_at entries digest)
  verdict-noted entries key bytes verdict digest is =
      ap (λ (o : Option Verdict). unwrap_or o Unknown) (lookup-insert entries key verdict digest)
      ∙ ap (λ (bs : List ℕ). unwrap_or (cond (is_text bs digest) (Some verdict)
      (lookup (λ k. is_text k.items digest) entries)) Unknown) is
      ∙ ap (λ (b : Bool). unwrap_or (cond b (Some verdict) (lookup (λ k. is_text k.items digest) entries)) Unknown)
      (bytes-swap digest bytes)
      ∙ out (is_text digest bytes) (lookup (λ k. is_text k.items digest) entries)
    where
      out : (b : Bool) (o : Option Verdict) → unwrap_or (cond b (Some verdict) o) Unknown ≡ cond b verdict (unwrap_or o Unknown)
      out true o = refl
      out false o = refl
