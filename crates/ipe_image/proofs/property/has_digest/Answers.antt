use Rattle.std.proofs.Common.{◌≡◌, ◌∙◌, ℕ, Bool, true, false, ◌&&◌, Option, List, length, ap, sym}
use Rattle.ipe_policy.specs.Spelling.{words_for}
use Rattle.line_words.specs.Words.{is_text}
use Rattle.ipe_policy.specs.Evaluation.{has_digest}
use Rattle.ipe_policy.specs.declared.evaluation.Signed.{Signed}
use Rattle.ipe_policy.specs.declared.statement.Property.{Property}
use Rattle.ipe_image.specs.declared.head.PropertyHead.{PropertyHead}
use Rattle.ipe_image.specs.Heads.{IsWordsOf}
use Rattle.ipe_image.specs.Image.{named_digest}
use Rattle.ipe_image.proofs.Bytes.{length-packed_words}
use Rattle.ipe_image.proofs.Sizes.{property-bounds}
use Rattle.ipe_image.proofs.property.has_digest.Goals as goal

-- a property has as many words as these bytes fill, where its lengths are theirs
record Compared (alg_words digest_words : List ℕ) (named : Property) (alg bytes : List ℕ) : Type 0 where
  alg_len : length (named_digest named).alg ≡ length alg
  bytes_len : length (named_digest named).bytes ≡ length bytes
  alg_many : length alg_words ≡ words_for (length alg)
  bytes_many : length digest_words ≡ words_for (length bytes)

compared : (head : PropertyHead) (alg_words digest_words : List ℕ) (named : Property) (alg bytes : List ℕ)
    → IsWordsOf head alg_words digest_words named → length alg ≡ head.alg_len → length bytes ≡ head.digest_len
    → Compared alg_words digest_words named alg bytes
compared head alg_words digest_words named alg bytes h alg_is bytes_is =
    let one : length alg ≡ length (named_digest named).alg =
    alg_is ∙ ap (λ (t : PropertyHead). t.alg_len) h.head_is in
    let two : length bytes ≡ length (named_digest named).bytes =
    bytes_is ∙ ap (λ (t : PropertyHead). t.digest_len) h.head_is in
    record {
      alg_len = sym one;
      bytes_len = sym two;
      alg_many = ap length h.alg_is ∙ length-packed_words _ (named_digest named).alg ∙ ap words_for (sym one);
      bytes_many = ap length h.digest_is ∙ length-packed_words _ (named_digest named).bytes ∙ ap words_for (sym two);
    }

pub are_words_of-requires : goal.are_words_of-requires
are_words_of-requires c =
    (compared _ _ _ c.requires.0 c.as_slice-alg.result.now c.as_slice-bytes.result.now c.requires.1
    c.if-alg-property.false c.if-bytes-property.false).alg_many

pub are_words_of-requires-then-are_words_of : goal.are_words_of-requires-then-are_words_of
are_words_of-requires-then-are_words_of c =
    (compared _ _ _ c.requires.0 c.as_slice-alg.result.now c.as_slice-bytes.result.now c.requires.1
    c.if-alg-property.false c.if-bytes-property.false).bytes_many

pub returns-then-are_words_of : goal.returns-then-are_words_of
returns-then-are_words_of c named w =
    let h = compared _ _ _ named c.as_slice-alg.result.now c.as_slice-bytes.result.now w c.if-alg-property.false
    c.if-bytes-property.false in
    let bounds = property-bounds named w.fits in
    let first : true ≡ is_text (named_digest named).alg c.in-Some.signed.digest.alg =
    c.if-are_words_of.ensures (named_digest named).alg bounds.alg h.alg_len w.alg_is
    ∙ ap (λ (bs : List ℕ). is_text (named_digest named).alg bs) c.as_slice-alg.ensures.bytes in
    let second : c.are_words_of-then-are_words_of.result
    ≡ is_text (named_digest named).bytes c.in-Some.signed.digest.bytes =
    c.are_words_of-then-are_words_of.ensures (named_digest named).bytes bounds.bytes h.bytes_len w.digest_is
    ∙ ap (λ (bs : List ℕ). is_text (named_digest named).bytes bs) c.as_slice-bytes.ensures.bytes in
    second
    ∙ ap (λ (b : Bool). b && is_text (named_digest named).bytes c.in-Some.signed.digest.bytes) first
    ∙ ap (λ (part : Option Signed). has_digest part (named_digest named)) (sym c.in-Some.is)

pub returns-else-are_words_of : goal.returns-else-are_words_of
returns-else-are_words_of c named w =
    let h = compared _ _ _ named c.as_slice-alg.result.now c.as_slice-bytes.result.now w c.if-alg-property.false
    c.if-bytes-property.false in
    let bounds = property-bounds named w.fits in
    let first : c.are_words_of.result ≡ is_text (named_digest named).alg c.in-Some.signed.digest.alg =
    c.are_words_of.ensures (named_digest named).alg bounds.alg h.alg_len w.alg_is
    ∙ ap (λ (bs : List ℕ). is_text (named_digest named).alg bs) c.as_slice-alg.ensures.bytes in
    let none : c.are_words_of.result ≡ false = c.if-are_words_of.false in
    none
    ∙ ap (λ (b : Bool). b && is_text (named_digest named).bytes c.in-Some.signed.digest.bytes) (sym none ∙ first)
    ∙ ap (λ (part : Option Signed). has_digest part (named_digest named)) (sym c.in-Some.is)
