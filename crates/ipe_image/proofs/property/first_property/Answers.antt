use Rattle.std.proofs.Common.{◌≡◌, ◌∙◌, ℕ, ◌-◌, length, drop, ap, sym, arith, length-drop}
use Rattle.std.proofs.lemmas.List.{take_rest}
use Rattle.ipe_policy.specs.Spelling.{words_for}
use Rattle.ipe_image.specs.Packing.{byte_words}
use Rattle.ipe_image.specs.Image.{named_digest}
use Rattle.ipe_image.specs.Heads.{told_of_property}
use Rattle.ipe_image.specs.declared.head.PropertyHead.{PropertyHead}
use Rattle.ipe_image.proofs.Splits.{parted, split}
use Rattle.ipe_image.proofs.property.first_property.Goals as goal

pub split_at-requires-2 : goal.split_at-requires-2
split_at-requires-2 c =
    let h = c.requires.2 in
    let named = named_digest c.requires.0 in
    let p = parted _ _ _ h in
    let told : c.read-head.result ≡ told_of_property c.requires.0 = c.read-head.ensures c.requires.0
    (record { fits = h.fits; head = p.head }) in
    let alg : c.words_for.result ≡ words_for (length named.alg) = c.words_for.ensures.words
    ∙ ap (λ (t : PropertyHead). words_for t.alg_len) told in
    let digest : c.words_for-2.result ≡ words_for (length named.bytes) = c.words_for-2.ensures.words
    ∙ ap (λ (t : PropertyHead). words_for t.digest_len) told in
    let back : c.split_at.result.1.now ≡ drop c.words_for.result (drop 1 c.args.words.now) =
    c.split_at.ensures.back ∙ ap (drop c.words_for.result) (take_rest c.args.words.now 1) in
    let count : length c.split_at.result.1.now ≡ length c.args.words.now - 1 - c.words_for.result = ap length back
    ∙ length-drop c.words_for.result (drop 1 c.args.words.now)
    ∙ ap (λ (n : ℕ). n - c.words_for.result) (length-drop 1 c.args.words.now) in
    let total = p.total in
    omega arith

pub returns-clause-property : goal.returns-clause-property
returns-clause-property c property behind h =
    let p = parted _ _ _ h in
    let told : c.read-head.result ≡ told_of_property property = c.read-head.ensures property
    (record { fits = h.fits; head = p.head }) in
    let n : length (byte_words (named_digest property).alg) ≡ c.words_for.result = p.alg_len
    ∙ sym (c.words_for.ensures.words ∙ ap (λ (t : PropertyHead). words_for t.alg_len) told) in
    let m : length (byte_words (named_digest property).bytes) ≡ c.words_for-2.result = p.digest_len
    ∙ sym (c.words_for-2.ensures.words ∙ ap (λ (t : PropertyHead). words_for t.digest_len) told) in
    let s = split _ _ _ _ _ _ _ _ _ _ (take_rest c.args.words.now 1
    ∙ p.rest) n m c.split_at.ensures.front c.split_at.ensures.back c.split_at-2.ensures.front
    c.split_at-2.ensures.back in
    record { fits = h.fits; head_is = told; alg_is = s.alg_is; digest_is = s.digest_is }

pub returns-clause-behind : goal.returns-clause-behind
returns-clause-behind c property behind h =
    let p = parted _ _ _ h in
    let told : c.read-head.result ≡ told_of_property property = c.read-head.ensures property
    (record { fits = h.fits; head = p.head }) in
    let n : length (byte_words (named_digest property).alg) ≡ c.words_for.result = p.alg_len
    ∙ sym (c.words_for.ensures.words ∙ ap (λ (t : PropertyHead). words_for t.alg_len) told) in
    let m : length (byte_words (named_digest property).bytes) ≡ c.words_for-2.result = p.digest_len
    ∙ sym (c.words_for-2.ensures.words ∙ ap (λ (t : PropertyHead). words_for t.digest_len) told) in
    (split _ _ _ _ _ _ _ _ _ _ (take_rest c.args.words.now 1
    ∙ p.rest) n m c.split_at.ensures.front c.split_at.ensures.back c.split_at-2.ensures.front
    c.split_at-2.ensures.back).behind_is
