use Rattle.std.proofs.Common.{◌≡◌, ◌∙◌, ◌++◌, codes, List, ℕ, ap, append_assoc}
use Rattle.std.specs.Prelude.{OnOk, Result, Ok, Err, is_ok, if◌then◌else◌}
use Rattle.hex.specs.Hex.{encode_lower}
use Rattle.ipe_image.specs.declared.head.PropertyHead.{PropertyHead}
use Rattle.ipe_image.specs.Image.{named_digest}
use Rattle.ipe_image.proofs.Bytes.{bytes-told}
use Rattle.ipe_image.proofs.Sizes.{property-bounds}
use Rattle.ipe_image.proofs.wording.append_digest.Goals as goal

-- what was put after, where memory was there
on-ok : {A B : Type 0} (r : Result A B) (new all old text : List ℕ) → new ≡ (if is_ok r then all else old)
    → all ≡ text → OnOk r (new ≡ text)
on-ok (Ok _) new all old text e same = e ∙ same
on-ok (Err _) new all old text e same = tt

-- four parts put after a text one after another
append-parts : (old a b c d : List ℕ) → (((old ++ a) ++ b) ++ c) ++ d ≡ old ++ (a ++ ((b ++ c) ++ d))
append-parts old a b c d = simp append_assoc

pub returns : goal.returns
returns c named w =
    let old = c.args.text.now.items in
    let key = c.args.key.now in
    let digest = named_digest named in
    let alg_len = ap (λ (t : PropertyHead). t.alg_len) w.head_is in
    let len = ap (λ (t : PropertyHead). t.digest_len) w.head_is in
    let name : c.bytes_of-alg.result.items ≡ digest.alg = c.bytes_of-alg.ensures
    ∙ bytes-told digest.alg _ _ (property-bounds named w.fits).alg alg_len w.alg_is in
    let value : c.bytes_of-digest.result.items ≡ digest.bytes = c.bytes_of-digest.ensures
    ∙ bytes-told digest.bytes _ _ (property-bounds named w.fits).bytes len w.digest_is in
    let hex : c.as_bytes.result.now ≡ encode_lower digest.bytes = c.as_bytes.ensures.value ∙ c.in_ok-hex.ensures
    ∙ ap encode_lower (c.as_slice.ensures.value ∙ value) in
    let alg : c.as_slice-2.result.now ≡ digest.alg = c.as_slice-2.ensures.value ∙ name in
    let first : c.extend_from_slice.new.self.items ≡ old ++ key = c.in_ok-extend_from_slice.ensures.items in
    let second : c.extend_from_slice-2.new.self.items ≡ (old ++ key) ++ digest.alg =
    c.in_ok-extend_from_slice-2.ensures.items ∙ ap (λ (ws : List ℕ). ws ++ c.as_slice-2.result.now) first
    ∙ ap (λ (ws : List ℕ). (old ++ key) ++ ws) alg in
    let third : c.extend_from_slice-3.new.self.items ≡ ((old ++ key) ++ digest.alg) ++ codes ":" =
    c.in_ok-extend_from_slice-3.ensures.items ∙ ap (λ (ws : List ℕ). ws ++ codes ":") second in
    on-ok c.extend_from_slice-4.result _ _ _ _ c.extend_from_slice-4.ensures.items
    (ap (λ (ws : List ℕ). ws ++ c.as_bytes.result.now) third
    ∙ ap (λ (ws : List ℕ). (((old ++ key) ++ digest.alg) ++ codes ":") ++ ws) hex
    ∙ append-parts old key digest.alg (codes ":") (encode_lower digest.bytes))
