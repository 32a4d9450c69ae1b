use Rattle.std.proofs.Common.{◌≡◌, ◌∙◌, [], ◌++◌, ◌∷◌, List, ℕ, length, sum_by, ap, arith, append_assoc}
use Rattle.std.specs.Prelude.{OnOk, Result, Ok, Err, is_ok, if◌then◌else◌}
use Rattle.std.specs.List.{flat_map}
use Rattle.ipe_policy.specs.Spelling.{property_words}
use Rattle.ipe_image.specs.Image.{property_image, rule_head, rule_record}
use Rattle.ipe_image.proofs.Sizes.{length-properties}
use Rattle.ipe_image.proofs.record.append_rule.Goals as goal

-- what was put after, where memory was there
on-ok : {A B : Type 0} (r : Result A B) (new all old image : List ℕ) → new ≡ (if is_ok r then all else old)
    → all ≡ image → OnOk r (new ≡ image)
on-ok (Ok _) new all old image e same = e ∙ same
on-ok (Err _) new all old image e same = tt

pub returns : goal.returns
returns c =
    let props = c.args.props.now in
    let old = c.args.image.now.items in
    let words : c.property_words-words.result.items ≡ flat_map property_image props =
    c.property_words-words.ensures.words ∙ ap (flat_map property_image) c.as_slice-props.ensures.items in
    let many : length c.as_slice-props.result.now ≡ length props = ap length c.as_slice-props.ensures.items in
    let size : length c.property_words-words.result.items ≡ sum_by property_words props = ap length words
    ∙ length-properties props in
    let len = c.len.ensures.value in
    let head : c.rule_head-head.result ≡ rule_head c.args.number
    (record { op = c.args.op; properties = props; action = c.args.action }) = c.rule_head-head.ensures
    ∙ omega arith in
    let pushed : c.push.new.self.items ≡ old ++ c.rule_head-head.result ∷ [] = c.in_ok-push.ensures.items in
    let value : c.as_slice.result.now ≡ flat_map property_image props = c.as_slice.ensures.value ∙ words in
    let whole : c.push.new.self.items ++ c.as_slice.result.now ≡ old ++ rule_record c.args.number
    (record { op = c.args.op; properties = props; action = c.args.action }) =
    ap (λ (ws : List ℕ). ws ++ c.as_slice.result.now) pushed
    ∙ append_assoc old (c.rule_head-head.result ∷ []) c.as_slice.result.now
    ∙ ap (λ (h : ℕ). old ++ h ∷ c.as_slice.result.now) head
    ∙ ap (λ (ws : List ℕ). old ++ rule_head c.args.number
    (record { op = c.args.op; properties = props; action = c.args.action }) ∷ ws) value in
    on-ok c.extend_from_slice.result _ _ _ _ c.extend_from_slice.ensures.items whole
