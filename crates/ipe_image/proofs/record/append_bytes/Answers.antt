use Rattle.std.proofs.Common.{◌≡◌, ◌∙◌, ◌+◌, ◌-◌, ◌<◌, [], ◌++◌, ◌∷◌, List, ℕ, length, take, ap, arith, length-append, length-drop}
use Rattle.std.proofs.lemmas.Grind.{common_steps}
use Rattle.ipe_image.specs.Packing.{byte_words, word_of}
use Rattle.ipe_image.proofs.Compare.{drop-few, next-bytes}
use Rattle.ipe_image.proofs.record.append_bytes.Goals as goal

pub loop-rest-preserved : goal.loop-rest-preserved
loop-rest-preserved c =
    let some : 0 < length c.loop-rest.rest.now = grind (arith, common_steps) in
    let made : c.word_of.result ≡ word_of (take c.min.result c.loop-rest.rest.now) = c.word_of.ensures.word
    ∙ ap word_of c.split_at.ensures.front in
    let same = next-bytes c.loop-rest.words.items c.loop-rest.rest.now c.min.result c.min.ensures some in
    let pushed : c.push.new.self.items ≡ c.loop-rest.words.items ++ word_of
    (take c.min.result c.loop-rest.rest.now) ∷ [] = c.push.ensures.items
    ∙ ap (λ (w : ℕ). c.loop-rest.words.items ++ w ∷ []) made in
    let count : length c.push.new.self.items ≡ length c.loop-rest.words.items + 1 = ap length pushed
    ∙ length-append c.loop-rest.words.items (word_of (take c.min.result c.loop-rest.rest.now) ∷ []) in
    let left : length c.split_at.result.1.now ≡ length c.loop-rest.rest.now - 8 =
    ap length (c.split_at.ensures.back ∙ drop-few c.loop-rest.rest.now c.min.result c.min.ensures)
    ∙ length-drop 8 c.loop-rest.rest.now in
    let room = c.loop-rest.invariant.1 in (
      ap (λ (ws : List ℕ). ws ++ byte_words c.split_at.result.1.now) pushed
          ∙ ap (λ (bs : List ℕ). (c.loop-rest.words.items ++ word_of
          (take c.min.result c.loop-rest.rest.now) ∷ []) ++ byte_words bs) c.split_at.ensures.back
          ∙ same ∙ c.loop-rest.invariant.0,
      omega arith,
    )
