use Rattle.std.proofs.Common.{◌≡◌, ◌∙◌, ◌+◌, ◌<◌, [], ◌++◌, ◌∷◌, List, ℕ, map, drop, get_or, slice_get, ap, sym, arith, append_assoc}
use Rattle.std.proofs.lemmas.List.{at_drop_more}
use Rattle.ipe_policy.specs.declared.op.Op.{Op}
use Rattle.ipe_policy.specs.declared.op.Op.TheVariants.{Execute}
use Rattle.ipe_policy.specs.Policy.{op_defaults}
use Rattle.ipe_policy.specs.Statement.{operations}
use Rattle.ipe_image.specs.Image.{default_word}
use Rattle.ipe_image.proofs.compiling.append_defaults.Goals as goal

pub loop-op-preserved : goal.loop-op-preserved
loop-op-preserved c =
    let i = c.loop-op.op-index in
    let items = c.args.items.now in
    let word : Op → ℕ = λ op. default_word (slice_get (op_defaults op items) 0) in
    let some : i < 7 = omega arith in
    let more = map word (drop (i + 1) operations) in
    let made : c.default_word.result ≡ word (get_or operations i Execute) = c.default_word.ensures
    ∙ ap default_word c.op_default.ensures in
    let next : map word (drop i operations) ≡ word (get_or operations i Execute) ∷ more =
    at_drop_more (map word) operations i Execute some in
    ap (λ (ws : List ℕ). ws ++ more) c.in_ok-push.ensures.items
    ∙ append_assoc c.loop-op.image.items (c.default_word.result ∷ []) more
    ∙ ap (λ (w : ℕ). c.loop-op.image.items ++ w ∷ more) made
    ∙ ap (λ (ws : List ℕ). c.loop-op.image.items ++ ws) (sym next)
    ∙ c.loop-op.invariant
