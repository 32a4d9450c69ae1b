use Rattle.std.proofs.Common.{◌≡◌, ℕ, List, [], ◌∷◌, ◌++◌, sym, ◌∙◌, append_assoc}
use Rattle.std.proofs.lemmas.Result.{IfOk-weaker}
use Rattle.std.specs.Fmt.{decimal}
use Rattle.std.specs.Prelude.{codes}
use Rattle.ipe_tasks.proofs.tree.shape_text.Goals as goal

-- texts that are put together from the right are those put together from the left
regroup : (a b c d e : List ℕ) → a ++ (b ++ (c ++ (d ++ e))) ≡ a ++ b ++ c ++ d ++ e
regroup a b c d e =
    sym (append_assoc (a ++ b ++ c) d e ∙ append_assoc (a ++ b) c (d ++ e) ∙ append_assoc a b (c ++ (d ++ e)))

pub returns : goal.returns
returns c =
    let whole = regroup (codes " levels=") (decimal c.args.levels) (codes " hash_blocks=") (decimal c.args.hash_blocks)
    (10 ∷ []) in
    IfOk-weaker c.format.result _ _ (λ text told. told ∙ whole) c.format.ensures.ok
