use Rattle.std.proofs.Common.{◌≡◌, [], ◌∷◌, ◌++◌, drop}
use Rattle.std.specs.List.{flat_map}
use Rattle.ipe_policy.specs.Spelling.{statement_text}
use Rattle.ipe_policy.proofs.spelling.append_statements.Given as goal

-- the text so far and the rest make the whole text
abbrev pub invariant-loop-statement : goal.invariant-loop-statement
invariant-loop-statement l =
    l.text.items ++ flat_map (λ statement. statement_text statement ++ 10 ∷ []) (drop l.statement-index l.statements) ≡ l.initial.text.items ++ flat_map (λ statement. statement_text statement ++ 10 ∷ []) l.statements
