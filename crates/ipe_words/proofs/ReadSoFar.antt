-- What a loop of reads has taken from a source so far.
use Rattle.std.proofs.Common.{◌≡◌, ◌∙◌, ℕ, ◌+◌, List, ◌++◌, length, drop, Option, None, Some, IfSome, ap, sym, subst, arith, length-append}
use Rattle.std.proofs.Math.Seq.{drop-append-add}
use Rattle.ipe_words.specs.Source.{Gives, GivesTold, LeavesRest}

-- these bytes stood before what is left, where the source tells it
abbrev pub Took : Option (List ℕ) → Option (List ℕ) → List ℕ → Type 0
Took before now bytes = IfSome before (λ left. (rest : List ℕ) × (now ≡ Some rest) × (left ≡ bytes ++ rest))

-- a call that gave n bytes after these leaves a rest of what was there
pub LeavesRest-from_took : (before now next : Option (List ℕ)) (bytes buf : List ℕ) (n : ℕ) → Took before now bytes → GivesTold now next buf n → LeavesRest before next
LeavesRest-from_took None now next bytes buf n took gives = tt
LeavesRest-from_took (Some left) now next bytes buf n took gives =
    let rest : List ℕ = took.0 in
    let given : Gives rest next buf n = subst (λ (o : Option (List ℕ)). GivesTold o next buf n) took.1 gives in
    let whole : left ≡ bytes ++ rest = took.2 in
    let lengths : length left ≡ length bytes + length rest = ap length whole ∙ length-append bytes rest in
    (length bytes + n, omega (arith, given.within), given.rest_is ∙ ap Some (sym (drop-append-add bytes rest n) ∙ ap (drop (length bytes + n)) (sym whole)))
