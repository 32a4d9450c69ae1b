-- What a source gives.
use Rattle.std.specs.Prelude.{◌≡◌, ℕ, ◌<◌, ◌≤◌, List, [], length, take, drop, Option, Some, IfSome}

-- n bytes came from the front of what was left; none came only into an empty buffer or at the end
pub record Gives (left : List ℕ) (rest : Option (List ℕ)) (buf : List ℕ) (n : ℕ) : Type 0 where
  pub within : n ≤ length left
  pub bytes : take n buf ≡ take n left
  pub rest_is : rest ≡ Some (drop n left)
  pub at_end : n ≡ 0 → 0 < length buf → left ≡ []

-- the same, where the source tells what is left
abbrev pub GivesTold : Option (List ℕ) → Option (List ℕ) → List ℕ → ℕ → Type 0
GivesTold left rest buf n = IfSome left (λ bytes. Gives bytes rest buf n)

-- all that was left was taken, and it is these bytes
abbrev pub TakesAll : Option (List ℕ) → Option (List ℕ) → List ℕ → Type 0
TakesAll left rest bytes = IfSome left (λ all. (bytes ≡ all) × (rest ≡ Some []))

-- where the source tells what is left, some first bytes of it were taken, and the rest is left
abbrev pub LeavesRest : Option (List ℕ) → Option (List ℕ) → Type 0
LeavesRest before after = IfSome before (λ left. (k : ℕ) × (k ≤ length left) × (after ≡ Some (drop k left)))
