-- What a sink takes.
use Rattle.std.specs.Prelude.{◌≡◌, ℕ, ◌≤◌, List, ◌++◌, length, take, Option, Some, IfSome}

-- where the sink tells what is written, these bytes were added to it
abbrev pub Appends : Option (List ℕ) → Option (List ℕ) → List ℕ → Type 0
Appends before after bytes = IfSome before (λ text. after ≡ Some (text ++ bytes))

-- where the sink tells what is written, some first bytes of these were added to it
abbrev pub AppendsPrefix : Option (List ℕ) → Option (List ℕ) → List ℕ → Type 0
AppendsPrefix before after bytes = IfSome before (λ text.
    (k : ℕ) × (k ≤ length bytes) × (after ≡ Some (text ++ take k bytes)))
