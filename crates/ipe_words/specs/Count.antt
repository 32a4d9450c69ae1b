-- Counts of faults.
use Rattle.std.specs.Prelude.{ℕ, ◌+◌, ◌-◌, ◌^◌, ◌≤◌, min}

-- a count after one more; at the end of its type, 2^64 - 1, it stands still
abbrev pub counted : ℕ → ℕ
counted count = min (count + 1) (2 ^ 64 - 1)

-- the count has risen, or it stands at the end of its type
abbrev pub Rose : ℕ → ℕ → Type 0
Rose old new = counted old ≤ new

-- a reader or a writer, and how many of the calls on it have failed
pub record Adapter (A : Type 0) : Type 0 where
  pub inner : A
  pub faults : ℕ
