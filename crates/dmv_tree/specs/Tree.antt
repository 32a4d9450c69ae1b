-- Trees in memory.
use Rattle.std.specs.Prelude.{ℕ, List}

-- a tree: its root, and its stored bytes
pub record RootAndBytes : Type 0 where
  pub root : List ℕ
  pub bytes : List ℕ
