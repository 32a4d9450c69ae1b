-- What is told, by whether what was asked is done.
use Rattle.std.specs.Prelude.{ℕ, List}
use Rattle.ipe_tasks.specs.declared.told.Told.{Told}
use Rattle.ipe_tasks.specs.declared.told.Told.TheVariants.{Done, Refused}

-- the text of what is done is so, and that of what is refused is so
abbrev pub IsTold : (List ℕ → Type 0) → (List ℕ → Type 0) → Told → Type 0
IsTold IsDone IsRefused (Done text) = IsDone text.items
IsTold IsDone IsRefused (Refused text) = IsRefused text.items
