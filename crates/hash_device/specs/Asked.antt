-- What the program's arguments ask of it.
use Rattle.std.specs.Prelude.{ℕ, List, [], ◌∷◌, Option, None}
use Rattle.ipe_tasks.specs.Asked.{tree_by}
use Rattle.ipe_tasks.specs.declared.task.Task.{Task}
use Rattle.ipe_tasks.specs.declared.tree.TreePart.TheVariants.{HashBlocks}

-- hash blocks are asked for by three arguments: the size of a block, the salt and the device
abbrev pub asked_by : List (List ℕ) → Option Task
asked_by [] = None
asked_by (size ∷ []) = None
asked_by (size ∷ salt ∷ []) = None
asked_by (size ∷ salt ∷ device ∷ []) = tree_by HashBlocks size salt device
asked_by (size ∷ salt ∷ device ∷ next ∷ arguments) = None
