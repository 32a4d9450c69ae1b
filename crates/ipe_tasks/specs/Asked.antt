-- How arguments ask for a task.
use Rattle.std.specs.Prelude.{⊤, ℕ, ◌≤◌, Bool, ◌==◌, if◌then◌else◌, IsTrue, List, length, Option, Some, None}
use Rattle.std.specs.Option.{option_and_then}
use Rattle.dmv_tree.specs.Blocks.{is_block_size}
use Rattle.dmv_tree.specs.Words.{block_size_of, salt_of}
use Rattle.fsv_tree.specs.Blocks.{is_file_block_size}
use Rattle.ipe_tasks.specs.declared.task.Task.{Task}
use Rattle.ipe_tasks.specs.declared.task.Task.TheVariants.{Lint, Measure, Tree}
use Rattle.ipe_tasks.specs.declared.tree.TreePart.{TreePart}
use Rattle.line_words.specs.Words.{is_visible, is_word}

-- the size of a block of a file, in bytes: one of a device's, but not the smallest
abbrev pub file_block_size_of : List ℕ → Option ℕ
file_block_size_of word = option_and_then (λ size. if size == 512 then None else Some size) (block_size_of word)

-- a device: 1 to 255 visible bytes
abbrev pub is_device : List ℕ → Bool
is_device word = is_word 1 255 is_visible word

-- a file is measured where both are right
abbrev pub measure_of : Option ℕ → Option (List ℕ) → Option Task
measure_of None salt = None
measure_of (Some size) None = None
measure_of (Some size) (Some salt) = Some (Measure (record { block_size = size; salt = salt }))

-- what two arguments ask to be measured with: the size of a block and the salt of at most 32 bytes
abbrev pub measure_by : List ℕ → List ℕ → Option Task
measure_by size salt = measure_of (file_block_size_of size) (salt_of 64 salt)

-- a part of a tree is asked for where all three are right
abbrev pub tree_of : TreePart → Option ℕ → Option (List ℕ) → List ℕ → Option Task
tree_of part None salt device = None
tree_of part (Some size) None device = None
tree_of part (Some size) (Some salt) device =
    if is_device device then Some (Tree part (record { block_size = size; salt = salt; device = device })) else None

-- the tree that three arguments ask for: the size of a block, the salt of at most 256 bytes and the device
abbrev pub tree_by : TreePart → List ℕ → List ℕ → List ℕ → Option Task
tree_by part size salt device = tree_of part (block_size_of size) (salt_of 512 salt) device

-- the sizes, salts and devices that may be asked for
abbrev pub HasTaskRule : Task → Type 0
HasTaskRule Lint = ⊤
HasTaskRule (Measure tree) = IsTrue (is_file_block_size tree.block_size) × (length tree.salt ≤ 32)
HasTaskRule (Tree part tree) =
    IsTrue (is_block_size tree.block_size) × (length tree.salt ≤ 256) × IsTrue (is_device tree.device)
