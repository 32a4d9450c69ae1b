-- What the program's arguments ask of it.
use Rattle.std.specs.Prelude.{⊤, ℕ, codes, if◌then◌else◌, List, [], ◌∷◌, Option, Some, None}
use Rattle.std.specs.Option.{option_map}
use Rattle.ipe_program.specs.declared.asked.Asked.{Asked}
use Rattle.ipe_program.specs.declared.asked.Asked.TheVariants.{Replay, Sim, Alone}
use Rattle.ipe_tasks.specs.Asked.{HasTaskRule, measure_by, tree_by}
use Rattle.ipe_tasks.specs.declared.task.Task.TheVariants.{Lint}
use Rattle.ipe_tasks.specs.declared.tree.TreePart.TheVariants.{Root}
use Rattle.line_words.specs.Words.{is_text, number_of}

-- the seed of a roll-out: a number below 2 ^ 64, without leading zeros
abbrev pub seed_of : List ℕ → Option ℕ
seed_of word = number_of 18446744073709551615 word

-- what the arguments ask for: `replay` or `lint` alone, `sim` and a seed, `measure` and two more, or `root` and three more
abbrev pub asked_by : List (List ℕ) → Option Asked
asked_by [] = None
asked_by (word ∷ []) =
    if is_text (codes "replay") word then Some Replay
    else if is_text (codes "lint") word then Some (Alone Lint)
    else None
asked_by (word ∷ seed ∷ []) = if is_text (codes "sim") word then option_map Sim (seed_of seed) else None
asked_by (word ∷ size ∷ salt ∷ []) =
    if is_text (codes "measure") word then option_map Alone (measure_by size salt) else None
asked_by (word ∷ size ∷ salt ∷ device ∷ []) =
    if is_text (codes "root") word then option_map Alone (tree_by Root size salt device) else None
asked_by (word ∷ size ∷ salt ∷ device ∷ next ∷ words) = None

-- the same of all that is asked for
abbrev pub HasRule : Asked → Type 0
HasRule Replay = ⊤
HasRule (Sim seed) = ⊤
HasRule (Alone task) = HasTaskRule task
