-- Entries in the order of the keys by which they are filed.
use Rattle.std.specs.Prelude.{◌≡◌, ℕ, ◌<◌, ◌==◌, ◌⊎◌, cond, List, [], ◌∷◌, map, Option, Some, None}
use Rattle.std.specs.List.{AllByRecursion}
use Rattle.std.specs.List.Sorted.{IsPermutation}
use Rattle.std.specs.Option.{option_or}
use Rattle.ipe_transcript.specs.Keys.{Key, IsBefore}

-- the key of the latest of these entries that is of this actor and has one; the entries are given latest first
abbrev pub latest_key : {X : Type 0} → (X → ℕ) → (X → Option Key) → ℕ → List X → Option Key
latest_key actor key a [] = None
latest_key actor key a (entry ∷ before) =
    cond (actor entry == a) (option_or (key entry) (latest_key actor key a before)) (latest_key actor key a before)

-- an entry is filed by its own key, else by that of its actor's latest entry that has one; those before it are given
-- latest first
abbrev pub filed_key : {X : Type 0} → (X → ℕ) → (X → Option Key) → List X → X → Option Key
filed_key actor key before entry = option_or (key entry) (latest_key actor key (actor entry) before)

-- each entry with the key by which it is filed, after those before
abbrev pub filed : {X : Type 0} → (X → ℕ) → (X → Option Key) → List X → List X → List (Option Key × X)
filed actor key before [] = []
filed actor key before (entry ∷ entries) =
    (filed_key actor key before entry, entry) ∷ filed actor key (entry ∷ before) entries

-- what is filed without a key stands before all that has one
abbrev pub IsKeyBefore : Option Key → Option Key → Type 0
IsKeyBefore None None = ⊥
IsKeyBefore None (Some b) = Unit {0}
IsKeyBefore (Some a) None = ⊥
IsKeyBefore (Some a) (Some b) = IsBefore a b

-- filed entries stand by their keys, under one key by actor, and each actor's by line
abbrev pub IsFiledBefore : {X : Type 0} → (X → ℕ) → (X → ℕ) → Option Key × X → Option Key × X → Type 0
IsFiledBefore actor line x y =
    IsKeyBefore x.0 y.0
    ⊎ ((x.0 ≡ y.0) × ((actor x.1 < actor y.1) ⊎ ((actor x.1 ≡ actor y.1) × (line x.1 < line y.1))))

-- none that follows another belongs before it
abbrev pub StandInOrder : {X : Type 0} → (X → X → Type 0) → List X → Type 0
StandInOrder {X = X} before [] = Unit {0}
StandInOrder {X = X} before (x ∷ xs) = AllByRecursion (λ (y : X). before y x → ⊥) xs × StandInOrder before xs

-- lines rise from each entry to the next
abbrev pub LinesRise : {X : Type 0} → (X → ℕ) → List X → Type 0
LinesRise line [] = Unit {0}
LinesRise line (x ∷ []) = Unit {0}
LinesRise line (x ∷ next ∷ xs) = (line x < line next) × LinesRise line (next ∷ xs)

-- entries are put in order: they are filed as they come, and stand as they are filed
pub record AreFiled {X : Type 0} (actor line : X → ℕ) (key : X → Option Key) (entries ordered : List X) : Type 0 where
  pub by : List (Option Key × X)
  pub same : IsPermutation (filed actor key [] entries) by
  pub in_order : StandInOrder (IsFiledBefore actor line) by
  pub ordered_are : ordered ≡ map (λ (x : Option Key × X). x.1) by
