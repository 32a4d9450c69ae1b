-- Where names stand in a list.
use Rattle.std.specs.Prelude.{◌≡◌, ℕ, List, [], ◌∷◌, ◌++◌, if◌then◌else◌, is_some, position, slice_get, Option}
use Rattle.std.specs.Option.{option_and_then}
use Rattle.line_words.specs.Words.{is_text}

-- names, each once, and a place for each
pub record Placed : Type 0 where
  pub names : List (List ℕ)
  pub places : List ℕ

-- the place of a name
abbrev pub place_in : Placed → List ℕ → Option ℕ
place_in placed name = option_and_then (slice_get placed.places) (position (is_text name) placed.names)

-- with the place of a name, unless the name has one
abbrev pub with_place : Placed → List ℕ → ℕ → Placed
with_place placed name place =
    if is_some (position (is_text name) placed.names) then placed
    else record { names = placed.names ++ name ∷ []; places = placed.places ++ place ∷ [] }

-- each name's place is its first in this list
abbrev pub PlacesAre : Placed → List (List ℕ) → Type 0
PlacesAre placed names = (name : List ℕ) → place_in placed name ≡ position (is_text name) names
