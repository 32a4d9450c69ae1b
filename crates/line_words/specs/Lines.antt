-- Lines, and the words of a line.
use Rattle.std.specs.Prelude.{◌≡◌, ℕ, ◌<◌, ◌==◌, Bool, List, [], ◌∷◌, ◌++◌, length, map}
use Rattle.std.specs.Borrow.{Bor}
use Rattle.std.specs.List.{slice_split}

-- the byte that ends a line
abbrev pub is_line_feed : ℕ → Bool
is_line_feed byte = byte == 10

-- the byte that parts two words
abbrev pub is_blank : ℕ → Bool
is_blank byte = byte == 32

-- the words of a line: what stands between its blanks, and an empty word is one too
abbrev pub words_of : List ℕ → List (List ℕ)
words_of line = slice_split is_blank line

-- words as they are seen through references
abbrev pub seen : List (Bor (List ℕ)) → List (List ℕ)
seen words = map (λ (word : Bor (List ℕ)). word.now) words

-- words parted by one blank
abbrev pub joined : List (List ℕ) → List ℕ
joined [] = []
joined (word ∷ []) = word
joined (word ∷ next ∷ words) = word ++ 32 ∷ joined (next ∷ words)

-- a text with a line feed after it
abbrev pub line_text : List ℕ → List ℕ
line_text text = text ++ 10 ∷ []

-- bytes are a line, a line feed, and the rest
pub record CutsLine (bytes line rest : List ℕ) : Type 0 where
  pub pieces : slice_split is_line_feed bytes ≡ line ∷ slice_split is_line_feed rest
  pub shorter : length rest < length bytes
