-- Where lines and tokens stand.
use Rattle.std.specs.Prelude.{◌≡◌, ℕ, ◌+◌, ◌-◌, ◌<◌, ◌≤◌, List, length, take, drop}
use Rattle.ipe_lex.specs.Lines.{PlacedLine, PlacedToken}

-- the bytes are those of the text from this place on
pub record StandsAt (text : List ℕ) (start : ℕ) (bytes : List ℕ) : Type 0 where
  pub within : start + length bytes ≤ length text
  pub same : take (length bytes) (drop start text) ≡ bytes

-- the line's bytes stand in the text at its start
abbrev pub IsLineOf : List ℕ → PlacedLine → Type 0
IsLineOf text line = StandsAt text line.start line.bytes

-- the token isn't empty, and its bytes stand at its start in these bytes, of which the first has this place
pub record IsTokenOf (start : ℕ) (bytes : List ℕ) (token : PlacedToken) : Type 0 where
  pub after : start ≤ token.start
  pub stands : StandsAt bytes (token.start - start) token.bytes
  pub not_empty : 0 < length token.bytes
