-- Lines and tokens of a policy text, as whole lists (kernel admin-guide/LSM/ipe.rst, "IPE Policy").
use Rattle.std.specs.Prelude.{ℕ, ◌+◌, ◌==◌, ◌||◌, Bool, false, not, if◌then◌else◌, List, [], ◌∷◌, length}
use Rattle.std.specs.List.{onto_first, before_first}
use Rattle.line_words.specs.Lines.{is_line_feed}

-- the lines of a text, each without its line feed; a last one without a line feed is a line too
abbrev pub lines_of : List ℕ → List (List ℕ)
lines_of [] = []
lines_of (byte ∷ bytes) = if is_line_feed byte then [] ∷ lines_of bytes else onto_first byte (lines_of bytes)

-- the number sign, which begins a comment
abbrev pub is_comment_sign : ℕ → Bool
is_comment_sign byte = byte == 35

-- a line without its comment
abbrev pub uncommented : List ℕ → List ℕ
uncommented line = before_first is_comment_sign line

-- blank, tab and carriage return part tokens
abbrev pub is_separator : ℕ → Bool
is_separator byte = (byte == 32) || (byte == 9) || (byte == 13)

-- any other byte is part of a token
abbrev pub is_in_token : ℕ → Bool
is_in_token byte = not (is_separator byte)

-- the first byte, if there is one, is part of a token
abbrev pub goes_on : List ℕ → Bool
goes_on [] = false
goes_on (byte ∷ bytes) = is_in_token byte

-- the tokens of a line: its longest runs of bytes that are no separators
abbrev pub tokens_of : List ℕ → List (List ℕ)
tokens_of [] = []
tokens_of (byte ∷ bytes) =
    if is_separator byte then tokens_of bytes
    else if goes_on bytes then onto_first byte (tokens_of bytes)
    else (byte ∷ []) ∷ tokens_of bytes

-- a line with its number from 1, and the place of its first byte in the text
pub record PlacedLine : Type 0 where
  pub number : ℕ
  pub start : ℕ
  pub bytes : List ℕ

-- a token, and the place of its first byte in the text
pub record PlacedToken : Type 0 where
  pub start : ℕ
  pub bytes : List ℕ

-- lines with their numbers and places, without their comments; the first has this number and place
abbrev pub placed_lines : ℕ → ℕ → List (List ℕ) → List PlacedLine
placed_lines number start [] = []
placed_lines number start (line ∷ lines) =
    record { number = number; start = start; bytes = uncommented line }
    ∷ placed_lines (number + 1) (start + length line + 1) lines

-- one more byte before the first token, which then begins here
abbrev pub onto_token : ℕ → ℕ → List PlacedToken → List PlacedToken
onto_token start byte [] = record { start = start; bytes = byte ∷ [] } ∷ []
onto_token start byte (token ∷ tokens) = record { start = start; bytes = byte ∷ token.bytes } ∷ tokens

-- the tokens of a line that begins at this place, with their places
abbrev pub placed_tokens : ℕ → List ℕ → List PlacedToken
placed_tokens start [] = []
placed_tokens start (byte ∷ bytes) =
    if is_separator byte then placed_tokens (start + 1) bytes
    else if goes_on bytes then onto_token start byte (placed_tokens (start + 1) bytes)
    else record { start = start; bytes = byte ∷ [] } ∷ placed_tokens (start + 1) bytes
