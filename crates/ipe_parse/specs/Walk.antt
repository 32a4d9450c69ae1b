-- What the functions that go over the lines of a text have left to read.
use Rattle.std.specs.Prelude.{◌≡◌, ◌<◌, List, [], ◌∷◌, length, map, filter, Option, Some, None}
use Rattle.ipe_lex.specs.Lines.{PlacedLine, tokens_of}
use Rattle.ipe_lex.specs.Walks.{lines_left}
use Rattle.ipe_lex.specs.declared.line_walk.LineWalk.{LineWalk}
use Rattle.ipe_parse.specs.declared.spoken.Spoken.{Spoken}
use Rattle.ipe_parse.specs.Lines.{words}
use Rattle.ipe_parse.specs.Reading.{SpokenLine, is_spoken}

-- the tokens of lines, with their numbers
abbrev pub spoken_of : PlacedLine → SpokenLine
spoken_of line = record { number = line.number; tokens = tokens_of line.bytes }

-- the lines with tokens that a walk has left
abbrev pub spoken_left : LineWalk → List SpokenLine
spoken_left walk = filter is_spoken (map spoken_of (lines_left walk))

-- a line with tokens, without where they lie in memory
abbrev pub spoken_line : Spoken → SpokenLine
spoken_line line = record { number = line.number; tokens = words line.tokens.items }

-- the first line with tokens was taken off, or there is none
abbrev pub TakesSpoken : LineWalk → Option Spoken → LineWalk → Type 0
TakesSpoken before None after = spoken_left before ≡ []
TakesSpoken before (Some line) after =
    (spoken_left before ≡ spoken_line line ∷ spoken_left after)
    × (length (lines_left after) < length (lines_left before))
