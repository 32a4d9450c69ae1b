-- What the walks over lines and tokens have left, as lists.
use Rattle.std.specs.Prelude.{List}
use Rattle.ipe_lex.specs.declared.line_walk.Line.{Line}
use Rattle.ipe_lex.specs.declared.line_walk.LineWalk.{LineWalk}
use Rattle.ipe_lex.specs.declared.token_walk.Token.{Token}
use Rattle.ipe_lex.specs.declared.token_walk.TokenWalk.{TokenWalk}
use Rattle.ipe_lex.specs.Lines.{PlacedLine, PlacedToken, lines_of, placed_lines, placed_tokens}

-- a line without where its bytes lie in memory
abbrev pub placed_line : Line → PlacedLine
placed_line line = record { number = line.number; start = line.start; bytes = line.bytes.now }

-- a token without where its bytes lie in memory
abbrev pub placed_token : Token → PlacedToken
placed_token token = record { start = token.start; bytes = token.bytes.now }

-- the lines that a walk has left
abbrev pub lines_left : LineWalk → List PlacedLine
lines_left walk = placed_lines walk.number walk.start (lines_of walk.rest.now)

-- the tokens that a walk has left
abbrev pub tokens_left : TokenWalk → List PlacedToken
tokens_left walk = placed_tokens walk.start walk.rest.now
