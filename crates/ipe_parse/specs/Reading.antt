-- What a policy text says: the policy that it reads as, or its first fault. Lines are examined from the top, and the
-- first line with a fault decides.
use Rattle.std.specs.Prelude.{◌≡◌, ℕ, Bool, nat_lt, if◌then◌else◌, List, [], ◌∷◌, ◌++◌, length, map, Option, Some, None, Result, Ok, Err}
use Rattle.std.specs.List.{filter, enumerate_from}
use Rattle.ipe_lex.specs.Lines.{lines_of, uncommented, tokens_of}
use Rattle.ipe_policy.specs.declared.op.Op.{Op}
use Rattle.ipe_policy.specs.declared.statement.Statement.{Statement}
use Rattle.ipe_policy.specs.Policy.{PolicyParts}
use Rattle.ipe_parse.specs.declared.error.BadKind.{BadKind}
use Rattle.ipe_parse.specs.declared.error.BadKind.TheVariants.{NoHeader, TwiceDefault}
use Rattle.ipe_parse.specs.declared.error.BadText.{BadText}
use Rattle.ipe_parse.specs.declared.error.BadText.TheVariants.{Bad, NoDefault}
use Rattle.ipe_parse.specs.declared.error.ParseError.{ParseError}
use Rattle.ipe_parse.specs.declared.error.ParseError.TheVariants as error
use Rattle.ipe_parse.specs.declared.header.Header.{Header}
use Rattle.ipe_parse.specs.Tokens.{◌>>=◌, header_of, statement_of}
use Rattle.ipe_parse.specs.Defaults.{first_missing, repeats_default}

-- a line as its tokens, with its number from 1
pub record SpokenLine : Type 0 where
  pub number : ℕ
  pub tokens : List (List ℕ)

-- a line with a token
abbrev pub is_spoken : SpokenLine → Bool
is_spoken line = nat_lt 0 (length line.tokens)

-- the lines that have tokens, as their tokens, each with its number from 1
abbrev pub spoken_lines : List ℕ → List SpokenLine
spoken_lines text =
    filter is_spoken (map
    (λ (line : ℕ × List ℕ). record { number = line.0; tokens = tokens_of (uncommented line.1) })
    (enumerate_from 1 (lines_of text)))

-- a statement that repeats no default
abbrev pub not_twice : List Statement → Result Statement BadKind → Result Statement BadKind
not_twice before (Ok statement) = if repeats_default before statement then Err TwiceDefault else Ok statement
not_twice before (Err kind) = Err kind

-- the fault of a line
abbrev pub at_line : {A : Type 0} → ℕ → Result A BadKind → Result A BadText
at_line number (Ok x) = Ok x
at_line number (Err kind) = Err (Bad number kind)

-- the statement of a line, after the statements of the lines before it
abbrev pub next_statement : List Statement → SpokenLine → Result Statement BadText
next_statement before line = at_line line.number (not_twice before (statement_of line.tokens))

-- the statements of lines, after those before them, or the first fault
abbrev pub statements_from : List Statement → List SpokenLine → Result (List Statement) BadText
statements_from before [] = Ok before
statements_from before (line ∷ lines) =
    next_statement before line >>= λ statement. statements_from (before ++ statement ∷ []) lines

-- the policy of a header and statements, where no operation is left without a default
abbrev pub completed : Header → List Statement → Option Op → Result PolicyParts BadText
completed header items None = Ok (record { name = header.name; version = header.version; items = items })
completed header items (Some op) = Err (NoDefault op)

-- what the lines with tokens say: a header, and then statements
abbrev pub reading_of_lines : List SpokenLine → Result PolicyParts BadText
reading_of_lines [] = Err (Bad 1 NoHeader)
reading_of_lines (line ∷ lines) =
    at_line line.number (header_of line.tokens) >>= λ header.
    statements_from [] lines >>= λ items.
    completed header items (first_missing items)

-- what a text says: the policy that it reads as, or its first fault
unfoldable pub reading : List ℕ → Result PolicyParts BadText
reading text = reading_of_lines (spoken_lines text)

-- what a function gave, seen by view, is what was read, unless memory runs out
abbrev pub Gives : {X Y : Type 0} → (X → Y) → Result X ParseError → Result Y BadText → Type 0
Gives view (Ok x) read = read ≡ Ok (view x)
Gives view (Err (error.Bad line kind)) read = read ≡ Err (Bad line kind)
Gives view (Err (error.NoDefault missing)) read = read ≡ Err (NoDefault missing)
Gives view (Err error.NoMemory) read = Unit {0}

-- an answer of `parse` is the reading, unless memory runs out
abbrev pub IsReading : Result PolicyParts ParseError → Result PolicyParts BadText → Type 0
IsReading result read = Gives (λ policy. policy) result read
