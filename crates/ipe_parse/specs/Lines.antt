-- What the functions that read a line give.
use Rattle.std.specs.Prelude.{◌≡◌, ℕ, List, map, Result, Ok, Err}
use Rattle.std.specs.Borrow.{Bor}
use Rattle.ipe_parse.specs.declared.error.BadKind.{BadKind}
use Rattle.ipe_parse.specs.declared.line_error.LineError.{LineError}
use Rattle.ipe_parse.specs.declared.line_error.LineError.TheVariants.{Bad, NoMemory}

-- tokens without where they lie in memory
abbrev pub words : List (Bor (List ℕ)) → List (List ℕ)
words tokens = map (λ token. token.now) tokens

-- an error of a line, unless memory runs out, is the kind that was read
abbrev pub LineFails : {Y : Type 0} → LineError → Result Y BadKind → Type 0
LineFails (Bad kind) read = read ≡ Err kind
LineFails NoMemory read = Unit {0}

-- what a function gave, seen by view, is what was read, unless memory runs out
abbrev pub LineGives : {X Y : Type 0} → (X → Y) → Result X LineError → Result Y BadKind → Type 0
LineGives view (Ok x) read = read ≡ Ok (view x)
LineGives view (Err error) read = LineFails error read
