-- What the reader answers.
use Rattle.std.specs.Prelude.{◌≡◌, Option, Some, None, Result, Ok, Err}
use Rattle.ipe_requests.specs.declared.known.Known.{Known}
use Rattle.ipe_requests.specs.declared.line.ScriptKind.{ScriptKind}
use Rattle.ipe_requests.specs.declared.reader.ScriptError.{ScriptError}
use Rattle.ipe_requests.specs.declared.reader.ScriptError.TheVariants as error
use Rattle.ipe_requests.specs.Reading.{FirstBad}
use Rattle.ipe_requests.specs.Requests.{Script}

-- a line was taken, and what is known now is what it comes to; or this is wrong with it
abbrev pub Takes : Result Known ScriptKind → Known → Option ScriptKind → Type 0
Takes read new None = read ≡ Ok new
Takes read new (Some fault) = read ≡ Err fault

-- the answer is what the file declares and asks, or its first bad line, unless memory ran out
abbrev pub AnswersOrFails : Result Script ScriptError → Result Script FirstBad → Type 0
AnswersOrFails (Ok script) read = read ≡ Ok script
AnswersOrFails (Err (error.Bad line kind)) read = read ≡ Err (record { line = line; fault = kind })
AnswersOrFails (Err error.NoMemory) read = Unit {0}
