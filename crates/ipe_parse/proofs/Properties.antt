-- Reading the properties of a rule, one after another.
use Rattle.std.proofs.Common.{◌≡◌, ℕ, ◌-◌, List, ◌++◌, length, take, Result, Ok}
use Rattle.std.specs.List.{take-map}
use Rattle.std.proofs.lemmas.List.{length-map}
use Rattle.std.specs.Borrow.{Bor}
use Rattle.ipe_policy.specs.declared.statement.Property.{Property}
use Rattle.ipe_parse.specs.declared.error.BadKind.{BadKind}
use Rattle.ipe_parse.specs.Tokens.{◌>>=◌}
use Rattle.ipe_parse.specs.Lines.{words}

-- what is read, after what was read before it
abbrev pub with_front : List Property → Result (List Property) BadKind → Result (List Property) BadKind
with_front front read = read >>= λ properties. Ok (front ++ properties)

pub words-take : (tokens : List (Bor (List ℕ))) → words (take (length tokens - 1) tokens) ≡ take (length (words tokens) - 1) (words tokens)
words-take tokens = rw (length-map, take-map)
