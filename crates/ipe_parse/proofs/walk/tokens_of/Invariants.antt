use Rattle.std.proofs.Common.{◌≡◌, ◌++◌, map}
use Rattle.ipe_lex.specs.Lines.{PlacedToken, tokens_of}
use Rattle.ipe_lex.specs.Walks.{tokens_left}
use Rattle.ipe_parse.specs.Lines.{words}
use Rattle.ipe_parse.proofs.walk.tokens_of.Given as goal

abbrev pub invariant-loop-token : goal.invariant-loop-token
invariant-loop-token l =
    words l.found.items ++ map (λ (token : PlacedToken). token.bytes) (tokens_left l.token-iterator) ≡ tokens_of l.fn.line.bytes.now
