use Rattle.std.proofs.Common.{◌≡◌, drop, vec_len}
use Rattle.ipe_parse.specs.Tokens.{properties_of}
use Rattle.ipe_parse.specs.Lines.{words}
use Rattle.ipe_parse.proofs.Properties.{with_front}
use Rattle.ipe_parse.proofs.line.properties_of.Given as goal

abbrev pub invariant-loop-token : goal.invariant-loop-token
invariant-loop-token l =
    (with_front l.properties.items (properties_of (words (drop l.token-index l.tokens))) ≡ properties_of (words l.tokens)) × (vec_len l.properties ≡ l.token-index)
