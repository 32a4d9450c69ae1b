use Rattle.std.proofs.Common.{arith, sym}
use Rattle.std.proofs.lemmas.Bool.{ltb-false, ltb-true}
use Rattle.ipe_parse.proofs.HeaderLemmas.{few-tokens, many-tokens}
use Rattle.ipe_parse.proofs.header_line.header_of.Goals as goal
use Rattle.ipe_parse.proofs.header_line.header_of.Goals.{in_default-via-then-tokens-lt2, in_default-via-else-tokens-lt2+else-tokens-lt3}

pub returns-in_default : goal.returns-in_default
returns-in_default c =
    elim c.in_default.branch [
      | in_default-via-then-tokens-lt2 w ↦ sym (few-tokens c.args.tokens.now (omega (arith, ltb-true, ltb-false)))
      | in_default-via-else-tokens-lt2+else-tokens-lt3 w ↦ sym (many-tokens c.args.tokens.now (omega (arith, ltb-true, ltb-false)))
    ]
