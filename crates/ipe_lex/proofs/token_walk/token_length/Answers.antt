use Rattle.ipe_lex.specs.Lines.{is_separator}
use Rattle.ipe_lex.proofs.Cuts.{unwrap_or-position}
use Rattle.ipe_lex.proofs.token_walk.token_length.Goals as goal

pub returns-clause-length : goal.returns-clause-length
returns-clause-length c =
    let found = unwrap_or-position is_separator c.args.bytes.now in
    rw (c.unwrap_or.ensures, c.separator_start.ensures) found
