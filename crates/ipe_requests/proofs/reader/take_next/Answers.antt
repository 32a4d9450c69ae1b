use Rattle.std.proofs.Common.{sym, ◌∙◌}
use Rattle.ipe_requests.proofs.Declares.{read_line-new}
use Rattle.ipe_requests.proofs.reader.take_next.Goals as goal

pub take_line-requires : goal.take_line-requires
take_line-requires c =
    read_line-new c.args.known.now c.args.bytes.now c.in-Ok.line (sym c.in_ok-line.ensures ∙ c.in-Ok.is)
