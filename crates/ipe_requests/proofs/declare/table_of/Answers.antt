use Rattle.std.proofs.Common.{subst}
use Rattle.dmv_volume.specs.Table.{IsReason}
use Rattle.dmv_volume.specs.declared.table.TableError.{TableError}
use Rattle.line_words.specs.Lines.{words_of}
use Rattle.ipe_requests.proofs.Tables.{table-read, table-refused}
use Rattle.ipe_requests.proofs.declare.table_of.Goals as goal

pub returns-in-Ok : goal.returns-in-Ok
returns-in-Ok c =
    table-read (words_of c.args.text.now) c.in-Ok.table c.in-Ok.ensures.whole c.in-Ok.ensures.says c.in-Ok.ensures.limits

pub returns-in-Err-Bad : goal.returns-in-Err-Bad
returns-in-Err-Bad c =
    table-refused (words_of c.args.text.now) c.in-Err-Bad.field-0-0
    c.lines_are_whole_or_have_one_bad_word.ensures.whole
    (subst (λ (e : TableError). IsReason (words_of c.args.text.now) e) c.in-Err-Bad.field-0-is c.in-Err-Bad.ensures.bad)
