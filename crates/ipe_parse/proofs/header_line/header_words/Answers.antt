use Rattle.std.proofs.Common.{sym}
use Rattle.std.proofs.lemmas.Option.{cond_some}
use Rattle.ipe_parse.proofs.header_line.header_words.Goals as goal

pub returns-in-Some-Some : goal.returns-in-Some-Some
returns-in-Some-Some c =
    let name = cond_some _ _ _ (sym (rw c.in-Some-Some.is-0 at c.behind-name.ensures)) in
    let version = cond_some _ _ _ (sym (rw c.in-Some-Some.is-1 at c.behind-version.ensures)) in
    let parts = c.header_parts.ensures in
    rw (name.0, version.0, name.1, version.1) parts
