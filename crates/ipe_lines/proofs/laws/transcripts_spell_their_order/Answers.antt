use Rattle.std.proofs.Common.{length, sym, subst, ap, ◌∙◌}
use Rattle.std.specs.List.{AllByRecursion}
use Rattle.ipe_lines.specs.Asked.{at_the_start, verdicts_of}
use Rattle.ipe_lines.specs.Files.{files_of}
use Rattle.ipe_lines.specs.Told.{told_phases}
use Rattle.ipe_lines.proofs.Spelling.{IsSpelled, phases_told, transcript_spelled}
use Rattle.ipe_lines.proofs.Words.{order_worded}
use Rattle.ipe_lines.proofs.laws.transcripts_spell_their_order.Goals as goal

pub returns : goal.returns
returns c = λ input script images history entries read few tell.
    let rules = c.requests_keep_their_rules.ensures in
    let files = files_of script images in
    let worded = order_worded script images (rules.files input script read) (length input) few
    (rules.hooks input script read) (rules.numbered input script read) history entries tell in
    let spelled : AllByRecursion (AllByRecursion IsSpelled) entries =
    subst (AllByRecursion (AllByRecursion IsSpelled)) (ap (told_phases files 1) tell.order.along.replies ∙ sym tell.told)
    (phases_told (verdicts_of script) files 1 (at_the_start script) _ worded tt) in
    transcript_spelled entries spelled
