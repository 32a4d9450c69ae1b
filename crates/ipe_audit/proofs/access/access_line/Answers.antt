use Rattle.std.specs.Prelude.{◌≡◌, List, ℕ, Some}
use Rattle.std.proofs.Common.{◌∙◌, ap, sym}
use Rattle.std.specs.Option.{option_map}
use Rattle.ipe_policy.specs.Spelling.{statement_text}
use Rattle.ipe_policy.specs.Evaluation.{deciding_statement}
use Rattle.ipe_audit.specs.Records.{access_text}
use Rattle.ipe_audit.proofs.access.access_line.Goals as goal

pub returns : goal.returns
returns c serial items context ruling =
    let text : List ℕ → List ℕ = access_text c.args.op c.args.hook c.args.enforce c.args.subject.now c.args.object.now in
    let spelled : option_map statement_text (deciding_statement items c.args.op context) ≡ Some c.in_ok-rule.rule.items = c.in_ok-rule.ensures serial items context ruling in
    let whole : text c.in_ok-rule.rule.items ≡ c.in_ok-line.line.items = ap text (sym c.deref.ensures.value) ∙ sym c.in_ok-line.ensures in
    ap (option_map text) spelled ∙ ap Some whole
