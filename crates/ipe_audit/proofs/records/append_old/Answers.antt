use Rattle.std.specs.Prelude.{◌≡◌, ◌++◌, OnOk, Some, None}
use Rattle.std.proofs.Common.{subst, sym}
use Rattle.std.specs.Option.{option_copied}
use Rattle.ipe_audit.specs.Records.{old_text}
use Rattle.ipe_audit.proofs.records.append_old.Goals as goal

pub returns-in-Some : goal.returns-in-Some
returns-in-Some c =
    let known : OnOk c.append_policy.result (c.append_policy.new.line.items ≡ c.args.line.now.items ++ old_text (option_copied (Some c.in-Some.policy))) = c.append_policy.ensures in
    subst (λ old. OnOk c.append_policy.result (c.append_policy.new.line.items ≡ c.args.line.now.items ++ old_text (option_copied old))) (sym c.in-Some.is) known

pub returns-in-None : goal.returns-in-None
returns-in-None c =
    let known : OnOk c.append_question_marks.result (c.append_question_marks.new.line.items ≡ c.args.line.now.items ++ old_text (option_copied None)) = c.append_question_marks.ensures in
    subst (λ old. OnOk c.append_question_marks.result (c.append_question_marks.new.line.items ≡ c.args.line.now.items ++ old_text (option_copied old))) (sym c.in-None.is) known
