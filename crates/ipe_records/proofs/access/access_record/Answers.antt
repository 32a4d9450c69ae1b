use Rattle.std.proofs.Common.{◌≡◌, Some, option_copied, List, ℕ, sym, ap, ◌∙◌}
use Rattle.ipe_policy.specs.Request.{evaluated_op, hook_of}
use Rattle.ipe_policy.specs.Evaluation.{deciding_statement}
use Rattle.ipe_audit.specs.Records.{decided_text}
use Rattle.ipe_machine.specs.Policies.{active_entry, policy_in}
use Rattle.ipe_records.proofs.Told.{access_told}
use Rattle.ipe_records.proofs.access.access_record.Goals as goal

pub returns-clause-access : goal.returns-clause-access
returns-clause-access c =
    let policies = c.args.registry.now in
    let op = c.in-Some-Some.op in
    let entry = c.in-Some-Some.entry.now in
    let request = c.args.request in
    let subject = c.args.subject.now in
    let object = c.args.object.now in
    let context = c.args.context.now in
    let ruled = c.in_ok-hit.ensures.hit in
    let asked : evaluated_op request ≡ Some op = cc in
    let active : active_entry policies ≡ Some entry = sym c.active_entry.ensures ∙ ap option_copied c.in-Some-Some.is-1 in
    let items = (policy_in entry.text).items in
    let line = c.in_ok-line.ensures entry.serial items context ruled in
    let told : decided_text op (hook_of request) policies.enforce subject object
    (deciding_statement items op context) ≡ Some c.in_ok-line.line.items =
    rw (← c.hook.ensures, ← c.enforce-enforce.ensures) line in
    ap (λ (text : List ℕ). Some text) c.from_vec.ensures
    ∙ sym (access_told policies request subject object context op entry c.in_ok-line.line.items asked active c.requires.due told)
