use Rattle.std.proofs.Common.{Some, sym, ap, ◌∙◌}
use Rattle.ipe_policy.specs.declared.request.Hook.{Hook}
use Rattle.ipe_policy.specs.declared.request.Object.{Object}
use Rattle.ipe_policy.specs.Evaluation.{deciding_statement}
use Rattle.ipe_audit.specs.Records.{decided_text}
use Rattle.ipe_lines.specs.Asked.{access_of}
use Rattle.ipe_weave.specs.Lines.{Access}
use Rattle.ipe_workers.specs.Prepared.{files_in}
use Rattle.ipe_workers.proofs.Recording.{hit_of, record_made}
use Rattle.ipe_workers.proofs.answering.record_of.Goals as goal

pub access_line-requires : goal.access_line-requires
access_line-requires c =
    let files = files_in c.args.work.now.objects.now c.args.work.now.images.now in
    let access : Access = access_of files c.args.request c.args.subject.now c.args.path.now in
    hit_of access c.in-Some.op c.args.ruling.now c.in-Some-hit.hit c.requires (sym c.op.ensures ∙ c.in-Some.is) c.in-Some-hit.is

pub returns : goal.returns
returns c = λ before ruled.
    let files = files_in c.args.work.now.objects.now c.args.work.now.images.now in
    let access : Access = access_of files c.args.request c.args.subject.now c.args.path.now in
    let laws = c.images_are_read_as_themselves.ensures in
    let op = c.in-Some.op in
    let enforce = c.args.ruling.now.enforce in
    ap Some c.from_vec.ensures
    ∙ record_made laws.policies laws.decides laws.statement before access op c.args.ruling.now c.in-Some-hit.hit c.in_ok-line.line.items ruled
    (sym c.op.ensures ∙ c.in-Some.is) c.in-Some-hit.is c.if-not-ruling.false
    (λ serial items context of.
    ap (λ (h : Hook). decided_text op h enforce access.subject access.object (deciding_statement items op context)) (sym c.hook.ensures)
    ∙ ap (λ (o : Object). decided_text op c.hook.result enforce access.subject o (deciding_statement items op context)) (sym c.in_ok-object.ensures)
    ∙ c.in_ok-line.ensures serial items context of)
