use Rattle.std.proofs.Common.{◌≡◌, pos, true, List, ℕ, Option, Some, rules, sym, ap, subst, ◌∙◌}
use Rattle.ipe_hooks.specs.Law.{machine_ruling}
use Rattle.ipe_requests.specs.Known.{reads_file}
use Rattle.ipe_requests.specs.Rules.{IsPathOf}
use Rattle.ipe_objects.specs.Contents.{content_of}
use Rattle.ipe_lines.specs.Asked.{Files, access_of, object_at}
use Rattle.ipe_lines.specs.Told.{content_at}
use Rattle.ipe_workers.specs.Prepared.{files_in}
use Rattle.ipe_workers.proofs.Contents.{content_declared, content_read}
use Rattle.ipe_workers.proofs.answering.content_after.Goals as goal

pub returns-clause-content : goal.returns-clause-content
returns-clause-content c = λ subject.
    let objects = c.args.work.now.objects.now in
    let images = c.args.work.now.images.now in
    let files : Files = files_in objects images in
    let path : List ℕ = c.in-Some.path in
    let reads : reads_file c.args.request ≡ true = sym c.reads_file.ensures ∙ c.if-not-reads_file.false in
    let allowed : c.args.ruling.now.code ≡ pos 0 = search rules in
    let declared = subst (IsPathOf objects.script) c.in-Some.is c.requires.declared in
    ap Some (c.in_ok-content.ensures.content ∙ ap (content_of objects.script images) c.as_slice.ensures.bytes)
    ∙ sym (content_declared objects.script images path declared.1)
    ∙ ap (λ (p : Option (List ℕ)). content_at files (object_at files p)) (sym c.in-Some.is)
    ∙ sym (content_read files (access_of files c.args.request subject c.args.path.now) (machine_ruling c.args.ruling.now) reads allowed)
