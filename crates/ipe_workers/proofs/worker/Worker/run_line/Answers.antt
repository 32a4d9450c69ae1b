use Rattle.std.proofs.Common.{◌≡◌, ◌+◌, ◌∷◌, ◌++◌, [], ℕ, true, refl, sym, ap, ◌∙◌}
use Rattle.std.specs.Prelude.{is_ok}
use Rattle.ipe_lines.specs.Asked.{access_of, verdicts_of}
use Rattle.ipe_transcript.specs.declared.transcript.Entry.{Entry}
use Rattle.ipe_weave.specs.Lines.{Access}
use Rattle.ipe_workers.specs.Prepared.{files_in}
use Rattle.ipe_workers.specs.Ruled.{hook_told}
use Rattle.ipe_workers.proofs.Adding.{err_no, none_made, run_default, run_hook, run_other_hook}
use Rattle.ipe_workers.proofs.Hooking.{HookRan, hook_ran}
use Rattle.ipe_workers.proofs.worker.Worker.run_line.Goals as goal

pub returns-in_default : goal.returns-in_default
returns-in_default g c =
    let work = c.args.work.now in
    run_default work.objects.now work.images.now work.phase true c.args.line.now c.args.self.now c.requires.ready.held c.in_default.not-Hook

pub returns-then-worker-number : goal.returns-then-worker-number
returns-then-worker-number g c =
    let work = c.args.work.now in
    let hook = c.in-Hook in
    run_other_hook work.objects.now work.images.now work.phase true c.args.line.now hook.place hook.worker hook.request hook.subject hook.path c.args.self.now c.requires.ready.held
    hook.is (λ e. c.if-worker-number.true (e ∙ c.requires.ready.number))

pub returns-in_err-access : goal.returns-in_err-access
returns-in_err-access g c =
    let work = c.args.work.now in
    let objects = work.objects.now in
    let images = work.images.now in
    let hook = c.in-Hook in
    let r = c.from_residual in
    let own : hook.worker ≡ c.args.self.now.pass.number + 1 = c.if-worker-number.false ∙ sym c.requires.ready.number in
    let access : Access = access_of (files_in objects images) hook.request hook.subject hook.path in
    let ran : HookRan (verdicts_of objects.script) hook.place hook.worker c.args.self.now.pass c.ask-ruling.new.pass access c.ask-ruling.result =
    hook_ran c.hooks_are_ruled_at_their_claims.ensures (verdicts_of objects.script) hook.place hook.worker c.args.self.now.pass c.ask-ruling.new.pass access c.ask-ruling.result c.requires.ready.held c.ask-ruling.ensures in
    run_hook objects images work.phase (is_ok r.result) c.args.line.now hook.place hook.worker hook.request hook.subject hook.path c.args.self.now
    (record { pass = c.ask-ruling.new.pass; view = c.args.self.now.view; entries = c.args.self.now.entries; done = c.args.self.now.done })
    c.ask-ruling.result hook.is own ran refl (none_made (is_ok r.result) (err_no r.result r.ensures.0))

pub returns-in_err-content : goal.returns-in_err-content
returns-in_err-content g c =
    let work = c.args.work.now in
    let objects = work.objects.now in
    let images = work.images.now in
    let hook = c.in-Hook in
    let r = c.from_residual-in_err-content in
    let own : hook.worker ≡ c.args.self.now.pass.number + 1 = c.if-worker-number.false ∙ sym c.requires.ready.number in
    let access : Access = access_of (files_in objects images) hook.request hook.subject hook.path in
    let ran : HookRan (verdicts_of objects.script) hook.place hook.worker c.args.self.now.pass c.ask-ruling.new.pass access c.ask-ruling.result =
    hook_ran c.hooks_are_ruled_at_their_claims.ensures (verdicts_of objects.script) hook.place hook.worker c.args.self.now.pass c.ask-ruling.new.pass access c.ask-ruling.result c.requires.ready.held c.ask-ruling.ensures in
    run_hook objects images work.phase (is_ok r.result) c.args.line.now hook.place hook.worker hook.request hook.subject hook.path c.args.self.now
    (record { pass = c.ask-ruling.new.pass; view = c.content_after.new.view; entries = c.args.self.now.entries; done = c.args.self.now.done })
    c.ask-ruling.result hook.is own ran c.content_after.ensures.same (none_made (is_ok r.result) (err_no r.result r.ensures.0))

pub returns-in_err-push : goal.returns-in_err-push
returns-in_err-push g c =
    let work = c.args.work.now in
    let objects = work.objects.now in
    let images = work.images.now in
    let hook = c.in-Hook in
    let r = c.from_residual-in_err-push in
    let own : hook.worker ≡ c.args.self.now.pass.number + 1 = c.if-worker-number.false ∙ sym c.requires.ready.number in
    let access : Access = access_of (files_in objects images) hook.request hook.subject hook.path in
    let ran : HookRan (verdicts_of objects.script) hook.place hook.worker c.args.self.now.pass c.ask-ruling.new.pass access c.ask-ruling.result =
    hook_ran c.hooks_are_ruled_at_their_claims.ensures (verdicts_of objects.script) hook.place hook.worker c.args.self.now.pass c.ask-ruling.new.pass access c.ask-ruling.result c.requires.ready.held c.ask-ruling.ensures in
    run_hook objects images work.phase (is_ok r.result) c.args.line.now hook.place hook.worker hook.request hook.subject hook.path c.args.self.now
    (record { pass = c.ask-ruling.new.pass; view = c.content_after.new.view; entries = c.push.new.self; done = c.args.self.now.done })
    c.ask-ruling.result hook.is own ran c.content_after.ensures.same (none_made (is_ok r.result) (err_no r.result r.ensures.0))

pub returns : goal.returns
returns g c =
    let work = c.args.work.now in
    let objects = work.objects.now in
    let images = work.images.now in
    let hook = c.in-Hook in
    let own : hook.worker ≡ c.args.self.now.pass.number + 1 = c.if-worker-number.false ∙ sym c.requires.ready.number in
    let access : Access = access_of (files_in objects images) hook.request hook.subject hook.path in
    let ran : HookRan (verdicts_of objects.script) hook.place hook.worker c.args.self.now.pass c.ask-ruling.new.pass access c.ask-ruling.result =
    hook_ran c.hooks_are_ruled_at_their_claims.ensures (verdicts_of objects.script) hook.place hook.worker c.args.self.now.pass c.ask-ruling.new.pass access c.ask-ruling.result c.requires.ready.held c.ask-ruling.ensures in
    let made = c.hook_told-entry.ensures ∙ ap (λ (n : ℕ). hook_told work.phase hook.place n c.ask-ruling.result c.in_ok-access.access c.in_ok-content.content) (sym c.if-worker-number.false) in
    run_hook objects images work.phase true c.args.line.now hook.place hook.worker hook.request hook.subject hook.path c.args.self.now
    (record { pass = c.ask-ruling.new.pass; view = c.content_after.new.view; entries = c.push.new.self; done = c.args.self.now.done })
    c.ask-ruling.result hook.is own ran c.content_after.ensures.same
    (λ e. (
      c.in_ok-access.access,
      c.in_ok-content.content,
      c.in_ok-push.ensures.items ∙ ap (λ (entry : Entry). c.args.self.now.entries.items ++ entry ∷ []) made,
      c.in_ok-access.ensures ran.before ran.ruled_is,
      c.in_ok-content.ensures.content hook.subject,
    ))
