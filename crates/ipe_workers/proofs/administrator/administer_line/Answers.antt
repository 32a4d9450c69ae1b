use Rattle.std.proofs.Common.{◌∷◌, ◌∙◌, [], ℕ, List, true, ap, sym, refl}
use Rattle.std.specs.Prelude.{is_ok}
use Rattle.ipe_requests.specs.declared.script.PhaseLine.TheVariants as asked
use Rattle.ipe_workers.proofs.Adding.{err_no, none_made}
use Rattle.ipe_workers.proofs.Commanding.{administered_hook, administered_not, administered_read, administered_write}
use Rattle.ipe_workers.proofs.administrator.administer_line.Goals as goal

pub returns-in_err-entry-in-Write : goal.returns-in_err-entry-in-Write
returns-in_err-entry-in-Write g c =
    let work = c.args.work.now in
    let r = c.from_residual in
    administered_not work.objects.now work.images.now work.phase (is_ok r.result) (err_no r.result r.ensures.0) (c.args.line.now ∷ []) c.args.admin.now c.write_entry.new.admin c.args.entries.now.items
    c.in_err-entry-in-Write.ensures.err

pub returns-in_err-push-in-Write : goal.returns-in_err-push-in-Write
returns-in_err-push-in-Write g c =
    let work = c.args.work.now in
    let line = c.in-Write in
    let r = c.from_residual-in_err-push-in-Write in
    administered_write c.writes_are_lines.ensures.ran work.objects.now work.images.now work.phase (is_ok r.result) c.args.line.now line.number line.may c.as_slice-node.result.now line.content c.args.admin.now c.write_entry.new.admin
    c.args.entries.now.items c.push.new.self.items c.in_ok-entry-in-Write.entry (line.is ∙ ap (λ (node : List ℕ). asked.Write line.number line.may node line.content) (sym c.as_slice-node.ensures)) c.in_ok-entry-in-Write.ensures.ok (none_made (is_ok r.result) (err_no r.result r.ensures.0))

pub returns-in_ok-push-in-Write : goal.returns-in_ok-push-in-Write
returns-in_ok-push-in-Write g c =
    let work = c.args.work.now in
    let line = c.in-Write in
    administered_write c.writes_are_lines.ensures.ran work.objects.now work.images.now work.phase true c.args.line.now line.number line.may c.as_slice-node.result.now line.content c.args.admin.now c.write_entry.new.admin
    c.args.entries.now.items c.push.new.self.items c.in_ok-entry-in-Write.entry (line.is ∙ ap (λ (node : List ℕ). asked.Write line.number line.may node line.content) (sym c.as_slice-node.ensures)) c.in_ok-entry-in-Write.ensures.ok (λ e. c.in_ok-push-in-Write.ensures.items)

pub returns-in_err-entry-in-Read : goal.returns-in_err-entry-in-Read
returns-in_err-entry-in-Read g c =
    let work = c.args.work.now in
    let r = c.from_residual-in_err-entry-in-Read in
    administered_not work.objects.now work.images.now work.phase (is_ok r.result) (err_no r.result r.ensures.0) (c.args.line.now ∷ []) c.args.admin.now c.args.admin.now c.args.entries.now.items refl

pub returns-in_err-push-in-Read : goal.returns-in_err-push-in-Read
returns-in_err-push-in-Read g c =
    let work = c.args.work.now in
    let line = c.in-Read in
    let r = c.from_residual-in_err-push-in-Read in
    administered_read work.objects.now work.images.now work.phase (is_ok r.result) c.args.line.now line.number c.as_slice.result.now c.args.admin.now
    c.args.entries.now.items c.push-in-Read.new.self.items c.in_ok-entry-in-Read.entry (line.is ∙ ap (asked.Read line.number) (sym c.as_slice.ensures)) (none_made (is_ok r.result) (err_no r.result r.ensures.0))

pub returns-in_ok-push-in-Read : goal.returns-in_ok-push-in-Read
returns-in_ok-push-in-Read g c =
    let work = c.args.work.now in
    let line = c.in-Read in
    administered_read work.objects.now work.images.now work.phase true c.args.line.now line.number c.as_slice.result.now c.args.admin.now
    c.args.entries.now.items c.push-in-Read.new.self.items c.in_ok-entry-in-Read.entry (line.is ∙ ap (asked.Read line.number) (sym c.as_slice.ensures)) (λ e. (c.in_ok-push-in-Read.ensures.items, c.in_ok-entry-in-Read.ensures))

pub returns-in-Hook : goal.returns-in-Hook
returns-in-Hook g c =
    let work = c.args.work.now in
    administered_hook work.objects.now work.images.now work.phase c.args.line.now _ _ _ _ _ c.args.admin.now c.args.entries.now.items c.in-Hook.is c.requires.declared
