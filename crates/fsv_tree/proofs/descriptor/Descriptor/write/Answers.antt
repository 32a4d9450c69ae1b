use Rattle.std.proofs.Common.{rules, ap, subst, sym, ◌∙◌}
use Rattle.fsv_tree.specs.Descriptor.{IsSound, said_by}
use Rattle.fsv_tree.proofs.Zeros.{zeros_are}
use Rattle.fsv_tree.proofs.Written.{written}
use Rattle.fsv_tree.specs.Kept.{MayBeSaid}
use Rattle.fsv_tree.proofs.Sound.{kept_says, said_again, sound_spelling}
use Rattle.fsv_tree.proofs.descriptor.Descriptor.write.Goals as goal

pub returns-clause-bytes : goal.returns-clause-bytes
returns-clause-bytes c =
    written _ _ _ _ _ _ (sym (zeros_are 256)) (search rules) (search rules) (search rules) (search rules) (search
    rules) (search rules)

pub returns-clause-sound : goal.returns-clause-sound
returns-clause-sound c =
    let says : MayBeSaid c.args.self.now =
    rw (sym c.self.view_is) (kept_says _ _ _ _ _ c.self.invariant c.self.told.0 c.self.told.1) in
    subst (λ xs. IsSound xs c.args.self.now.size) (sym (returns-clause-bytes c)) (sound_spelling c.args.self.now says)

pub returns-clause-again : goal.returns-clause-again
returns-clause-again c =
    let says : MayBeSaid c.args.self.now =
    rw (sym c.self.view_is) (kept_says _ _ _ _ _ c.self.invariant c.self.told.0 c.self.told.1) in
    ap (λ xs. said_by xs c.args.self.now.size) (returns-clause-bytes c) ∙ said_again c.args.self.now says

pub returns-clause-limits : goal.returns-clause-limits
returns-clause-limits c = rw (sym c.self.view_is) (kept_says _ _ _ _ _ c.self.invariant c.self.told.0 c.self.told.1)
