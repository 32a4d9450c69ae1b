use Rattle.std.proofs.Common.{◌≤◌, ℕ, List, length, sym, subst}
use Rattle.ipe_requests.specs.Law.{IsOfFile}
use Rattle.ipe_requests.specs.Requests.{Script}
use Rattle.ipe_objects.specs.Devices.{most_bytes}
use Rattle.ipe_objects.proofs.Sizes.{bytes-few}
use Rattle.ipe_objects.proofs.Standing.{stands-at}
use Rattle.ipe_objects.proofs.declared.Declared.size.Goals as goal

pub returns-clause-few : goal.returns-clause-few
returns-clause-few c =
    subst (λ (bytes : List ℕ). length bytes ≤ most_bytes) (sym c.bytes.ensures)
    (bytes-few c.args.self.now c.args.images.now
    (subst (λ (script : Script). IsOfFile script) c.self.view_is c.requests_are_read_of_their_spelling.ensures)
    c.requires.images c.args.file.now
    (stands-at c.args.self.now.files c.requires.declared.0 c.args.file.now c.requires.declared.1 (sym c.requires.declared.2)))
