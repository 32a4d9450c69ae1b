use Rattle.std.proofs.Common.{◌≡◌, List, ℕ, true, is_some, subst}
use Rattle.ipe_image.specs.Reader.{filled}
use Rattle.ipe_image.specs.Reading.{image_in}
use Rattle.ipe_image.proofs.Roundtrip.{some-filled}
use Rattle.ipe_image.proofs.compiling.Image.words.Goals as goal

pub returns-clause-filled : goal.returns-clause-filled
returns-clause-filled c = subst (λ (ws : List ℕ). is_some (image_in (filled 4096 ws)) ≡ true) c.self.view_is
    (some-filled 4096 c.self.inside.words.items c.self.invariant.1)
