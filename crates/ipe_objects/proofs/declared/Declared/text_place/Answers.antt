use Rattle.std.proofs.Common.{◌∙◌}
use Rattle.ipe_requests.specs.declared.script.TextLine.{TextLine}
use Rattle.ipe_objects.proofs.Placing.{named-find}
use Rattle.ipe_objects.proofs.declared.Declared.text_place.Goals as goal

pub returns : goal.returns
returns c =
    rw (← c.self.view_is) (named-find (λ (text : TextLine). text.id) c.args.id.now c.self.inside.requests.now.texts c.get.result
    (c.get.ensures ∙ c.self.invariant.texts c.args.id.now))
