use Rattle.std.proofs.Common.{◌∙◌, ap}
use Rattle.std.specs.Option.{unwrap_or}
use Rattle.ipe_signer.specs.declared.signer.Verdict.TheVariants.{Unknown}
use Rattle.ipe_signer.proofs.trust_list.found.Goals as goal

pub returns : goal.returns
returns c = c.unwrap_or.ensures ∙ ap (λ o. unwrap_or o Unknown) (c.copied.ensures ∙ c.get.ensures.value)
