use Rattle.std.proofs.Common.{◌≡◌, ℕ, List, true, ◌∙◌, subst, sym}
use Rattle.ipe_policy.specs.Words.{is_dev_name}
use Rattle.ipe_sim.proofs.Facts.{is_id}
use Rattle.ipe_sim.proofs.Texts.{given}
use Rattle.ipe_sim.proofs.declared.text_id.Goals as goal

pub unwrap-requires : goal.unwrap-requires
unwrap-requires c =
    given c.read.result (is_dev_name c.as_bytes.result.now ≡ true) c.as_bytes.result.now c.read.ensures
    (subst (λ (word : List ℕ). is_dev_name word ≡ true) (sym (c.as_bytes.ensures.value ∙ c.in_ok-id.ensures.ok))
    (is_id c.args.number c.requires).rule)
