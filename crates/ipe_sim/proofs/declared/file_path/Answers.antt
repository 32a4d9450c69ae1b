use Rattle.std.proofs.Common.{◌≡◌, ℕ, List, true, ◌∙◌, subst, sym}
use Rattle.ipe_policy.specs.Words.{is_path}
use Rattle.ipe_sim.proofs.Facts.{is_file}
use Rattle.ipe_sim.proofs.Texts.{given}
use Rattle.ipe_sim.proofs.declared.file_path.Goals as goal

pub unwrap-requires : goal.unwrap-requires
unwrap-requires c =
    given c.read.result (is_path c.as_bytes.result.now ≡ true) c.as_bytes.result.now c.read.ensures
    (subst (λ (word : List ℕ). is_path word ≡ true) (sym (c.as_bytes.ensures.value ∙ c.in_ok-path.ensures.ok))
    (is_file c.args.number c.requires).rule)
