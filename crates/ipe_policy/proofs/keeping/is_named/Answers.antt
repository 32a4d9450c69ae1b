use Rattle.std.proofs.Common.{◌∙◌, ◌<◌, ℕ, List, length, ap, subst, sym}
use Rattle.std.specs.Prelude.{nat_le}
use Rattle.std.specs.List.{AllByRecursion}
use Rattle.std.proofs.lemmas.Bool.{le-leb, leb-true}
use Rattle.ipe_policy.proofs.keeping.is_named.Goals as goal

pub returns : goal.returns
returns c =
    let bytes = c.args.digest.now.bytes in
    let same = c.as_slice.ensures.bytes in (
      λ some. record {
        alg = c.as_slice-alg.ensures.rule;
        has_byte = leb-true 1 (length bytes) (sym (c.has_byte.ensures.some
            ∙ ap (λ (bs : List ℕ). nat_le 1 (length bs)) same) ∙ some);
        few = leb-true (length bytes) 64 c.as_slice.ensures.rule;
        bytes = subst (AllByRecursion (λ byte. byte < 256)) same c.has_byte.ensures.bytes;
      },
      λ h. c.has_byte.ensures.some ∙ ap (λ (bs : List ℕ). nat_le 1 (length bs)) same ∙ le-leb 1 (length bytes) h.has_byte,
    )
