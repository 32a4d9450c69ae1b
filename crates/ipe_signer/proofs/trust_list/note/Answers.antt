use Rattle.ipe_signer.proofs.Verdicts.{verdict-noted}
use Rattle.std.proofs.Common.{◌∙◌, ap}
use Rattle.ipe_signer.specs.Marks.{verdict_at}
use Rattle.ipe_signer.proofs.trust_list.note.Goals as goal

pub returns : goal.returns
returns c digest =
    let is = c.in_ok-to_vec.ensures.items_if_clones_equal (λ x y same. same) ∙ c.as_slice.ensures.bytes in
    ap (λ entries. verdict_at entries digest) c.in_ok-insert.ensures.entries
    ∙ verdict-noted _ _ c.args.mark.now.digest c.args.mark.now.verdict digest is
