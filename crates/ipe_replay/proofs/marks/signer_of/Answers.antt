use Rattle.std.proofs.Common.{◌≡◌, ap, ◌∙◌, map}
use Rattle.std.proofs.lemmas.Result.{IfOk-weaker}
use Rattle.ipe_lines.specs.Asked.{mark_of}
use Rattle.ipe_requests.specs.Requests.{Script}
use Rattle.ipe_replay.proofs.marks.signer_of.Goals as goal

pub returns : goal.returns
returns c =
    let lines : c.as_slice.result.now ≡ c.args.requests.now.marks =
    c.as_slice.ensures ∙ ap (λ (s : Script). s.marks) c.requests.view_is in
    IfOk-weaker c.signer_by.result _ _ (λ signer is.
    is ∙ ap (λ (s : Script). map (mark_of s) c.as_slice.result.now) c.in_ok-declared.ensures
    ∙ ap (map (mark_of c.args.requests.now)) lines) c.signer_by.ensures
