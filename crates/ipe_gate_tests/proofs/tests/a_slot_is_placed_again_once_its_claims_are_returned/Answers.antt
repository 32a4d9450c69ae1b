use Rattle.std.proofs.Common.{◌≡◌, List, Some, slice_get, ap, sym, ◌∙◌}
use Rattle.ipe_gate.specs.declared.pass.Pass.{Pass}
use Rattle.ipe_gate_tests.proofs.tests.a_slot_is_placed_again_once_its_claims_are_returned.Goals as goal

pub finish-requires-clause-two : goal.finish-requires-clause-two
finish-requires-clause-two g c =
    c.place.ensures.1 ∙ c.loop.invariant.1 ∙ c.replace-8.ensures.1 ∙ c.replace-6.ensures.1 ∙ c.replace-4.ensures.1
    ∙ c.replace-2.ensures.1 ∙ c.in_ok-admin.ensures.made

pub finish-requires-clause-p : goal.finish-requires-clause-p
finish-requires-clause-p g c =
    let gate = c.place.ensures.0 ∙ c.loop.invariant.0 ∙ c.replace-8.ensures.0 ∙ c.replace-6.ensures.0
    ∙ c.replace-4.ensures.0 ∙ c.replace-2.ensures.0 in
    let new = c.in_ok-admin.ensures.each 0 c.in-Some.p (ap (λ (ps : List Pass). slice_get ps 0) c.in-Some.ensures) in
    let claimed = c.claim.ensures in
    let read = c.serial.ensures in
    let back = c.release-2.ensures in
    (back.0 ∙ read.0 ∙ claimed.0 ∙ new.gate_is ∙ sym gate, back.1 ∙ read.1 ∙ claimed.1 ∙ new.number_is)

pub finish-requires-clause-q : goal.finish-requires-clause-q
finish-requires-clause-q g c =
    let gate = c.place.ensures.0 ∙ c.loop.invariant.0 ∙ c.replace-8.ensures.0 ∙ c.replace-6.ensures.0
    ∙ c.replace-4.ensures.0 ∙ c.replace-2.ensures.0 in
    let new = c.in_ok-admin.ensures.each 1 c.in-Some.q (ap (λ (ps : List Pass). slice_get ps 1) c.in-Some.ensures) in
    let claimed = c.claim-2.ensures in
    let back = c.release.ensures in
    (back.0 ∙ claimed.0 ∙ new.gate_is ∙ sym gate, back.1 ∙ claimed.1 ∙ new.number_is)
