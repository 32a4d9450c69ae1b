use Rattle.std.proofs.Common.{sym, ◌∙◌}
use Rattle.dmv_volume.proofs.Spelled.{written, not_written, sized_digits, sized_refused}
use Rattle.dmv_volume.proofs.words.root_of.Goals as goal

pub returns-in_err-ok-clause-none : goal.returns-in_err-ok-clause-none
returns-in_err-ok-clause-none c =
    let refused =
    not_written _ c.decode_to_slice.result c.decode_to_slice.new.out c.decode_to_slice.ensures.value
    (sym c.ok.ensures.value ∙ c.in_err-ok.was) in
    rw c.from_residual.ensures (sized_refused c.args.word.now refused.0 refused.1)

pub returns-clause-some : goal.returns-clause-some
returns-clause-some c =
    sized_digits c.args.word.now c.decode_to_slice.new.out
    (written _ c.decode_to_slice.result c.decode_to_slice.new.out c.decode_to_slice.ensures.value
    (sym c.ok.ensures.value ∙ c.in_ok-ok.was))
