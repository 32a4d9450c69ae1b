use Rattle.std.proofs.Common.{arith, ◌≡◌}
use Rattle.dmv_volume.proofs.Spelled.{same_number}
use Rattle.dmv_volume.proofs.words.number_of.Goals as goal

pub returns-then-number-low-clause-none : goal.returns-then-number-low-clause-none
returns-then-number-low-clause-none c = λ (n, low, high, spelled).
    let same : n ≡ c.in_ok-number.number =
    same_number c.args.word.now n c.in_ok-number.number (omega arith) (omega arith) spelled
    c.in_ok-number.ensures.found.0 in
    omega arith
