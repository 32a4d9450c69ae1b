use Rattle.std.proofs.Common.{◌≡◌, ◌<◌, ℕ, List, length, get_or, take, subst, arith}
use Rattle.std.proofs.lemmas.Grind.{common_steps}
use Rattle.std.specs.Str.Parse.{AllDigits}
use Rattle.line_words.proofs.Decimals.{nonempty-from_decimal, plain-from_decimal, Continues, Continues-from_decimal, Longer, Longer-from_digit, decimal-from_digits}
use Rattle.line_words.proofs.number.spelled.Goals as goal
use Rattle.line_words.proofs.number.spelled.Goals.{else-bytes-eq48-via-then-bytes-eq48+else-bytes-gt1, else-bytes-eq48-via-else-bytes-eq48}

pub returns-then-is_empty-clause-none : goal.returns-then-is_empty-clause-none
returns-then-is_empty-clause-none c = λ n below e.
    let some : 0 < length c.args.bytes.now = nonempty-from_decimal c.args.bytes.now n (omega arith) e in grind arith

pub returns-then-bytes-gt1-clause-none : goal.returns-then-bytes-gt1-clause-none
returns-then-bytes-gt1-clause-none c = λ n below e.
    let one : length c.args.bytes.now ≡ 1 = plain-from_decimal c.args.bytes.now n (omega arith) e (grind arith) in omega arith

pub returns-in_err-value-clause-none : goal.returns-in_err-value-clause-none
returns-in_err-value-clause-none c = rw c.from_residual.ensures (λ n below e.
    let k : Continues c.args.bytes.now c.loop-byte.byte-index c.args.max = Continues-from_decimal c.args.bytes.now n c.args.max c.loop-byte.byte-index (omega arith) below e (omega arith) in
    c.in_err-value.ensures (k.low, k.high, omega arith))

pub loop-byte-preserved : goal.loop-byte-preserved
loop-byte-preserved c =
    let k : Longer c.args.bytes.now c.loop-byte.byte-index c.in_ok-value.value = Longer-from_digit c.args.bytes.now c.loop-byte.byte-index c.loop-byte.value c.in_ok-value.value (omega arith) c.loop-byte.invariant.digits c.loop-byte.invariant.value (omega (arith, c.in_ok-value.ensures)) (omega (arith, c.in_ok-value.ensures)) (omega (arith, c.in_ok-value.ensures)) in
    record { digits = k.digits; value = k.value_is; within = omega (arith, c.in_ok-value.ensures) }

pub returns-clause-found : goal.returns-clause-found
returns-clause-found c =
    let whole : take c.loop-byte.byte-index c.args.bytes.now ≡ c.args.bytes.now = grind (arith, common_steps) in
    let P : List ℕ → Type 0 = λ ds. AllDigits 10 ds in
    let digits : AllDigits 10 c.args.bytes.now = subst P whole c.loop-byte.invariant.digits in
    let some : 0 < length c.args.bytes.now = grind arith in
    let plain : get_or c.args.bytes.now 0 0 ≡ 48 → length c.args.bytes.now ≡ 1 = elim c.else-bytes-eq48.branch [
      | else-bytes-eq48-via-then-bytes-eq48+else-bytes-gt1 w ↦ λ lead. omega arith
      | else-bytes-eq48-via-else-bytes-eq48 w ↦ λ lead. grind arith
    ] in
    (decimal-from_digits c.args.bytes.now c.loop-byte.value digits (rw whole at c.loop-byte.invariant.value) (omega arith) some plain, c.loop-byte.invariant.within)
