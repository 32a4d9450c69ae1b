use Rattle.std.proofs.Common.{◌≡◌, ◌<◌, ◌^◌, drop}
use Rattle.line_words.specs.Words.{digits_onto}
use Rattle.ipe_policy.proofs.version.number.Given as goal

-- the rest of the digits, after what is read, make the whole number
abbrev pub invariant-loop-digit : goal.invariant-loop-digit
invariant-loop-digit l =
    (digits_onto l.value (drop l.digit-index l.digits) ≡ digits_onto 0 l.digits) × (l.value < 10 ^ l.digit-index)
