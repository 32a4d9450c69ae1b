-- The draws of a seed: those of a linear congruential generator of 64 bits with the multiplier and increment of Knuth's
-- MMIX, of whose state the upper 31 bits are drawn.
use Rattle.std.specs.Prelude.{ℕ, zero, suc, ◌+◌, ◌*◌, ◌/◌, ◌%◌}

-- the state after the next draw
abbrev pub next : ℕ → ℕ
next state = (state * 6364136223846793005 + 1442695040888963407) % 18446744073709551616

-- what is drawn where this is the state after the draw
abbrev pub upper : ℕ → ℕ
upper state = state / 8589934592

-- the state after so many draws, which is the seed before the first
unfoldable pub state_after : ℕ → ℕ → ℕ
state_after seed zero = seed
state_after seed (suc count) = next (state_after seed count)

-- the draw of this number, from 0
abbrev pub draw : ℕ → ℕ → ℕ
draw seed number = upper (state_after seed (number + 1))

-- the draw of this number as a number below a limit
abbrev pub draw_below : ℕ → ℕ → ℕ → ℕ
draw_below seed number limit = draw seed number % limit
