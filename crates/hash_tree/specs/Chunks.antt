-- Lists cut into groups.
use Rattle.std.specs.Prelude.{ℕ, List, length, map}
use Rattle.std.specs.Int.{div_ceil}
use Rattle.std.specs.List.{range_with_len}
use Rattle.std.specs.Fork.{slice_chunk}

-- the groups of `size` items that a list is cut into, in order; the last has what is left
unfoldable pub chunks : {A : Type 0} → ℕ → List A → List (List A)
chunks size items = map (slice_chunk items size) (range_with_len 0 (div_ceil (length items) size))
