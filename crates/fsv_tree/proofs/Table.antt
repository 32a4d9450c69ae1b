-- The rows of a descriptor, one by one.
use Rattle.std.proofs.Common.{◌≡◌, ℕ, ◌-◌, ◌<◌, ◌≤◌, Bool, true, false, List, take, drop, get_or, ltb, leb, eqb, refl, arith}
use Rattle.std.specs.Prelude.{not, ◌&&◌, ◌||◌}
use Rattle.std.specs.Int.{w64, from_le_bytes}
use Rattle.std.proofs.lemmas.Bool.{le-ltb, lt-ltb}
use Rattle.fsv_tree.specs.Descriptor.{breaks}

pub row_version : (bytes : List ℕ) (size place : ℕ) → place < 2 →
    breaks bytes size place ≡ not (eqb (get_or bytes place 0) 1)
unfolding breaks
row_version bytes size place high = rw (lt-ltb place 2 high) refl

pub row_log : (bytes : List ℕ) (size place : ℕ) → 2 ≤ place → place < 3 →
    breaks bytes size place ≡ (ltb (get_or bytes place 0) 10 || ltb 12 (get_or bytes place 0))
unfolding breaks
row_log bytes size place low high = rw (le-ltb place 2 low, lt-ltb place 3 high) refl

pub row_salt_size : (bytes : List ℕ) (size place : ℕ) → 3 ≤ place → place < 4 →
    breaks bytes size place ≡ ltb 32 (get_or bytes place 0)
unfolding breaks
row_salt_size bytes size place low high =
    rw (le-ltb place 2 (omega arith), le-ltb place 3 low, lt-ltb place 4 high) refl

pub row_reserved : (bytes : List ℕ) (size place : ℕ) → 4 ≤ place → place < 8 →
    breaks bytes size place ≡ not (eqb (get_or bytes place 0) 0)
unfolding breaks
row_reserved bytes size place low high =
    rw (le-ltb place 2 (omega arith), le-ltb place 3 (omega arith), le-ltb place 4 low, lt-ltb place 8 high) refl

pub row_size : (bytes : List ℕ) (size place : ℕ) → 8 ≤ place → place < 9 →
    breaks bytes size place ≡ not (eqb (from_le_bytes w64 (take 8 (drop 8 bytes))) size)
unfolding breaks
row_size bytes size place low high = rw (
  le-ltb place 2 (omega arith),
  le-ltb place 3 (omega arith),
  le-ltb place 4 (omega arith),
  le-ltb place 8 low,
  lt-ltb place 9 high,
) refl

pub row_size_rest : (bytes : List ℕ) (size place : ℕ) → 9 ≤ place → place < 16 → breaks bytes size place ≡ false
unfolding breaks
row_size_rest bytes size place low high = rw (
  le-ltb place 2 (omega arith),
  le-ltb place 3 (omega arith),
  le-ltb place 4 (omega arith),
  le-ltb place 8 (omega arith),
  le-ltb place 9 low,
  lt-ltb place 16 high,
) refl

pub row_root : (bytes : List ℕ) (size place : ℕ) → 16 ≤ place → place < 48 →
    breaks bytes size place ≡ (eqb size 0 && not (eqb (get_or bytes place 0) 0))
unfolding breaks
row_root bytes size place low high = rw (
  le-ltb place 2 (omega arith),
  le-ltb place 3 (omega arith),
  le-ltb place 4 (omega arith),
  le-ltb place 8 (omega arith),
  le-ltb place 9 (omega arith),
  le-ltb place 16 low,
  lt-ltb place 48 high,
) refl

pub row_behind_root : (bytes : List ℕ) (size place : ℕ) → 48 ≤ place → place < 80 →
    breaks bytes size place ≡ not (eqb (get_or bytes place 0) 0)
unfolding breaks
row_behind_root bytes size place low high = rw (
  le-ltb place 2 (omega arith),
  le-ltb place 3 (omega arith),
  le-ltb place 4 (omega arith),
  le-ltb place 8 (omega arith),
  le-ltb place 9 (omega arith),
  le-ltb place 16 (omega arith),
  le-ltb place 48 low,
  lt-ltb place 80 high,
) refl

pub row_salt : (bytes : List ℕ) (size place : ℕ) → 80 ≤ place → place < 112 →
    breaks bytes size place ≡ (leb (get_or bytes 3 0) (place - 80) && not (eqb (get_or bytes place 0) 0))
unfolding breaks
row_salt bytes size place low high = rw (
  le-ltb place 2 (omega arith),
  le-ltb place 3 (omega arith),
  le-ltb place 4 (omega arith),
  le-ltb place 8 (omega arith),
  le-ltb place 9 (omega arith),
  le-ltb place 16 (omega arith),
  le-ltb place 48 (omega arith),
  le-ltb place 80 low,
  lt-ltb place 112 high,
) refl

pub row_last : (bytes : List ℕ) (size place : ℕ) → 112 ≤ place →
    breaks bytes size place ≡ not (eqb (get_or bytes place 0) 0)
unfolding breaks
row_last bytes size place low = rw (
  le-ltb place 2 (omega arith),
  le-ltb place 3 (omega arith),
  le-ltb place 4 (omega arith),
  le-ltb place 8 (omega arith),
  le-ltb place 9 (omega arith),
  le-ltb place 16 (omega arith),
  le-ltb place 48 (omega arith),
  le-ltb place 80 (omega arith),
  le-ltb place 112 low,
) refl

-- `||` and `&&` that are decided by their first part
pub or_first : (a b : Bool) → a ≡ true → a ≡ (a || b)
or_first true b is = refl
or_first false b is = absurd cc

pub or_second : (a b : Bool) → a ≡ false → b ≡ (a || b)
or_second false b is = refl
or_second true b is = absurd cc

pub and_first : (a b : Bool) → a ≡ false → a ≡ (a && b)
and_first false b is = refl
and_first true b is = absurd cc

pub and_second : (a b : Bool) → a ≡ true → b ≡ (a && b)
and_second true b is = refl
and_second false b is = absurd cc
