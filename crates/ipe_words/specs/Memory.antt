-- Sources and sinks over memory, with a plan of the calls that fail.
use Rattle.std.specs.Prelude.{ℕ, ◌-◌, Bool, ◌||◌, ◌&&◌, nat_le, nat_lt, min, List, length, ◌==◌}
use Rattle.std.specs.List.{list_any}
use Rattle.ipe_words.specs.Count.{counted}

-- a source: what is left, the most that a call gives, the numbers of the calls that fail, the calls and the faults so
-- far
pub record Supply : Type 0 where
  pub left : List ℕ
  pub piece : ℕ
  pub plan : List ℕ
  pub calls : ℕ
  pub faults : ℕ

-- a sink: what is written, how many bytes it takes in all, the most that a call takes, and the rest as for a source
pub record Store : Type 0 where
  pub written : List ℕ
  pub room : ℕ
  pub piece : ℕ
  pub plan : List ℕ
  pub calls : ℕ
  pub faults : ℕ

-- the call of this number is planned to fail
abbrev pub is_planned : List ℕ → ℕ → Bool
is_planned plan call = list_any (λ planned. planned == call) plan

-- the next read fails: it is planned to
abbrev pub read_fails : Supply → Bool
read_fails supply = is_planned supply.plan (counted supply.calls)

-- the next write of this piece fails: it is planned to, or there is no room for a piece that isn't empty
abbrev pub write_fails : Store → List ℕ → Bool
write_fails store offered =
    is_planned store.plan (counted store.calls)
    || (nat_le store.room (length store.written) && nat_lt 0 (length offered))

-- how many bytes the next read gives into a buffer of this length, unless it fails
abbrev pub given_count : Supply → ℕ → ℕ
given_count supply buffer = min (min supply.piece (length supply.left)) buffer

-- how many bytes of a piece of this length the next write takes, unless it fails
abbrev pub taken_count : Store → ℕ → ℕ
taken_count store offered = min (min store.piece (store.room - length store.written)) offered
