-- What checked reads of images answer.
use Rattle.std.proofs.Common.{◌≡◌, ◌∙◌, ℕ, suc, ◌+◌, ◌-◌, ◌<◌, ◌≤◌, List, [], Option, Some, None, ap, sym, arith}
use Rattle.std.specs.List.{range_with_len}
use Rattle.std.specs.Prelude.{IsSomeAnd, length}
use Rattle.std.specs.Option.{option_or, unwrap_or}
use Rattle.ipe_objects.specs.Devices.{HasRoom}
use Rattle.ipe_objects.specs.Firsts.{first_some}

-- one block more on whose path nothing fails
pub range_more : {B : Type 0} (test : ℕ → Option B) (i end : ℕ) (total : Option B) → i < end → test i ≡ None
    → first_some test (range_with_len i (end - i)) ≡ total
    → first_some test (range_with_len (i + 1) (end - (i + 1))) ≡ total
range_more {B} test i end total within none before =
    let more : end - i ≡ suc (end - (i + 1)) = omega (arith, within) in
    sym (ap (λ (n : ℕ). first_some test (range_with_len i n)) more
    ∙ ap (λ (o : Option B). option_or o (first_some test (range_with_len (i + 1) (end - (i + 1))))) none)
    ∙ before

-- what fails on the path to the next block fails first
pub range_found : {B : Type 0} (test : ℕ → Option B) (i end : ℕ) (fault : B) (total : Option B) → i < end
    → Some fault ≡ test i → first_some test (range_with_len i (end - i)) ≡ total → Some fault ≡ total
range_found {B} test i end fault total within found before =
    let more : end - i ≡ suc (end - (i + 1)) = omega (arith, within) in
    ap (λ (o : Option B). option_or o (first_some test (range_with_len (i + 1) (end - (i + 1))))) found
    ∙ sym (ap (λ (n : ℕ). first_some test (range_with_len i n)) more)
    ∙ before

-- what is needed of a device that has room is no more than the most
pub room-most : (need : ℕ) (o : Option (List ℕ)) → IsSomeAnd o (HasRoom need) → need ≤ 16777216
room-most need None room = absurd room
room-most need (Some bytes) room = omega (arith, room.enough, room.few)

-- and no more than its bytes
pub room-enough : (need : ℕ) (o : Option (List ℕ)) → IsSomeAnd o (HasRoom need) → need ≤ length (unwrap_or o [])
room-enough need None room = absurd room
room-enough need (Some bytes) room = room.enough

-- a device that has room has room for what ends on it
pub room-for : (need end : ℕ) (o : Option (List ℕ)) → IsSomeAnd o (HasRoom need) → end ≤ length (unwrap_or o [])
    → IsSomeAnd o (HasRoom end)
room-for need end None room within = absurd room
room-for need end (Some bytes) room within = record { enough = within; few = room.few }
