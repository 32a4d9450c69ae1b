-- What a reader needs to know before it reads.
use Rattle.std.proofs.Common.{◌≡◌, ℕ, ◌<◌, List, length, Option, None, Some, arith}
use Rattle.std.specs.Prelude.{IfSome}
use Rattle.std.specs.Option.{option_map}
use Rattle.blk_device.specs.Contents.{Contents, CanRead, HasSize, content}

within : (found : Option (List ℕ)) (n at room : ℕ) → option_map length found ≡ Some n → at < n →
    IfSome found (λ all. 0 < room → at < length all)
within None n at room size below = tt
within (Some all) n at room size below = λ some. let same : length all ≡ n = cc in omega arith

-- a read from below the size can be asked for
pub can_read : (told : Option Contents) (name : List ℕ) (n at room : ℕ) → HasSize told name n → at < n →
    CanRead told name at room
can_read None name n at room size below = tt
can_read (Some items) name n at room size below = within (content name items) n at room size below
