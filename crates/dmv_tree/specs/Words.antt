-- The words that say how a tree is built.
use Rattle.std.specs.Prelude.{ℕ, ◌&&◌, nat_le, bytes_eq, codes, if◌then◌else◌, List, [], length, Option, Some, None}
use Rattle.std.specs.Result.{result_ok}
use Rattle.hex.specs.Hex.{decode_of}

-- the size of a block of a device, in bytes
abbrev pub block_size_of : List ℕ → Option ℕ
block_size_of word =
    if bytes_eq word (codes "512") then Some 512
    else if bytes_eq word (codes "1024") then Some 1024
    else if bytes_eq word (codes "2048") then Some 2048
    else if bytes_eq word (codes "4096") then Some 4096
    else None

-- a salt: a dash for none, or from 2 to so many hexadecimal digits of either case, an even number of them
abbrev pub salt_of : ℕ → List ℕ → Option (List ℕ)
salt_of most_digits word =
    if bytes_eq word (codes "-") then Some []
    else if nat_le 2 (length word) && nat_le (length word) most_digits then result_ok (decode_of word)
    else None
