-- The rules of words, each as a test of its bytes, and the numbers and bytes that words spell.
use Rattle.std.specs.Prelude.{ℕ, ◌+◌, ◌-◌, ◌*◌, ◌%◌, Bool, true, false, not, ◌&&◌, ◌||◌, ◌==◌, nat_le, nat_eq, if◌then◌else◌, List, [], ◌∷◌, length, Option, Some, None, slice_index}
use Rattle.std.specs.List.{list_all}
use Rattle.std.specs.Result.{result_ok}
use Rattle.hex.specs.Hex.{decode_of}
use lib.Pointwise.{pointwise}

-- the bytes are this text
abbrev pub is_text : List ℕ → List ℕ → Bool
is_text text bytes = pointwise nat_eq bytes text

-- from low to high bytes long, each of them one that may stand there
abbrev pub is_word : ℕ → ℕ → (ℕ → Bool) → List ℕ → Bool
is_word low high may_stand bytes = nat_le low (length bytes) && nat_le (length bytes) high && list_all may_stand bytes

-- the byte of this value
abbrev pub is_byte : ℕ → ℕ → Bool
is_byte value byte = byte == value

-- 0x21 to 0x7E: visible ASCII
abbrev pub is_visible : ℕ → Bool
is_visible byte = nat_le 0x21 byte && nat_le byte 0x7E

-- 0 to 9
abbrev pub is_digit : ℕ → Bool
is_digit byte = nat_le 48 byte && nat_le byte 57

-- a to z
abbrev pub is_lower : ℕ → Bool
is_lower byte = nat_le 97 byte && nat_le byte 122

-- 0 to 9 and a to f
abbrev pub is_lower_hex : ℕ → Bool
is_lower_hex byte = is_digit byte || (nat_le 97 byte && nat_le byte 102)

-- what decimal digits stand for, after a number that stands before them
abbrev pub digits_onto : ℕ → List ℕ → ℕ
digits_onto before [] = before
digits_onto before (digit ∷ digits) = digits_onto (before * 10 + (digit - 48)) digits

-- one to twenty digits, the first of them no zero that stands before others
abbrev pub is_number : List ℕ → Bool
is_number word = is_word 1 20 is_digit word && ((length word == 1) || not (slice_index word 0 == 48))

-- a decimal number without leading zeros, of at most this size
unfoldable pub number_of : ℕ → List ℕ → Option ℕ
number_of most word = if is_number word && nat_le (digits_onto 0 word) most then Some (digits_onto 0 word) else None

-- what is given, where the condition holds
abbrev pub when : {A : Type 0} → Bool → Option A → Option A
when true found = found
when false found = None

-- from low to high lower case hexadecimal digits, an even number of them
abbrev pub is_hex : ℕ → ℕ → List ℕ → Bool
is_hex low high word = is_word low high is_lower_hex word && (length word % 2 == 0)

-- the bytes that lower case digits spell, of which there are from low to high, an even number
unfoldable pub hex_of : ℕ → ℕ → List ℕ → Option (List ℕ)
hex_of low high word = when (is_hex low high word) (result_ok (decode_of word))
