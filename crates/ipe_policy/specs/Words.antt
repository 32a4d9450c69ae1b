-- The rules of the words that policies and requests are made of, each as a test of its bytes.
use Rattle.std.specs.Prelude.{ℕ, Bool, not, ◌&&◌, ◌||◌, ◌==◌, nat_le, nat_eq, codes, List, length}
use Rattle.std.specs.List.{starts_with}
use Rattle.line_words.specs.Words.{is_digit, is_lower, is_text, is_visible, is_word}

-- a to z, 0 to 9 and the dash
abbrev pub is_alg_byte : ℕ → Bool
is_alg_byte byte = is_lower byte || is_digit byte || (byte == 45)

-- a to z, 0 to 9, the underscore and the dash
abbrev pub is_id_byte : ℕ → Bool
is_id_byte byte = is_lower byte || is_digit byte || (byte == 95) || (byte == 45)

-- visible, and no double quote
abbrev pub is_quotable : ℕ → Bool
is_quotable byte = is_visible byte && not (byte == 34)

-- visible, and none of the slash, the double quote and the number sign
abbrev pub is_name_byte : ℕ → Bool
is_name_byte byte = is_quotable byte && not (byte == 47) && not (byte == 35)

-- the name of a hash algorithm
abbrev pub is_alg_name : List ℕ → Bool
is_alg_name bytes = is_word 1 16 is_alg_byte bytes

-- a digest of at most 64 bytes
abbrev pub is_digest : List ℕ → Bool
is_digest bytes = nat_le (length bytes) 64

-- a policy's name, which is a name of a folder too
abbrev pub is_name : List ℕ → Bool
is_name bytes = is_word 1 255 is_name_byte bytes && not (is_text (codes ".") bytes) && not (is_text (codes "..") bytes)

-- the name of a task
abbrev pub is_comm : List ℕ → Bool
is_comm bytes = is_word 1 15 is_quotable bytes

-- the path of a file, from the root
abbrev pub is_path : List ℕ → Bool
is_path bytes = is_word 1 255 is_quotable bytes && starts_with nat_eq bytes (codes "/")

-- the name of a device, or another short name of that kind
abbrev pub is_dev_name : List ℕ → Bool
is_dev_name bytes = is_word 1 32 is_id_byte bytes
