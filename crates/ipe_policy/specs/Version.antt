-- Versions of policies.
use Rattle.std.specs.Prelude.{ℕ, ◌+◌, ◌*◌, ◌^◌, ◌&&◌, nat_le, Bool, if◌then◌else◌, List, Option, Some, None}
use Rattle.std.specs.List.{before_first, after_first}
use Rattle.std.specs.Option.{option_and_then}
use Rattle.line_words.specs.Words.{digits_onto, is_byte, is_digit, is_word}
use Rattle.ipe_policy.specs.declared.version.Version.{Version}

-- one to five decimal digits
abbrev pub is_part : List ℕ → Bool
is_part bytes = is_word 1 5 is_digit bytes

-- a part of a version: one to five digits, with a value of at most 65,535
abbrev pub part_of : List ℕ → Option ℕ
part_of bytes = if is_part bytes && nat_le (digits_onto 0 bytes) 65535 then Some (digits_onto 0 bytes) else None

-- the test for the dot between two parts
abbrev pub is_dot : ℕ → Bool
is_dot = is_byte 46

-- the version that a word X.Y.Z spells; the word is cut at its first two dots
abbrev pub version_of : List ℕ → Option Version
version_of bytes =
    let rest = after_first is_dot bytes in
    option_and_then (λ major. option_and_then (λ minor. option_and_then (λ rev.
    Some (record { major = major; minor = minor; rev = rev }))
    (part_of (after_first is_dot rest)))
    (part_of (before_first is_dot rest)))
    (part_of (before_first is_dot bytes))

-- the number by which versions compare
abbrev pub packed : Version → ℕ
packed version = version.major * 2 ^ 32 + version.minor * 2 ^ 16 + version.rev
