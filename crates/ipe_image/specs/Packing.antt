-- Bytes in words of eight bytes, the first byte lowest.
use Rattle.std.specs.Prelude.{ℕ, ◌+◌, ◌*◌, ◌/◌, ◌%◌, zero, suc, List, [], ◌∷◌, length, take, drop}
use Rattle.std.specs.List.{flat_map}
use Rattle.ipe_policy.specs.Spelling.{words_for}

-- up to eight bytes as one word, the first byte lowest
abbrev pub word_of : List ℕ → ℕ
word_of [] = 0
word_of (byte ∷ bytes) = byte + 256 * word_of bytes

-- so many words of eight bytes each, and zeros where there are no more bytes
abbrev pub packed_words : ℕ → List ℕ → List ℕ
packed_words zero bytes = []
packed_words (suc count) bytes = word_of (take 8 bytes) ∷ packed_words count (drop 8 bytes)

-- bytes in whole words, the last one filled with zeros
abbrev pub byte_words : List ℕ → List ℕ
byte_words bytes = packed_words (words_for (length bytes)) bytes

-- so many bytes of a word, the lowest first
unfoldable pub word_bytes : ℕ → ℕ → List ℕ
word_bytes zero word = []
word_bytes (suc count) word = word % 256 ∷ word_bytes count (word / 256)

-- the first bytes of words, so many
abbrev pub unpacked : ℕ → List ℕ → List ℕ
unpacked count words = take count (flat_map (word_bytes 8) words)
