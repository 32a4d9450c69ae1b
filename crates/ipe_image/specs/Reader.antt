-- What a reader of words reads.
use Rattle.std.specs.Prelude.{ℕ, ◌+◌, ◌-◌, ◌^◌, min, List, ◌++◌, length, replicate}

-- words that are filled with zeros to this count
unfoldable pub filled : ℕ → List ℕ → List ℕ
filled count words = words ++ replicate (count - length words) 0

-- words in memory, and the number of their reads
pub record CountedWords : Type 0 where
  pub words : List ℕ
  pub reads : ℕ

-- the same words after one more read; the number stays at its greatest value
abbrev pub read_once : CountedWords → CountedWords
read_once counted = record { words = counted.words; reads = min (counted.reads + 1) (2 ^ 64 - 1) }
