-- The laws of the sizes of blocks.
use Rattle.std.specs.Prelude.{◌≡◌, ℕ, List, IsTrue, IfSome, Some}
use Rattle.std.specs.Fmt.{decimal}
use Rattle.hash_tree.specs.Hash.{sha256_hash}
use Rattle.hash_tree.specs.Shape.{IsHashBlockSize}
use Rattle.dmv_tree.specs.Blocks.{is_block_size}
use Rattle.dmv_tree.specs.Words.{block_size_of}

-- a word that says a size of blocks is the text of that number
abbrev pub WordsOfSizesAreTheirText : Type 0
WordsOfSizesAreTheirText = (word : List ℕ) → IfSome (block_size_of word) (λ n. word ≡ decimal n)

-- the text of a size of blocks says that size
abbrev pub TextsOfSizesSayThem : Type 0
TextsOfSizesSayThem = (n : ℕ) → IsTrue (is_block_size n) → block_size_of (decimal n) ≡ Some n

-- hash blocks may have each of these sizes
abbrev pub HashBlocksMayHaveThem : Type 0
HashBlocksMayHaveThem = (n : ℕ) → IsTrue (is_block_size n) → IsHashBlockSize sha256_hash n
