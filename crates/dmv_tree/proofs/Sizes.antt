-- Words that say sizes of blocks.
use Rattle.std.proofs.Common.{◌≡◌, ℕ, List, Some, refl, arith}
use Rattle.std.specs.Prelude.{IsTrue, IfSome}
use Rattle.std.specs.Fmt.{decimal, digits}
use Rattle.std.proofs.lemmas.Slice.Eq.{bytes_eq-Decides}
use Rattle.dmv_tree.specs.Blocks.{is_block_size}
use Rattle.dmv_tree.specs.Words.{block_size_of}
use Rattle.dmv_tree.proofs.Bytes.{size_cases}

-- a word that says a size of blocks is the text of that number
pub size_text : (word : List ℕ) → IfSome (block_size_of word) (λ n. word ≡ decimal n)
unfolding digits
size_text word = grind (arith, bytes_eq-Decides)

-- the text of a size of blocks says that size
pub size_said : (n : ℕ) → IsTrue (is_block_size n) → block_size_of (decimal n) ≡ Some n
unfolding digits
size_said n is = size_cases n (λ (x : ℕ). block_size_of (decimal x) ≡ Some x) refl refl refl refl is
