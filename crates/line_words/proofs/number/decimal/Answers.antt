use Rattle.std.proofs.Common.{◌≡◌, ℕ, ◌≤◌, ◌<◌, ◌^◌, Option, Some, None, IfSome, IfNone, List, arith, sym}
use Rattle.std.specs.Fmt.{decimal}
use Rattle.line_words.specs.Words.{number_of}
use Rattle.line_words.proofs.Numbers.{number_of-decimal, number_of-none}
use Rattle.line_words.proofs.number.decimal.Goals as goal

from_found : (word : List ℕ) (most : ℕ) (found : Option ℕ) → most < 2 ^ 64 → IfSome found (λ n. (word ≡ decimal n) × (n ≤ most)) → IfNone found ((n : ℕ) → n ≤ most → word ≡ decimal n → ⊥) → found ≡ number_of most word
from_found word most (Some n) small some none = sym (number_of-decimal word most n small some.1 some.0)
from_found word most None small some none = sym (number_of-none word most small none)

pub returns-clause-number : goal.returns-clause-number
returns-clause-number c = from_found _ _ _ (omega arith) c.spelled.ensures.found c.spelled.ensures.none
