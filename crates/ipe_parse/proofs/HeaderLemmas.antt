-- Lines that haven't two tokens are no header.
use Rattle.std.proofs.Common.{◌≡◌, ℕ, ◌<◌, List, [], ◌∷◌, length, Err, refl, arith}
use Rattle.std.specs.Borrow.{Bor}
use Rattle.ipe_parse.specs.declared.error.BadKind.TheVariants.{NoHeader}
use Rattle.ipe_parse.specs.Lines.{words}
use Rattle.ipe_parse.specs.Tokens.{header_of}

pub few-tokens : (tokens : List (Bor (List ℕ))) → length tokens < 2 → header_of (words tokens) ≡ Err NoHeader
few-tokens [] h = refl
few-tokens (name ∷ []) h = refl
few-tokens (name ∷ version ∷ others) h = absurd (omega arith)

pub many-tokens : (tokens : List (Bor (List ℕ))) → 2 < length tokens → header_of (words tokens) ≡ Err NoHeader
many-tokens [] h = absurd (omega arith)
many-tokens (name ∷ []) h = refl
many-tokens (name ∷ version ∷ []) h = absurd (omega arith)
many-tokens (name ∷ version ∷ third ∷ others) h = refl
