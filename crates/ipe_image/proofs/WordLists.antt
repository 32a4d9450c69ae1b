-- Words that are filled with zeros.
use Rattle.std.proofs.Common.{◌≡◌, ℕ, ◌-◌, ◌≤◌, suc, zero, List, [], ◌∷◌, ◌++◌, length, replicate, get_or, refl, arith, length-append}
use Rattle.std.proofs.lemmas.List.{length-replicate}
use Rattle.ipe_image.specs.Reader.{filled}

-- filled words are as many as they are filled to
pub length-filled : (count : ℕ) (words : List ℕ) → length words ≤ count → length (filled count words) ≡ count
unfolding filled
length-filled count words few =
    omega (
      arith,
      length-append words (replicate (count - length words) 0),
      length-replicate {A = ℕ}
          (count - length words) 0,
    )

-- a place in zeros is zero
pub zero-at : (n i : ℕ) → get_or {A = ℕ} (replicate n 0) i 0 ≡ 0
zero-at zero i = refl
zero-at (suc n) zero = refl
zero-at (suc n) (suc i) = zero-at n i

-- a place of filled words is the word there, or zero
at-append : (words : List ℕ) (n i : ℕ) → get_or (words ++ replicate n 0) i 0 ≡ get_or words i 0
at-append [] n i = zero-at n i
at-append (word ∷ words) n zero = refl
at-append (word ∷ words) n (suc i) = at-append words n i

pub at-filled : (count : ℕ) (words : List ℕ) (i : ℕ) → get_or (filled count words) i 0 ≡ get_or words i 0
unfolding filled
at-filled count words i = at-append words (count - length words) i

-- a place of words with zeros after them
pub at-zeros : (words zeros : List ℕ) (i : ℕ) → ((k : ℕ) → get_or zeros k 0 ≡ 0)
    → get_or (words ++ zeros) i 0 ≡ get_or words i 0
at-zeros [] zeros i none = none i
at-zeros (word ∷ words) zeros zero none = refl
at-zeros (word ∷ words) zeros (suc i) none = at-zeros words zeros i none
