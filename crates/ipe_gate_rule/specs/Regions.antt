-- The region of a slot as a list of 4,096 words.
use Rattle.std.specs.Prelude.{ℕ, zero, suc, Bool, IsTrue, List, [], ◌∷◌, is_some}
use Rattle.ipe_image.specs.Reading.{image_in}
use Rattle.ipe_gate_rule.specs.declared.event.Event.{Event}
use Rattle.ipe_gate_rule.specs.History.{content}

-- so many values of a function, from this place on
abbrev pub listed : (ℕ → ℕ) → ℕ → ℕ → List ℕ
listed f at zero = []
listed f at (suc n) = f at ∷ listed f (suc at) n

-- 4,096 words, told by their places
unfoldable pub words_at : (ℕ → ℕ) → List ℕ
words_at f = listed f 0 4096

-- the region of a slot
abbrev pub region : ℕ → List Event → List ℕ
region k h = words_at (λ i. content k i h)

-- words begin with the image of a policy
unfoldable pub begins_with_image : List ℕ → Bool
begins_with_image words = is_some (image_in words)

-- words, told by their places, begin with the image of a policy
abbrev pub BeginsWithImage : (ℕ → ℕ) → Type 0
BeginsWithImage f = IsTrue (begins_with_image (words_at f))
