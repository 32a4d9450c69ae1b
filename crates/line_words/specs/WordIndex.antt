-- What a word index is seen as.
use Rattle.std.specs.Prelude.{ℕ, List, map}
use Rattle.std.specs.declared.vec.Vec.{Vec}

-- the bytes of each word
abbrev pub words_of : {A : Type 0} → List (Vec ℕ A) → List (List ℕ)
words_of keys = map (λ key. key.items) keys
