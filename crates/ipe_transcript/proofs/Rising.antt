-- Keys that rise, and actors' own entries.
use Rattle.std.proofs.Common.{◌≡◌, ◌<◌, ◌⊎◌, inl, inr, List, [], ◌∷◌, Option, Some, None, ◌∙◌, arith}
use Rattle.std.specs.List.{cons_option}
use Rattle.ipe_transcript.specs.Keys.{Key, IsBefore, Rises}

-- keys go on
pub before-trans : (a b c : Key) → IsBefore a b → IsBefore b c → IsBefore a c
before-trans a b c (inl h) (inl k) = inl (omega (arith, h, k))
before-trans a b c (inl h) (inr k) = inl (omega (arith, h, k.0))
before-trans a b c (inr h) (inl k) = inl (omega (arith, h.0, k))
before-trans a b c (inr h) (inr k) = inr (h.0 ∙ k.0, ranks h.1 k.1)
  where
    ranks : (a.rank < b.rank) ⊎ ((a.rank ≡ b.rank) × (a.within < b.within)) → (b.rank < c.rank) ⊎ ((b.rank ≡ c.rank) × (b.within < c.within)) → (a.rank < c.rank) ⊎ ((a.rank ≡ c.rank) × (a.within < c.within))
    ranks (inl h) (inl k) = inl (omega (arith, h, k))
    ranks (inl h) (inr k) = inl (omega (arith, h, k.0))
    ranks (inr h) (inl k) = inl (omega (arith, h.0, k))
    ranks (inr h) (inr k) = inr (h.0 ∙ k.0, omega (arith, h.1, k.1))

pub before-irrefl : (a : Key) → IsBefore a a → ⊥
before-irrefl a (inl h) = omega (arith, h)
before-irrefl a (inr h) = inner h.1
  where
    inner : (a.rank < a.rank) ⊎ ((a.rank ≡ a.rank) × (a.within < a.within)) → ⊥
    inner (inl k) = omega (arith, k)
    inner (inr k) = omega (arith, k.1)

-- keys that rise after one, but for the first of them
pub rises-skip : (k : Key) (o : Option Key) (keys : List Key) → Rises (k ∷ cons_option o keys) → Rises (k ∷ keys)
rises-skip k None keys rise = rise
rises-skip k (Some next) [] rise = tt
rises-skip k (Some next) (one ∷ keys) rise = (before-trans k next one rise.0 rise.1.0, rise.1.1)

pub Rises-tail : (k : Key) (keys : List Key) → Rises (k ∷ keys) → Rises keys
Rises-tail k [] rise = tt
Rises-tail k (next ∷ keys) rise = rise.1

pub rises-rest : (o : Option Key) (keys : List Key) → Rises (cons_option o keys) → Rises keys
rises-rest None keys rise = rise
rises-rest (Some k) keys rise = Rises-tail k keys rise
