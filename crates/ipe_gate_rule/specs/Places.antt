-- The places of claims: the epoch, and the number of claims before in this epoch.
use Rattle.std.specs.Prelude.{◌≡◌, ◌⊎◌, ℕ, ◌<◌, ◌==◌, cond, List, [], ◌∷◌, length}
use Rattle.ipe_gate_rule.specs.declared.event.Event.{Event}
use Rattle.ipe_gate_rule.specs.declared.event.Event.TheVariants.{Store, Switch, Claim, Return, Look}
use Rattle.ipe_gate_rule.specs.History.{epoch_of, count_of}

-- the places of a pass's claims, the newest first
abbrev pub places_of : ℕ → List Event → List (ℕ × ℕ)
places_of q [] = []
places_of q (Store s i w ∷ h) = places_of q h
places_of q (Switch s e u ∷ h) = places_of q h
places_of q (Claim p ∷ h) = cond (q == p) ((epoch_of h, count_of h) ∷ places_of q h) (places_of q h)
places_of q (Return p ∷ h) = places_of q h
places_of q (Look s ∷ h) = places_of q h

-- all claims, the newest first: epoch, count and pass of each
abbrev pub claims_in : List Event → List (ℕ × ℕ × ℕ)
claims_in [] = []
claims_in (Store s i w ∷ h) = claims_in h
claims_in (Switch s e u ∷ h) = claims_in h
claims_in (Claim p ∷ h) = (epoch_of h, count_of h, p) ∷ claims_in h
claims_in (Return p ∷ h) = claims_in h
claims_in (Look s ∷ h) = claims_in h

-- each claim's place is before this epoch and count
abbrev pub AllBefore : ℕ → ℕ → List (ℕ × ℕ × ℕ) → Type 0
AllBefore epoch count [] = Unit {0}
AllBefore epoch count (x ∷ xs) = ((x.0 < epoch) ⊎ ((x.0 ≡ epoch) × (x.1 < count))) × AllBefore epoch count xs

-- claims, the newest first, whose places rise: each is after all that are older
abbrev pub InOrder : List (ℕ × ℕ × ℕ) → Type 0
InOrder [] = Unit {0}
InOrder (x ∷ xs) = AllBefore x.0 x.1 xs × InOrder xs

-- the counts of the claims of an epoch, the newest first
abbrev pub counts_in : ℕ → List Event → List ℕ
counts_in epoch [] = []
counts_in epoch (Store s i w ∷ h) = counts_in epoch h
counts_in epoch (Switch s e u ∷ h) = counts_in epoch h
counts_in epoch (Claim p ∷ h) = cond (epoch == epoch_of h) (count_of h ∷ counts_in epoch h) (counts_in epoch h)
counts_in epoch (Return p ∷ h) = counts_in epoch h
counts_in epoch (Look s ∷ h) = counts_in epoch h

-- numbers that fall to 0, one by one: each says how many stand after it
abbrev pub IsCountdown : List ℕ → Type 0
IsCountdown [] = Unit {0}
IsCountdown (n ∷ ns) = (n ≡ length ns) × IsCountdown ns
