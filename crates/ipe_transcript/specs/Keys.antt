-- Where entries belong within a phase, and when they stand there. These words are of entries of any type, each of which
-- has an actor and a key, or none: where the administrator is 0, worker K is K.
use Rattle.std.specs.Prelude.{◌≡◌, ℕ, ◌<◌, ◌==◌, ◌⊎◌, Bool, true, false, List, [], ◌∷◌, Option, Some, None}
use Rattle.std.specs.List.{AllByRecursion, filter, filter_map}
use Rattle.ipe_machine.specs.declared.event.Place.{Place}

-- where an entry belongs within its phase: by epoch; in an epoch by its rank, and by a number within the rank
pub record Key : Type 0 where
  pub epoch : ℕ
  pub rank : ℕ
  pub within : ℕ

-- the command that began an epoch stands before all others of it
abbrev pub opening_key : ℕ → Key
opening_key epoch = record { epoch = epoch; rank = 0; within = 0 }

-- then come the commands that changed neither policy nor switch, by their lines
abbrev pub command_key : ℕ → ℕ → Key
command_key epoch line = record { epoch = epoch; rank = 1; within = line }

-- then the hooks with a claim, by its count
abbrev pub claim_key : ℕ → ℕ → Key
claim_key epoch count = record { epoch = epoch; rank = 2; within = count }

-- a write that raised the epoch begins its own; every other keeps its line's place among the commands of its epoch
abbrev pub write_key : ℕ → ℕ → Bool → Key
write_key line epoch true = opening_key epoch
write_key line epoch false = command_key epoch line

-- the key of a claim's place; without a place there is none
abbrev pub place_key : Option Place → Option Key
place_key None = None
place_key (Some place) = Some (claim_key place.epoch place.count)

-- a key is before another: by epoch, then by rank, then within the rank
abbrev pub IsBefore : Key → Key → Type 0
IsBefore a b =
    (a.epoch < b.epoch) ⊎ ((a.epoch ≡ b.epoch) × ((a.rank < b.rank) ⊎ ((a.rank ≡ b.rank) × (a.within < b.within))))

-- keys rise from each to the next
abbrev pub Rises : List Key → Type 0
Rises [] = Unit {0}
Rises (key ∷ []) = Unit {0}
Rises (key ∷ next ∷ keys) = IsBefore key next × Rises (next ∷ keys)

-- the entries of one actor
abbrev pub own_of : {X : Type 0} → (X → ℕ) → ℕ → List X → List X
own_of actor a entries = filter (λ entry. actor entry == a) entries

-- an entry stands directly after one of its own actor; the entries before it are given latest first
abbrev pub FollowsItsOwn : {X : Type 0} → (X → ℕ) → List X → X → Type 0
FollowsItsOwn actor [] entry = ⊥
FollowsItsOwn actor (previous ∷ before) entry = actor previous ≡ actor entry

-- an entry stands at the beginning, among others without a key, by actor
abbrev pub StandsAtTheBeginning : {X : Type 0} → (X → ℕ) → (X → Option Key) → List X → X → Type 0
StandsAtTheBeginning {X = X} actor key before entry =
    AllByRecursion (λ (earlier : X). (key earlier ≡ None) × (actor earlier < actor entry)) before

-- each entry without a key stands in one of these two ways, after those before
abbrev pub UnplacedStand : {X : Type 0} → (X → ℕ) → (X → Option Key) → List X → List X → Type 0
UnplacedStand actor key before [] = Unit {0}
UnplacedStand actor key before (entry ∷ entries) =
    (key entry ≡ None → FollowsItsOwn actor before entry ⊎ StandsAtTheBeginning actor key before entry)
    × UnplacedStand actor key (entry ∷ before) entries

-- a phase's entries are in place: those that have a key stand by it, and the others after their own actor's or at the
-- beginning
pub record AreInPlace {X : Type 0} (actor : X → ℕ) (key : X → Option Key) (entries : List X) : Type 0 where
  pub rises : Rises (filter_map key entries)
  pub stand : UnplacedStand actor key [] entries

-- entries in an order in which they may be printed: each one's own in that one's order, and all in place
pub record ArePrinted {X : Type 0} (actor : X → ℕ) (key : X → Option Key) (entries printed : List X) : Type 0 where
  pub own : (a : ℕ) → own_of actor a printed ≡ own_of actor a entries
  pub in_place : AreInPlace actor key printed
