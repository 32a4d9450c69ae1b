-- An actor's entries, cut before each that has an event of its own in the history.
use Rattle.std.proofs.Common.{◌≡◌, ℕ, ◌==◌, inl, Bool, true, false, List, [], ◌∷◌, ◌++◌, map, refl, sym, ap, ◌∙◌}
use Rattle.std.specs.List.{AllByRecursion, filter}
use Rattle.std.proofs.lemmas.Bool.{eq-eqb, ne_eqb}
use Rattle.ipe_transcript.specs.Keys.{UnplacedStand}
use Rattle.ipe_weave.specs.Lines.{Acted, line_in, actor_in, own_entries, key_of, NumbersRise}
use Rattle.ipe_weave.specs.Standing.{is_active}

-- an entry with an event, and those without that follow it
pub record Group : Type 0 where
  pub head : Acted
  pub idle : List Acted

-- those before the first with an event, and the groups
pub record Cut : Type 0 where
  pub lead : List Acted
  pub groups : List Group

-- an entry before those: it begins a group, or stands before the first
abbrev put : Acted → Bool → Cut → Cut
put x true c = record { lead = []; groups = record { head = x; idle = c.lead } ∷ c.groups }
put x false c = record { lead = x ∷ c.lead; groups = c.groups }

abbrev pub cut : List Acted → Cut
cut [] = record { lead = []; groups = [] }
cut (x ∷ xs) = put x (is_active x) (cut xs)

-- the entries of groups, one after another
abbrev pub laid : List Group → List Acted
laid [] = []
laid (gr ∷ gs) = gr.head ∷ (gr.idle ++ laid gs)

abbrev pub heads : List Group → List Acted
heads groups = map (λ (gr : Group). gr.head) groups

put_whole : (x : Acted) (b : Bool) (c : Cut) → (put x b c).lead ++ laid (put x b c).groups ≡ x ∷ (c.lead ++ laid c.groups)
put_whole x true c = refl
put_whole x false c = refl

pub cut_whole : (xs : List Acted) → (cut xs).lead ++ laid (cut xs).groups ≡ xs
cut_whole [] = refl
cut_whole (x ∷ xs) = put_whole x (is_active x) (cut xs) ∙ ap (λ (ys : List Acted). x ∷ ys) (cut_whole xs)

-- the lines' numbers rise from each entry to the next
abbrev pub EntriesRise : List Acted → Type 0
EntriesRise xs = NumbersRise (map line_in xs)

-- each has no event
abbrev pub AllCalm : List Acted → Type 0
AllCalm xs = AllByRecursion (λ (x : Acted). is_active x ≡ false) xs

abbrev pub IsGroup : Group → Type 0
IsGroup gr = (is_active gr.head ≡ true) × AllCalm gr.idle

pub record IsCut (xs : List Acted) (c : Cut) : Type 0 where
  pub lead : AllCalm c.lead
  pub groups : AllByRecursion IsGroup c.groups
  pub heads : filter is_active xs ≡ heads c.groups

put_is : (x : Acted) (xs : List Acted) (c : Cut) → IsCut xs c → (b : Bool) → is_active x ≡ b → IsCut (x ∷ xs) (put x b c)
put_is x xs c rest true e = record {
  lead = tt;
  groups = ((e, rest.lead), rest.groups);
  heads = rw e (ap (λ (ys : List Acted). x ∷ ys) rest.heads);
}
put_is x xs c rest false e = record {
  lead = (e, rest.lead);
  groups = rest.groups;
  heads = rw e rest.heads;
}

pub cut_is : (xs : List Acted) → IsCut xs (cut xs)
cut_is [] = record { lead = tt; groups = tt; heads = refl }
cut_is (x ∷ xs) = put_is x xs (cut xs) (cut_is xs) (is_active x) refl

-- what holds of each of two lists, of both and back
pub All_both : {X : Type 0} (P : X → Type 0) (xs ys : List X) → AllByRecursion P xs → AllByRecursion P ys → AllByRecursion P (xs ++ ys)
All_both P [] ys h k = k
All_both P (x ∷ xs) ys h k = (h.0, All_both P xs ys h.1 k)

pub All_front : {X : Type 0} (P : X → Type 0) (xs ys : List X) → AllByRecursion P (xs ++ ys) → AllByRecursion P xs
All_front P [] ys h = tt
All_front P (x ∷ xs) ys h = (h.0, All_front P xs ys h.1)

pub All_back : {X : Type 0} (P : X → Type 0) (xs ys : List X) → AllByRecursion P (xs ++ ys) → AllByRecursion P ys
All_back P [] ys h = h
All_back P (x ∷ xs) ys h = All_back P xs ys h.1

-- entries of one actor
abbrev pub AllOf : ℕ → List Acted → Type 0
AllOf actor xs = AllByRecursion (λ (x : Acted). actor_in x ≡ actor) xs

-- an actor's own among entries that stand before others: its own there, or none of another's
pub own_same : (actor : ℕ) (xs ys : List Acted) → AllOf actor xs → own_entries actor (xs ++ ys) ≡ xs ++ own_entries actor ys
own_same actor [] ys all = refl
own_same actor (x ∷ xs) ys all =
    let is : (actor_in x == actor) ≡ true = eq-eqb (actor_in x) actor all.0 in
    rw is (ap (λ (zs : List Acted). x ∷ zs) (own_same actor xs ys all.1))

pub own_other : (actor other : ℕ) (xs ys : List Acted) → (other ≡ actor → ⊥) → AllOf other xs → own_entries actor (xs ++ ys) ≡ own_entries actor ys
own_other actor other [] ys differ all = refl
own_other actor other (x ∷ xs) ys differ all =
    let is : (actor_in x == actor) ≡ false = ne_eqb (actor_in x) actor (λ e. differ (sym all.0 ∙ e)) in
    rw is (own_other actor other xs ys differ all.1)

-- calm entries that directly follow one of their actor's stand where they must
pub follow : (actor : ℕ) (previous : Acted) (before idle rest : List Acted) → actor_in previous ≡ actor → AllOf actor idle
    → ((b : List Acted) → UnplacedStand actor_in key_of b rest) → UnplacedStand actor_in key_of (previous ∷ before) (idle ++ rest)
follow actor previous before [] rest own all stand = stand (previous ∷ before)
follow actor previous before (x ∷ idle) rest own all stand =
    ((λ none. inl (own ∙ sym all.0)), follow actor x (previous ∷ before) idle rest all.0 all.1 stand)
