-- Parts of phases, told by their places.
use Rattle.std.proofs.Common.{◌≡◌, ℕ, zero, suc, ◌+◌, ◌<◌, ◌==◌, inl, inr, Bool, true, false, cond, List, [], ◌∷◌, ◌++◌, length, get_or, slice_set, Some, Vec, refl, sym, ap, subst, ◌∙◌, arith}
use Rattle.std.specs.declared.alloc.Global.{Global}
use Rattle.std.specs.List.{slice_get}
use Rattle.std.proofs.lemmas.Bool.{cases_eq, eq-eqb, ne_eqb}
use Rattle.std.proofs.lemmas.List.{append-nil}
use Rattle.ipe_transcript.specs.declared.transcript.Entry.{Entry}
use Rattle.ipe_transcript.specs.Entries.{phase_of}
use Rattle.ipe_transcript.specs.Order.{part_at}

abbrev Parts : Type 0
Parts = List (Vec Entry Global)

pub part_at-read : (parts : Parts) (k : ℕ) (d : Vec Entry Global) → k < length parts → part_at parts k ≡ (get_or parts k d).items
part_at-read [] k d within = absurd (omega (arith, within))
part_at-read (p ∷ parts) zero d within = refl
part_at-read (p ∷ parts) (suc k) d within = part_at-read parts k d (omega (arith, within))

-- a part that is written, and the others
part_at-here : (parts : Parts) (k : ℕ) (v : Vec Entry Global) → k < length parts → part_at (slice_set parts k v) k ≡ v.items
part_at-here [] k v within = absurd (omega (arith, within))
part_at-here (p ∷ parts) zero v within = refl
part_at-here (p ∷ parts) (suc k) v within = part_at-here parts k v (omega (arith, within))

part_at-other : (parts : Parts) (k i : ℕ) (v : Vec Entry Global) → (i ≡ k → ⊥) → part_at (slice_set parts k v) i ≡ part_at parts i
part_at-other [] k i v differ = refl
part_at-other (p ∷ parts) zero zero v differ = absurd (differ refl)
part_at-other (p ∷ parts) zero (suc i) v differ = refl
part_at-other (p ∷ parts) (suc k) zero v differ = refl
part_at-other (p ∷ parts) (suc k) (suc i) v differ = part_at-other parts k i v (λ same. differ (ap suc same))

-- an entry that is put into its phase's part
pub added : (parts : Parts) (k : ℕ) (old new : Vec Entry Global) (entry : Entry) → k < length parts → old ≡ get_or parts k old → new.items ≡ old.items ++ entry ∷ [] → phase_of entry ≡ k + 1
    → (i : ℕ) → part_at (slice_set parts k new) i ≡ part_at parts i ++ cond (phase_of entry == i + 1) (entry ∷ []) []
added parts k old new entry within old_is new_is phase i = elim (cases_eq i k) [
  | inl at ↦
      let mine : (phase_of entry == i + 1) ≡ true = eq-eqb (phase_of entry) (i + 1) (phase ∙ ap (λ (n : ℕ). n + 1) (sym at)) in
      ap (part_at (slice_set parts k new)) at
      ∙ part_at-here parts k new within
      ∙ new_is
      ∙ ap (λ (v : Vec Entry Global). v.items ++ entry ∷ []) old_is
      ∙ ap (λ (es : List Entry). es ++ entry ∷ []) (sym (part_at-read parts k old within))
      ∙ ap (λ (n : ℕ). part_at parts n ++ entry ∷ []) (sym at)
      ∙ ap (λ (b : Bool). part_at parts i ++ cond b (entry ∷ []) []) (sym mine)
  | inr other ↦
      let mine : (phase_of entry == i + 1) ≡ false = ne_eqb (phase_of entry) (i + 1) (λ same. other (omega (arith, same, phase))) in
      part_at-other parts k i new other
      ∙ sym (append-nil (part_at parts i))
      ∙ ap (λ (b : Bool). part_at parts i ++ cond b (entry ∷ []) []) (sym mine)
]

-- one more part
pub empty_more : (parts : Parts) (v : Vec Entry Global) → v.items ≡ [] → ((i : ℕ) → part_at parts i ≡ []) → (i : ℕ) → part_at (parts ++ v ∷ []) i ≡ []
empty_more [] v is each zero = is
empty_more [] v is each (suc i) = refl
empty_more (p ∷ parts) v is each zero = each 0
empty_more (p ∷ parts) v is each (suc i) = empty_more parts v is (λ j. each (suc j)) i

pub part_at-before : (parts : Parts) (v : Vec Entry Global) (i : ℕ) → i < length parts → part_at (parts ++ v ∷ []) i ≡ part_at parts i
part_at-before [] v i within = absurd (omega (arith, within))
part_at-before (p ∷ parts) v zero within = refl
part_at-before (p ∷ parts) v (suc i) within = part_at-before parts v i (omega (arith, within))

pub part_at-last : (parts : Parts) (v : Vec Entry Global) → part_at (parts ++ v ∷ []) (length parts) ≡ v.items
part_at-last [] v = refl
part_at-last (p ∷ parts) v = part_at-last parts v

-- a list with one element more, read at a place
pub one_more : {A : Type 0} (Q : ℕ → A → Type 0) (xs : List A) (y : A) → ((i : ℕ) (x : A) → slice_get xs i ≡ Some x → Q i x) → Q (length xs) y → (i : ℕ) (x : A) → slice_get (xs ++ y ∷ []) i ≡ Some x → Q i x
one_more Q [] y each last zero x is = let same : y ≡ x = cc in subst (Q 0) same last
one_more Q [] y each last (suc i) x is = cc
one_more Q (z ∷ xs) y each last zero x is = each 0 x is
one_more Q (z ∷ xs) y each last (suc i) x is = one_more (λ (j : ℕ). Q (suc j)) xs y (λ j w at. each (suc j) w at) last i x is
