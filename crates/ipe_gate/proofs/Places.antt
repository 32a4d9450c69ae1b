-- Places of a list that grew by one.
use Rattle.std.proofs.Common.{◌≡◌, ◌⊎◌, inl, inr, ⊎_elim, ℕ, zero, suc, List, [], ◌∷◌, ◌++◌, length, Some, slice_get, refl, ap, sym, subst, ◌∙◌, ◌+◌, length-append}
use Rattle.atomic_table.specs.Seated.{TableId}
use Rattle.ipe_gate.specs.declared.pass.Pass.{Pass}
use Rattle.ipe_gate_rule.specs.History.{claims_by, held_by}
use Rattle.ipe_gate.specs.Seats.{seen, gate_of}
use Rattle.ipe_gate.specs.Opening.{IsNew}

some-same : {A : Type 0} (a b : A) → Some a ≡ Some b → a ≡ b
some-same a b e = cc

pub get_snoc : {A : Type 0} (xs : List A) (x y : A) (k : ℕ) → slice_get (xs ++ x ∷ []) k ≡ Some y → (slice_get xs k ≡ Some y) ⊎ ((k ≡ length xs) × (x ≡ y))
get_snoc [] x y zero e = inr (refl, some-same x y e)
get_snoc [] x y (suc k) e = absurd (cc)
get_snoc (z ∷ xs) x y zero e = inl e
get_snoc (z ∷ xs) x y (suc k) e = ⊎_elim (λ t. inl t) (λ t. inr (ap suc t.0, t.1)) (get_snoc xs x y k e)

-- every pass of a list is new, with its place as its number
abbrev pub Fresh : TableId → List Pass → Type 0
Fresh gate ps = (k : ℕ) (p : Pass) → slice_get ps k ≡ Some p → IsNew k gate p

pub fresh_snoc : (gate : TableId) (new mid old : List Pass) (x : Pass) → new ≡ mid ++ x ∷ [] → mid ≡ old
    → x.number ≡ length old → seen x ≡ [] → gate_of x ≡ gate → Fresh gate old → Fresh gate new
fresh_snoc gate new mid old x grown same number nothing there before k p e =
    let fresh : IsNew (length old) gate x = record {
      number_is = number;
      gate_is = there;
      nothing = nothing;
      held = ap (held_by x.number) nothing;
      calls = ap (claims_by x.number) nothing;
    } in
    ⊎_elim
    (λ (t : slice_get old k ≡ Some p). before k p t)
    (λ (t : (k ≡ length old) × (x ≡ p)). subst (λ (y : ℕ × Pass). IsNew y.0 gate y.1) (λ i. (sym t.0 i, t.1 i)) fresh)
    (get_snoc old x p k (subst (λ l. slice_get l k ≡ Some p) (grown ∙ ap (λ l. l ++ x ∷ []) same) e))

pub count_snoc : (new mid old : List Pass) (x : Pass) → new ≡ mid ++ x ∷ [] → mid ≡ old → length new ≡ length old + 1
count_snoc new mid old x grown same = ap length (grown ∙ ap (λ l. l ++ x ∷ []) same) ∙ length-append old (x ∷ [])
