-- A phase's beginning: each worker's entries before its first claim, by worker.
use Rattle.std.proofs.Common.{◌≡◌, ℕ, zero, suc, ◌+◌, ◌<◌, ◌≤◌, ◌==◌, inl, inr, List, [], ◌∷◌, ◌++◌, None, refl, sym, ap, subst, ◌∙◌, append_assoc, arith}
use Rattle.std.specs.List.{AllByRecursion}
use Rattle.std.proofs.lemmas.Bool.{eqb-true, eqb-false, cases_Bool}
use Rattle.ipe_transcript.specs.Keys.{StandsAtTheBeginning, UnplacedStand}
use Rattle.ipe_weave.specs.Lines.{Acted, actor_in, own_entries, key_of}
use Rattle.ipe_weave.specs.Standing.{IsIdle}
use Rattle.ipe_weave.proofs.Founded.{Founded}
use Rattle.ipe_weave.proofs.Groups.{AllCalm, All_both, AllOf, own_same, own_other}
use Rattle.ipe_weave.proofs.Ran.{idle_nowhere}

-- the entries that the passes from `from` on, so many of them, have first
abbrev pub leads : (ℕ → List Acted) → ℕ → ℕ → List Acted
leads lead from zero = []
leads lead from (suc n) = lead from ++ leads lead (from + 1) n

-- what each lead has, all have
pub leads_all : (P : Acted → Type 0) (lead : ℕ → List Acted) (from n : ℕ) → ((p : ℕ) → AllByRecursion P (lead p)) → AllByRecursion P (leads lead from n)
leads_all P lead from zero all = tt
leads_all P lead from (suc n) all = All_both P (lead from) (leads lead (from + 1) n) (all from) (leads_all P lead (from + 1) n all)

-- an actor's own among leads: none of the administrator's, nor of a pass before the first
pub leads_none : (lead : ℕ → List Acted) (from n actor : ℕ) (rest : List Acted) → actor ≤ from → ((p : ℕ) → AllOf (p + 1) (lead p)) → own_entries actor (leads lead from n ++ rest) ≡ own_entries actor rest
leads_none lead from zero actor rest low own = refl
leads_none lead from (suc n) actor rest low own =
    ap (own_entries actor) (append_assoc (lead from) (leads lead (from + 1) n) rest)
    ∙ own_other actor (from + 1) (lead from) (leads lead (from + 1) n ++ rest) (λ e. omega (arith, low, e)) (own from)
    ∙ leads_none lead (from + 1) n actor rest (omega (arith, low)) own

-- a pass's own among leads: its lead, which is empty after the last
pub leads_own : (lead : ℕ → List Acted) (from n p : ℕ) (rest : List Acted) → from ≤ p → (from + n ≤ p → lead p ≡ []) → ((b : ℕ) → AllOf (b + 1) (lead b)) → own_entries (p + 1) (leads lead from n ++ rest) ≡ lead p ++ own_entries (p + 1) rest
leads_own lead from zero p rest low none own = rw (none (omega (arith, low))) refl
leads_own lead from (suc n) p rest low none own = elim (cases_Bool (from == p)) [
  | inl same ↦
      let e : from ≡ p = eqb-true from p same in
      ap (own_entries (p + 1)) (append_assoc (lead from) (leads lead (from + 1) n) rest)
      ∙ subst (λ (b : ℕ). own_entries (b + 1) (lead from ++ (leads lead (from + 1) n ++ rest)) ≡ lead b ++ own_entries (b + 1) rest) e (
      own_same (from + 1) (lead from) (leads lead (from + 1) n ++ rest) (own from)
      ∙ ap (λ (es : List Acted). lead from ++ es) (leads_none lead (from + 1) n (from + 1) rest (omega arith) own)
      )
  | inr other ↦
      let differ : from ≡ p → ⊥ = eqb-false from p other in
      ap (own_entries (p + 1)) (append_assoc (lead from) (leads lead (from + 1) n) rest)
      ∙ own_other (p + 1) (from + 1) (lead from) (leads lead (from + 1) n ++ rest) (λ e. differ (omega (arith, e))) (own from)
      ∙ leads_own lead (from + 1) n p rest (omega (arith, low, differ)) (λ h. none (omega (arith, h))) own
]

-- entries without a place, of actors up to this one, latest first
abbrev AllEarly : ℕ → List Acted → Type 0
AllEarly above before = AllByRecursion (λ (x : Acted). (key_of x ≡ None) × (actor_in x < above)) before

early_more : (above : ℕ) (before : List Acted) → AllEarly above before → AllEarly (above + 1) before
early_more above [] early = tt
early_more above (x ∷ xs) early = ((early.0.0, omega (arith, early.0.1)), early_more above xs early.1)

-- entries of one actor without a place stand after one of its own
block_follows : (actor : ℕ) (previous : Acted) (before block rest : List Acted) → actor_in previous ≡ actor → AllOf actor block → AllByRecursion (λ (x : Acted). key_of x ≡ None) block
    → key_of previous ≡ None → AllEarly (actor + 1) before → ((b : List Acted) → AllEarly (actor + 1) b → UnplacedStand actor_in key_of b rest)
    → UnplacedStand actor_in key_of (previous ∷ before) (block ++ rest)
block_follows actor previous before [] rest is own none prior early stand = stand (previous ∷ before) ((prior, omega (arith, is)), early)
block_follows actor previous before (x ∷ block) rest is own none prior early stand =
    ((λ h. inl (is ∙ sym own.0)), block_follows actor x (previous ∷ before) block rest own.0 own.1 none.1 none.0 ((prior, omega (arith, is)), early) stand)

-- they stand at the beginning after those of lower actors
block_begins : (actor : ℕ) (before block rest : List Acted) → AllOf actor block → AllByRecursion (λ (x : Acted). key_of x ≡ None) block
    → AllEarly actor before → ((b : List Acted) → AllEarly (actor + 1) b → UnplacedStand actor_in key_of b rest)
    → UnplacedStand actor_in key_of before (block ++ rest)
block_begins actor before [] rest own none early stand = stand before (early_more actor before early)
block_begins actor before (x ∷ block) rest own none early stand =
    ((λ h. inr (at_beginning before early)), block_follows actor x before block rest own.0 own.1 none.1 none.0 (early_more actor before early) stand)
  where
    at_beginning : (before : List Acted) → AllEarly actor before → StandsAtTheBeginning actor_in key_of before x
    at_beginning [] early = tt
    at_beginning (y ∷ ys) early = ((early.0.0, omega (arith, early.0.1, own.0)), at_beginning ys early.1)

pub leads_stand : (lead : ℕ → List Acted) (from n : ℕ) (before rest : List Acted) → ((p : ℕ) → AllOf (p + 1) (lead p)) → ((p : ℕ) → AllByRecursion (λ (x : Acted). key_of x ≡ None) (lead p))
    → AllEarly (from + 1) before → ((b : List Acted) → UnplacedStand actor_in key_of b rest) → UnplacedStand actor_in key_of before (leads lead from n ++ rest)
leads_stand lead from zero before rest own none early stand = stand before
leads_stand lead from (suc n) before rest own none early stand =
    subst (UnplacedStand actor_in key_of before) (sym (append_assoc (lead from) (leads lead (from + 1) n) rest)) (
    block_begins (from + 1) before (lead from) (leads lead (from + 1) n ++ rest) (own from) (none from) early
    (λ b later. leads_stand lead (from + 1) n b rest own none later stand)
    )

-- calm hooks have no place
pub calm_nowhere : (g : Founded) (xs : List Acted) → AllByRecursion IsIdle xs → AllCalm xs → AllByRecursion (λ (x : Acted). key_of x ≡ None) xs
calm_nowhere g [] idle calm = tt
calm_nowhere g (x ∷ xs) idle calm = (idle_nowhere g x idle.0 calm.0, calm_nowhere g xs idle.1 calm.1)
