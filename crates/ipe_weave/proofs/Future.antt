-- A history that goes on: what is still to come stands the oldest first.
use Rattle.std.proofs.Common.{◌≡◌, ℕ, Bool, true, false, cond, List, [], ◌∷◌, ◌++◌, refl, sym, ap, ◌∙◌, append_assoc, append-nil, reverse}
use Rattle.std.proofs.lemmas.List.{reverse-append}
use Rattle.ipe_gate_rule.specs.declared.event.Event.{Event}
use Rattle.ipe_gate_rule.specs.declared.event.Event.TheVariants.{Store, Switch, Claim, Return, Look}
use Rattle.ipe_gate_rule.specs.History.{epoch_of, count_of}
use Rattle.ipe_gate_rule.specs.Places.{claims_in}
use Rattle.ipe_weave.specs.Acts.{Act, acts_of}
use Rattle.ipe_weave.specs.Basis.{MayBe}
use Rattle.ipe_weave.proofs.Founded.{Founded}

-- the history with the events that come
abbrev pub onto : List Event → List Event → List Event
onto s [] = s
onto s (e ∷ t) = onto (e ∷ s) t

-- those that come and pass a test
abbrev pub acts_from : (Event → Bool) → List Event → List Event → List Act
acts_from test s [] = []
acts_from test s (e ∷ t) = cond (test e) (record { event = e; before = s } ∷ acts_from test (e ∷ s) t) (acts_from test (e ∷ s) t)

-- all claims with their places, the oldest first: epoch, count and pass
abbrev pub claims_told : List Event → List (ℕ × ℕ × ℕ)
claims_told [] = []
claims_told (Store s i w ∷ h) = claims_told h
claims_told (Switch s e u ∷ h) = claims_told h
claims_told (Claim p ∷ h) = claims_told h ++ (epoch_of h, count_of h, p) ∷ []
claims_told (Return p ∷ h) = claims_told h
claims_told (Look s ∷ h) = claims_told h

-- they are the claims of the gate's rule, which stand newest first
pub claims_reversed : (h : List Event) → reverse (claims_in h) ≡ claims_told h
claims_reversed [] = refl
claims_reversed (Store s i w ∷ h) = claims_reversed h
claims_reversed (Switch s e u ∷ h) = claims_reversed h
claims_reversed (Claim p ∷ h) = reverse-append ((epoch_of h, count_of h, p) ∷ []) (claims_in h) ∙ ap (λ (xs : List (ℕ × ℕ × ℕ)). xs ++ (epoch_of h, count_of h, p) ∷ []) (claims_reversed h)
claims_reversed (Return p ∷ h) = claims_reversed h
claims_reversed (Look s ∷ h) = claims_reversed h

-- the claims that come
abbrev pub claims_from : List Event → List Event → List (ℕ × ℕ × ℕ)
claims_from s [] = []
claims_from s (Store a i w ∷ t) = claims_from (Store a i w ∷ s) t
claims_from s (Switch a e u ∷ t) = claims_from (Switch a e u ∷ s) t
claims_from s (Claim p ∷ t) = (epoch_of s, count_of s, p) ∷ claims_from (Claim p ∷ s) t
claims_from s (Return p ∷ t) = claims_from (Return p ∷ s) t
claims_from s (Look a ∷ t) = claims_from (Look a ∷ s) t

pub acts_onto : (test : Event → Bool) (s t : List Event) → acts_of test (onto s t) ≡ acts_of test s ++ acts_from test s t
acts_onto test s [] = sym (append-nil (acts_of test s))
acts_onto test s (e ∷ t) = acts_onto test (e ∷ s) t ∙ by (test e)
  where
    one : Act
    one = record { event = e; before = s }

    by : (b : Bool) → cond b (acts_of test s ++ one ∷ []) (acts_of test s) ++ acts_from test (e ∷ s) t ≡ acts_of test s ++ cond b (one ∷ acts_from test (e ∷ s) t) (acts_from test (e ∷ s) t)
    by true = append_assoc (acts_of test s) (one ∷ []) (acts_from test (e ∷ s) t)
    by false = refl

pub claims_onto : (s t : List Event) → claims_told (onto s t) ≡ claims_told s ++ claims_from s t
claims_onto s [] = sym (append-nil (claims_told s))
claims_onto s (Store a i w ∷ t) = claims_onto (Store a i w ∷ s) t
claims_onto s (Switch a e u ∷ t) = claims_onto (Switch a e u ∷ s) t
claims_onto s (Claim p ∷ t) = claims_onto (Claim p ∷ s) t ∙ append_assoc (claims_told s) ((epoch_of s, count_of s, p) ∷ []) (claims_from (Claim p ∷ s) t)
claims_onto s (Return p ∷ t) = claims_onto (Return p ∷ s) t
claims_onto s (Look a ∷ t) = claims_onto (Look a ∷ s) t

-- a legal history was legal before
pub legal_before : (g : Founded) (s t : List Event) → MayBe g.basis (onto s t) → MayBe g.basis s
legal_before g s [] legal = legal
legal_before g s (e ∷ t) legal = (legal_before g (e ∷ s) t legal).1

onto_last : (s t : List Event) (e : Event) → onto s (t ++ e ∷ []) ≡ e ∷ onto s t
onto_last s [] e = refl
onto_last s (x ∷ t) e = onto_last (x ∷ s) t e

-- a history that goes on from another is that and events that come
pub coming : (s more : List Event) → (t : List Event) × (onto s t ≡ more ++ s)
coming s [] = ([], refl)
coming s (e ∷ more) =
    let rest = coming s more in
    (rest.0 ++ e ∷ [], onto_last s rest.0 e ∙ ap (λ (h : List Event). e ∷ h) rest.1)
