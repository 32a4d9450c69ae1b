-- The passes that are taken in, one by one from the last.
use Rattle.std.proofs.Common.{◌≡◌, ℕ, zero, suc, ◌+◌, ◌<◌, ◌≤◌, List, [], ◌∷◌, ◌++◌, length, slice_get, Some, refl, sym, ap, ◌∙◌, subst, arith, length-append, append_assoc}
use Rattle.std.proofs.lemmas.List.{append-nil}
use mathlib.Core.Logic.{dite}
use native.Mathlib.Decide.{ℕ_discrete}
use Rattle.atomic_table.specs.declared.shared.Seat.{Seat}
use Rattle.ipe_gate_rule.specs.declared.event.Event.{Event}
use Rattle.ipe_gate_rule.specs.declared.view.Role.TheVariants.{Administrator}
use Rattle.ipe_gate_rule.specs.declared.view.View.{View}
use Rattle.ipe_gate_rule.specs.History.{GoesOnFrom}
use Rattle.ipe_gate_rule.specs.Owners.{own_events}
use Rattle.ipe_gate_rule.specs.Plays.{OthersKnown}
use Rattle.ipe_gate_rule.specs.Cuts.{taker}
use Rattle.ipe_gate_rule.specs.Views.{number_of}
use Rattle.ipe_gate.specs.declared.pass.Pass.{Pass}
use Rattle.ipe_gate.specs.declared.administrator.GateAdmin.{GateAdmin}
use Rattle.ipe_gate.specs.Seats.{seen}

-- what the administrator knows of each pass from the n-th on
abbrev pub KnownFrom : ℕ → List Pass → List (ℕ × List Event) → Type 0
KnownFrom n ps others = (k : ℕ) (p : Pass) → slice_get ps k ≡ Some p → n ≤ k → (h : List Event) → OthersKnown h others → (own_events k h ≡ own_events k (seen p)) × GoesOnFrom h (seen p)

pub record Taking (a : GateAdmin) (ps : List Pass) (seat : Seat (Unit {0}) View) (rest : List Pass) : Type 0 where
  pub gate : seat.table_id ≡ a.seat.table_id
  pub plain : seat.me.1 ≡ []
  pub role : seat.me.0.role ≡ Administrator a.passes
  pub seen_is : seat.me.0.seen ≡ a.seat.me.0.seen
  pub left : List Pass
  pub parts : ps ≡ rest ++ left
  pub known : KnownFrom (length rest) ps seat.me.0.others

get_end : {A : Type 0} (xs ys : List A) (k : ℕ) (y : A) → slice_get (xs ++ ys) k ≡ Some y → k < length xs → slice_get xs k ≡ Some y
get_end [] ys k y e lt = absurd (omega arith)
get_end (x ∷ xs) ys zero y e lt = e
get_end (x ∷ xs) ys (suc k) y e lt = get_end xs ys k y e (omega arith)

get_at : {A : Type 0} (xs ys : List A) (x : A) → slice_get ((xs ++ x ∷ []) ++ ys) (length xs) ≡ Some x
get_at [] ys x = refl
get_at (z ∷ xs) ys x = get_at xs ys x

beyond : {A : Type 0} (xs : List A) (k : ℕ) (y : A) → slice_get xs k ≡ Some y → k < length xs
beyond [] k y e = absurd (cc)
beyond (x ∷ xs) zero y e = omega arith
beyond (x ∷ xs) (suc k) y e = let a = beyond xs k y e in omega arith

same_pass : (x y : Pass) → Some x ≡ Some y → x ≡ y
same_pass x y e = cc

pub taking_none : (a : GateAdmin) (ps : List Pass) (seat : Seat (Unit {0}) View) → seat ≡ a.seat → Taking a ps seat ps
taking_none a ps seat is = record {
  gate = ap (λ s. s.table_id) is;
  plain = ap (λ s. s.me.1) is ∙ a.plain;
  role = ap (λ s. s.me.0.role) is ∙ a.role;
  seen_is = ap (λ s. s.me.0.seen) is;
  left = [];
  parts = sym (append-nil ps);
  known = λ k p e le h o. let b = beyond ps k p e in absurd (omega arith);
}

pub taken : (a : GateAdmin) (ps : List Pass) (seat seat' : Seat (Unit {0}) View) (rest rest' : List Pass) (x : Pass) → Taking a ps seat rest → rest ≡ rest' ++ x ∷ [] → ((k : ℕ) (p : Pass) → slice_get ps k ≡ Some p → p.number ≡ k) → seat'.table_id ≡ seat.table_id → seat'.me ≡ (taker seat.me.0 x.seat.me.0, seat.me.1) → Taking a ps seat' rest'
taken a ps seat seat' rest rest' x t parts numbers gate me =
    let whole : ps ≡ (rest' ++ x ∷ []) ++ t.left = t.parts ∙ ap (λ l. l ++ t.left) parts in
    let here : slice_get ps (length rest') ≡ Some x = ap (λ l. slice_get l (length rest')) whole ∙ get_at rest' t.left x in
    let number : number_of x.seat.me.0.role ≡ length rest' = ap number_of x.role ∙ numbers (length rest') x here in
    let count : length rest ≡ length rest' + 1 = ap length parts ∙ length-append rest' (x ∷ []) in
    record {
      gate = gate ∙ t.gate;
      plain = ap (λ m. m.1) me ∙ t.plain;
      role = ap (λ m. m.0.role) me ∙ t.role;
      seen_is = ap (λ m. m.0.seen) me ∙ t.seen_is;
      left = x ∷ t.left;
      parts = whole ∙ append_assoc rest' (x ∷ []) t.left;
      known = λ k p e le h o.
          let o' = subst (λ l. OthersKnown h l) (ap (λ m. m.0.others) me) o in
          dite (ℕ_discrete k (length rest'))
          (λ is. let same : x ≡ p = same_pass x p (sym here ∙ ap (slice_get ps) (sym is) ∙ e) in
          subst (λ (y : ℕ × Pass). (own_events y.0 h ≡ own_events y.0 (seen y.1)) × GoesOnFrom h (seen y.1)) (λ i. ((number ∙ sym is) i, same i)) o'.0)
          (λ ne. t.known k p e (omega arith) h o'.1);
    }

pub at_rest : (a : GateAdmin) (ps : List Pass) (seat : Seat (Unit {0}) View) (rest rest' : List Pass) (x : Pass) → Taking a ps seat rest → rest ≡ rest' ++ x ∷ [] → slice_get ps (length rest') ≡ Some x
at_rest a ps seat rest rest' x t parts = ap (λ l. slice_get l (length rest')) (t.parts ∙ ap (λ l. l ++ t.left) parts) ∙ get_at rest' t.left x
