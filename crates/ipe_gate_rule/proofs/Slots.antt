-- Few slots have claims out, and the region of one that is held stays.
use Rattle.std.proofs.Common.{◌≡◌, ℕ, zero, suc, ◌<◌, ◌≤◌, nat_lt, Bool, true, false, cond, List, ◌++◌, refl, ap, arith}
use Rattle.std.proofs.lemmas.Bool.Decides.{nat_tests}
use Rattle.ipe_gate_rule.specs.declared.event.Event.{Event}
use Rattle.ipe_gate_rule.specs.History.{held_by, out, content}
use Rattle.ipe_gate_rule.specs.Owners.{own_events, is_by_pass}
use Rattle.ipe_gate_rule.specs.Legal.{Legal, PassesBelow}
use Rattle.ipe_gate_rule.specs.Regions.{region, words_at}
use Rattle.ipe_gate_rule.specs.Rule.{sum_below, holders}
use Rattle.ipe_gate_rule.specs.Laws.{slots_out}
use Rattle.ipe_gate_rule.proofs.Frames.{none_since}
use Rattle.ipe_gate_rule.proofs.Frees.{out_holders, holders_most, content-quiet}

one_at_most : (b : Bool) (n : ℕ) → (b ≡ true → 0 < n) → cond {A = ℕ} b 1 0 ≤ n
one_at_most true n some = some refl
one_at_most false n some = omega arith

is_some : (n : ℕ) → nat_lt 0 n ≡ true → 0 < n
is_some n e = grind (arith, nat_tests)

slots_held : (passes n : ℕ) (h : List Event) → Legal h → PassesBelow passes h
    → slots_out n h ≤ sum_below (λ k. holders passes k h) (suc n)
slots_held passes zero h legal below = omega arith
slots_held passes (suc n) h legal below =
    let before = slots_held passes n h legal below in
    let is : out (suc n) h ≡ holders passes (suc n) h = out_holders passes (suc n) h (omega arith) legal below in
    let one = one_at_most (nat_lt 0 (out (suc n) h)) (out (suc n) h) (is_some (out (suc n) h)) in
    omega arith

pub few_out : (h : List Event) (passes n : ℕ) → Legal h → PassesBelow passes h → slots_out n h ≤ passes
few_out h passes n legal below =
    let a = slots_held passes n h legal below in
    let b = holders_most passes (suc n) h in
    omega arith

pub region_stays : (more seen : List Event) (p k passes : ℕ) → Legal (more ++ seen) → PassesBelow passes (more ++ seen)
    → p < passes → own_events p (more ++ seen) ≡ own_events p seen → held_by p seen ≡ k → 0 < k
    → region k (more ++ seen) ≡ region k seen
region_stays more seen p k passes legal below lt own held pos =
    let none = none_since (is_by_pass p) more seen own in
    let same : (i : ℕ) → content k i (more ++ seen) ≡ content k i seen =
    λ i. content-quiet passes p k i more seen none pos legal below lt held in
    ap words_at (λ j i. same i j)
