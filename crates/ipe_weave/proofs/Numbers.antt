-- Lines whose numbers rise: so do each one's own.
use Rattle.std.proofs.Common.{◌≡◌, ℕ, ◌==◌, inl, inr, List, [], ◌∷◌, map, Option, None, refl, sym, ap, subst, ◌∙◌, arith}
use Rattle.std.proofs.lemmas.Bool.{cases_Bool}
use Rattle.ipe_machine.specs.Answer.{Verdicts}
use Rattle.ipe_machine.specs.Machine.{Machine}
use Rattle.ipe_transcript.specs.Keys.{Key}
use Rattle.ipe_transcript.proofs.Once.{own-first, own-skip}
use Rattle.ipe_weave.specs.Lines.{Line, NumbersRise, actor_of, own_lines, own_entries, line_in, after_line, entries_of}
use Rattle.ipe_weave.proofs.Phase.{own_map}

abbrev no_key : Line → Option Key
no_key line = None

rise_skip : (x y : Line) (xs : List Line) → NumbersRise (x ∷ y ∷ xs) → NumbersRise (x ∷ xs)
rise_skip x y [] rise = tt
rise_skip x y (z ∷ zs) rise = (omega (arith, rise.0, rise.1.0), rise.1.1)

rise_rest : (x : Line) (xs : List Line) → NumbersRise (x ∷ xs) → NumbersRise xs
rise_rest x [] rise = tt
rise_rest x (y ∷ ys) rise = rise.1

-- an actor's own after a line that rises to them
own_behind : (a : ℕ) (x : Line) (xs : List Line) → NumbersRise (x ∷ xs) → NumbersRise (x ∷ own_lines a xs)
own_behind a x [] rise = tt
own_behind a x (y ∷ ys) rise = elim (cases_Bool (actor_of y == a)) [
  | inl is ↦ subst (λ (ls : List Line). NumbersRise (x ∷ ls)) (sym (own-first actor_of no_key a y ys is)) (rise.0, own_behind a y ys rise.1)
  | inr is ↦ subst (λ (ls : List Line). NumbersRise (x ∷ ls)) (sym (own-skip actor_of no_key a y ys is)) (own_behind a x ys (rise_skip x y ys rise))
]

pub own_rise : (a : ℕ) (xs : List Line) → NumbersRise xs → NumbersRise (own_lines a xs)
own_rise a [] rise = tt
own_rise a (x ∷ xs) rise = elim (cases_Bool (actor_of x == a)) [
  | inl is ↦ subst NumbersRise (sym (own-first actor_of no_key a x xs is)) (own_behind a x xs rise)
  | inr is ↦ subst NumbersRise (sym (own-skip actor_of no_key a x xs is)) (own_rise a xs (rise_rest x xs rise))
]

-- the lines of a run's entries are the lines
pub run_lines : (verdicts : Verdicts) (machine : Machine) (lines : List Line) → map line_in (entries_of verdicts machine lines) ≡ lines
run_lines verdicts machine [] = refl
run_lines verdicts machine (line ∷ lines) = ap (λ (ls : List Line). line ∷ ls) (run_lines verdicts (after_line verdicts machine line) lines)

-- so are each one's own
pub run_own : (verdicts : Verdicts) (machine : Machine) (lines : List Line) (a : ℕ) → map line_in (own_entries a (entries_of verdicts machine lines)) ≡ own_lines a lines
run_own verdicts machine lines a = sym (own_map a (entries_of verdicts machine lines)) ∙ ap (own_lines a) (run_lines verdicts machine lines)
