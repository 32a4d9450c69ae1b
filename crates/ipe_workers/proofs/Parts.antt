-- What each of the workers did is one part of what was done, and no other's.
use Rattle.std.proofs.Common.{◌≡◌, ◌≢◌, ℕ, zero, suc, ◌+◌, ◌<◌, ◌==◌, Bool, true, false, cond, List, [], ◌∷◌, ◌++◌, length, map, get_or, refl, sym, ap, subst, ◌∙◌, append-nil, arith, ne_eqb, eq-eqb}
use Rattle.std.specs.List.{AllByRecursion, flat_map}
use Rattle.std.proofs.lemmas.Bool.{eqb-true}
use Rattle.std.proofs.lemmas.List.{map-append}
use Rattle.std.proofs.lemmas.List.Elements.{filter-append}
use Rattle.blk_device.specs.Contents.{Contents}
use Rattle.ipe_requests.specs.declared.script.PhaseLine.{PhaseLine}
use Rattle.ipe_objects.specs.Ready.{Ready}
use Rattle.ipe_transcript.specs.declared.transcript.Entry.{Entry}
use Rattle.ipe_weave.specs.Lines.{Acted, Line, actor_in, actor_of, line_in, own_entries, own_lines}
use Rattle.ipe_weave.specs.Told.{entry_of}
use Rattle.ipe_lines.specs.Asked.{lines_of, verdicts_of}
use Rattle.ipe_lines.specs.Told.{content_of_line, told_phase}
use Rattle.ipe_workers.specs.declared.worker.Worker.{Worker}
use Rattle.ipe_workers.specs.Passes.{HasAnswered}
use Rattle.ipe_workers.specs.Prepared.{files_in}
use Rattle.ipe_workers.specs.Workers.{HasRun, entries_in, lines_for, pass_of}

-- all are of one actor
abbrev pub AllOf : ℕ → List Acted → Type 0
AllOf k xs = AllByRecursion (λ (x : Acted). actor_in x ≡ k) xs

lines_own : (k : ℕ) (ls : List Line) → AllByRecursion (λ (l : Line). actor_of l ≡ k) (own_lines k ls)
lines_own k [] = tt
lines_own k (l ∷ ls) = by (actor_of l == k) (λ (e : (actor_of l == k) ≡ true). eqb-true (actor_of l) k e) (lines_own k ls)
  where
    by : (b : Bool) → (b ≡ true → actor_of l ≡ k) → AllByRecursion (λ (m : Line). actor_of m ≡ k) (own_lines k ls) → AllByRecursion (λ (m : Line). actor_of m ≡ k) (cond b (l ∷ own_lines k ls) (own_lines k ls))
    by true is rest = (is refl, rest)
    by false is rest = rest

of_lines : (k : ℕ) (xs : List Acted) → AllByRecursion (λ (l : Line). actor_of l ≡ k) (map line_in xs) → AllOf k xs
of_lines k [] all = tt
of_lines k (x ∷ xs) all = (all.0, of_lines k xs all.1)

-- entries of an actor's own lines are its own
pub all_own : (k : ℕ) (ls : List Line) (xs : List Acted) → map line_in xs ≡ own_lines k ls → AllOf k xs
all_own k ls xs is = of_lines k xs (subst (AllByRecursion (λ (l : Line). actor_of l ≡ k)) (sym is) (lines_own k ls))

pub own_same : (k : ℕ) (xs : List Acted) → AllOf k xs → own_entries k xs ≡ xs
own_same k [] all = refl
own_same k (x ∷ xs) all =
    ap (λ (b : Bool). cond b (x ∷ own_entries k xs) (own_entries k xs)) (eq-eqb (actor_in x) k all.0)
    ∙ ap (λ (ys : List Acted). x ∷ ys) (own_same k xs all.1)

pub own_none : (k j : ℕ) (xs : List Acted) → k ≢ j → AllOf k xs → own_entries j xs ≡ []
own_none k j [] ne all = refl
own_none k j (x ∷ xs) ne all =
    ap (λ (b : Bool). cond b (x ∷ own_entries j xs) (own_entries j xs)) (ne_eqb (actor_in x) j (λ e. ne (sym all.0 ∙ e)))
    ∙ own_none k j xs ne all.1

pub own_both : (j : ℕ) (xs ys : List Acted) → own_entries j (xs ++ ys) ≡ own_entries j xs ++ own_entries j ys
own_both j xs ys = filter-append (λ (x : Acted). actor_in x == j) xs ys

-- a worker did its own of all lines
pub record Part (objects : Ready) (images : Contents) (phase : ℕ) (lines : List PhaseLine) (n : ℕ) (w u : Worker) (part : List Acted) : Type 0 where
  pub answered : HasAnswered (verdicts_of objects.script) (pass_of w) (pass_of u) part
  pub lines_are : map line_in part ≡ lines_for objects images (n + 1) lines
  pub entries : entries_in u ≡ entries_in w ++ told_phase (files_in objects images) phase part

pub part_of : (objects : Ready) (images : Contents) (phase : ℕ) (lines : List PhaseLine) (n : ℕ) (w u : Worker) → (pass_of w).number ≡ n
    → (ran : HasRun objects images phase true lines w u) → Part objects images phase lines n w u ran.acted
part_of objects images phase lines n w u is ran =
    let whole = ran.whole refl in
    let all : lines ≡ ran.some = ran.cut ∙ ap (λ (ls : List PhaseLine). ran.some ++ ls) whole.0 ∙ append-nil ran.some in
    record {
      answered = ran.answered;
      lines_are = ran.lines_are ∙ ap (λ (k : ℕ). lines_for objects images (k + 1) ran.some) is ∙ ap (lines_for objects images (n + 1)) (sym all);
      entries = whole.1;
    }

-- the parts of all workers, from this number on
abbrev pub Parts : Ready → Contents → ℕ → List PhaseLine → ℕ → List Worker → List Worker → List (List Acted) → Type 0
Parts objects images phase lines n [] us [] = Unit {0}
Parts objects images phase lines n [] us (part ∷ parts) = ⊥
Parts objects images phase lines n (w ∷ ws) [] parts = ⊥
Parts objects images phase lines n (w ∷ ws) (u ∷ us) [] = ⊥
Parts objects images phase lines n (w ∷ ws) (u ∷ us) (part ∷ parts) = Part objects images phase lines n w u part × Parts objects images phase lines (n + 1) ws us parts

pub parts_of : (objects : Ready) (images : Contents) (phase : ℕ) (lines : List PhaseLine) (n : ℕ) (ws us : List Worker) → length us ≡ length ws
    → ((k : ℕ) (d : Worker) → k < length ws → (pass_of (get_or ws k d)).number ≡ n + k)
    → ((k : ℕ) (d : Worker) → k < length ws → HasRun objects images phase true lines (get_or ws k d) (get_or us k d))
    → (parts : List (List Acted)) × Parts objects images phase lines n ws us parts
parts_of objects images phase lines n [] us long numbers ran = ([], tt)
parts_of objects images phase lines n (w ∷ ws) [] long numbers ran = absurd (omega (arith, long))
parts_of objects images phase lines n (w ∷ ws) (u ∷ us) long numbers ran =
    let one = ran 0 w (omega arith) in
    let rest = parts_of objects images phase lines (n + 1) ws us (omega (arith, long)) (λ k d lt. numbers (suc k) d (omega (arith, lt)) ∙ omega arith) (λ k d lt. ran (suc k) d (omega (arith, lt))) in
    (one.acted ∷ rest.0, (part_of objects images phase lines n w u (numbers 0 w (omega arith) ∙ omega arith) one, rest.1))

-- all parts, one after another
abbrev pub joined : List (List Acted) → List Acted
joined [] = []
joined (part ∷ parts) = part ++ joined parts

-- the part at a place
abbrev pub nth : List (List Acted) → ℕ → List Acted
nth [] k = []
nth (part ∷ parts) zero = part
nth (part ∷ parts) (suc k) = nth parts k

part_own : (objects : Ready) (images : Contents) (phase : ℕ) (lines : List PhaseLine) (n : ℕ) (w u : Worker) (part : List Acted) → Part objects images phase lines n w u part → AllOf (n + 1) part
part_own objects images phase lines n w u part is = all_own (n + 1) (lines_of objects.script (files_in objects images) lines) part is.lines_are

-- no part is of another actor than the workers
pub parts_other : (objects : Ready) (images : Contents) (phase : ℕ) (lines : List PhaseLine) (n : ℕ) (ws us : List Worker) (parts : List (List Acted)) → Parts objects images phase lines n ws us parts
    → (j : ℕ) → ((k : ℕ) → k < length ws → j ≢ n + k + 1) → own_entries j (joined parts) ≡ []
parts_other objects images phase lines n [] us [] all j other = refl
parts_other objects images phase lines n [] us (part ∷ parts) all j other = absurd all
parts_other objects images phase lines n (w ∷ ws) [] parts all j other = absurd all
parts_other objects images phase lines n (w ∷ ws) (u ∷ us) [] all j other = absurd all
parts_other objects images phase lines n (w ∷ ws) (u ∷ us) (part ∷ parts) all j other =
    own_both j part (joined parts)
    ∙ ap (λ (xs : List Acted). xs ++ own_entries j (joined parts)) (own_none (n + 1) j part (λ e. other 0 (omega arith) (omega (arith, e))) (part_own objects images phase lines n w u part all.0))
    ∙ parts_other objects images phase lines (n + 1) ws us parts all.1 j (λ k lt e. other (suc k) (omega (arith, lt)) (omega (arith, e)))

-- a worker's own is its part
pub parts_own : (objects : Ready) (images : Contents) (phase : ℕ) (lines : List PhaseLine) (n : ℕ) (ws us : List Worker) (parts : List (List Acted)) → Parts objects images phase lines n ws us parts
    → (k j : ℕ) → k < length ws → j ≡ n + k + 1 → own_entries j (joined parts) ≡ nth parts k
parts_own objects images phase lines n [] us parts all k j lt is = absurd (omega (arith, lt))
parts_own objects images phase lines n (w ∷ ws) [] parts all k j lt is = absurd all
parts_own objects images phase lines n (w ∷ ws) (u ∷ us) [] all k j lt is = absurd all
parts_own objects images phase lines n (w ∷ ws) (u ∷ us) (part ∷ parts) all zero j lt is =
    own_both j part (joined parts)
    ∙ ap (λ (xs : List Acted). xs ++ own_entries j (joined parts)) (ap (λ (i : ℕ). own_entries i part) (is ∙ omega arith) ∙ own_same (n + 1) part (part_own objects images phase lines n w u part all.0))
    ∙ ap (λ (xs : List Acted). part ++ xs) (parts_other objects images phase lines (n + 1) ws us parts all.1 j (λ i below e. omega (arith, is, e)))
    ∙ append-nil part
parts_own objects images phase lines n (w ∷ ws) (u ∷ us) (part ∷ parts) all (suc k) j lt is =
    own_both j part (joined parts)
    ∙ ap (λ (xs : List Acted). xs ++ own_entries j (joined parts)) (own_none (n + 1) j part (λ e. omega (arith, e, is)) (part_own objects images phase lines n w u part all.0))
    ∙ parts_own objects images phase lines (n + 1) ws us parts all.1 k j (omega (arith, lt)) (omega (arith, is))

-- the part at a worker's place is what it did
pub parts_at : (objects : Ready) (images : Contents) (phase : ℕ) (lines : List PhaseLine) (n : ℕ) (ws us : List Worker) (parts : List (List Acted)) → Parts objects images phase lines n ws us parts
    → (k m : ℕ) (d : Worker) → k < length ws → m ≡ n + k → Part objects images phase lines m (get_or ws k d) (get_or us k d) (nth parts k)
parts_at objects images phase lines n [] us parts all k m d lt is = absurd (omega (arith, lt))
parts_at objects images phase lines n (w ∷ ws) [] parts all k m d lt is = absurd all
parts_at objects images phase lines n (w ∷ ws) (u ∷ us) [] all k m d lt is = absurd all
parts_at objects images phase lines n (w ∷ ws) (u ∷ us) (part ∷ parts) all zero m d lt is =
    subst (λ (i : ℕ). Part objects images phase lines i w u part) (omega (arith, is)) all.0
parts_at objects images phase lines n (w ∷ ws) (u ∷ us) (part ∷ parts) all (suc k) m d lt is =
    parts_at objects images phase lines (n + 1) ws us parts all.1 k m d (omega (arith, lt)) (omega (arith, is))

-- the entries that wait are what is told of all parts
pub parts_told : (objects : Ready) (images : Contents) (phase : ℕ) (lines : List PhaseLine) (n : ℕ) (ws us : List Worker) (parts : List (List Acted)) → Parts objects images phase lines n ws us parts
    → ((k : ℕ) (d : Worker) → k < length ws → entries_in (get_or ws k d) ≡ [])
    → length us ≡ length ws → flat_map entries_in us ≡ told_phase (files_in objects images) phase (joined parts)
parts_told objects images phase lines n [] [] [] all empty long = refl
parts_told objects images phase lines n [] (u ∷ us) [] all empty long = absurd (omega (arith, long))
parts_told objects images phase lines n [] us (part ∷ parts) all empty long = absurd all
parts_told objects images phase lines n (w ∷ ws) [] parts all empty long = absurd all
parts_told objects images phase lines n (w ∷ ws) (u ∷ us) [] all empty long = absurd all
parts_told objects images phase lines n (w ∷ ws) (u ∷ us) (part ∷ parts) all empty long =
    let files = files_in objects images in
    ap (λ (es : List Entry). es ++ flat_map entries_in us) (all.0.entries ∙ ap (λ (es : List Entry). es ++ told_phase files phase part) (empty 0 w (omega arith)))
    ∙ ap (λ (es : List Entry). told_phase files phase part ++ es) (parts_told objects images phase lines (n + 1) ws us parts all.1 (λ k d lt. empty (suc k) d (omega (arith, lt))) (omega (arith, long)))
    ∙ sym (map-append (entry_of (content_of_line files) phase) part (joined parts))
