-- How runs of a worker's lines add up.
use Rattle.std.proofs.Common.{◌≡◌, ◌≢◌, ℕ, ◌+◌, ◌<◌, ◌==◌, Bool, true, false, cond, List, [], ◌∷◌, ◌++◌, length, map, take, drop, get_or, Option, Result, Ok, Err, is_ok, refl, sym, ap, subst, ◌∙◌, append_assoc, append-nil, length-append, arith, ne_eqb, eq-eqb, true≢false}
use Rattle.std.specs.List.{AllByRecursion}
use Rattle.std.specs.Result.{IsErr}
use Rattle.std.proofs.lemmas.List.{length-map, map-append, take-append-drop, take_more}
use Rattle.std.proofs.lemmas.List.Elements.{All-from_recursion, All-get_or, filter-append}
use Rattle.blk_device.specs.Contents.{Contents}
use Rattle.ipe_policy.specs.declared.request.Request.{Request}
use Rattle.ipe_policy.specs.declared.request.Subject.{Subject}
use Rattle.ipe_image.specs.declared.hit.Ruling.{Ruling}
use Rattle.ipe_gate.specs.Seats.{slot_held}
use Rattle.ipe_hooks.specs.Law.{machine_ruling}
use Rattle.ipe_transcript.specs.declared.transcript.Content.{Content}
use Rattle.ipe_transcript.specs.declared.transcript.Entry.{Entry}
use Rattle.ipe_requests.specs.declared.script.PhaseLine.{PhaseLine}
use Rattle.ipe_requests.specs.declared.script.PhaseLine.TheVariants as asked
use Rattle.ipe_objects.specs.Ready.{Ready}
use Rattle.ipe_weave.specs.Lines.{Access, Acted, Line, actor_of, line_in, own_lines}
use Rattle.ipe_weave.specs.Told.{entry_of}
use Rattle.ipe_lines.specs.Asked.{access_of, line_of, lines_of, verdicts_of}
use Rattle.ipe_lines.specs.Told.{content_after, content_of_line, told_phase}
use Rattle.ipe_workers.specs.declared.worker.Worker.{Worker}
use Rattle.ipe_workers.specs.Passes.{HasAnswered}
use Rattle.ipe_workers.specs.Prepared.{files_in}
use Rattle.ipe_workers.specs.Ruled.{answered, hook_told, recorded}
use Rattle.ipe_workers.specs.Workers.{HasRun, IsReady, entries_in, lines_for, pass_of, view_of}
use Rattle.ipe_workers.proofs.Hooking.{HookRan, answered_both, answered_none}

abbrev pub line_at : Ready → Contents → PhaseLine → Line
line_at objects images line = line_of objects.script (files_in objects images) line

-- a worker's own of two parts
pub lines_both : (objects : Ready) (images : Contents) (worker : ℕ) (xs ys : List PhaseLine) → lines_for objects images worker (xs ++ ys) ≡ lines_for objects images worker xs ++ lines_for objects images worker ys
lines_both objects images worker xs ys =
    ap (own_lines worker) (map-append (line_at objects images) xs ys)
    ∙ filter-append (λ (line : Line). actor_of line == worker) (lines_of objects.script (files_in objects images) xs) (lines_of objects.script (files_in objects images) ys)

pub own_one : (objects : Ready) (images : Contents) (worker : ℕ) (line : PhaseLine) → (actor_of (line_at objects images line) == worker) ≡ true → lines_for objects images worker (line ∷ []) ≡ line_at objects images line ∷ []
own_one objects images worker line is = ap (λ (b : Bool). cond b (line_at objects images line ∷ []) []) is

pub other_one : (objects : Ready) (images : Contents) (worker : ℕ) (line : PhaseLine) → (actor_of (line_at objects images line) == worker) ≡ false → lines_for objects images worker (line ∷ []) ≡ []
other_one objects images worker line is = ap (λ (b : Bool). cond b (line_at objects images line ∷ []) []) is

-- no line
pub run_none : (objects : Ready) (images : Contents) (phase : ℕ) (w : Worker) → slot_held (pass_of w) ≡ 0 → HasRun objects images phase true [] w w
run_none objects images phase w free = record {
  some = [];
  rest = [];
  cut = refl;
  acted = [];
  answered = answered_none (verdicts_of objects.script) (pass_of w) free;
  lines_are = refl;
  view = refl;
  whole = λ e. (refl, sym (append-nil (entries_in w)));
}

-- a line that isn't the worker's
pub run_other : (objects : Ready) (images : Contents) (phase : ℕ) (done : Bool) (line : PhaseLine) (w : Worker) → slot_held (pass_of w) ≡ 0
    → actor_of (line_at objects images line) ≢ (pass_of w).number + 1 → HasRun objects images phase done (line ∷ []) w w
run_other objects images phase done line w free other = record {
  some = line ∷ [];
  rest = [];
  cut = refl;
  acted = [];
  answered = answered_none (verdicts_of objects.script) (pass_of w) free;
  lines_are = sym (other_one objects images ((pass_of w).number + 1) line (ne_eqb (actor_of (line_at objects images line)) ((pass_of w).number + 1) other));
  view = refl;
  whole = λ e. (refl, sym (append-nil (entries_in w)));
}

-- a line that is
pub run_one : (objects : Ready) (images : Contents) (phase : ℕ) (done : Bool) (line : PhaseLine) (w v : Worker) (one : Acted)
    → HasAnswered (verdicts_of objects.script) (pass_of w) (pass_of v) (one ∷ []) → line_in one ≡ line_at objects images line
    → actor_of (line_at objects images line) ≡ (pass_of w).number + 1 → view_of v ≡ view_of w
    → (done ≡ true → entries_in v ≡ entries_in w ++ entry_of (content_of_line (files_in objects images)) phase one ∷ [])
    → HasRun objects images phase done (line ∷ []) w v
run_one objects images phase done line w v one ran same own view made = record {
  some = line ∷ [];
  rest = [];
  cut = refl;
  acted = one ∷ [];
  answered = ran;
  lines_are =
      ap (λ (l : Line). l ∷ []) same
      ∙ sym (own_one objects images ((pass_of w).number + 1) line (eq-eqb (actor_of (line_at objects images line)) ((pass_of w).number + 1) own));
  view = view;
  whole = λ e. (refl, made e);
}

-- what ran to the end ran all
all_some : (objects : Ready) (images : Contents) (phase : ℕ) (xs : List PhaseLine) (w m : Worker) (ran : HasRun objects images phase true xs w m) → xs ≡ ran.some
all_some objects images phase xs w m ran =
    let whole = ran.whole refl in
    ran.cut ∙ ap (λ (ls : List PhaseLine). ran.some ++ ls) whole.0 ∙ append-nil ran.some

-- lines, and then more
pub run_both : (objects : Ready) (images : Contents) (phase : ℕ) (done : Bool) (xs ys : List PhaseLine) (w m v : Worker) → HasRun objects images phase true xs w m → HasRun objects images phase done ys m v
    → HasRun objects images phase done (xs ++ ys) w v
run_both objects images phase done xs ys w m v a b =
    let files = files_in objects images in
    let k = (pass_of w).number + 1 in
    let first = a.whole refl in
    let all = all_some objects images phase xs w m a in
    record {
      some = xs ++ b.some;
      rest = b.rest;
      cut = ap (λ (ls : List PhaseLine). xs ++ ls) b.cut ∙ sym (append_assoc xs b.some b.rest);
      acted = a.acted ++ b.acted;
      answered = answered_both (verdicts_of objects.script) (pass_of w) (pass_of m) (pass_of v) a.acted b.acted a.answered b.answered;
      lines_are =
          map-append line_in a.acted b.acted
          ∙ ap (λ (ls : List Line). ls ++ map line_in b.acted) (a.lines_are ∙ ap (lines_for objects images k) (sym all))
          ∙ ap (λ (ls : List Line). lines_for objects images k xs ++ ls) (b.lines_are ∙ ap (λ (n : ℕ). lines_for objects images (n + 1) b.some) a.answered.number)
          ∙ sym (lines_both objects images k xs b.some);
      view = b.view ∙ a.view;
      whole = λ e. let second = b.whole e in (
        second.0,
        second.1
            ∙ ap (λ (es : List Entry). es ++ told_phase files phase b.acted) first.1
            ∙ append_assoc (entries_in w) (told_phase files phase a.acted) (told_phase files phase b.acted)
            ∙ ap (λ (es : List Entry). entries_in w ++ es) (sym (map-append (entry_of (content_of_line files) phase) a.acted b.acted)),
      );
    }

-- a run that ended early is one of more lines
run_early : (objects : Ready) (images : Contents) (phase : ℕ) (xs ys : List PhaseLine) (w v : Worker) → HasRun objects images phase false xs w v → HasRun objects images phase false (xs ++ ys) w v
run_early objects images phase xs ys w v a = record {
  some = a.some;
  rest = a.rest ++ ys;
  cut = ap (λ (ls : List PhaseLine). ls ++ ys) a.cut ∙ append_assoc a.some a.rest ys;
  acted = a.acted;
  answered = a.answered;
  lines_are = a.lines_are;
  view = a.view;
  whole = λ e. absurd (true≢false (sym e));
}

pub take_next : {A : Type 0} (xs : List A) (i : ℕ) (x : A) → i < length xs → x ≡ get_or xs i x → take (i + 1) xs ≡ take i xs ++ x ∷ []
take_next xs i x lt is = take_more xs i x lt ∙ ap (λ y. take i xs ++ y ∷ []) (sym is)

pub cut_at : {A : Type 0} (xs : List A) (i : ℕ) (x : A) → i < length xs → x ≡ get_or xs i x → (take i xs ++ x ∷ []) ++ drop (i + 1) xs ≡ xs
cut_at xs i x lt is = ap (λ l. l ++ drop (i + 1) xs) (sym (take_next xs i x lt is)) ∙ take-append-drop (i + 1) xs

pub run_more : (objects : Ready) (images : Contents) (phase : ℕ) (xs : List PhaseLine) (i : ℕ) (x : PhaseLine) (w m v : Worker) → i < length xs → x ≡ get_or xs i x
    → HasRun objects images phase true (take i xs) w m → HasRun objects images phase true (x ∷ []) m v → HasRun objects images phase true (take (i + 1) xs) w v
run_more objects images phase xs i x w m v lt is a b =
    subst (λ (ls : List PhaseLine). HasRun objects images phase true ls w v) (sym (take_next xs i x lt is)) (run_both objects images phase true (take i xs) (x ∷ []) w m v a b)

pub run_stop : (objects : Ready) (images : Contents) (phase : ℕ) (done : Bool) → done ≡ false → (xs : List PhaseLine) (i : ℕ) (x : PhaseLine) (w m v : Worker) → i < length xs → x ≡ get_or xs i x
    → HasRun objects images phase true (take i xs) w m → HasRun objects images phase false (x ∷ []) m v → HasRun objects images phase done xs w v
run_stop objects images phase done off xs i x w m v lt is a b =
    subst (λ (d : Bool). HasRun objects images phase d xs w v) (sym off)
    (subst (λ (ls : List PhaseLine). HasRun objects images phase false ls w v) (cut_at xs i x lt is)
    (run_early objects images phase (take i xs ++ x ∷ []) (drop (i + 1) xs) w v (run_both objects images phase false (take i xs) (x ∷ []) w m v a b)))

-- a worker's own of all lines are those before one, of this one, and those after it
pub own_parts : (objects : Ready) (images : Contents) (worker : ℕ) (xs : List PhaseLine) (i : ℕ) (x : PhaseLine) → i < length xs → x ≡ get_or xs i x
    → length (lines_for objects images worker xs)
    ≡ (length (lines_for objects images worker (take i xs)) + length (lines_for objects images worker (x ∷ []))) + length (lines_for objects images worker (drop (i + 1) xs))
own_parts objects images worker xs i x lt is =
    let own : List PhaseLine → List Line = lines_for objects images worker in
    ap (λ (ls : List PhaseLine). length (own ls)) (sym (cut_at xs i x lt is))
    ∙ ap length (lines_both objects images worker (take i xs ++ x ∷ []) (drop (i + 1) xs))
    ∙ length-append (own (take i xs ++ x ∷ [])) (own (drop (i + 1) xs))
    ∙ ap (λ (n : ℕ). n + length (own (drop (i + 1) xs))) (ap length (lines_both objects images worker (take i xs) (x ∷ [])) ∙ length-append (own (take i xs)) (own (x ∷ [])))

-- the next line may be run
pub ready_next : (objects : Ready) (images : Contents) (phase worker : ℕ) (xs : List PhaseLine) (i : ℕ) (x : PhaseLine) (w m : Worker) → i < length xs → x ≡ get_or xs i x
    → IsReady objects images worker xs w → HasRun objects images phase true (take i xs) w m → IsReady objects images worker (x ∷ []) m
ready_next objects images phase worker xs i x w m lt is ready ran =
    let own : List PhaseLine → List Line = lines_for objects images worker in
    let number : (pass_of w).number + 1 ≡ worker = ready.number in
    let before : length ran.acted ≡ length (own (take i xs)) =
    sym (length-map ran.acted line_in)
    ∙ ap length (ran.lines_are ∙ ap (λ (n : ℕ). lines_for objects images n ran.some) number ∙ ap own (sym (all_some objects images phase (take i xs) w m ran))) in
    let parts = own_parts objects images worker xs i x lt is in
    let calls = ran.answered.calls in
    let few = ready.few in
    record {
      number = ap (λ (n : ℕ). n + 1) ran.answered.number ∙ number;
      held = ran.answered.held;
      few = omega (arith, before, parts, calls, few);
      view = ran.view ∙ ready.view;
    }

pub each_at : {X : Type 0} (P : X → Type 0) (xs : List X) (i : ℕ) (x : X) → i < length xs → x ≡ get_or xs i x → AllByRecursion P xs → P x
each_at P xs i x lt is all = subst P (sym is) (All-get_or P xs i x lt (All-from_recursion P xs all))

pub err_no : {A E : Type 0} (r : Result A E) → IsErr r → is_ok r ≡ false
err_no (Ok x) e = absurd (true≢false (sym e))
err_no (Err x) e = refl

pub none_made : {A : Type 0} (b : Bool) → b ≡ false → b ≡ true → A
none_made b off on = absurd (true≢false (sym on ∙ off))

-- a hook line of the worker
pub run_hook : (objects : Ready) (images : Contents) (phase : ℕ) (done : Bool) (line : PhaseLine) (number whose : ℕ) (request : Request) (subject : Subject) (path : Option (List ℕ)) (w v : Worker) (ruling : Ruling)
    → line ≡ asked.Hook number whose request subject path → whose ≡ (pass_of w).number + 1
    → (ran : HookRan (verdicts_of objects.script) number whose (pass_of w) (pass_of v) (access_of (files_in objects images) request subject path) ruling)
    → view_of v ≡ view_of w
    → (done ≡ true → (access : Option (List ℕ)) × (content : Option Content) × (entries_in v ≡ entries_in w ++ hook_told phase number whose ruling access content ∷ [])
    × (access ≡ recorded ran.before (access_of (files_in objects images) request subject path))
    × (content ≡ content_after (files_in objects images) (access_of (files_in objects images) request subject path) (machine_ruling ruling)))
    → HasRun objects images phase done (line ∷ []) w v
run_hook objects images phase done line number whose request subject path w v ruling is own ran view made =
    let files = files_in objects images in
    let access : Access = access_of files request subject path in
    let one : Acted = answered number whose ran.before access ruling in
    run_one objects images phase done line w v one ran.ran
    (sym (ap (line_at objects images) is))
    (ap (λ (l : PhaseLine). actor_of (line_at objects images l)) is ∙ own) view
    (λ e. let m = made e in
    m.2 ∙ ap (λ (entry : Entry). entries_in w ++ entry ∷ [])
    (ap (λ (a : Option (List ℕ)). hook_told phase number whose ruling a m.1) m.3
    ∙ ap (λ (c : Option Content). hook_told phase number whose ruling (recorded ran.before access) c) m.4))

-- a hook of another worker
pub run_other_hook : (objects : Ready) (images : Contents) (phase : ℕ) (done : Bool) (line : PhaseLine) (number whose : ℕ) (request : Request) (subject : Subject) (path : Option (List ℕ)) (w : Worker) → slot_held (pass_of w) ≡ 0
    → line ≡ asked.Hook number whose request subject path → whose ≢ (pass_of w).number + 1 → HasRun objects images phase done (line ∷ []) w w
run_other_hook objects images phase done line number whose request subject path w free is other =
    run_other objects images phase done line w free (λ e. other (sym (ap (λ (l : PhaseLine). actor_of (line_at objects images l)) is) ∙ e))

-- a line that is no hook
pub run_default : (objects : Ready) (images : Contents) (phase : ℕ) (done : Bool) (line : PhaseLine) (w : Worker) → slot_held (pass_of w) ≡ 0
    → ((number whose : ℕ) (request : Request) (subject : Subject) (path : Option (List ℕ)) → line ≡ asked.Hook number whose request subject path → ⊥) → HasRun objects images phase done (line ∷ []) w w
run_default objects images phase done (asked.Write number may node content) w free not = run_other objects images phase done (asked.Write number may node content) w free (λ e. let none : 0 ≡ (pass_of w).number + 1 = e in absurd (omega (arith, none)))
run_default objects images phase done (asked.Read number node) w free not = run_other objects images phase done (asked.Read number node) w free (λ e. let none : 0 ≡ (pass_of w).number + 1 = e in absurd (omega (arith, none)))
run_default objects images phase done (asked.Hook number whose request subject path) w free not = absurd (not number whose request subject path refl)
