-- What is printed of lines and their replies stands as they do.
use Rattle.std.proofs.Common.{◌≡◌, ℕ, List, [], ◌∷◌, map, Option, Some, None, refl, sym, ap, subst, ◌∙◌, arith}
use Rattle.std.specs.List.{AllByRecursion}
use Rattle.ipe_policy.specs.declared.op.Op.{Op}
use Rattle.ipe_machine.specs.Answer.{Verdicts}
use Rattle.ipe_machine.specs.Machine.{Machine}
use Rattle.ipe_transcript.specs.declared.transcript.Content.{Content}
use Rattle.ipe_transcript.specs.Entries as entries
use Rattle.ipe_transcript.specs.Filing.{LinesRise}
use Rattle.ipe_transcript.specs.Keys.{own_of}
use Rattle.ipe_transcript.proofs.Along.{Keeps, own_along, printed_along}
use Rattle.ipe_weave.specs.Lines.{Access, Task, Write, Read, Hook, Line, LineReply, wrote, told, ruled, Acted, actor_in, key_of, entries_of, task_reply, after_line, hook_reply, NumbersRise, own_lines, own_entries, line_in}
use Rattle.ipe_weave.specs.Phases.{IsPrinted}
use Rattle.ipe_weave.proofs.Numbers.{own_rise}
use Rattle.ipe_weave.specs.Told.{entry_of, told_entry, Fits, IsFit}

-- the machine's replies are of the kinds of their tasks
hook_fits : (machine : Machine) (worker : ℕ) (op : Option Op) (access : Access) → Fits (Hook worker op access) (hook_reply machine op access)
hook_fits machine worker None access = tt
hook_fits machine worker (Some op) access = tt

reply_fits : (verdicts : Verdicts) (machine : Machine) (task : Task) → Fits task (task_reply verdicts machine task)
reply_fits verdicts machine (Write may asked) = tt
reply_fits verdicts machine (Read node) = tt
reply_fits verdicts machine (Hook worker op access) = hook_fits machine worker op access

pub entries_fit : (verdicts : Verdicts) (machine : Machine) (lines : List Line) → AllByRecursion IsFit (entries_of verdicts machine lines)
entries_fit verdicts machine [] = tt
entries_fit verdicts machine (line ∷ lines) = (reply_fits verdicts machine line.task, entries_fit verdicts (after_line verdicts machine line) lines)

-- what is told of a line keeps who acted in it and where it belongs
abbrev IsKept : (Acted → Option Content) → ℕ → Acted → Type 0
IsKept contents phase acted = Keeps actor_in key_of entries.actor_of entries.key_of (entry_of contents phase) acted

told_keeps : (phase : ℕ) (content : Option Content) (number : ℕ) (task : Task) (reply : LineReply) → Fits task reply
    → (entries.actor_of (told_entry phase content (record { number = number; task = task }) reply) ≡ actor_in (record { line = record { number = number; task = task }; reply = reply }))
    × (entries.key_of (told_entry phase content (record { number = number; task = task }) reply) ≡ key_of (record { line = record { number = number; task = task }; reply = reply }))
told_keeps phase content number (Write may asked) (wrote epoch switched answer records) fits = (refl, refl)
told_keeps phase content number (Write may asked) (told epoch answer) fits = absurd fits
told_keeps phase content number (Write may asked) (ruled ruling access) fits = absurd fits
told_keeps phase content number (Read node) (wrote epoch switched answer records) fits = absurd fits
told_keeps phase content number (Read node) (told epoch answer) fits = (refl, refl)
told_keeps phase content number (Read node) (ruled ruling access) fits = absurd fits
told_keeps phase content number (Hook worker op access) (wrote epoch switched answer records) fits = absurd fits
told_keeps phase content number (Hook worker op access) (told epoch answer) fits = absurd fits
told_keeps phase content number (Hook worker op access) (ruled ruling record_line) fits = (refl, refl)

all_keep : (contents : Acted → Option Content) (phase : ℕ) (xs : List Acted) → AllByRecursion IsFit xs → AllByRecursion (IsKept contents phase) xs
all_keep contents phase [] fit = tt
all_keep contents phase (x ∷ xs) fit = (told_keeps phase (contents x) x.line.number x.line.task x.reply fit.0, all_keep contents phase xs fit.1)

pub told_are_printed : (contents : Acted → Option Content) (phase : ℕ) (xs printed : List Acted) → AllByRecursion IsFit xs → AllByRecursion IsFit printed → IsPrinted xs printed
    → entries.IsPrinted (map (entry_of contents phase) xs) (map (entry_of contents phase) printed)
told_are_printed contents phase xs printed fit fits is =
    printed_along actor_in key_of entries.actor_of entries.key_of (entry_of contents phase) xs printed (all_keep contents phase xs fit) (all_keep contents phase printed fits) is

-- what is told of lines whose numbers rise rises too
told_line : (phase : ℕ) (content : Option Content) (line : Line) (reply : LineReply) → entries.line_of (told_entry phase content line reply) ≡ line.number
told_line phase content line (wrote epoch switched answer records) = refl
told_line phase content line (told epoch answer) = refl
told_line phase content line (ruled ruling access) = refl

told_rise : (contents : Acted → Option Content) (phase : ℕ) (xs : List Acted) → NumbersRise (map line_in xs) → LinesRise entries.line_of (map (entry_of contents phase) xs)
told_rise contents phase [] rise = tt
told_rise contents phase (x ∷ []) rise = tt
told_rise contents phase (x ∷ y ∷ xs) rise = (
  omega (arith, rise.0, told_line phase (contents x) x.line x.reply, told_line phase (contents y) y.line y.reply),
  told_rise contents phase (y ∷ xs) rise.1,
)

-- so do each one's own, in the order in which they are printed
pub printed_rise : (contents : Acted → Option Content) (phase : ℕ) (lines : List Line) (xs printed : List Acted) → NumbersRise lines → ((a : ℕ) → map line_in (own_entries a xs) ≡ own_lines a lines) → AllByRecursion IsFit printed → IsPrinted xs printed
    → (a : ℕ) → LinesRise entries.line_of (own_of entries.actor_of a (map (entry_of contents phase) printed))
printed_rise contents phase lines xs printed rise all fit is a =
    let own : own_of entries.actor_of a (map (entry_of contents phase) printed) ≡ map (entry_of contents phase) (own_entries a xs) =
    own_along actor_in key_of entries.actor_of entries.key_of (entry_of contents phase) a printed (all_keep contents phase printed fit)
    ∙ ap (map (entry_of contents phase)) (is.own a) in
    let rises : NumbersRise (map line_in (own_entries a xs)) = subst NumbersRise (sym (all a)) (own_rise a lines rise) in
    subst (LinesRise entries.line_of) (sym own) (told_rise contents phase (own_entries a xs) rises)
