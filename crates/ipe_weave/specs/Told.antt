-- The entries of a transcript, as lines and replies tell them.
use Rattle.std.specs.Prelude.{ℕ, Bool, true, Option}
use Rattle.std.specs.Option.{option_map}
use Rattle.std.specs.Result.{result_ok}
use Rattle.ipe_policy.specs.declared.evaluation.Found.{Found}
use Rattle.ipe_transcript.specs.declared.transcript.Content.{Content}
use Rattle.ipe_transcript.specs.declared.transcript.Entry.{Entry}
use Rattle.ipe_transcript.specs.declared.transcript.Entry.TheVariants as entry
use Rattle.ipe_transcript.specs.Entries.{code_of}
use Rattle.ipe_weave.specs.Lines.{Task, Write, Read, Hook, Line, LineReply, wrote, told, ruled, Acted, actor_of}

-- a write is of one who may administer or of one who may not; who reads may
abbrev pub may_of : Task → Bool
may_of (Write may asked) = may
may_of (Read node) = true
may_of (Hook worker op access) = true

-- what is told of a line of this phase with its reply, and of what the file after it came to, where one was read
abbrev pub told_entry : ℕ → Option Content → Line → LineReply → Entry
told_entry phase content line (wrote epoch switched answer records) =
    entry.Write phase line.number (may_of line.task) (code_of answer) epoch switched records
told_entry phase content line (told epoch answer) =
    entry.Read phase line.number (code_of answer) epoch (result_ok answer)
told_entry phase content line (ruled ruling access) =
    entry.Hook phase line.number (actor_of line) ruling.code ruling.place ruling.serial
    (option_map (λ (found : Found). found.which) ruling.found) access content

-- the entry of a phase's line with its reply
abbrev pub entry_of : (Acted → Option Content) → ℕ → Acted → Entry
entry_of contents phase acted = told_entry phase (contents acted) acted.line acted.reply

-- a reply is of the kind of its task: a write's, a read's or a hook's
abbrev pub Fits : Task → LineReply → Type 0
Fits (Write may asked) (wrote epoch switched answer records) = Unit {0}
Fits (Write may asked) (told epoch answer) = ⊥
Fits (Write may asked) (ruled ruling access) = ⊥
Fits (Read node) (wrote epoch switched answer records) = ⊥
Fits (Read node) (told epoch answer) = Unit {0}
Fits (Read node) (ruled ruling access) = ⊥
Fits (Hook worker op access) (wrote epoch switched answer records) = ⊥
Fits (Hook worker op access) (told epoch answer) = ⊥
Fits (Hook worker op access) (ruled ruling record_line) = Unit {0}

-- the same of a line with its reply
abbrev pub IsFit : Acted → Type 0
IsFit acted = Fits acted.line.task acted.reply
