-- The entries of a transcript: whose they are, and where they belong.
use Rattle.std.specs.Prelude.{ℕ, ℤ, pos, neg_ℤ, ◌==◌, List, Option, Some, Result, Ok, Err}
use Rattle.std.specs.List.{filter}
use Rattle.ipe_words.specs.Number.{errno_number}
use Rattle.ipe_machine.specs.declared.answer.Refusal.{Refusal}
use Rattle.ipe_machine.specs.Refusals.{errno_of}
use Rattle.ipe_transcript.specs.declared.transcript.Entry.{Entry}
use Rattle.ipe_transcript.specs.declared.transcript.Entry.TheVariants as entry
use Rattle.ipe_transcript.specs.Keys.{Key, command_key, write_key, place_key, ArePrinted}

-- the phase of an entry
abbrev pub phase_of : Entry → ℕ
phase_of (entry.Write phase line may code epoch switched records) = phase
phase_of (entry.Read phase line code epoch bytes) = phase
phase_of (entry.Hook phase line worker code place serial by access content) = phase

-- the number of an entry's line
abbrev pub line_of : Entry → ℕ
line_of (entry.Write phase line may code epoch switched records) = line
line_of (entry.Read phase line code epoch bytes) = line
line_of (entry.Hook phase line worker code place serial by access content) = line

-- who acted in an entry: the administrator is 0, worker K is K
abbrev pub actor_of : Entry → ℕ
actor_of (entry.Write phase line may code epoch switched records) = 0
actor_of (entry.Read phase line code epoch bytes) = 0
actor_of (entry.Hook phase line worker code place serial by access content) = worker

-- where an entry belongs within its phase, if it has a place
abbrev pub key_of : Entry → Option Key
key_of (entry.Write phase line may code epoch switched records) = Some (write_key line epoch switched)
key_of (entry.Read phase line code epoch bytes) = Some (command_key epoch line)
key_of (entry.Hook phase line worker code place serial by access content) = place_key place

-- the entries of a phase
abbrev pub of_phase : ℕ → List Entry → List Entry
of_phase phase entries = filter (λ entry. phase_of entry == phase) entries

-- entries in an order in which they may be printed: each one's own in that one's order, and all in place
abbrev pub IsPrinted : List Entry → List Entry → Type 0
IsPrinted entries printed = ArePrinted actor_of key_of entries printed

-- the code of an answer: 0, or a minus sign and the number of the error
abbrev pub code_of : {A : Type 0} → Result A Refusal → ℤ
code_of (Ok done) = pos 0
code_of (Err refusal) = neg_ℤ (pos (errno_number (errno_of refusal)))
