-- A transcript spells its own order.
use Rattle.std.proofs.Common.{◌≡◌, ℕ, ℤ, ◌+◌, ◌-◌, ◌^◌, ◌<◌, Bool, true, false, cond, List, [], ◌∷◌, ◌++◌, map, Option, Some, None, Result, Ok, Err, refl, sym, ap, ◌∙◌, append_assoc, append-nil, one-add, arith}
use Rattle.std.specs.Prelude.{codes, is_some}
use Rattle.std.specs.List.{AllByRecursion, before_first, cons_option, filter_map, flat_map, slice_split}
use Rattle.std.specs.Fmt.{decimal, signed_decimal}
use Rattle.std.proofs.lemmas.Bool.{ne_eqb}
use Rattle.std.proofs.lemmas.List.Elements.{All-from_recursion}
use Rattle.std.proofs.lemmas.List.Splits.{slice_split_at}
use Rattle.hex.specs.Hex.{encode_lower}
use Rattle.ipe_policy.specs.declared.evaluation.Which.{Which}
use Rattle.ipe_policy.specs.declared.evaluation.Which.TheVariants as which
use Rattle.ipe_policy.specs.declared.op.Op.{Op}
use Rattle.ipe_machine.specs.declared.command.Command.{Command}
use Rattle.ipe_machine.specs.declared.answer.Refusal.{Refusal}
use Rattle.ipe_machine.specs.declared.event.Event.TheVariants as event
use Rattle.ipe_machine.specs.declared.event.Place.{Place}
use Rattle.ipe_machine.specs.Policies.{Policies, Loaded, active_entry}
use Rattle.ipe_machine.specs.Answer.{Verdicts}
use Rattle.ipe_machine.specs.Machine.{Machine, after_event, claimed}
use Rattle.line_words.specs.Lines.{is_blank, is_line_feed, line_text}
use Rattle.line_words.proofs.Numbers.{number_of-decimal}
use Rattle.ipe_transcript.specs.declared.transcript.Content.{Content}
use Rattle.ipe_transcript.specs.declared.transcript.Content.TheVariants as content
use Rattle.ipe_transcript.specs.declared.transcript.Entry.{Entry}
use Rattle.ipe_transcript.specs.declared.transcript.Entry.TheVariants as entry
use Rattle.ipe_transcript.specs.Entries.{line_of}
use Rattle.ipe_transcript.specs.Lines.{access_line, acted_text, by_text, bytes_text, hook_text, place_text, read_text, serial_text, told_text, who_text, write_text}
use Rattle.ipe_transcript.specs.Text.{content_line, content_text, corrupt_text, entry_text, phases_text, transcript_text}
use Rattle.ipe_weave.specs.Lines.{Access, Task, Write, Read, Hook, Line, LineReply, wrote, told, ruled, after_hook, after_line, after_lines, after_task, after_write, entries_of, hook_reply, line_reply, phases_entries, task_reply, write_reply}
use Rattle.ipe_weave.specs.Told.{told_entry}
use Rattle.ipe_lines.specs.Asked.{Files}
use Rattle.ipe_lines.specs.Spelled.{line_spells, spelled, numbers_of}
use Rattle.ipe_lines.specs.Told.{content_of_line, told_phase, told_phases}
use Rattle.ipe_lines.proofs.Found.{Found}
use Rattle.ipe_lines.proofs.Within.{Lacks, Whole, both, chain, chain_whole, decimal_lacks, decimal_whole, hex_whole, signed_whole, words_whole}
use Rattle.ipe_lines.proofs.Records.{AreNamed, AreRecords, IsRecord, IsWholeObject, access_recorded, after_named, command_recorded}

-- no digit is a blank
digit_no_blank : (digit : ℕ) → digit < 10 → is_blank (48 + digit) ≡ false
digit_no_blank digit small = ne_eqb (48 + digit) 32 (λ e. omega arith)

-- ---- the parts of entries

-- the place of a claim
place_whole : (place : Option Place) → Whole (place_text place)
place_whole None = words_whole (place_text None) refl
place_whole (Some place) =
    chain_whole (codes " epoch=") (decimal place.epoch ∷ codes " count=" ∷ decimal place.count ∷ []) (words_whole (codes " epoch=") refl)
    (decimal_whole place.epoch, (words_whole (codes " count=") refl, (decimal_whole place.count, tt)))

-- a serial
serial_whole : (serial : Option ℕ) → Whole (serial_text serial)
serial_whole None = words_whole (serial_text None) refl
serial_whole (Some serial) = both (codes " policy=") (decimal serial) (words_whole (codes " policy=") refl) (decimal_whole serial)

-- which statement decided
by_whole : (by : Option Which) → Whole (by_text by)
by_whole None = words_whole (by_text None) refl
by_whole (Some (which.Rule number)) = both (codes " by=rule:") (decimal number) (words_whole (codes " by=rule:") refl) (decimal_whole number)
by_whole (Some which.OpDefault) = words_whole (by_text (Some which.OpDefault)) refl
by_whole (Some which.GlobalDefault) = words_whole (by_text (Some which.GlobalDefault)) refl

-- bytes
bytes_whole : (bytes : List ℕ) → Whole (bytes_text bytes)
bytes_whole [] = words_whole (bytes_text []) refl
bytes_whole (byte ∷ bytes) = hex_whole (byte ∷ bytes)

-- what was read, where the read was answered
answer_whole : (answer : Option (List ℕ)) → Whole (told_text answer)
answer_whole None = tt
answer_whole (Some bytes) = both (codes " bytes=") (bytes_text bytes) (words_whole (codes " bytes=") refl) (bytes_whole bytes)

-- ---- how entries begin

-- what stands before the first byte that passes a test
before_stop : (test : ℕ → Bool) (word : List ℕ) (stop : ℕ) (rest : List ℕ) → Lacks test word → test stop ≡ true → before_first test (word ++ stop ∷ rest) ≡ word
before_stop test [] stop rest lacks stops = rw stops refl
before_stop test (byte ∷ word) stop rest lacks stops = rw (lacks.0, one-add) (ap (λ (text : List ℕ). byte ∷ text) (before_stop test word stop rest lacks.1 stops))

-- a text that begins with `line=`, a number and a blank
abbrev Heads : ℕ → List ℕ → Type 0
Heads n text = (rest : List ℕ) × (text ≡ codes "line=" ++ (decimal n ++ 32 ∷ rest))

-- so it is where more stands after
Heads-more : (n : ℕ) (one two : List ℕ) → Heads n one → Heads n (one ++ two)
Heads-more n one two (rest, e) =
    (rest ++ two, ap (λ (text : List ℕ). text ++ two) e ∙ ap (λ (text : List ℕ). codes "line=" ++ text) (append_assoc (decimal n) (32 ∷ rest) two))

-- the number is what such a line spells
Heads-spells : (n : ℕ) (text : List ℕ) → n < 2 ^ 32 → Heads n text → line_spells text ≡ Some n
Heads-spells n text small (rest, e) =
    ap line_spells e
    ∙ number_of-decimal (before_first is_blank (decimal n ++ 32 ∷ rest)) 4294967295 n (omega arith) (omega arith)
    (before_stop is_blank (decimal n) 32 rest (decimal_lacks is_blank digit_no_blank n) refl)

-- so it is where parts stand after
Heads-chain : (n : ℕ) (text : List ℕ) (parts : List (List ℕ)) → Heads n text → Heads n (chain text parts)
Heads-chain n text [] h = h
Heads-chain n text (part ∷ parts) h = Heads-chain n (text ++ part) parts (Heads-more n text part h)

-- who acted, after a blank
record IsWho (who : List ℕ) : Type 0 where
  rest : List ℕ
  blank : who ≡ 32 ∷ rest
  whole : Whole who

-- one who writes
writer : (may : Bool) → IsWho (who_text may)
writer true = record { rest = codes "admin"; blank = refl; whole = words_whole (codes " admin") refl }
writer false = record { rest = codes "guest"; blank = refl; whole = words_whole (codes " guest") refl }

-- a worker
worker_is : (worker : ℕ) → IsWho (codes " w" ++ decimal worker)
worker_is worker = record { rest = codes "w" ++ decimal worker; blank = refl; whole = both (codes " w") (decimal worker) (words_whole (codes " w") refl) (decimal_whole worker) }

-- a text within a line that begins with a number
record IsEntry (n : ℕ) (text : List ℕ) : Type 0 where
  whole : Whole text
  heads : Heads n text

-- `line=`, a number, and who acted
number_heads : (n : ℕ) (who : List ℕ) → IsWho who → Heads n (codes "line=" ++ decimal n ++ who)
number_heads n who is = (is.rest, ap (λ (text : List ℕ). codes "line=" ++ decimal n ++ text) is.blank)

-- how each entry begins, and parts after it
acted_entry : (n : ℕ) (who : List ℕ) (code : ℤ) (parts : List (List ℕ)) → IsWho who → AllByRecursion Whole parts → IsEntry n (chain (acted_text n who code) parts)
acted_entry n who code parts is all =
    let front : List ℕ = codes "line=" ++ decimal n ++ who in
    let acted : Whole (acted_text n who code) =
    chain_whole (codes "line=") (decimal n ∷ who ∷ codes " code=" ∷ signed_decimal code ∷ []) (words_whole (codes "line=") refl)
    (decimal_whole n, (is.whole, (words_whole (codes " code=") refl, (signed_whole code, tt)))) in
    record {
      whole = chain_whole (acted_text n who code) parts acted all;
      heads = Heads-chain n front (codes " code=" ∷ signed_decimal code ∷ parts) (number_heads n who is);
    }

-- a write
write_entry : (n : ℕ) (may : Bool) (code : ℤ) (epoch : ℕ) → IsEntry n (write_text n may code epoch)
write_entry n may code epoch =
    acted_entry n (who_text may) code (codes " epoch=" ∷ decimal epoch ∷ []) (writer may) (words_whole (codes " epoch=") refl, (decimal_whole epoch, tt))

-- a read
read_entry : (n : ℕ) (code : ℤ) (epoch : ℕ) (answer : Option (List ℕ)) → IsEntry n (read_text n code epoch answer)
read_entry n code epoch answer =
    acted_entry n (codes " admin") code (codes " epoch=" ∷ decimal epoch ∷ told_text answer ∷ []) (writer true)
    (words_whole (codes " epoch=") refl, (decimal_whole epoch, (answer_whole answer, tt)))

-- a hook
hook_entry : (n worker : ℕ) (code : ℤ) (place : Option Place) (serial : Option ℕ) (by : Option Which) → IsEntry n (hook_text n worker code place serial by)
hook_entry n worker code place serial by =
    acted_entry n (codes " w" ++ decimal worker) code (place_text place ∷ serial_text serial ∷ by_text by ∷ []) (worker_is worker)
    (place_whole place, (serial_whole serial, (by_whole by, tt)))

-- ---- what lines spell

-- the numbers that a text spells, by its first line
spelled_line : (line rest : List ℕ) → Whole line → spelled (line_text line ++ rest) ≡ cons_option (line_spells line) (spelled rest)
unfolding spelled
spelled_line line rest whole =
    ap (λ (text : List ℕ). filter_map line_spells (slice_split is_line_feed text)) (append_assoc line (10 ∷ []) rest)
    ∙ ap (filter_map line_spells) (slice_split_at is_line_feed line 10 rest (All-from_recursion (λ (byte : ℕ). is_line_feed byte ≡ false) line whole) refl)

-- a first line that spells a number
spelled_number : (line rest : List ℕ) (n : ℕ) → Whole line → line_spells line ≡ Some n → spelled (line_text line ++ rest) ≡ n ∷ spelled rest
spelled_number line rest n whole spells = spelled_line line rest whole ∙ ap (λ (found : Option ℕ). cons_option found (spelled rest)) spells

-- a first line that spells none
spelled_none : (line rest : List ℕ) → Whole line → line_spells line ≡ None → spelled (line_text line ++ rest) ≡ spelled rest
spelled_none line rest whole spells = spelled_line line rest whole ∙ ap (λ (found : Option ℕ). cons_option found (spelled rest)) spells

-- the line of an entry
entry_spelled : (n : ℕ) (text rest : List ℕ) → n < 2 ^ 32 → IsEntry n text → spelled (line_text text ++ rest) ≡ n ∷ spelled rest
entry_spelled n text rest small is = spelled_number text rest n is.whole (Heads-spells n text small is.heads)

-- lines of records
records_spelled : (records : List (List ℕ)) (rest : List ℕ) → AreRecords records → spelled (flat_map line_text records ++ rest) ≡ spelled rest
records_spelled [] rest all = refl
records_spelled (text ∷ records) rest all =
    ap spelled (append_assoc (line_text text) (flat_map line_text records) rest)
    ∙ spelled_none text (flat_map line_text records ++ rest) all.0.0 all.0.1
    ∙ records_spelled records rest all.1

-- the record of an access, where one is due
access_spelled : (access : Option (List ℕ)) (rest : List ℕ) → Found IsRecord access → spelled (access_line access ++ rest) ≡ spelled rest
access_spelled None rest is = refl
access_spelled (Some text) rest is = spelled_none text rest is.0 is.1

-- the line of an entry, with lines after it that spell no number
followed : (n : ℕ) (text behind rest : List ℕ) → n < 2 ^ 32 → IsEntry n text → spelled (behind ++ rest) ≡ spelled rest → spelled (line_text text ++ behind ++ rest) ≡ n ∷ spelled rest
followed n text behind rest small is none =
    ap spelled (append_assoc (line_text text) behind rest) ∙ entry_spelled n text (behind ++ rest) small is ∙ ap (λ (numbers : List ℕ). n ∷ numbers) none

-- what a file came to spells no number
corrupt_record : (whose : List ℕ) (level block : ℕ) → Whole whose → Whole (corrupt_text whose level block)
corrupt_record whose level block is =
    chain_whole (codes "content corrupt ") (whose ∷ codes " level=" ∷ decimal level ∷ codes " block=" ∷ decimal block ∷ []) (words_whole (codes "content corrupt ") refl)
    (is, (words_whole (codes " level=") refl, (decimal_whole level, (words_whole (codes " block=") refl, (decimal_whole block, tt)))))

content_record : (came : Content) → IsRecord (content_text came)
content_record (content.Hash digest) = (both (codes "content sha256:") (encode_lower digest) (words_whole (codes "content sha256:") refl) (hex_whole digest), refl)
content_record (content.VolumeCorrupt level block) = (corrupt_record (codes "volume") level block (words_whole (codes "volume") refl), refl)
content_record (content.FileCorrupt level block) = (corrupt_record (codes "file") level block (words_whole (codes "file") refl), refl)
content_record (content.BadDescriptor byte) = (both (codes "content bad-descriptor byte=") (decimal byte) (words_whole (codes "content bad-descriptor byte=") refl) (decimal_whole byte), refl)

-- the content line, where a file was read
content_spelled : (came : Option Content) (rest : List ℕ) → spelled (content_line came ++ rest) ≡ spelled rest
content_spelled None rest = refl
content_spelled (Some came) rest = spelled_none (content_text came) rest (content_record came).0 (content_record came).1

-- an entry whose records stand within lines, and spell no number
abbrev IsRecorded : Entry → Type 0
IsRecorded (entry.Write phase line may code epoch switched records) = AreRecords records
IsRecorded (entry.Read phase line code epoch bytes) = Unit {0}
IsRecorded (entry.Hook phase line worker code place serial by access came) = Found IsRecord access

-- such an entry whose line has a number that is within its word
abbrev pub IsSpelled : Entry → Type 0
IsSpelled one = (line_of one < 2 ^ 32) × IsRecorded one

-- an entry spells the number of its line
entry_numbers : (one : Entry) (rest : List ℕ) → IsSpelled one → spelled (entry_text one ++ rest) ≡ line_of one ∷ spelled rest
entry_numbers (entry.Write phase line may code epoch switched records) rest is =
    followed line (write_text line may code epoch) (flat_map line_text records) rest is.0 (write_entry line may code epoch) (records_spelled records rest is.1)
entry_numbers (entry.Read phase line code epoch bytes) rest is = entry_spelled line (read_text line code epoch bytes) rest is.0 (read_entry line code epoch bytes)
entry_numbers (entry.Hook phase line worker code place serial by access came) rest is =
    let first : List ℕ = line_text (hook_text line worker code place serial by) in
    let record_lines : List ℕ = access_line access in
    let content_lines : List ℕ = content_line came in
    ap spelled (append_assoc (first ++ record_lines) content_lines rest)
    ∙ followed line (hook_text line worker code place serial by) record_lines (content_lines ++ rest) is.0 (hook_entry line worker code place serial by)
    (access_spelled access (content_lines ++ rest) is.1)
    ∙ ap (λ (numbers : List ℕ). line ∷ numbers) (content_spelled came rest)

-- ---- transcripts

-- entries
entries_spelled : (entries : List Entry) (rest : List ℕ) → AllByRecursion IsSpelled entries → spelled (flat_map entry_text entries ++ rest) ≡ map line_of entries ++ spelled rest
entries_spelled [] rest all = refl
entries_spelled (one ∷ entries) rest all =
    ap spelled (append_assoc (entry_text one) (flat_map entry_text entries) rest)
    ∙ entry_numbers one (flat_map entry_text entries ++ rest) all.0
    ∙ ap (λ (numbers : List ℕ). line_of one ∷ numbers) (entries_spelled entries rest all.1)

-- the line that begins a phase stands within a line, and spells no number
phase_spelled : (number : ℕ) (rest : List ℕ) → spelled (line_text (codes "phase " ++ decimal number) ++ rest) ≡ spelled rest
phase_spelled number rest =
    spelled_none (codes "phase " ++ decimal number) rest (both (codes "phase ") (decimal number) (words_whole (codes "phase ") refl) (decimal_whole number)) refl

-- phases
phases_spelled : (number : ℕ) (phases : List (List Entry)) (rest : List ℕ) → AllByRecursion (AllByRecursion IsSpelled) phases → spelled (phases_text number phases ++ rest) ≡ numbers_of phases ++ spelled rest
phases_spelled number [] rest all = refl
phases_spelled number (entries ∷ phases) rest all =
    let first : List ℕ = line_text (codes "phase " ++ decimal number) in
    let told : List ℕ = flat_map entry_text entries in
    let later : List ℕ = phases_text (number + 1) phases in
    ap spelled (append_assoc (first ++ told) later rest ∙ append_assoc first told (later ++ rest))
    ∙ phase_spelled number (told ++ (later ++ rest))
    ∙ entries_spelled entries (later ++ rest) all.0
    ∙ ap (λ (numbers : List ℕ). map line_of entries ++ numbers) (phases_spelled (number + 1) phases rest all.1)
    ∙ sym (append_assoc (map line_of entries) (numbers_of phases) (spelled rest))

-- a text without lines spells nothing
nothing_spelled : spelled [] ≡ []
unfolding spelled
nothing_spelled = refl

-- the last line
end_spelled : spelled (line_text (codes "end")) ≡ []
end_spelled =
    ap spelled (sym (append-nil (line_text (codes "end")))) ∙ spelled_none (codes "end") [] (words_whole (codes "end") refl) refl ∙ nothing_spelled

-- a transcript spells the numbers of its entries' lines
pub transcript_spelled : (phases : List (List Entry)) → AllByRecursion (AllByRecursion IsSpelled) phases → spelled (transcript_text phases) ≡ numbers_of phases
transcript_spelled phases all =
    let first : List ℕ = line_text (codes "ipe-transcript 1") in
    let told : List ℕ = phases_text 1 phases in
    let last : List ℕ = line_text (codes "end") in
    ap spelled (append_assoc first told last)
    ∙ spelled_none (codes "ipe-transcript 1") (told ++ last) (words_whole (codes "ipe-transcript 1") refl) refl
    ∙ phases_spelled 1 phases last all
    ∙ ap (λ (numbers : List ℕ). numbers_of phases ++ numbers) end_spelled
    ∙ append-nil (numbers_of phases)

-- ---- what lines are replied

-- a machine whose loaded policies have names that stand within lines
abbrev IsNamedMachine : Machine → Type 0
IsNamedMachine machine = AreNamed machine.policies.loaded

-- a line whose number is within its word; and a hook is by a task, and about a file, whose names stand within lines
abbrev IsWordedTask : Task → Type 0
IsWordedTask (Write may asked) = Unit {0}
IsWordedTask (Read node) = Unit {0}
IsWordedTask (Hook worker op access) = Whole access.subject.comm × IsWholeObject access.object

abbrev pub IsWorded : Line → Type 0
IsWorded line = (line.number < 2 ^ 32) × IsWordedTask line.task

module _ (verdicts : Verdicts) where
  -- the policies after a write
  write_named : (policies : Policies) (asked : Result Command Refusal) → AreNamed policies.loaded → AreNamed (after_write verdicts policies asked).loaded
  write_named policies (Err refusal) named = named
  write_named policies (Ok command) named = after_named verdicts policies command named

  -- the machine after a claim with the entry that is active, which is returned where there is one
  returned_named : (machine : Machine) (pass : ℕ) (active : Option Loaded) → IsNamedMachine machine
      → IsNamedMachine (cond (is_some active) (after_event verdicts (claimed machine pass active) (event.Return pass)) (claimed machine pass active))
  returned_named machine pass None named = named
  returned_named machine pass (Some entry) named = named

  -- the machine after a hook
  hook_named : (machine : Machine) (worker : ℕ) (op : Option Op) → IsNamedMachine machine → IsNamedMachine (after_hook verdicts machine worker op)
  hook_named machine worker None named = named
  hook_named machine worker (Some op) named = returned_named machine (worker - 1) (active_entry machine.policies) named

  -- the machine after a task
  task_named : (machine : Machine) (task : Task) → IsNamedMachine machine → IsNamedMachine (after_task verdicts machine task)
  task_named machine (Write may asked) named = write_named machine.policies asked named
  task_named machine (Read node) named = named
  task_named machine (Hook worker op access) named = hook_named machine worker op named

  -- the machine after lines
  lines_named : (machine : Machine) (lines : List Line) → IsNamedMachine machine → IsNamedMachine (after_lines verdicts machine lines)
  lines_named machine [] named = named
  lines_named machine (line ∷ lines) named = lines_named (after_line verdicts machine line) lines (task_named machine line.task named)

  -- what is told of a write
  write_told : (came : Option Content) (phase : ℕ) (line : Line) (policies : Policies) (asked : Result Command Refusal) → AreNamed policies.loaded
      → IsRecorded (told_entry phase came line (write_reply verdicts policies asked))
  write_told came phase line policies (Err refusal) named = tt
  write_told came phase line policies (Ok command) named = command_recorded verdicts policies command named

  -- what is told of a hook
  hook_told : (came : Option Content) (phase : ℕ) (line : Line) (machine : Machine) (op : Option Op) (access : Access)
      → Whole access.subject.comm × IsWholeObject access.object → IsRecorded (told_entry phase came line (hook_reply machine op access))
  hook_told came phase line machine None access worded = tt
  hook_told came phase line machine (Some op) access worded =
      access_recorded machine.policies access.request access.subject access.object access.context worded.0 worded.1

  -- what is told of a task
  task_told : (came : Option Content) (phase : ℕ) (line : Line) (machine : Machine) (task : Task) → IsWordedTask task → IsNamedMachine machine
      → IsRecorded (told_entry phase came line (task_reply verdicts machine task))
  task_told came phase line machine (Write may asked) worded named = write_told came phase line machine.policies asked named
  task_told came phase line machine (Read node) worded named = tt
  task_told came phase line machine (Hook worker op access) worded named = hook_told came phase line machine op access worded

  -- the number of what is told
  told_number : (came : Option Content) (phase : ℕ) (line : Line) (reply : LineReply) → line_of (told_entry phase came line reply) ≡ line.number
  told_number came phase line (wrote epoch switched answer records) = refl
  told_number came phase line (told epoch answer) = refl
  told_number came phase line (ruled ruling access) = refl

  module _ (files : Files) where
    -- what is told of lines
    lines_told : (phase : ℕ) (machine : Machine) (lines : List Line) → AllByRecursion IsWorded lines → IsNamedMachine machine
        → AllByRecursion IsSpelled (told_phase files phase (entries_of verdicts machine lines))
    lines_told phase machine [] worded named = tt
    lines_told phase machine (line ∷ lines) worded named =
        let reply : LineReply = line_reply verdicts machine line in
        let came : Option Content = content_of_line files (record { line = line; reply = reply }) in (
          (rw (told_number came phase line reply) worded.0.0, task_told came phase line machine line.task worded.0.1 named),
          lines_told phase (after_line verdicts machine line) lines worded.1 (task_named machine line.task named),
        )

    -- what is told of phases
    pub phases_told : (phase : ℕ) (machine : Machine) (order : List (List Line)) → AllByRecursion (AllByRecursion IsWorded) order → IsNamedMachine machine
        → AllByRecursion (AllByRecursion IsSpelled) (told_phases files phase (phases_entries verdicts machine order))
    phases_told phase machine [] worded named = tt
    phases_told phase machine (lines ∷ order) worded named = (
      lines_told phase machine lines worded.0 named,
      phases_told (phase + 1) (after_lines verdicts machine lines) order worded.1 (lines_named machine lines named),
    )
