-- The lines of a request file, in whatever order each one's own are kept, have words that stand within lines.
use Rattle.std.proofs.Common.{◌≡◌, ℕ, ◌^◌, ◌<◌, Bool, true, false, cond, List, [], ◌∷◌, map, Option, Some, None, refl, arith}
use Rattle.std.specs.Prelude.{codes, nat_eq, unwrap_or}
use Rattle.std.specs.List.{AllByRecursion, find, starts_with}
use Rattle.std.specs.Option.{option_map}
use Rattle.std.proofs.lemmas.Bool.{and_parts}
use Rattle.blk_device.specs.Contents.{Contents}
use Rattle.line_words.specs.Words.{is_text, is_word}
use Rattle.ipe_policy.specs.declared.request.Object.TheVariants as object
use Rattle.ipe_policy.specs.Words.{is_id_byte, is_path, is_quotable}
use Rattle.ipe_objects.specs.Files.{object_by}
use Rattle.ipe_requests.specs.declared.script.FileForm.{FileForm}
use Rattle.ipe_requests.specs.declared.script.FileForm.TheVariants as form
use Rattle.ipe_requests.specs.declared.script.FileLine.{FileLine}
use Rattle.ipe_requests.specs.declared.script.Phase.{Phase}
use Rattle.ipe_requests.specs.declared.script.PhaseLine.{PhaseLine}
use Rattle.ipe_requests.specs.declared.script.PhaseLine.TheVariants as asked
use Rattle.ipe_requests.specs.Requests.{Script, file_of}
use Rattle.ipe_requests.specs.Rules.{EachLine, IsFileOf, IsFormOf, IsHookOf, IsNumbered, LinesRise, line_number}
use Rattle.ipe_gate_rule.specs.declared.event.Event.{Event}
use Rattle.ipe_weave.specs.Lines.{Line, NumbersRise, actor_of, own_lines, IsWeave}
use Rattle.ipe_weave.specs.Phases.{order_of}
use Rattle.ipe_weave.proofs.Numbers.{own_rise}
use Rattle.ipe_transcript.specs.declared.transcript.Entry.{Entry}
use Rattle.ipe_lines.specs.Asked.{Files, line_of, lines_of, object_at, phases_of}
use Rattle.ipe_lines.specs.Files.{files_of}
use Rattle.ipe_lines.specs.Told.{TellInOrder}
use Rattle.ipe_lines.proofs.Each.{each_same}
use Rattle.ipe_lines.proofs.Found.{Found}
use Rattle.ipe_lines.proofs.Records.{IsWholeObject}
use Rattle.ipe_lines.proofs.Spelling.{IsWorded}
use Rattle.ipe_lines.proofs.Within.{Whole, word_whole}

-- what holds of each line of a list holds of each of an order that keeps each one's
order_each : (P : Line → Type 0) (script order : List (List Line)) → IsWeave script order → AllByRecursion (AllByRecursion P) script → AllByRecursion (AllByRecursion P) order
order_each P [] [] weave all = tt
order_each P (lines ∷ script) [] weave all = tt
order_each P [] (part ∷ order) weave all = absurd weave
order_each P (lines ∷ script) (part ∷ order) weave all =
    (each_same P actor_of part lines weave.0 all.0, order_each P script order weave.1 all.1)

-- a path
path_whole : (path : List ℕ) → is_path path ≡ true → Whole path
path_whole path is =
    word_whole 1 255 is_quotable path refl (and_parts (is_word 1 255 is_quotable path) (starts_with nat_eq path (codes "/")) is).0

module _ (script : Script) where
  -- a declared file
  file_whole : (path : List ℕ) (file : FileForm) → is_path path ≡ true → IsFormOf script file → IsWholeObject (object_by path file)
  file_whole path (form.Boot dev ino text) is of = (path_whole path is, word_whole 1 32 is_id_byte dev refl of.0)
  file_whole path (form.Volume volume first size ino) is of = (path_whole path is, word_whole 1 32 is_id_byte volume refl of.0)
  file_whole path (form.Plain device at size dev ino) is of = (path_whole path is, word_whole 1 32 is_id_byte dev refl of)

  -- one that is found
  found_whole : (found : Option FileLine) → Found (IsFileOf script) found
      → IsWholeObject (unwrap_or (option_map (λ (file : FileLine). object_by file.path file.form) found) object.NoFile)
  found_whole None of = tt
  found_whole (Some file) of = file_whole file.path file.form of.0 of.1

  -- the first of files that passes a test
  find_each : (test : FileLine → Bool) (files : List FileLine) → AllByRecursion (IsFileOf script) files → Found (IsFileOf script) (find test files)
  find_each test [] all = tt
  find_each test (file ∷ files) all = by (test file) (find_each test files all.1)
    where
      by : (passes : Bool) → Found (IsFileOf script) (find test files) → Found (IsFileOf script) (cond passes (Some file) (find test files))
      by true rest = all.0
      by false rest = rest

  module _ (images : Contents) (declared : AllByRecursion (IsFileOf script) script.files) where
    abbrev files : Files
    files = files_of script images

    -- what a hook is about
    object_whole : (path : Option (List ℕ)) → IsWholeObject (object_at files path)
    object_whole None = tt
    object_whole (Some path) = found_whole (file_of script path) (find_each (λ (file : FileLine). is_text path file.path) script.files declared)

    module _ (most : ℕ) (few : most < 2 ^ 32) where
      -- a line
      line_worded : (line : PhaseLine) → IsHookOf script line → IsNumbered most line → IsWorded (line_of script files line)
      line_worded (asked.Write number may node what) hook numbered = (omega (arith, few, numbered.1), tt)
      line_worded (asked.Read number node) hook numbered = (omega (arith, few, numbered.1), tt)
      line_worded (asked.Hook number worker what subject path) hook numbered =
          (omega (arith, few, numbered.1), (word_whole 1 15 is_quotable subject.comm refl hook.2, object_whole path))

      lines_worded : (lines : List PhaseLine) → AllByRecursion (IsHookOf script) lines → AllByRecursion (IsNumbered most) lines → AllByRecursion IsWorded (lines_of script files lines)
      lines_worded [] hooks numbered = tt
      lines_worded (line ∷ lines) hooks numbered = (line_worded line hooks.0 numbered.0, lines_worded lines hooks.1 numbered.1)

      -- the lines of all phases
      pub phases_worded : (phases : List Phase) → AllByRecursion (λ (phase : Phase). AllByRecursion (IsHookOf script) phase.lines) phases
          → AllByRecursion (λ (phase : Phase). AllByRecursion (IsNumbered most) phase.lines) phases
          → AllByRecursion (AllByRecursion IsWorded) (map (λ (phase : Phase). lines_of script files phase.lines) phases)
      phases_worded [] hooks numbered = tt
      phases_worded (phase ∷ phases) hooks numbered =
          (lines_worded phase.lines hooks.0 numbered.0, phases_worded phases hooks.1 numbered.1)

-- ---- numbers and workers

module _ (script : Script) (files : Files) where
  -- the numbers of lines rise
  lines_rise : (lines : List PhaseLine) → LinesRise line_number lines → NumbersRise (lines_of script files lines)
  lines_rise [] rise = tt
  lines_rise (line ∷ []) rise = tt
  lines_rise (line ∷ next ∷ lines) rise = (rw (number_is line, number_is next) rise.0, lines_rise (next ∷ lines) rise.1)
    where
      number_is : (line : PhaseLine) → (line_of script files line).number ≡ line_number line
      number_is (asked.Write number may node what) = refl
      number_is (asked.Read number node) = refl
      number_is (asked.Hook number worker what subject path) = refl

  -- the numbers of the lines rise in each phase
  pub phases_rise : (phases : List Phase) → AllByRecursion (λ (phase : Phase). LinesRise line_number phase.lines) phases
      → AllByRecursion NumbersRise (map (λ (phase : Phase). lines_of script files phase.lines) phases)
  phases_rise [] rise = tt
  phases_rise (phase ∷ phases) rise = (lines_rise phase.lines rise.0, phases_rise phases rise.1)

  -- and so do those of each one's lines
  pub own_rising : (phases : List Phase) → AllByRecursion (λ (phase : Phase). LinesRise line_number phase.lines) phases
      → AllByRecursion (λ (phase : Phase). (actor : ℕ) → NumbersRise (own_lines actor (lines_of script files phase.lines))) phases
  own_rising [] rise = tt
  own_rising (phase ∷ phases) rise =
      (λ actor. own_rise actor (lines_of script files phase.lines) (lines_rise phase.lines rise.0), own_rising phases rise.1)

-- each line of the order that a transcript tells has such words
pub order_worded : (script : Script) (images : Contents) → AllByRecursion (IsFileOf script) script.files → (most : ℕ) → most < 2 ^ 32
    → EachLine (IsHookOf script) script → EachLine (IsNumbered most) script → (history : List Event) (entries : List (List Entry))
    → (tell : TellInOrder script (files_of script images) history entries) → AllByRecursion (AllByRecursion IsWorded) (order_of tell.printed)
order_worded script images declared most few hooks numbered history entries tell =
    order_each IsWorded (phases_of script (files_of script images)) (order_of tell.printed) tell.order.along.weave
    (phases_worded script images declared most few script.phases hooks numbered)
