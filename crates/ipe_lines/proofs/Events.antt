-- Lines are the machine's own events.
use Rattle.std.proofs.Common.{◌≡◌, ◌≤◌, ℕ, ◌-◌, Bool, true, false, cond, List, [], ◌∷◌, ◌++◌, Some, Result, Ok, Err, is_some, refl, sym, ap, ◌∙◌}
use Rattle.std.specs.Prelude.{◌&&◌}
use Rattle.std.proofs.lemmas.Bool.{eq-eqb}
use Rattle.std.proofs.lemmas.List.{map-append}
use Rattle.ipe_policy.specs.Version.{packed}
use Rattle.ipe_policy.specs.Request.{evaluated_op}
use Rattle.ipe_machine.specs.declared.command.Command.{Command}
use Rattle.ipe_machine.specs.declared.answer.Refusal.{Refusal}
use Rattle.ipe_machine.specs.declared.event.Event.{Event}
use Rattle.ipe_machine.specs.declared.event.Event.TheVariants as event
use Rattle.ipe_machine.specs.Policies.{Loaded, active_entry}
use Rattle.ipe_machine.specs.Answer.{Verdicts}
use Rattle.ipe_machine.specs.Machine.{Machine, after_event, with_policies}
use Rattle.ipe_machine.specs.Run.{after_all}
use Rattle.ipe_machine.specs.Law.{ActiveVersionNeverFalls}
use Rattle.ipe_requests.specs.declared.script.PhaseLine.{PhaseLine}
use Rattle.ipe_requests.specs.declared.script.PhaseLine.TheVariants as asked
use Rattle.ipe_requests.specs.Requests.{Script}
use Rattle.ipe_weave.specs.Lines.{Access, Line, after_line, after_lines, after_write}
use Rattle.ipe_lines.specs.Asked.{Files, access_of, asked_by, at_the_start, line_of, lines_of, verdicts_of}
use Rattle.ipe_lines.specs.Events.{claim_events, lines_events, task_events, write_events}

-- events after events
after_all-append : (verdicts : Verdicts) (machine : Machine) (one two : List Event)
    → after_all verdicts machine (one ++ two) ≡ after_all verdicts (after_all verdicts machine one) two
after_all-append verdicts machine [] two = refl
after_all-append verdicts machine (first ∷ one) two = after_all-append verdicts (after_event verdicts machine first) one two

-- lines after lines
after_lines-append : (verdicts : Verdicts) (machine : Machine) (one two : List Line)
    → after_lines verdicts machine (one ++ two) ≡ after_lines verdicts (after_lines verdicts machine one) two
after_lines-append verdicts machine [] two = refl
after_lines-append verdicts machine (line ∷ one) two = after_lines-append verdicts (after_line verdicts machine line) one two

-- a write
write_is : (verdicts : Verdicts) (machine : Machine) (asked : Result Command Refusal)
    → with_policies machine (after_write verdicts machine.policies asked) ≡ after_all verdicts machine (write_events asked)
write_is verdicts machine (Ok command) = refl
write_is verdicts machine (Err refusal) = rw (eq-eqb machine.policies.epoch machine.policies.epoch refl) refl

-- a claim, which is returned or isn't
claim_is : (verdicts : Verdicts) (machine : Machine) (pass : ℕ) (claim : Event) (holds : Bool)
    → cond holds (after_event verdicts (after_event verdicts machine claim) (event.Return pass)) (after_event verdicts machine claim)
    ≡ after_all verdicts machine (claim_events pass claim holds)
claim_is verdicts machine pass claim true = refl
claim_is verdicts machine pass claim false = refl

module _ (script : Script) (files : Files) where
  -- a line
  line_is : (machine : Machine) (line : PhaseLine)
      → after_line (verdicts_of script) machine (line_of script files line)
      ≡ after_all (verdicts_of script) machine (task_events machine (line_of script files line).task)
  line_is machine (asked.Write number may node content) = write_is (verdicts_of script) machine (asked_by script may node content)
  line_is machine (asked.Read number node) = refl
  line_is machine (asked.Hook number worker request subject path) =
      let access : Access = access_of files request subject path in
      claim_is (verdicts_of script) machine (worker - 1)
      (event.Claim (worker - 1) access.request access.subject access.object access.context)
      (is_some (evaluated_op request) && is_some (active_entry machine.policies))

  -- lines
  pub lines_are : (machine : Machine) (lines : List PhaseLine)
      → after_lines (verdicts_of script) machine (lines_of script files lines)
      ≡ after_all (verdicts_of script) machine (lines_events (verdicts_of script) machine (lines_of script files lines))
  lines_are machine [] = refl
  lines_are machine (line ∷ lines) =
      let verdicts : Verdicts = verdicts_of script in
      let first : Line = line_of script files line in
      let then : Machine = after_line verdicts machine first in
      let later : List Event = lines_events verdicts then (lines_of script files lines) in
      lines_are then lines
      ∙ ap (λ (m : Machine). after_all verdicts m later) (line_is machine line)
      ∙ sym (after_all-append verdicts machine (task_events machine first.task) later)

  -- the version of the active policy along lines
  pub never_falls : ActiveVersionNeverFalls → (before more : List PhaseLine) (entry : Loaded)
      → active_entry (after_lines (verdicts_of script) (at_the_start script) (lines_of script files before)).policies ≡ Some entry
      → (later : Loaded)
      × (active_entry (after_lines (verdicts_of script) (at_the_start script) (lines_of script files (before ++ more))).policies ≡ Some later)
      × (packed entry.version ≤ packed later.version)
  never_falls law before more entry is =
      let verdicts : Verdicts = verdicts_of script in
      let start : Machine = at_the_start script in
      let behind : Machine = after_lines verdicts start (lines_of script files before) in
      let first : List Event = lines_events verdicts start (lines_of script files before) in
      let second : List Event = lines_events verdicts behind (lines_of script files more) in
      let reached : behind ≡ after_all verdicts start first = lines_are start before in
      let kept = law verdicts script.workers first second entry (ap (λ (m : Machine). active_entry m.policies) (sym reached) ∙ is) in
      let whole : after_lines verdicts start (lines_of script files (before ++ more)) ≡ after_all verdicts start (first ++ second) =
      ap (after_lines verdicts start) (map-append (line_of script files) before more)
      ∙ after_lines-append verdicts start (lines_of script files before) (lines_of script files more)
      ∙ lines_are behind more
      ∙ ap (λ (m : Machine). after_all verdicts m second) reached
      ∙ sym (after_all-append verdicts start first second) in
      (kept.0, ap (λ (m : Machine). active_entry m.policies) whole ∙ kept.1, kept.2)
