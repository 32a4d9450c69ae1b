-- The events of the machine that lines are, and the law of versions along them.
use Rattle.std.specs.Prelude.{◌≡◌, ◌≤◌, ℕ, ◌-◌, ◌&&◌, Bool, if◌then◌else◌, List, [], ◌∷◌, ◌++◌, Some, is_some, Result, Ok, Err}
use Rattle.ipe_policy.specs.Version.{packed}
use Rattle.ipe_machine.specs.declared.command.Command.{Command}
use Rattle.ipe_machine.specs.declared.answer.Refusal.{Refusal}
use Rattle.ipe_machine.specs.declared.event.Event.{Event}
use Rattle.ipe_machine.specs.declared.event.Event.TheVariants as event
use Rattle.ipe_machine.specs.Policies.{Loaded, active_entry}
use Rattle.ipe_machine.specs.Answer.{Verdicts}
use Rattle.ipe_machine.specs.Machine.{Machine}
use Rattle.ipe_machine.specs.Run.{after_all}
use Rattle.ipe_requests.specs.declared.script.PhaseLine.{PhaseLine}
use Rattle.ipe_requests.specs.Requests.{Script}
use Rattle.ipe_weave.specs.Lines.{Task, Write, Read, Hook, Line, after_line, after_lines}
use Rattle.ipe_lines.specs.Asked.{Files, at_the_start, lines_of, verdicts_of}

-- a write is the command that it asks for, or no event
abbrev pub write_events : Result Command Refusal → List Event
write_events (Ok command) = event.Command command ∷ []
write_events (Err refusal) = []

-- a claim of a pass, and its return where it holds a policy
abbrev pub claim_events : ℕ → Event → Bool → List Event
claim_events pass claim holds = if holds then claim ∷ event.Return pass ∷ [] else claim ∷ []

-- a task's events: a read is none; a hook of worker K is a claim of pass K - 1, which is returned at once
abbrev pub task_events : Machine → Task → List Event
task_events machine (Write may asked) = write_events asked
task_events machine (Read node) = []
task_events machine (Hook worker op access) =
    claim_events (worker - 1) (event.Claim (worker - 1) access.request access.subject access.object access.context)
    (is_some op && is_some (active_entry machine.policies))

-- the events of lines, one line after another
abbrev pub lines_events : Verdicts → Machine → List Line → List Event
lines_events verdicts machine [] = []
lines_events verdicts machine (line ∷ lines) =
    task_events machine line.task ++ lines_events verdicts (after_line verdicts machine line) lines

-- lines do to the machine what their events do
abbrev pub LinesAreEvents : Type 0
LinesAreEvents =
    (script : Script) (files : Files) (machine : Machine) (lines : List PhaseLine) →
    after_lines (verdicts_of script) machine (lines_of script files lines)
    ≡ after_all (verdicts_of script) machine (lines_events (verdicts_of script) machine (lines_of script files lines))

-- in whatever order lines come, once a policy is active one stays active, and its version doesn't fall
abbrev pub VersionNeverFallsAlongLines : Type 0
VersionNeverFallsAlongLines =
    (script : Script) (files : Files) (before more : List PhaseLine) (entry : Loaded) →
    active_entry (after_lines (verdicts_of script) (at_the_start script) (lines_of script files before)).policies ≡ Some entry →
    (later : Loaded)
    × (active_entry (after_lines (verdicts_of script) (at_the_start script) (lines_of script files (before ++ more))).policies ≡ Some later)
    × (packed entry.version ≤ packed later.version)
