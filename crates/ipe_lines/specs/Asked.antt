-- What the lines of a request file ask of the machine.
use Rattle.std.specs.Prelude.{ℕ, Bool, false, List, [], ◌∷◌, ◌++◌, map, Option, Some, None, Result}
use Rattle.std.specs.Option.{option_map_or}
use Rattle.sha2.specs.Sha256.{sha256}
use Rattle.ipe_policy.specs.declared.request.Request.{Request}
use Rattle.ipe_policy.specs.declared.request.Subject.{Subject}
use Rattle.ipe_policy.specs.declared.request.Object.{Object}
use Rattle.ipe_policy.specs.declared.request.Object.TheVariants as object
use Rattle.ipe_policy.specs.declared.evaluation.Context.{Context}
use Rattle.ipe_policy.specs.Request.{evaluated_op}
use Rattle.ipe_signer.specs.declared.signer.Purpose.{Purpose}
use Rattle.ipe_signer.specs.declared.signer.Purpose.TheVariants as purpose
use Rattle.ipe_signer.specs.declared.signer.Verdict.{Verdict}
use Rattle.ipe_signer.specs.declared.signer.Verdict.TheVariants as verdict
use Rattle.ipe_signer.specs.declared.trust_list.Mark.{Mark}
use Rattle.ipe_signer.specs.Marks.{last_verdict}
use Rattle.ipe_machine.specs.declared.command.Command.{Command}
use Rattle.ipe_machine.specs.declared.answer.Refusal.{Refusal}
use Rattle.ipe_machine.specs.Answer.{Verdicts}
use Rattle.ipe_machine.specs.Machine.{Machine, first_machine}
use Rattle.ipe_nodes.specs.Nodes.{node_write}
use Rattle.ipe_transcript.specs.declared.transcript.Content.{Content}
use Rattle.ipe_requests.specs.declared.script.TextLine.{TextLine}
use Rattle.ipe_requests.specs.declared.script.MarkLine.{MarkLine}
use Rattle.ipe_requests.specs.declared.script.MarkPurpose.{MarkPurpose}
use Rattle.ipe_requests.specs.declared.script.MarkPurpose.TheVariants as marked
use Rattle.ipe_requests.specs.declared.script.MarkVerdict.{MarkVerdict}
use Rattle.ipe_requests.specs.declared.script.MarkVerdict.TheVariants as said
use Rattle.ipe_requests.specs.declared.script.MarkDigest.{MarkDigest}
use Rattle.ipe_requests.specs.declared.script.MarkDigest.TheVariants as digest
use Rattle.ipe_requests.specs.declared.script.WriteContent.{WriteContent}
use Rattle.ipe_requests.specs.declared.script.WriteContent.TheVariants as content
use Rattle.ipe_requests.specs.declared.script.Phase.{Phase}
use Rattle.ipe_requests.specs.declared.script.PhaseLine.{PhaseLine}
use Rattle.ipe_requests.specs.declared.script.PhaseLine.TheVariants as asked
use Rattle.ipe_requests.specs.Requests.{Script, text_of}
use Rattle.ipe_requests.specs.Rules.{line_number}
use Rattle.ipe_weave.specs.Lines.{Access, Task, Write, Read, Hook, Line}

-- the bytes of the text that is declared under an id
abbrev pub text_bytes : Script → List ℕ → List ℕ
text_bytes script id = option_map_or (λ (text : TextLine). text.bytes) (text_of script id) []

-- the purpose that a mark's word says
abbrev pub purpose_of : MarkPurpose → Purpose
purpose_of marked.Policy = purpose.Policy
purpose_of marked.Root = purpose.Root
purpose_of marked.File = purpose.File

-- what a mark says of its digest
abbrev pub says : MarkVerdict → Verdict
says said.Trusted = verdict.Trusted
says said.Unknown = verdict.Unknown
says said.Revoked = verdict.Revoked

-- the digest of a mark: a text's SHA-256, or the bytes that its digits spell
abbrev pub digest_of : Script → MarkDigest → List ℕ
digest_of script (digest.Text id) = sha256 (text_bytes script id)
digest_of script (digest.Hex bytes) = bytes

-- the mark of a line, with the digest that it is about
abbrev pub mark_of : Script → MarkLine → Mark
mark_of script mark =
    record { purpose = purpose_of mark.purpose; verdict = says mark.verdict; digest = digest_of script mark.digest }

-- the marks of a file, in its order
abbrev pub marks_of : Script → List Mark
marks_of script = map (mark_of script) script.marks

-- the signer that the file's marks are
abbrev pub verdicts_of : Script → Verdicts
verdicts_of script = last_verdict (marks_of script)

-- the bytes that are written to a node
abbrev pub content_of : Script → WriteContent → List ℕ
content_of script (content.Text id) = text_bytes script id
content_of script (content.Echo word) = word ++ 10 ∷ []
content_of script (content.Hex bytes) = bytes

-- what a write asks for: a command, or why it asks for none
abbrev pub asked_by : Script → Bool → List ℕ → WriteContent → Result Command Refusal
asked_by script may node content = node_write node (content_of script content) may

-- what is known of the file of a path: what a hook is about, its context, and what it comes to where it is read. Of a path
-- that isn't declared nothing is known
pub record Files : Type 0 where
  pub object : List ℕ → Object
  pub context : List ℕ → Context
  pub content : List ℕ → Option Content

-- without a file a context has nothing
abbrev pub no_context : Context
no_context = record { boot = false; dm = None; fs = None }

-- what a hook is about: the file of its path, or no file
abbrev pub object_at : Files → Option (List ℕ) → Object
object_at files None = object.NoFile
object_at files (Some path) = files.object path

-- the context of the file of a hook's path, or of no file
abbrev pub context_at : Files → Option (List ℕ) → Context
context_at files None = no_context
context_at files (Some path) = files.context path

-- what a hook is about, and by whom
abbrev pub access_of : Files → Request → Subject → Option (List ℕ) → Access
access_of files request subject path = record {
  request = request;
  subject = subject;
  object = object_at files path;
  context = context_at files path;
}

-- what a line asks
abbrev pub task_of : Script → Files → PhaseLine → Task
task_of script files (asked.Write line may node content) = Write may (asked_by script may node content)
task_of script files (asked.Read line node) = Read node
task_of script files (asked.Hook line worker request subject path) =
    Hook worker (evaluated_op request) (access_of files request subject path)

-- a line with its number
abbrev pub line_of : Script → Files → PhaseLine → Line
line_of script files line = record { number = line_number line; task = task_of script files line }

-- the lines of a phase
abbrev pub lines_of : Script → Files → List PhaseLine → List Line
lines_of script files lines = map (line_of script files) lines

-- the lines of all phases
abbrev pub phases_of : Script → Files → List (List Line)
phases_of script files = map (λ (phase : Phase). lines_of script files phase.lines) script.phases

-- the machine at the start, with one pass for each worker
abbrev pub at_the_start : Script → Machine
at_the_start script = first_machine script.workers
