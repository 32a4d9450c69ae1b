-- What the run of a request file comes to in numbers, and the one line that tells it.
use Rattle.std.specs.Prelude.{◌≡◌, ℕ, pos, ◌+◌, Bool, true, false, cond, codes, count_by, List, [], ◌∷◌, ◌++◌, Option, Some, None, is_some}
use Rattle.std.specs.Fmt.{decimal}
use Rattle.std.specs.List.{concat}
use Rattle.std.specs.Option.{option_map}
use Rattle.std.specs.Ordering.{int_eq}
use Rattle.line_words.specs.Lines.{line_text}
use Rattle.ipe_policy.specs.Spelling.{version_text}
use Rattle.ipe_audit.specs.declared.records.Brief.{Brief}
use Rattle.ipe_gate_rule.specs.declared.event.Event.{Event}
use Rattle.ipe_machine.specs.Answer.{Verdicts}
use Rattle.ipe_machine.specs.Policies.{Policies, active_entry, first_policies}
use Rattle.ipe_nodes.specs.Nodes.{node_read}
use Rattle.ipe_records.specs.Records.{brief_of}
use Rattle.ipe_requests.specs.Requests.{Script}
use Rattle.ipe_requests.specs.Words.{bit_word}
use Rattle.ipe_transcript.specs.Entries.{code_of}
use Rattle.ipe_transcript.specs.declared.transcript.Entry.{Entry}
use Rattle.ipe_weave.specs.Lines.{Task, Write, Read, Hook, Line, joined, write_answer}
use Rattle.ipe_weave.specs.Standing.{policies_after}
use Rattle.ipe_lines.specs.Asked.{Files, phases_of, verdicts_of}
use Rattle.ipe_lines.specs.Told.{TellInOrder}
use Rattle.ipe_replay.specs.Ends.{commands_of, last_policies}
use Rattle.ipe_replay.specs.declared.summary.Summary.{Summary}

-- a task is a hook's
abbrev pub is_hook_task : Task → Bool
is_hook_task (Write may asked) = false
is_hook_task (Read node) = false
is_hook_task (Hook worker op access) = true

-- a line is a hook's
abbrev pub is_hook : Line → Bool
is_hook line = is_hook_task line.task

-- a task is that of a hook that claims
abbrev pub is_claim_task : Task → Bool
is_claim_task (Write may asked) = false
is_claim_task (Read node) = false
is_claim_task (Hook worker op access) = is_some op

-- a line is that of a hook that claims
abbrev pub is_claim : Line → Bool
is_claim line = is_claim_task line.task

-- a task is the administrator's
abbrev pub is_command_task : Task → Bool
is_command_task (Write may asked) = true
is_command_task (Read node) = true
is_command_task (Hook worker op access) = false

-- a line is the administrator's
abbrev pub is_command : Line → Bool
is_command line = is_command_task line.task

-- the policies answer a task with the code 0
abbrev pub is_done : Verdicts → Policies → Task → Bool
is_done verdicts policies (Write may asked) = int_eq (code_of (write_answer verdicts policies asked)) (pos 0)
is_done verdicts policies (Read node) = int_eq (code_of (node_read policies node)) (pos 0)
is_done verdicts policies (Hook worker op access) = false

-- how many tasks the policies answer so, one after another
abbrev pub count_done : Verdicts → Policies → List Task → ℕ
count_done verdicts policies [] = 0
count_done verdicts policies (task ∷ tasks) =
    cond (is_done verdicts policies task) 1 0 + count_done verdicts (policies_after verdicts policies task) tasks

-- what the run of a request file comes to, by its lines alone: the hooks, those of them that claim, the administrator's
-- lines, those of them that are answered with the code 0, and what the policies are after these
abbrev pub summary_of : Script → Files → Summary
summary_of script files = record {
  hooks = count_by is_hook (joined (phases_of script files));
  placed = count_by is_claim (joined (phases_of script files));
  commands = count_by is_command (joined (phases_of script files));
  ok = count_done (verdicts_of script) first_policies (commands_of script files);
  epoch = (last_policies script files).epoch;
  active = option_map brief_of (active_entry (last_policies script files));
  enforce = (last_policies script files).enforce;
  success_audit = (last_policies script files).success;
}

-- a request file ran on a gate with this legal history, and this is what its run came to
pub record IsSummary (script : Script) (files : Files) (history : List Event) (summary : Summary) : Type 0 where
  pub entries : List (List Entry)
  pub tell : TellInOrder script files history entries
  pub sums : summary ≡ summary_of script files

-- the counts, and the epoch after the last phase
abbrev pub counts_text : Summary → List ℕ
counts_text summary = concat (
    codes "hooks=" ∷ decimal summary.hooks
    ∷ codes " placed=" ∷ decimal summary.placed
    ∷ codes " commands=" ∷ decimal summary.commands
    ∷ codes " ok=" ∷ decimal summary.ok
    ∷ codes " epoch=" ∷ decimal summary.epoch
    ∷ [])

-- the active policy's name and version, each `?` where none is active
abbrev pub active_text : Option Brief → List ℕ
active_text None = codes " active=? version=?"
active_text (Some active) = codes " active=" ++ active.name ++ codes " version=" ++ version_text active.version

-- the switches, 1 where one is on and 0 where it is off
abbrev pub switches_text : Summary → List ℕ
switches_text summary = concat (
    codes " enforce=" ∷ bit_word summary.enforce
    ∷ codes " success_audit=" ∷ bit_word summary.success_audit
    ∷ [])

-- the summary line
abbrev pub summary_text : Summary → List ℕ
summary_text summary = line_text (counts_text summary ++ active_text summary.active ++ switches_text summary)
