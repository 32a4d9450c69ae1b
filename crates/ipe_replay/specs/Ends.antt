-- What the administrator's lines of a request file come to, whoever else asks beside them.
use Rattle.std.specs.Prelude.{◌≡◌, List, map}
use Rattle.std.specs.Option.{option_map}
use Rattle.ipe_machine.specs.Policies.{Policies, active_entry, first_policies}
use Rattle.ipe_records.specs.Records.{brief_of}
use Rattle.ipe_requests.specs.Requests.{Script}
use Rattle.ipe_weave.specs.Lines.{Line, Task, joined, own_lines, task_of}
use Rattle.ipe_weave.specs.Standing.{policies_then}
use Rattle.ipe_lines.specs.Asked.{Files, phases_of, verdicts_of}
use Rattle.ipe_replay.specs.declared.end.End.{End}
use Rattle.ipe_replay.specs.declared.transcript.Replayed.{Replayed}

-- what the administrator's lines in phases ask, one phase after another
abbrev pub commands_in : List (List Line) → List Task
commands_in phases = map task_of (own_lines 0 (joined phases))

-- what the administrator's lines of a request file ask
abbrev pub commands_of : Script → Files → List Task
commands_of script files = commands_in (phases_of script files)

-- the policies after these alone
abbrev pub last_policies : Script → Files → Policies
last_policies script files = policies_then (verdicts_of script) first_policies (commands_of script files)

-- what is told of policies at the end
abbrev pub end_of : Policies → End
end_of policies = record {
  epoch = policies.epoch;
  active = option_map brief_of (active_entry policies);
  enforce = policies.enforce;
  success = policies.success;
}

-- the end of a run is with these policies: their epoch, what records tell of the active one, and their switches
pub record EndsWith (policies : Policies) (replayed : Replayed) : Type 0 where
  pub epoch : replayed.epoch ≡ policies.epoch
  pub active : replayed.active ≡ option_map brief_of (active_entry policies)
  pub enforce : replayed.enforce ≡ policies.enforce
  pub success : replayed.success ≡ policies.success
