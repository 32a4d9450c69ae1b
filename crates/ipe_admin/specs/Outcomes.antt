-- What a write to a node, and a command, do.
use Rattle.std.specs.Prelude.{◌≡◌, ℕ, ◌==◌, Bool, not, cond, List, [], ◌∷◌, ◌++◌, length, map, Option, Some, None, Result, Ok, Err}
use Rattle.std.specs.List.{AllZip}
use Rattle.std.specs.Option.{option_and_then}
use Rattle.ipe_image.specs.Image.{image_of}
use Rattle.ipe_machine.specs.declared.command.Command.{Command}
use Rattle.ipe_machine.specs.declared.answer.Refusal.{Refusal}
use Rattle.ipe_machine.specs.Policies.{Policies, Loaded}
use Rattle.ipe_machine.specs.Change.{entry_in}
use Rattle.ipe_machine.specs.Answer.{Verdicts, change_by}
use Rattle.ipe_records.specs.Ruled.{parts_in}
use Rattle.ipe_gate_rule.specs.declared.event.Event.{Event}
use Rattle.ipe_gate_rule.specs.History.{GoesOnFrom}
use Rattle.ipe_gate_rule.specs.Owners.{is_switch}
use Rattle.ipe_gate.specs.declared.administrator.GateAdmin.{GateAdmin}
use Rattle.ipe_gate.specs.Seats.{admin_gate, admin_mine, admin_seen, passes_made}
use Rattle.ipe_gate.specs.Placing.{looks_to, stores_of}
use Rattle.ipe_weave.specs.Acts.{Act, Since}
use Rattle.ipe_weave.specs.Gate.{GateBegins}
use Rattle.ipe_weave.specs.Lines.{Acted, Write, after_write, write_answer, write_records, wrote}
use Rattle.ipe_admin.specs.declared.admin.Admin.{Admin}
use Rattle.ipe_admin.specs.declared.outcome.Outcome.{Outcome}

-- the administrator's part of the gate
abbrev pub gate_in : Admin → GateAdmin
gate_in admin = admin.gate

-- the policies, the switches and the epoch
abbrev pub policies_in : Admin → Policies
policies_in admin = admin.registry

-- it is the administrator of the same gate, with as many passes
pub record SameGate (a b : Admin) : Type 0 where
  pub gate : admin_gate (gate_in b) ≡ admin_gate (gate_in a)
  pub passes : passes_made (gate_in b) ≡ passes_made (gate_in a)

-- the policies afterwards, where an epoch begins
abbrev pub begun : Policies → Policies → List Policies
begun before after = cond (after.epoch == before.epoch) [] (after ∷ [])

-- the entry that what is asked for brings, if it brings one
abbrev pub brought : Verdicts → Policies → Result Command Refusal → Option Loaded
brought verdicts policies (Err refusal) = None
brought verdicts policies (Ok command) = option_and_then entry_in (change_by verdicts policies command)

-- the steps that put an entry's image into a slot: a look at each slot up to it that wasn't bound, and a store of each
-- word; no step where there is no entry
abbrev pub ArePlacing : GateAdmin → Option Loaded → List Event → Type 0
ArePlacing gate None events = events ≡ []
ArePlacing gate (Some entry) events =
    (slot : ℕ) × (events ≡ stores_of slot (image_of (parts_in entry)) (length (image_of (parts_in entry)))
    ++ looks_to gate.bound slot)

-- an act's event
abbrev pub event_in : Act → Event
event_in act = act.event

-- an act is a switch to these policies: with their switches, and a slot that holds the image of their active entry
abbrev pub BeginsAt : Act → Policies → Type 0
BeginsAt act policies = GateBegins act.event act.before policies

-- the gate's history went on: its switches since are to the policies in this list, in order; and the administrator's
-- own steps since are those that put the entry's image into a slot, and then the switches
pub record HasGoneOn (entry : Option Loaded) (begun : List Policies) (a b : GateAdmin) : Type 0 where
  pub later : GoesOnFrom (admin_seen b) (admin_seen a)
  pub since : Since is_switch (admin_seen a) (admin_seen b)
  pub switches : AllZip BeginsAt since.acts begun
  pub placing : List Event
  pub placed : ArePlacing a entry placing
  pub mine_is : admin_mine b ≡ map event_in since.acts ++ (placing ++ admin_mine a)

-- what was asked for is answered by the policies, with the epoch afterwards and the records, and is done to them; the
-- gate's history has one switch more exactly where the epoch rises
pub record IsOutcome (verdicts : Verdicts) (asked : Result Command Refusal) (a b : Admin) (outcome : Outcome)
    : Type 0 where
  pub same : SameGate a b
  pub policies : policies_in b ≡ after_write verdicts (policies_in a) asked
  pub reply : outcome.reply ≡ write_answer verdicts (policies_in a) asked
  pub epoch : outcome.epoch ≡ (policies_in b).epoch
  pub records : outcome.records ≡ write_records verdicts (policies_in a) asked
  pub gone_on : HasGoneOn (brought verdicts (policies_in a) asked)
      (begun (policies_in a) (after_write verdicts (policies_in a) asked)) (gate_in a) (gate_in b)

-- the line of a write with its reply: what its outcome says, and whether the epoch rose
abbrev pub written : ℕ → Bool → Result Command Refusal → Policies → Outcome → Acted
written number may asked before outcome = record {
  line = record { number = number; task = Write may asked };
  reply = wrote outcome.epoch (not (outcome.epoch == before.epoch)) outcome.reply outcome.records;
}
