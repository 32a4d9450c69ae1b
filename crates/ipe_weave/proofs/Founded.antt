-- What the order's proof asks of a basis.
use Rattle.std.proofs.Common.{◌≡◌, ℕ, Bool, List, [], ◌∷◌, Option, Some, None}
use Rattle.ipe_policy.specs.declared.op.Op.{Op}
use Rattle.ipe_machine.specs.Policies.{Policies, Loaded, active_entry}
use Rattle.ipe_machine.specs.Machine.{Machine}
use Rattle.ipe_machine.specs.Epochs.{CommandsStayOrBegin}
use Rattle.ipe_gate_rule.specs.declared.event.Event.{Event}
use Rattle.ipe_gate_rule.specs.declared.event.Event.TheVariants.{Store, Switch, Claim, Return, Look}
use Rattle.ipe_weave.specs.Lines.{Access, hook_reply}
use Rattle.ipe_weave.specs.Basis.{Basis}
use Rattle.ipe_weave.specs.Standing.{IsLike}

-- nothing is shown at the start; what a history shows stays but for a switch, which shows the active entry of its
-- policies; and a claim is answered as the machine answers that is like the history and has the entry that it shows
pub record IsBasis (basis : Basis) : Type 0 where
  pub at_start : basis.Shows [] None
  pub at_claim : (p : ℕ) (h : List Event) (entry : Option Loaded) → basis.Shows h entry → basis.Shows (Claim p ∷ h) entry
  pub at_return : (p : ℕ) (h : List Event) (entry : Option Loaded) → basis.Shows h entry → basis.Shows (Return p ∷ h) entry
  pub at_look : (s : ℕ) (h : List Event) (entry : Option Loaded) → basis.Shows h entry → basis.Shows (Look s ∷ h) entry
  pub at_store : (s i w : ℕ) (h : List Event) (entry : Option Loaded) → basis.Allows h (Store s i w) → basis.Shows h entry → basis.Shows (Store s i w ∷ h) entry
  pub at_switch : (s : ℕ) (e u : Bool) (h : List Event) (policies : Policies) → basis.Begins (Switch s e u) h policies
      → basis.Shows (Switch s e u ∷ h) (active_entry policies) × (e ≡ policies.enforce) × (u ≡ policies.success)
  pub answers : (machine : Machine) (h : List Event) (op : Op) (access : Access) → IsLike machine h → basis.Shows h (active_entry machine.policies)
      → basis.claimed h op access ≡ hook_reply machine (Some op) access

-- a basis with its laws, and that of the machine's commands
pub record Founded : Type 1 where
  pub basis : Basis
  pub laws : IsBasis basis
  pub commands : CommandsStayOrBegin
