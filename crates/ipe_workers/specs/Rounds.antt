-- What a round of meetings does: the administrator meets the pass of each worker.
use Rattle.std.specs.Prelude.{◌≡◌, ℕ, ◌<◌, List, length, slice_index_or}
use Rattle.ipe_gate_rule.specs.History.{GoesOnFrom}
use Rattle.ipe_gate.specs.Seats.{SamePass, admin_gate, admin_mine, admin_seen, gate_of, mine, seen, slot_held}
use Rattle.ipe_admin.specs.declared.admin.Admin.{Admin}
use Rattle.ipe_admin.specs.Outcomes.{SameGate, gate_in, policies_in}
use Rattle.ipe_workers.specs.declared.worker.Worker.{Worker}
use Rattle.ipe_workers.specs.Workers.{entries_in, is_done, pass_of, view_of}

-- each worker's pass is of the administrator's gate, and holds nothing
abbrev pub AreAtRest : Admin → List Worker → Type 0
AreAtRest admin ws =
    (k : ℕ) (w : Worker) → k < length ws → w ≡ slice_index_or ws k w →
    (gate_of (pass_of w) ≡ admin_gate (gate_in admin)) × (slot_held (pass_of w) ≡ 0)

-- the administrator heard of others, and made no step
pub record AdminHeard (a b : Admin) : Type 0 where
  pub same : SameGate a b
  pub policies : policies_in b ≡ policies_in a
  pub later : GoesOnFrom (admin_seen (gate_in b)) (admin_seen (gate_in a))
  pub owned : admin_mine (gate_in b) ≡ admin_mine (gate_in a)

-- in a round before which the administrator was `a` and after which it is `b`, a worker made no step, heard all that `a` had
-- seen, and told `b` all that it had seen
pub record WorkerHeard (a b : Admin) (w v : Worker) : Type 0 where
  pub same : SamePass (pass_of w) (pass_of v)
  pub owned : mine (pass_of v) ≡ mine (pass_of w)
  pub later : GoesOnFrom (seen (pass_of v)) (seen (pass_of w))
  pub heard : GoesOnFrom (seen (pass_of v)) (admin_seen (gate_in a))
  pub told : GoesOnFrom (admin_seen (gate_in b)) (seen (pass_of v))
  pub entries : entries_in v ≡ entries_in w
  pub view : view_of v ≡ view_of w
  pub done : is_done v ≡ is_done w

-- so did each
abbrev pub AllHeard : Admin → Admin → List Worker → List Worker → Type 0
AllHeard a b ws vs =
    (k : ℕ) (d : Worker) → k < length ws → WorkerHeard a b (slice_index_or ws k d) (slice_index_or vs k d)
