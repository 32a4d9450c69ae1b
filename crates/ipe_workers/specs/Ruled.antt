-- What a hook is ruled, and what is told of it.
use Rattle.std.specs.Prelude.{◌≡◌, ℕ, List, Option, Some, None}
use Rattle.std.specs.Option.{option_map}
use Rattle.ipe_policy.specs.declared.op.Op.{Op}
use Rattle.ipe_policy.specs.declared.evaluation.Context.{Context}
use Rattle.ipe_policy.specs.declared.evaluation.Found.{Found}
use Rattle.ipe_policy.specs.Request.{evaluated_op}
use Rattle.ipe_image.specs.declared.hit.Ruling.{Ruling}
use Rattle.ipe_gate_rule.specs.declared.event.Event.{Event}
use Rattle.ipe_gate_rule.specs.History.{active_slot, count_of, enforce_of, epoch_of, success_of}
use Rattle.ipe_hooks.specs.Hooks.{IsDecision}
use Rattle.ipe_hooks.specs.Law.{machine_ruling}
use Rattle.ipe_hooks.specs.Rulings.{no_ruling, ruling_on}
use Rattle.ipe_weave.specs.Gate.{image_at, record_by_image}
use Rattle.ipe_weave.specs.Lines.{Access, Acted, Hook, LineReply, ruled}
use Rattle.ipe_transcript.specs.declared.transcript.Content.{Content}
use Rattle.ipe_transcript.specs.declared.transcript.Entry.{Entry}
use Rattle.ipe_transcript.specs.declared.transcript.Entry.TheVariants as entry

-- a ruling is by the state after a history, and by the image in the slot that is active there
pub record IsRuledAt (before : List Event) (op : Op) (context : Context) (ruling : Ruling) : Type 0 where
  pub ruling_is : ruling
      ≡ ruling_on (epoch_of before) (count_of before) (enforce_of before) (success_of before) ruling.hit
  pub decision : IsDecision (active_slot before) before op context ruling.hit

-- the same of a hook for an operation; one that isn't evaluated is allowed without a claim
abbrev pub IsRuledFor : List Event → Option Op → Context → Ruling → Type 0
IsRuledFor before None context ruling = ruling ≡ no_ruling
IsRuledFor before (Some op) context ruling = IsRuledAt before op context ruling

-- the same of an access
abbrev pub IsRuled : List Event → Access → Ruling → Type 0
IsRuled before access ruling = IsRuledFor before (evaluated_op access.request) access.context ruling

-- the record of an access whose claim stands after a history, where one is due
abbrev pub recorded : List Event → Access → Option (List ℕ)
recorded before access =
    record_by_image before (image_at (active_slot before) before) access (evaluated_op access.request)

-- what is replied to an access with this ruling whose claim, if it makes one, stands after a history
abbrev pub replied : List Event → Access → Ruling → LineReply
replied before access ruling = ruled (machine_ruling ruling) (recorded before access)

-- the line of a hook of a worker, with what is replied
abbrev pub answered : ℕ → ℕ → List Event → Access → Ruling → Acted
answered number worker before access ruling = record {
  line = record { number = number; task = Hook worker (evaluated_op access.request) access };
  reply = replied before access ruling;
}

-- what is told of a hook of a worker with its ruling, its record, and what its file came to
abbrev pub hook_told : ℕ → ℕ → ℕ → Ruling → Option (List ℕ) → Option Content → Entry
hook_told phase line worker ruling access content =
    entry.Hook phase line worker (machine_ruling ruling).code (machine_ruling ruling).place
    (machine_ruling ruling).serial (option_map (λ (found : Found). found.which) (machine_ruling ruling).found)
    access content
