-- What an entry's policy rules.
use Rattle.std.specs.Prelude.{◌≡◌, ℕ, List, Option, Some}
use Rattle.ipe_policy.specs.declared.op.Op.{Op}
use Rattle.ipe_policy.specs.declared.evaluation.Context.{Context}
use Rattle.ipe_image.specs.declared.hit.Hit.{Hit}
use Rattle.ipe_image.specs.Reader.{filled}
use Rattle.ipe_image.specs.Parts.{ImageParts, parts_of}
use Rattle.ipe_image.specs.Reading.{image_in}
use Rattle.ipe_image.specs.Answer.{IsRuling}
use Rattle.ipe_machine.specs.Policies as state
use Rattle.ipe_machine.specs.Policies.{Policies, active_entry, policy_in}

-- the parts of the image of an entry's policy
abbrev pub parts_in : state.Loaded → ImageParts
parts_in entry = parts_of entry.serial (policy_in entry.text).items

-- the image of an entry's policy decides this of a file
abbrev pub IsRuledBy : state.Loaded → Op → Context → Hit → Type 0
IsRuledBy entry op context hit = IsRuling entry.serial (policy_in entry.text).items op context hit

-- an image that is kept, if one is, is that of this entry's policy
abbrev pub IsImageOf : state.Loaded → Option (List ℕ) → Type 0
IsImageOf entry kept = (words : List ℕ) → kept ≡ Some words → image_in (filled 4096 words) ≡ Some (parts_in entry)

-- an image that is kept is that of the active policy
abbrev pub IsKept : Policies → Option (List ℕ) → Type 0
IsKept policies kept = (entry : state.Loaded) → active_entry policies ≡ Some entry → IsImageOf entry kept
