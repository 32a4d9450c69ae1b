-- The order in which a transcript's phases hold their entries.
use Rattle.std.specs.Prelude.{◌≡◌, ℕ, zero, suc, ◌+◌, List, [], ◌∷◌, length, Option, Some, Vec}
use Rattle.std.specs.List.{slice_get}
use Rattle.std.specs.declared.alloc.Global.{Global}
use Rattle.std.specs.Option.{option_map}
use Rattle.ipe_transcript.specs.declared.filing.Filed.{Filed}
use Rattle.ipe_transcript.specs.declared.key.Rank.{Rank}
use Rattle.ipe_transcript.specs.declared.key.Rank.TheVariants as rank
use Rattle.ipe_transcript.specs.declared.key.Key.{Key as KeptKey}
use Rattle.ipe_transcript.specs.declared.transcript.Entry.{Entry}
use Rattle.ipe_transcript.specs.Keys.{Key, opening_key, command_key, claim_key}
use Rattle.ipe_transcript.specs.Entries.{actor_of, line_of, key_of, of_phase}
use Rattle.ipe_transcript.specs.Filing.{AreFiled}

-- the key of an epoch and of a rank in it
abbrev pub ranked_key : ℕ → Rank → Key
ranked_key epoch rank.Opening = opening_key epoch
ranked_key epoch (rank.Command line) = command_key epoch line
ranked_key epoch (rank.Claim count) = claim_key epoch count

-- the key that a kept one is
abbrev pub key_shown : KeptKey → Key
key_shown key = ranked_key key.epoch key.rank

-- a kept entry, with the key by which it is filed
abbrev pub filed_shown : Filed → Option Key × Entry
filed_shown filed = (option_map key_shown filed.key, filed.entry)

-- the entries of the part at this place; past the last part there are none
abbrev pub part_at : List (Vec Entry Global) → ℕ → List Entry
part_at [] i = []
part_at (part ∷ parts) zero = part.items
part_at (part ∷ parts) (suc i) = part_at parts i

-- there is a list for each phase up to the last, and it has that phase's entries in order; those of other phases are left out
pub record AreOrdered (phases : ℕ) (entries : List Entry) (ordered : List (List Entry)) : Type 0 where
  pub count : length ordered ≡ phases
  pub each :
      (i : ℕ) (part : List Entry) → slice_get ordered i ≡ Some part →
      AreFiled actor_of line_of key_of (of_phase (i + 1) entries) part
