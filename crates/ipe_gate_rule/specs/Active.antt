-- The word ACTIVE: from bit 0 the count, 40 the epoch, 56 the slot, 62 enforce, 63 success_audit.
use Rattle.std.specs.Prelude.{ℕ, ◌+◌, ◌*◌, ◌/◌, ◌%◌, ◌^◌, ◌<◌, ◌==◌, Bool, true, false, List}
use Rattle.ipe_gate_rule.specs.declared.event.Event.{Event}
use Rattle.ipe_gate_rule.specs.History.{active_slot, enforce_of, success_of, epoch_of, count_of}

-- a truth value as a bit
abbrev pub bit : Bool → ℕ
bit true = 1
bit false = 0

-- the word of these parts
abbrev pub packed_word : ℕ → ℕ → ℕ → Bool → Bool → ℕ
packed_word count epoch slot enforce success =
    count + 2 ^ 40 * epoch + 2 ^ 56 * slot + 2 ^ 62 * bit enforce + 2 ^ 63 * bit success

-- the word ACTIVE of a history
abbrev pub active_word : List Event → ℕ
active_word h = packed_word (count_of h) (epoch_of h) (active_slot h) (enforce_of h) (success_of h)

-- the slot in a word
abbrev pub slot_in : ℕ → ℕ
slot_in n = n / 2 ^ 56 % 64

-- enforce in a word
abbrev pub enforce_in : ℕ → Bool
enforce_in n = n / 2 ^ 62 % 2 == 1

-- success_audit in a word
abbrev pub success_in : ℕ → Bool
success_in n = n / 2 ^ 63 % 2 == 1

-- each part of a history's ACTIVE fits its bits
pub record FitsActive (h : List Event) : Type 0 where
  pub count : count_of h < 2 ^ 40
  pub epoch : epoch_of h < 2 ^ 16
  pub slot : active_slot h < 64
