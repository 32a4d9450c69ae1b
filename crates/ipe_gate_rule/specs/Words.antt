-- The words of a gate.
use Rattle.std.specs.Prelude.{◌≡◌, ℕ, ◌+◌, ◌-◌, ◌*◌, ◌/◌, ◌%◌, ◌<◌, List, length, slice_index}
use Rattle.ipe_gate_rule.specs.declared.event.Event.{Event}
use Rattle.ipe_gate_rule.specs.History.{returned, content}
use Rattle.ipe_gate_rule.specs.Active.{active_word}

-- how many there are: ACTIVE, the returns of 63 slots, and 63 regions of 4,096 words
abbrev pub table_words : ℕ
table_words = 258112

-- where a word of the region of a slot stands
abbrev pub region_place : ℕ → ℕ → ℕ
region_place k i = 64 + (k - 1) * 4096 + i

-- the slot in whose region a place is
abbrev pub slot_at_place : ℕ → ℕ
slot_at_place w = (w - 64) / 4096 + 1

-- which word of the region it is
abbrev pub index_at_place : ℕ → ℕ
index_at_place w = (w - 64) % 4096

-- the words are those of a history
pub record WordsFit (words : List ℕ) (h : List Event) : Type 0 where
  pub wide : length words ≡ table_words
  pub active : slice_index words 0 ≡ active_word h
  pub returns : (k : ℕ) → 0 < k → k < 64 → slice_index words k ≡ returned k h
  pub regions : (k i : ℕ) → 0 < k → k < 64 → i < 4096 → slice_index words (region_place k i) ≡ content k i h
