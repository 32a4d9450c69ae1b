-- The words that a pass reads.
use Rattle.std.proofs.Common.{◌≡◌, ℕ, zero, suc, ◌<◌, List, length, get_or, subst, arith}
use Rattle.ipe_gate_rule.specs.declared.event.Event.{Event}
use Rattle.ipe_gate_rule.specs.History.{content}
use Rattle.ipe_gate_rule.proofs.Images.{length-words_at, get-words_at}
use Rattle.ipe_gate.specs.Seats.{region_of}

pub record WordKnown (k i : ℕ) (h : List Event) : Type 0 where
  pub some : 0 < k
  pub within : i < 4096
  pub word : get_or (region_of k h) i 0 ≡ content k i h
  pub whole : length (region_of k h) ≡ 4096

pub word_known : (k i : ℕ) (h : List Event) → i < length (region_of k h) → WordKnown k i h
word_known zero i h lt = absurd (omega arith)
word_known (suc k) i h lt =
    let whole = length-words_at (λ j. content (suc k) j h) in
    let within : i < 4096 = subst (λ n. i < n) whole lt in
    record {
      some = omega arith;
      within = within;
      word = get-words_at (λ j. content (suc k) j h) i within;
      whole = whole;
    }
