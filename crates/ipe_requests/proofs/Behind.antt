-- What stands after the first word of a line.
use Rattle.std.proofs.Common.{◌≡◌, inl, inr, ℕ, ◌<◌, Bool, true, false, not, List, [], ◌∷◌, length, get_or, refl, sym, ap, arith}
use Rattle.std.specs.List.{after_first, position_or_len}
use Rattle.std.proofs.lemmas.Bool.{cases_lt, false≢true}
use Rattle.std.proofs.lemmas.List.Elements.{All-from_get_or}
use Rattle.std.proofs.lemmas.List.Splits.{slice_split_none, slice_split_first}
use Rattle.std.proofs.lemmas.List.Sums.{prefix_len_passes}
use Rattle.line_words.specs.Lines.{is_blank, words_of}
use Rattle.ipe_requests.specs.Reading.{rest}

not-true : (b : Bool) → not b ≡ true → b ≡ false
not-true true h = absurd (false≢true h)
not-true false h = refl

-- the words after the first are those of what stands after the first blank
pub behind-rest : (line : List ℕ) → 1 < length (words_of line) → words_of (after_first is_blank line) ≡ rest (words_of line)
behind-rest line many = elim (cases_lt (position_or_len is_blank line) (length line)) [
  | inl inside ↦ sym (ap rest (slice_split_first is_blank line 0 inside))
  | inr outside ↦
      let one : words_of line ≡ line ∷ [] =
      slice_split_none is_blank line (All-from_get_or (λ x. is_blank x ≡ false) line 0
      (λ i h. not-true (is_blank (get_or line i 0)) (prefix_len_passes (λ x. not (is_blank x)) line i 0 (omega arith)))) in
      absurd (omega (arith, ap length one))
]
