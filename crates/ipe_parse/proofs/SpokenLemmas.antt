-- Lines with tokens, taken off the front one at a time.
use Rattle.std.proofs.Common.{◌≡◌, ℕ, ◌+◌, ◌≤◌, List, [], ◌∷◌, length, map, filter, suc, inl, inr, refl, ap, arith}
use Rattle.std.specs.List.{enumerate_from, onto_first}
use Rattle.line_words.specs.Lines.{is_line_feed}
use Rattle.ipe_lex.specs.Lines.{lines_of, placed_lines, tokens_of, uncommented}
use Rattle.std.proofs.lemmas.Bool.{cases_Bool}
use Rattle.ipe_parse.specs.Reading.{SpokenLine, is_spoken, spoken_lines}
use Rattle.ipe_parse.specs.Walk.{spoken_of}

-- numbered lines are placed lines
numbered : (number start : ℕ) (lines : List (List ℕ)) → map spoken_of (placed_lines number start lines) ≡ map {B = SpokenLine} (λ (line : ℕ × List ℕ). record { number = line.0; tokens = tokens_of (uncommented line.1) }) (enumerate_from number lines)
numbered number start [] = refl
numbered number start (line ∷ lines) =
    let first : SpokenLine = record { number = number; tokens = tokens_of (uncommented line) } in
    ap (λ (r : List SpokenLine). first ∷ r) (numbered (number + 1) (start + length line + 1) lines)

pub spoken_lines-placed : (text : List ℕ) → filter is_spoken (map spoken_of (placed_lines 1 0 (lines_of text))) ≡ spoken_lines text
spoken_lines-placed text = ap (filter is_spoken) (numbered 1 0 (lines_of text))

length-placed_lines : (number start : ℕ) (lines : List (List ℕ)) → length (placed_lines number start lines) ≡ length lines
length-placed_lines number start [] = refl
length-placed_lines number start (line ∷ lines) = ap suc (length-placed_lines (number + 1) (start + length line + 1) lines)

onto-few : (byte n : ℕ) (lines : List (List ℕ)) → length lines ≤ n → length (onto_first byte lines) ≤ suc n
onto-few byte n [] h = omega arith
onto-few byte n (line ∷ lines) h = omega arith

lines-few : (text : List ℕ) → length (lines_of text) ≤ length text
lines-few [] = omega arith
lines-few (byte ∷ bytes) =
    elim (cases_Bool (is_line_feed byte)) [
      | inl ends ↦ rw ends (omega (arith, lines-few bytes))
      | inr stays ↦ rw stays (onto-few byte (length bytes) (lines_of bytes) (lines-few bytes))
    ]

-- a text has at most as many lines as bytes
pub placed_lines-few : (text : List ℕ) → length (placed_lines 1 0 (lines_of text)) ≤ length text
placed_lines-few text = omega (arith, length-placed_lines 1 0 (lines_of text), lines-few text)
