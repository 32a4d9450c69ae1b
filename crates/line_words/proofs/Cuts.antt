-- A text that is cut at its first line feed.
use Rattle.std.proofs.Common.{◌≡◌, ℕ, ◌+◌, ◌<◌, ◌≤◌, Bool, true, false, cond, not, ltb, List, [], ◌∷◌, length, get_or, take, drop, Option, Some, None, refl, sym, arith, length-drop}
use Rattle.std.specs.List.{slice_split, position, position_or_len}
use Rattle.std.proofs.lemmas.Bool.{false≢true}
use Rattle.std.proofs.lemmas.Bool.{ltb-true, ltb-false}
use Rattle.std.proofs.lemmas.List.Elements.{All-from_get_or}
use Rattle.std.proofs.lemmas.List.Splits.{slice_split_none, slice_split_first}
use Rattle.std.proofs.lemmas.List.Sums.{prefix_len_passes}
use Rattle.line_words.specs.Lines.{CutsLine, is_line_feed}

not-true : (b : Bool) → not b ≡ true → b ≡ false
not-true true h = absurd (false≢true h)
not-true false h = refl

at_place : (test : Bool) (place end : ℕ) → cond test (Some place) None ≡ Some end → (test ≡ true) × (place ≡ end)
at_place true place end e = (refl, cc)
at_place false place end e = cc

at_no_place : (test : Bool) (place : ℕ) → cond test (Some place) None ≡ None → test ≡ false
at_no_place true place e = cc
at_no_place false place e = refl

-- the piece before the first line feed, and the pieces after it
pub CutsLine-from_position : (bytes line rest : List ℕ) (end : ℕ) → Some end ≡ position is_line_feed bytes → line ≡ take end bytes → rest ≡ drop (end + 1) bytes → CutsLine bytes line rest
CutsLine-from_position bytes line rest end e line_is rest_is =
    let found : (ltb (position_or_len is_line_feed bytes) (length bytes) ≡ true) × (position_or_len is_line_feed bytes ≡ end) = at_place (ltb (position_or_len is_line_feed bytes) (length bytes)) (position_or_len is_line_feed bytes) end (sym e) in
    let inside : position_or_len is_line_feed bytes < length bytes = ltb-true (position_or_len is_line_feed bytes) (length bytes) found.0 in
    let cut : slice_split is_line_feed bytes ≡ take (position_or_len is_line_feed bytes) bytes ∷ slice_split is_line_feed (drop (position_or_len is_line_feed bytes + 1) bytes) = slice_split_first is_line_feed bytes 0 inside in
    record {
      pieces = rw (line_is, rest_is, ← found.1) cut;
      shorter = rw rest_is (simp length-drop (omega arith));
    }

-- where no line feed is left, all is one piece
pub split_last : (rest : List ℕ) → None ≡ position is_line_feed rest → slice_split is_line_feed rest ≡ rest ∷ []
split_last rest e =
    let none : ltb (position_or_len is_line_feed rest) (length rest) ≡ false = at_no_place (ltb (position_or_len is_line_feed rest) (length rest)) (position_or_len is_line_feed rest) (sym e) in
    let outside : length rest ≤ position_or_len is_line_feed rest = ltb-false (position_or_len is_line_feed rest) (length rest) none in
    slice_split_none is_line_feed rest (All-from_get_or (λ x. is_line_feed x ≡ false) rest 0 (λ i h. not-true (is_line_feed (get_or rest i 0)) (prefix_len_passes (λ x. not (is_line_feed x)) rest i 0 (omega arith))))
