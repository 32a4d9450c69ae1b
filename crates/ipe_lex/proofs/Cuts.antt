-- Lines and tokens, taken off the front one at a time.
use Rattle.std.proofs.Common.{◌≡◌, ℕ, suc, ◌+◌, ◌-◌, ◌<◌, ◌≤◌, ◌⊎◌, inl, inr, ⊎_elim, Bool, true, false, not, List, [], ◌∷◌, length, take, drop, refl, ◌∙◌, ap, arith, one-add, length-take, length-drop, Some, None, position, unwrap_or, add-zero}
use Rattle.std.specs.List.{before_first, after_first, onto_first, position_or_len}
use Rattle.std.proofs.Math.ListN.{drop_of_length-le}
use Rattle.std.proofs.lemmas.Bool.{cases_Bool, cond-false, cases_lt, lt-ltb, le-ltb}
use Rattle.std.proofs.lemmas.List.{length-take-le}
use Rattle.std.proofs.lemmas.List.Sums.{prefix_len-le-length}
use Rattle.ipe_lex.specs.Lines.{PlacedLine, is_in_token, is_separator, goes_on, lines_of, placed_lines, placed_tokens, uncommented}
use Rattle.line_words.specs.Lines.{is_line_feed}

before-miss : {X : Type 0} (p : X → Bool) (x : X) (xs : List X) → p x ≡ false → before_first p (x ∷ xs) ≡ x ∷ before_first p xs
before-miss p x xs e = rw (e, one-add)

after-miss : {X : Type 0} (p : X → Bool) (x : X) (xs : List X) → p x ≡ false → after_first p (x ∷ xs) ≡ after_first p xs
after-miss p x xs e =
    let shifted : 1 + position_or_len p xs + 1 ≡ suc (position_or_len p xs + 1) = omega arith in rw (e, shifted)

-- ---- lines

abbrev BeginsWithLine : List ℕ → Type 0
BeginsWithLine text = lines_of text ≡ before_first is_line_feed text ∷ lines_of (after_first is_line_feed text)

-- one more byte before the first line
line_goes_on : (byte : ℕ) (bytes : List ℕ) → is_line_feed byte ≡ false → onto_first byte (lines_of bytes) ≡ (byte ∷ before_first is_line_feed bytes) ∷ lines_of (after_first is_line_feed bytes) → BeginsWithLine (byte ∷ bytes)
line_goes_on byte bytes e h =
    let before = before-miss is_line_feed byte bytes e in
    let after = after-miss is_line_feed byte bytes e in
    let at_front : lines_of (byte ∷ bytes) ≡ onto_first byte (lines_of bytes) = cond-false _ _ _ e in
    cc

-- the first line and the others
pub lines_of-first : (byte : ℕ) (bytes : List ℕ) → BeginsWithLine (byte ∷ bytes)
lines_of-first byte [] =
    ⊎_elim (λ e. rw e) (λ e. line_goes_on byte [] e refl) (cases_Bool (is_line_feed byte))
lines_of-first byte (next ∷ bytes) =
    ⊎_elim (λ e. rw e) (λ e. line_goes_on byte (next ∷ bytes) e (rw (lines_of-first next bytes))) (cases_Bool (is_line_feed byte))

-- a line feed stands after the first line, or no line does
pub record ByLineFeed (text : List ℕ) : Type 0 where
  pub taken : length text - length (after_first is_line_feed text) ≡ length (before_first is_line_feed text) + 1
  pub place : length (before_first is_line_feed text) ≡ position_or_len is_line_feed text
  pub within : position_or_len is_line_feed text < length text

pub cut-cases : (text : List ℕ) → (after_first is_line_feed text ≡ []) ⊎ ByLineFeed text
cut-cases text =
    let n = position_or_len is_line_feed text in
    let bound : n ≤ length text = prefix_len-le-length (λ byte. not (is_line_feed byte)) text in
    elim (cases_lt n (length text)) [
      | inl within ↦ inr (record {
        taken = omega (arith, length-take n text, length-drop (n + 1) text);
        place = length-take-le n text bound;
        within = within;
      })
      | inr beyond ↦ inl (drop_of_length-le text (omega arith))
    ]

-- the first line and the others, with their places
pub placed_lines-first : (number start : ℕ) (text : List ℕ) → 0 < length text
    → placed_lines number start (lines_of text)
    ≡ record { number = number; start = start; bytes = uncommented (before_first is_line_feed text) }
    ∷ placed_lines (number + 1) (start + (length text - length (after_first is_line_feed text))) (lines_of (after_first is_line_feed text))
placed_lines-first number start [] h = absurd (omega arith)
placed_lines-first number start (byte ∷ bytes) h =
    let text : List ℕ = byte ∷ bytes in
    let line = before_first is_line_feed text in
    let rest = after_first is_line_feed text in
    let first : PlacedLine = record { number = number; start = start; bytes = uncommented line } in
    ap (placed_lines number start) (lines_of-first byte bytes)
    ∙ elim (cut-cases text) [
      | inl ended ↦ rw ended
      | inr cut ↦ ap (λ place. first ∷ placed_lines (number + 1) place (lines_of rest)) (omega (arith, cut.taken))
    ]

-- ---- tokens

pub placed_tokens-skip : (start : ℕ) (bytes : List ℕ) → placed_tokens start bytes ≡ placed_tokens (start + position_or_len is_in_token bytes) (drop (position_or_len is_in_token bytes) bytes)
placed_tokens-skip start [] = refl
placed_tokens-skip start (byte ∷ bytes) =
    let n = position_or_len is_in_token bytes in
    let further : start + 1 + n ≡ start + suc n = omega arith in
    elim (cases_Bool (is_separator byte)) [
      | inl parts ↦ rw (parts, one-add, ← further) (placed_tokens-skip (start + 1) bytes)
      | inr stays ↦ rw (stays, add-zero, stays)
    ]

-- no byte is part of a token
pub placed_tokens-none : (start : ℕ) (bytes : List ℕ) → length bytes ≤ position_or_len is_in_token bytes → placed_tokens start bytes ≡ []
placed_tokens-none start bytes h =
    placed_tokens-skip start bytes ∙ ap (placed_tokens _) (drop_of_length-le bytes h)

stops : (bytes : List ℕ) → goes_on bytes ≡ false → position_or_len is_separator bytes ≡ 0
stops [] e = refl
stops (byte ∷ bytes) e = rw e

in_token : (b : Bool) → not b ≡ true → b ≡ false
in_token true e = cc
in_token false e = refl

pub token-not_empty : (bytes : List ℕ) → goes_on bytes ≡ true → 0 < position_or_len is_separator bytes
token-not_empty [] e = absurd (cc)
token-not_empty (byte ∷ bytes) e = rw (in_token (is_separator byte) e) (omega arith)

-- the token at the front, and the others
pub placed_tokens-first : (start : ℕ) (bytes : List ℕ) → goes_on bytes ≡ true
    → placed_tokens start bytes
    ≡ record { start = start; bytes = take (position_or_len is_separator bytes) bytes }
    ∷ placed_tokens (start + position_or_len is_separator bytes) (drop (position_or_len is_separator bytes) bytes)
placed_tokens-first start [] e = absurd (cc)
placed_tokens-first start (byte ∷ bytes) e =
    let stays = in_token (is_separator byte) e in
    let n = position_or_len is_separator bytes in
    let further : start + 1 + n ≡ start + suc n = omega arith in
    elim (cases_Bool (goes_on bytes)) [
      | inl on ↦ rw (stays, on, placed_tokens-first (start + 1) bytes on, one-add, further)
      | inr ends ↦ rw (stays, ends, stops bytes ends)
    ]

pub starts-token : (bytes : List ℕ) → position_or_len is_in_token bytes < length bytes → goes_on (drop (position_or_len is_in_token bytes) bytes) ≡ true
starts-token [] h = absurd (omega arith)
starts-token (byte ∷ bytes) h =
    elim (cases_Bool (is_separator byte)) [
      | inl parts ↦ rw (parts, one-add) (starts-token bytes (let h' = rw (parts, one-add) at h in omega arith))
      | inr stays ↦ rw (stays, stays)
    ]

-- what `position` gives, with the length in place of nothing
pub unwrap_or-position : {X : Type 0} (p : X → Bool) (xs : List X) → unwrap_or (position p xs) (length xs) ≡ position_or_len p xs
unwrap_or-position p xs =
    let n = position_or_len p xs in
    let bound : n ≤ length xs = prefix_len-le-length (λ x. not (p x)) xs in
    elim (cases_lt n (length xs)) [
      | inl within ↦ rw (lt-ltb n (length xs) within)
      | inr beyond ↦ rw (le-ltb n (length xs) beyond) (omega arith)
    ]

-- `position` found something, or nothing
pub position-some : {X : Type 0} (p : X → Bool) (xs : List X) (n : ℕ) → position p xs ≡ Some n → (n ≡ position_or_len p xs) × (position_or_len p xs < length xs)
position-some p xs n e =
    elim (cases_lt (position_or_len p xs) (length xs)) [
      | inl within ↦ (let found = rw (lt-ltb _ _ within) at e in cc, within)
      | inr beyond ↦ absurd (let found = rw (le-ltb _ _ beyond) at e in cc)
    ]

pub position-none : {X : Type 0} (p : X → Bool) (xs : List X) → position p xs ≡ None → length xs ≤ position_or_len p xs
position-none p xs e =
    elim (cases_lt (position_or_len p xs) (length xs)) [
      | inl within ↦ absurd (let found = rw (lt-ltb _ _ within) at e in cc)
      | inr beyond ↦ beyond
    ]

-- a token after some separators, and what stands after it
pub record NextToken (start : ℕ) (bytes : List ℕ) (skipped : ℕ) (token after : List ℕ) : Type 0 where
  pub step : placed_tokens start bytes ≡ record { start = start + skipped; bytes = token } ∷ placed_tokens (start + skipped + length token) after
  pub not_empty : 0 < length token

pub next-token : (start : ℕ) (bytes : List ℕ) (skipped : ℕ) (rest token after : List ℕ)
    → position is_in_token bytes ≡ Some skipped → rest ≡ drop skipped bytes
    → token ≡ take (position_or_len is_separator rest) rest → after ≡ drop (position_or_len is_separator rest) rest
    → NextToken start bytes skipped token after
next-token start bytes skipped rest token after found rest_is token_is after_is =
    let at = position-some is_in_token bytes skipped found in
    let begins : goes_on rest ≡ true = rw (rest_is, at.0) (starts-token bytes at.1) in
    let n = position_or_len is_separator rest in
    let bound : n ≤ length rest = prefix_len-le-length (λ byte. not (is_separator byte)) rest in
    let token_len : length token ≡ n = ap length token_is ∙ length-take-le n rest bound in
    let some = token-not_empty rest begins in
    record {
      step = placed_tokens-skip start bytes ∙ rw (← at.0, ← rest_is, token_len, token_is, after_is) (placed_tokens-first (start + skipped) rest begins);
      not_empty = omega arith;
    }
