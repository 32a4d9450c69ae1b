-- Lines and tokens stand in their text, and without their places are the lines and tokens of the definitions.
use Rattle.std.proofs.Common.{◌≡◌, ℕ, zero, suc, ◌+◌, ◌-◌, ◌≤◌, inl, inr, true, List, [], ◌∷◌, length, map, take, drop, refl, sym, ◌∙◌, ap, arith, length-take, length-drop, drop-drop}
use Rattle.std.specs.List.{AllByRecursion, after_first, before_first, enumerate_from, onto_first, position_or_len}
use Rattle.std.proofs.lemmas.Bool.{cases_Bool}
use Rattle.std.proofs.lemmas.List.{take-take}
use Rattle.ipe_lex.specs.Lines.{PlacedToken, goes_on, is_comment_sign, is_separator, lines_of, onto_token, placed_lines, placed_tokens, tokens_of, uncommented}
use Rattle.line_words.specs.Lines.{is_line_feed}
use Rattle.ipe_lex.specs.Places.{IsLineOf, IsTokenOf, StandsAt}
use Rattle.ipe_lex.proofs.Cuts.{cut-cases, lines_of-first, placed_tokens-first}

all-weaker : {X : Type 0} (P Q : X → Type 0) → ((x : X) → P x → Q x) → (xs : List X) → AllByRecursion P xs → AllByRecursion Q xs
all-weaker P Q f [] h = tt
all-weaker P Q f (x ∷ xs) h = (f x h.0, all-weaker P Q f xs h.1)

-- a front of a list is taken again by its length
take_own : {X : Type 0} (n : ℕ) (xs : List X) → take (length (take n xs)) xs ≡ take n xs
take_own zero xs = refl
take_own (suc n) [] = refl
take_own (suc n) (x ∷ xs) = ap (λ (r : List _). x ∷ r) (take_own n xs)

-- what is taken of a front after some elements is taken of the whole
take-drop-take : (m at n : ℕ) (xs : List ℕ) → at + m ≤ n → take m (drop at (take n xs)) ≡ take m (drop at xs)
take-drop-take m zero n xs room = take-take m n xs (omega (arith, room))
take-drop-take m (suc at) zero xs room = absurd (omega arith)
take-drop-take m (suc at) (suc n) [] room = refl
take-drop-take m (suc at) (suc n) (x ∷ xs) room = take-drop-take m at n xs (omega (arith, room))

-- ---- lines

IsLineOf-first : (number start : ℕ) (text rest : List ℕ) → drop start text ≡ rest → start ≤ length text
    → IsLineOf text (record { number = number; start = start; bytes = uncommented (before_first is_line_feed rest) })
IsLineOf-first number start text rest e within =
    let i = position_or_len is_line_feed rest in
    let line = take i rest in
    let j = position_or_len is_comment_sign line in
    record {
      within = omega (arith, length-take j line, length-take i rest, ap length e, length-drop start text);
      same =
          rw e (sym (take-take (length (take j line)) i rest (omega (arith, length-take j line, length-take i rest))) ∙ take_own j line);
    }

lines-stand : (bound number start : ℕ) (text rest : List ℕ) → drop start text ≡ rest → start ≤ length text → length rest ≤ bound
    → AllByRecursion (IsLineOf text) (placed_lines number start (lines_of rest))
lines-stand bound number start text [] e within small = tt
lines-stand zero number start text (byte ∷ bytes) e within small = absurd (omega arith)
lines-stand (suc bound) number start text (byte ∷ bytes) e within small =
    let rest : List ℕ = byte ∷ bytes in
    rw (lines_of-first byte bytes) (
      IsLineOf-first number start text rest e within,
      elim (cut-cases rest) [
        | inl ended ↦ rw ended tt
        | inr cut ↦
            let n = position_or_len is_line_feed rest in
            lines-stand bound (number + 1) (start + length (before_first is_line_feed rest) + 1) text (after_first is_line_feed rest)
            (let place : start + length (before_first is_line_feed rest) + 1 ≡ start + (n + 1) = omega (arith, cut.place) in
            ap (λ k. drop k text) place ∙ sym (drop-drop (n + 1) start text) ∙ ap (drop (n + 1)) e)
            (omega (arith, cut.place, cut.within, ap length e, length-drop start text))
            (omega (arith, length-drop (n + 1) rest))
      ],
    )

pub lines_stand : (text : List ℕ) → AllByRecursion (IsLineOf text) (placed_lines 1 0 (lines_of text))
lines_stand text = lines-stand (length text) 1 0 text text refl (omega arith) (omega arith)

pub lines_without_places : (number start : ℕ) (lines : List (List ℕ)) → map {B = ℕ × List ℕ} (λ line. (line.number, line.bytes)) (placed_lines number start lines) ≡ map {B = ℕ × List ℕ} (λ (line : ℕ × List ℕ). (line.0, uncommented line.1)) (enumerate_from number lines)
lines_without_places number start [] = refl
lines_without_places number start (line ∷ lines) =
    let first : ℕ × List ℕ = (number, uncommented line) in
    ap (λ (r : List (ℕ × List ℕ)). first ∷ r) (lines_without_places (number + 1) (start + length line + 1) lines)

-- ---- tokens

-- a token of what follows a byte is one of the whole
IsTokenOf-later : (start byte : ℕ) (bytes : List ℕ) (token : PlacedToken) → IsTokenOf (start + 1) bytes token → IsTokenOf start (byte ∷ bytes) token
IsTokenOf-later start byte bytes token h =
    let later : token.start - start ≡ suc (token.start - (start + 1)) = omega (arith, h.after) in
    record {
      after = omega (arith, h.after);
      stands = record {
        within = omega (arith, h.stands.within);
        same = rw later h.stands.same;
      };
      not_empty = h.not_empty;
    }

IsTokenOf-first : (start n byte : ℕ) (bytes : List ℕ) → IsTokenOf start (byte ∷ bytes) (record { start = start; bytes = byte ∷ take n bytes })
IsTokenOf-first start n byte bytes =
    let here : start - start ≡ 0 = omega arith in
    record {
      after = omega arith;
      stands = record {
        within = omega (arith, length-take n bytes);
        same = rw (here, take_own n bytes);
      };
      not_empty = omega arith;
    }

tokens-onto : (start byte : ℕ) (bytes : List ℕ) → goes_on bytes ≡ true → AllByRecursion (IsTokenOf (start + 1) bytes) (placed_tokens (start + 1) bytes)
    → AllByRecursion (IsTokenOf start (byte ∷ bytes)) (onto_token start byte (placed_tokens (start + 1) bytes))
tokens-onto start byte bytes on h =
    let n = position_or_len is_separator bytes in
    let first = placed_tokens-first (start + 1) bytes on in
    let others = rw first at h in
    rw first (IsTokenOf-first start n byte bytes, all-weaker _ _ (IsTokenOf-later start byte bytes) _ others.1)

pub tokens_stand : (start : ℕ) (bytes : List ℕ) → AllByRecursion (IsTokenOf start bytes) (placed_tokens start bytes)
tokens_stand start [] = tt
tokens_stand start (byte ∷ bytes) =
    let later = tokens_stand (start + 1) bytes in
    elim (cases_Bool (is_separator byte)) [
      | inl parts ↦ rw parts (all-weaker _ _ (IsTokenOf-later start byte bytes) _ later)
      | inr stays ↦ elim (cases_Bool (goes_on bytes)) [
        | inl on ↦ rw (stays, on) (tokens-onto start byte bytes on later)
        | inr ends ↦ rw (stays, ends) (IsTokenOf-first start 0 byte bytes, all-weaker _ _ (IsTokenOf-later start byte bytes) _ later)
      ]
    ]

map-onto_token : (start byte : ℕ) (tokens : List PlacedToken) → map (λ (token : PlacedToken). token.bytes) (onto_token start byte tokens) ≡ onto_first byte (map (λ (token : PlacedToken). token.bytes) tokens)
map-onto_token start byte [] = refl
map-onto_token start byte (token ∷ tokens) = refl

pub tokens_without_places : (start : ℕ) (bytes : List ℕ) → map (λ (token : PlacedToken). token.bytes) (placed_tokens start bytes) ≡ tokens_of bytes
tokens_without_places start [] = refl
tokens_without_places start (byte ∷ bytes) =
    let later = tokens_without_places (start + 1) bytes in
    elim (cases_Bool (is_separator byte)) [
      | inl parts ↦ rw parts later
      | inr stays ↦ elim (cases_Bool (goes_on bytes)) [
        | inl on ↦ rw (stays, on) (map-onto_token start byte _ ∙ ap (onto_first byte) later)
        | inr ends ↦ rw (stays, ends) (ap (λ (r : List (List ℕ)). (byte ∷ []) ∷ r) later)
      ]
    ]

-- what stands in bytes that stand in a text stands in the text
stands-in : (text : List ℕ) (start : ℕ) (bytes : List ℕ) → StandsAt text start bytes → (token : PlacedToken)
    → IsTokenOf start bytes token → StandsAt text token.start token.bytes
stands-in text start bytes outer token inner =
    let n = length bytes in
    let at = token.start - start in
    let m = length token.bytes in
    let place : start + at ≡ token.start = omega (arith, inner.after) in
    let room : at + m ≤ n = inner.stands.within in
    record {
      within = omega (arith, inner.after, inner.stands.within, outer.within);
      same = ap (λ k. take m (drop k text)) (sym place) ∙ ap (take m) (sym (drop-drop at start text))
          ∙ sym (take-drop-take m at n (drop start text) room)
          ∙ ap (λ bs. take m (drop at bs)) outer.same ∙ inner.stands.same;
    }

-- the tokens of a line that stands in a text stand in the text
pub tokens_stand_in_text : (text : List ℕ) (start : ℕ) (bytes : List ℕ) → StandsAt text start bytes
    → AllByRecursion (λ token. StandsAt text token.start token.bytes) (placed_tokens start bytes)
tokens_stand_in_text text start bytes outer =
    all-weaker (IsTokenOf start bytes) (λ token. StandsAt text token.start token.bytes) (stands-in text start bytes outer)
    (placed_tokens start bytes) (tokens_stand start bytes)
