-- Bytes are compared with words, word by word.
use Rattle.std.proofs.Common.{◌≡◌, ◌∙◌, ℕ, ◌+◌, ◌<◌, suc, zero, true, false, Bool, Fits, w8, get_or, min, ◌&&◌, List, [], ◌∷◌, ◌++◌, append_assoc, length-drop, length, take, drop, refl, ap, sym, arith}
use Rattle.std.specs.Prelude.{nat_eq}
use Rattle.std.proofs.lemmas.Bool.{eq-eqb, eqb-true}
use Rattle.std.proofs.lemmas.List.{drop_min, drop_more, take_min}
use Rattle.line_words.specs.Words.{is_text}
use Rattle.std.specs.List.{list_all}
use Rattle.ipe_policy.specs.Spelling.{words_for}
use Rattle.ipe_image.specs.Packing.{byte_words, word_of, packed_words}
use Rattle.ipe_image.specs.Reading.{fits_byte}
use Rattle.ipe_image.proofs.Bytes.{all-bytes, compared}

-- each word is made of the next eight bytes
abbrev pub are_next : List ℕ → List ℕ → Bool
are_next [] bytes = true
are_next (word ∷ words) bytes = nat_eq word (word_of (take 8 bytes)) && are_next words (drop 8 bytes)

-- that is to be the words of the bytes, where they are as many
pub are_next-is : (words : List ℕ) (count : ℕ) (bytes : List ℕ) → length words ≡ count
    → are_next words bytes ≡ is_text (packed_words count bytes) words
are_next-is [] zero bytes same = refl
are_next-is [] (suc count) bytes same = absurd (omega arith)
are_next-is (word ∷ words) zero bytes same = absurd (omega arith)
are_next-is (word ∷ words) (suc count) bytes same =
    ap (λ (b : Bool). nat_eq word (word_of (take 8 bytes)) && b) (are_next-is words count (drop 8 bytes) (omega arith))

-- two numbers that are not one are told apart
pub differ : (a b : ℕ) → (a ≡ b → ⊥) → nat_eq a b ≡ false
differ a b h = at (nat_eq a b) refl
  where
    at : (r : Bool) → nat_eq a b ≡ r → nat_eq a b ≡ false
    at true e = absurd (h (eqb-true a b e))
    at false e = e

-- what is taken at most is what is there
pub take-few : (rest : List ℕ) (n : ℕ) → n ≡ min (length rest) 8 → take n rest ≡ take 8 rest
take-few rest n e = let swapped : n ≡ min 8 (length rest) = omega arith in ap (λ (k : ℕ). take k rest) swapped
    ∙ take_min 8 rest

-- a word is not made of the next bytes
pub next-differs : (words rest : List ℕ) (i n : ℕ) → i < length words → n ≡ min (length rest) 8
    → (get_or words i 0 ≡ word_of (take n rest) → ⊥) → are_next (drop i words) rest ≡ false
next-differs words rest i n some few other =
    ap (λ (ws : List ℕ). are_next ws rest) (drop_more words i 0 some)
    ∙ ap (λ (b : Bool). b && are_next (drop (i + 1) words) (drop 8 rest)) (differ (get_or words i 0) (word_of
    (take 8 rest)) (λ e. other (e ∙ ap word_of (sym (take-few rest n few)))))

pub drop-few : (rest : List ℕ) (n : ℕ) → n ≡ min (length rest) 8 → drop n rest ≡ drop 8 rest
drop-few rest n e = let swapped : n ≡ min 8 (length rest) = omega arith in ap (λ (k : ℕ). drop k rest) swapped
    ∙ drop_min 8 rest

-- a word is made of the next bytes, so the words after it decide
pub next-same : (words rest : List ℕ) (i n : ℕ) → i < length words → n ≡ min (length rest) 8
    → get_or words i 0 ≡ word_of (take n rest)
    → are_next (drop (i + 1) words) (drop n rest) ≡ are_next (drop i words) rest
next-same words rest i n some few same =
    let one : nat_eq (get_or words i 0) (word_of (take 8 rest)) ≡ true =
    eq-eqb _ _ (same ∙ ap word_of (take-few rest n few)) in
    ap (λ (bs : List ℕ). are_next (drop (i + 1) words) bs) (drop-few rest n few)
    ∙ ap (λ (b : Bool). b && are_next (drop (i + 1) words) (drop 8 rest)) (sym one)
    ∙ ap (λ (ws : List ℕ). are_next ws rest) (sym (drop_more words i 0 some))

fits-below : (n : ℕ) → Fits w8 n → n < 256
fits-below n h = omega arith

-- the bytes of a program are bytes
pub are-bytes : (bytes : List ℕ) → ((i : ℕ) → Fits w8 (get_or bytes i 0)) → list_all fits_byte bytes ≡ true
are-bytes bytes below = all-bytes bytes (λ i. fits-below (get_or bytes i 0) (below i))

-- words of as many bytes are those of these bytes just where the bytes are the same
pub compared-next : (words bytes told : List ℕ) (r : Bool) → length words ≡ words_for (length bytes) → ((i : ℕ)
    → Fits w8 (get_or bytes i 0)) → r ≡ are_next words bytes
    → list_all fits_byte told ≡ true → length told ≡ length bytes → words ≡ byte_words told → r ≡ is_text told bytes
compared-next words bytes told r count below r_is all few words_are =
    r_is ∙ are_next-is words _ bytes count ∙ ap (λ (ws : List ℕ). is_text (byte_words bytes) ws) words_are
    ∙ compared told bytes few all (are-bytes bytes below)

-- the first word of some bytes, and those of the others
pub next-words : (bytes : List ℕ) → 0 < length bytes
    → byte_words bytes ≡ word_of (take 8 bytes) ∷ byte_words (drop 8 bytes)
next-words bytes some =
    let one_more : words_for (length bytes) ≡ suc (words_for (length (drop 8 bytes))) =
    omega (arith, length-drop 8 bytes) in
    ap (λ (count : ℕ). packed_words count bytes) one_more

-- the first word is put after others
pub next-bytes : (words rest : List ℕ) (n : ℕ) → n ≡ min (length rest) 8 → 0 < length rest
    → (words ++ word_of (take n rest) ∷ []) ++ byte_words (drop n rest) ≡ words ++ byte_words rest
next-bytes words rest n few some =
    append_assoc words (word_of (take n rest) ∷ []) (byte_words (drop n rest))
    ∙ ap (λ (bs : List ℕ). words ++ word_of bs ∷ byte_words (drop n rest)) (take-few rest n few)
    ∙ ap (λ (bs : List ℕ). words ++ word_of (take 8 rest) ∷ byte_words bs) (drop-few rest n few)
    ∙ ap (λ (ws : List ℕ). words ++ ws) (sym (next-words rest some))
