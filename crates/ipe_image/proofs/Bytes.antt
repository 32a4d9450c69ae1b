-- Bytes are read back from their words.
use Rattle.std.proofs.Common.{◌≡◌, ◌∙◌, ℕ, ◌+◌, ◌-◌, ◌*◌, ◌/◌, ◌%◌, ◌<◌, ◌≤◌, suc, zero, true, false, Bool, replicate, ◌⊎◌, inl, inr, append-nil, subst, List, [], ◌∷◌, ◌++◌, length, get_or, take, drop, refl, ap, sym, arith, length-drop}
use Rattle.std.specs.List.{list_all, flat_map}
use Rattle.std.specs.Int.{w64, from_le_bytes}
use borrow.Author.Tests.{ltb-true, lt-ltb}
use Rattle.std.proofs.lemmas.Bool.{and_parts, and_from}
use Rattle.std.proofs.lemmas.List.{take_all, take-append-drop, length-take-le, get_or-drop}
use Rattle.std.proofs.lemmas.Slice.Eq.{bytes_eq-Decides}
use Rattle.line_words.specs.Words.{is_text}
use Rattle.ipe_image.proofs.WordLists.{at-zeros, zero-at}
use Rattle.ipe_policy.specs.Spelling.{words_for}
use Rattle.ipe_image.specs.Packing.{byte_words, unpacked, word_bytes, word_of, packed_words}
use Rattle.ipe_image.specs.Reading.{fits_byte}

-- so many words
pub length-packed_words : (count : ℕ) (bytes : List ℕ) → length (packed_words count bytes) ≡ count
length-packed_words zero bytes = refl
length-packed_words (suc count) bytes = ap suc (length-packed_words count (drop 8 bytes))

-- the bytes of a word, each at its worth
word_of-sum : (bytes : List ℕ) → length bytes ≤ 8
    → word_of bytes ≡ get_or bytes 0 0 + 256 * get_or bytes 1 0 + 65536 * get_or bytes 2 0 + 16777216 * get_or bytes
    3 0 + 4294967296 * get_or bytes 4 0 + 1099511627776 * get_or bytes 5 0 + 281474976710656 * get_or bytes 6 0 +
    72057594037927936 * get_or bytes 7 0
word_of-sum [] few = refl
word_of-sum (a ∷ []) few = omega arith
word_of-sum (a ∷ b ∷ []) few = omega arith
word_of-sum (a ∷ b ∷ c ∷ []) few = omega arith
word_of-sum (a ∷ b ∷ c ∷ d ∷ []) few = omega arith
word_of-sum (a ∷ b ∷ c ∷ d ∷ e ∷ []) few = omega arith
word_of-sum (a ∷ b ∷ c ∷ d ∷ e ∷ f ∷ []) few = omega arith
word_of-sum (a ∷ b ∷ c ∷ d ∷ e ∷ f ∷ g ∷ []) few = omega arith
word_of-sum (a ∷ b ∷ c ∷ d ∷ e ∷ f ∷ g ∷ h ∷ []) few = omega arith
word_of-sum (a ∷ b ∷ c ∷ d ∷ e ∷ f ∷ g ∷ h ∷ i ∷ more) few = absurd (omega arith)

-- the word of eight bytes that begin with these and have zeros after them
pub word-filled : (bytes filled : List ℕ) → length bytes ≤ 8 → ((i : ℕ) → i < 8
    → get_or filled i 0 ≡ get_or bytes i 0) → from_le_bytes w64 filled ≡ word_of bytes
word-filled bytes filled few same =
    omega (
      arith,
      word_of-sum bytes few,
      same 0 (omega arith),
      same 1 (omega arith),
      same 2 (omega arith),
      same 3
          (omega arith),
      same 4 (omega arith),
      same 5 (omega arith),
      same 6 (omega arith),
      same 7 (omega arith),
    )

-- a word is made of its lowest byte and the others
lowest : (byte rest : ℕ) → byte < 256 → (byte + 256 * rest) % 256 ≡ byte
lowest byte rest h = omega arith

others : (byte rest : ℕ) → byte < 256 → (byte + 256 * rest) / 256 ≡ rest
others byte rest h = omega arith

-- the bytes of a word that was made of some
pub word-read : (count : ℕ) (bytes more : List ℕ) → length bytes ≤ count → list_all fits_byte bytes ≡ true
    → take (length bytes) (word_bytes count (word_of bytes) ++ more) ≡ bytes
unfolding word_bytes
word-read zero [] more few all = refl
word-read zero (byte ∷ bytes) more few all = absurd (omega arith)
word-read (suc count) [] more few all = refl
word-read (suc count) (byte ∷ bytes) more few all =
    let parts = and_parts (fits_byte byte) (list_all fits_byte bytes) all in
    let below : byte < 256 = ltb-true byte 256 parts.0 in
    rw (lowest byte (word_of bytes) below, others byte (word_of bytes) below)
    (ap (λ (r : List ℕ). byte ∷ r) (word-read count bytes more (omega arith) parts.1))

-- a word has so many bytes
pub length-word_bytes : (count word : ℕ) → length (word_bytes count word) ≡ count
unfolding word_bytes
length-word_bytes zero word = refl
length-word_bytes (suc count) word = ap suc (length-word_bytes count (word / 256))

-- zeros after bytes make no other word
pub word-copied : (bytes front : List ℕ) → length bytes ≤ 8 → front ≡ bytes
    → from_le_bytes w64 (front ++ drop (length bytes) (replicate 8 0)) ≡ word_of bytes
word-copied bytes front few same =
    word-filled bytes (front ++ drop (length bytes) (replicate 8 0)) few
    (λ i h. at-zeros front (drop (length bytes) (replicate 8 0)) i (λ k. get_or-drop (length bytes)
    (replicate 8 0) k 0 ∙ zero-at 8 (length bytes + k))
    ∙ ap (λ (bs : List ℕ). get_or bs i 0) same)

-- bytes are a first part and the others
pub all-take : (count : ℕ) (bytes : List ℕ) → list_all fits_byte bytes ≡ true → list_all fits_byte (take count bytes) ≡ true
all-take zero bytes all = refl
all-take (suc count) [] all = refl
all-take (suc count) (byte ∷ bytes) all =
    let parts = and_parts (fits_byte byte) (list_all fits_byte bytes) all in
    and_from (fits_byte byte) (list_all fits_byte (take count bytes)) parts.0 (all-take count bytes parts.1)

pub all-drop : (count : ℕ) (bytes : List ℕ) → list_all fits_byte bytes ≡ true → list_all fits_byte (drop count bytes) ≡ true
all-drop zero bytes all = all
all-drop (suc count) [] all = refl
all-drop (suc count) (byte ∷ bytes) all = all-drop count bytes (and_parts (fits_byte byte) (list_all fits_byte bytes) all).1

-- what is taken past a first part
take-past : (xs ys : List ℕ) (n m : ℕ) → m ≡ length xs + n → take m (xs ++ ys) ≡ xs ++ take n ys
take-past [] ys n m same = let e : m ≡ n = omega arith in ap (λ (k : ℕ). take k ys) e
take-past (x ∷ xs) ys n zero same = absurd (omega arith)
take-past (x ∷ xs) ys n (suc m) same = ap (λ (zs : List ℕ). x ∷ zs) (take-past xs ys n m (omega arith))

-- few bytes are in one word, or there are more than a word holds
few-or-more : (n : ℕ) → (n ≤ 8) ⊎ (8 < n)
few-or-more n = grind arith

-- bytes are read back from their words
words-read : (count : ℕ) (bytes more : List ℕ) → length bytes ≤ 8 * count → list_all fits_byte bytes ≡ true
    → take (length bytes) (flat_map (word_bytes 8) (packed_words count bytes ++ more)) ≡ bytes
words-read zero [] more few all = refl
words-read zero (byte ∷ bytes) more few all = absurd (omega arith)
words-read (suc count) bytes more few all =
    at (words-read count (drop 8 bytes) more (omega (arith, length-drop 8 bytes)) (all-drop 8 bytes all))
    (few-or-more (length bytes))
  where
    behind : List ℕ
    behind = flat_map (word_bytes 8) (packed_words count (drop 8 bytes) ++ more)

    one : List ℕ → ℕ → List ℕ
    one front n = take n (word_bytes 8 (word_of front) ++ behind)

    at : take (length (drop 8 bytes)) behind ≡ drop 8 bytes → (length bytes ≤ 8) ⊎ (8 < length bytes)
        → one (take 8 bytes) (length bytes) ≡ bytes
    at others (inl h) = ap (λ (front : List ℕ). one front (length bytes)) (take_all 8 bytes h)
        ∙ word-read 8 bytes behind h all
    at others (inr h) =
        let front = take 8 bytes in
        let eight : length front ≡ 8 = length-take-le 8 bytes (omega arith) in
        let left : length (drop 8 bytes) ≡ length bytes - 8 = length-drop 8 bytes in
        let whole : take 8 (word_bytes 8 (word_of front) ++ []) ≡ front =
        subst (λ (n : ℕ). take n (word_bytes 8 (word_of front) ++ []) ≡ front) eight (word-read 8 front []
        (omega arith) (all-take 8 bytes all)) in
        let same : word_bytes 8 (word_of front) ≡ front =
        sym (ap (λ (bs : List ℕ). take 8 bs) (append-nil (word_bytes 8 (word_of front)))
        ∙ take_all 8 (word_bytes 8 (word_of front)) (omega (arith, length-word_bytes 8 (word_of front)))) ∙ whole in
        ap (λ (bs : List ℕ). take (length bytes) (bs ++ behind)) same
        ∙ take-past front behind (length (drop 8 bytes)) (length bytes) (omega arith)
        ∙ ap (λ (bs : List ℕ). front ++ bs) others
        ∙ take-append-drop 8 bytes

pub bytes-read : (bytes more : List ℕ) → list_all fits_byte bytes ≡ true
    → unpacked (length bytes) (byte_words bytes ++ more) ≡ bytes
bytes-read bytes more all = words-read (words_for (length bytes)) bytes more (omega arith) all

-- two lists of bytes of one length that have the same words are one list
pub same-bytes : (a b : List ℕ) → length a ≡ length b → list_all fits_byte a ≡ true → list_all fits_byte b ≡ true
    → byte_words a ≡ byte_words b → a ≡ b
same-bytes a b count all all' words =
    sym (bytes-read a [] all)
    ∙ ap (λ (n : ℕ). unpacked n (byte_words a ++ [])) count
    ∙ ap (λ (ws : List ℕ). unpacked (length b) (ws ++ [])) words
    ∙ bytes-read b [] all'

-- two tests that follow from each other
pub same-test : (x y : Bool) → (x ≡ true → y ≡ true) → (y ≡ true → x ≡ true) → x ≡ y
same-test true y there back = sym (there refl)
same-test false true there back = back refl
same-test false false there back = refl

-- bytes of one length are compared by their words
pub compared : (a b : List ℕ) → length a ≡ length b → list_all fits_byte a ≡ true → list_all fits_byte b ≡ true
    → is_text (byte_words b) (byte_words a) ≡ is_text a b
compared a b count all all' =
    same-test _ _
    (λ e. (bytes_eq-Decides b a).1 (sym (same-bytes a b count all all' ((bytes_eq-Decides (byte_words a)
    (byte_words b)).0 e))))
    (λ e. (bytes_eq-Decides (byte_words a) (byte_words b)).1 (sym (ap byte_words ((bytes_eq-Decides b a).0 e))))

-- a list of numbers below 256 is one of bytes
pub all-bytes : (bytes : List ℕ) → ((i : ℕ) → get_or bytes i 0 < 256) → list_all fits_byte bytes ≡ true
all-bytes [] below = refl
all-bytes (byte ∷ bytes) below =
    and_from (fits_byte byte) (list_all fits_byte bytes) (lt-ltb byte 256 (below 0)) (all-bytes bytes (λ i. below (suc i)))

-- what words of as many bytes tell
pub bytes-told : (bytes words : List ℕ) (count : ℕ) → list_all fits_byte bytes ≡ true → count ≡ length bytes
    → words ≡ byte_words bytes → unpacked count words ≡ bytes
bytes-told bytes words count all many same =
    ap (λ (n : ℕ). unpacked n words) many ∙ ap (λ (ws : List ℕ). unpacked (length bytes) ws) (same
    ∙ sym (append-nil (byte_words bytes))) ∙ bytes-read bytes [] all
