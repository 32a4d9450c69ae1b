-- The bytes of words, word by word.
use Rattle.std.proofs.Common.{◌≡◌, ◌∙◌, ℕ, ◌+◌, ◌-◌, ◌/◌, ◌<◌, zero, suc, min, List, [], ◌∷◌, ◌++◌, length, get_or, take, drop, ap, sym, arith}
use Rattle.std.specs.List.{flat_map}
use Rattle.std.specs.Int.{w64, to_le_bytes}
use Rattle.std.proofs.lemmas.List.{drop_more, take_min}
use Rattle.ipe_image.specs.Packing.{unpacked, word_bytes}
use Rattle.ipe_image.proofs.Bytes.{length-word_bytes}

-- the bytes of a word of eight
pub le-bytes : (n : ℕ) → to_le_bytes w64 n ≡ word_bytes 8 n
unfolding word_bytes
le-bytes n =
    let e2 : n / 65536 ≡ n / 256 / 256 = omega arith in
    let e3 : n / 16777216 ≡ n / 256 / 256 / 256 = omega arith in
    let e4 : n / 4294967296 ≡ n / 256 / 256 / 256 / 256 = omega arith in
    let e5 : n / 1099511627776 ≡ n / 256 / 256 / 256 / 256 / 256 = omega arith in
    let e6 : n / 281474976710656 ≡ n / 256 / 256 / 256 / 256 / 256 / 256 = omega arith in
    let e7 : n / 72057594037927936 ≡ n / 256 / 256 / 256 / 256 / 256 / 256 / 256 = omega arith in
    rw (e7, e6, e5, e4, e3, e2)

-- what is taken of two lists
take-both : (xs ys : List ℕ) (k rest : ℕ) → rest ≡ k - length xs → take k (xs ++ ys) ≡ take k xs ++ take rest ys
take-both [] ys zero rest same = let none : rest ≡ 0 = omega arith in ap (λ (n : ℕ). take n ys) (sym none)
take-both [] ys (suc k) rest same = let all : rest ≡ suc k = omega arith in ap (λ (n : ℕ). take n ys) (sym all)
take-both (x ∷ xs) ys zero rest same = let none : rest ≡ 0 = omega arith in ap (λ (n : ℕ). take n ys) (sym none)
take-both (x ∷ xs) ys (suc k) rest same = ap (λ (zs : List ℕ). x ∷ zs) (take-both xs ys k rest (omega arith))

-- the bytes of the next word, and those of the others
pub next-piece : (words : List ℕ) (i left piece rest : ℕ) → i < length words → piece ≡ min left 8 → rest ≡ left - piece
    → unpacked left (drop i words) ≡ take piece (to_le_bytes w64 (get_or words i 0)) ++ unpacked rest (drop
    (i + 1) words)
next-piece words i left piece rest some piece_is rest_is =
    let word = get_or words i 0 in
    let eight : length (word_bytes 8 word) ≡ 8 = length-word_bytes 8 word in
    let swapped : piece ≡ min left (length (word_bytes 8 word)) = omega arith in
    ap (unpacked left) (drop_more words i 0 some)
    ∙ take-both (word_bytes 8 word) (flat_map (word_bytes 8) (drop (i + 1) words)) left rest (omega arith)
    ∙ ap (λ (bs : List ℕ). bs ++ unpacked rest (drop (i + 1) words)) (sym (ap (λ (k : ℕ). take k
    (word_bytes 8 word)) swapped ∙ take_min left (word_bytes 8 word)))
    ∙ ap (λ (bs : List ℕ). take piece bs ++ unpacked rest (drop (i + 1) words)) (sym (le-bytes word))
