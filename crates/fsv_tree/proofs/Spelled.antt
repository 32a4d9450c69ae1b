-- Bytes whose rows all hold are a descriptor's spelling.
use Rattle.std.proofs.Common.{◌≡◌, ℕ, ◌+◌, ◌-◌, ◌<◌, ◌≤◌, Bool, true, false, List, [], ◌∷◌, ◌++◌, length, take, drop, get_or, eqb, ltb, leb, ap, refl, sym, ◌∙◌, arith, inl, inr}
use Rattle.std.specs.Prelude.{not, ◌&&◌, ◌||◌}
use Rattle.std.specs.Int.{w64, to_le_bytes, from_le_bytes}
use Rattle.std.proofs.lemmas.Bool.{cases_lt, not-false, eqb-true, eq-eqb, ltb-false, le-leb}
use Rattle.std.proofs.lemmas.List.{length-take, length-drop, take-take, get_or-drop, get_or_past}
use Rattle.std.proofs.lemmas.Nat.{le_bytes_8}
use Rattle.hash_tree.specs.Tree.{filled}
use Rattle.fsv_tree.specs.Descriptor.{DescriptorParts, said_by, spelling, zeros, IsSound}
use Rattle.fsv_tree.specs.Kept.{IsKept}
use Rattle.fsv_tree.proofs.Table.{row_version, row_log, row_salt_size, row_reserved, row_size, row_root, row_behind_root, row_salt, row_last}
use Rattle.fsv_tree.proofs.Zeros.{zeros_are, all_zeros, filled_from, get_or-part, length-part, cut_more}

-- a row that isn't broken
holds : (a b : ℕ) → not (eqb a b) ≡ false → a ≡ b
holds a b is = eqb-true a b (not-false (eqb a b) is)

both_false : (a b : Bool) → (a || b) ≡ false → (a ≡ false) × (b ≡ false)
both_false false b is = (refl, is)
both_false true b is = absurd cc

then_false : (a b : Bool) → a ≡ true → (a && b) ≡ false → b ≡ false
then_false true b first is = is
then_false false b first is = absurd cc

-- the parts that 256 bytes say
abbrev pub parts_of : List ℕ → ℕ → DescriptorParts
parts_of bytes size = record {
  log = get_or bytes 2 0;
  salt = take (get_or bytes 3 0) (take 32 (drop 80 bytes));
  size = size;
  root = take 32 (drop 16 bytes);
}

first_four : (bytes : List ℕ) → 4 ≤ length bytes →
    take 4 bytes ≡ get_or bytes 0 0 ∷ get_or bytes 1 0 ∷ get_or bytes 2 0 ∷ get_or bytes 3 0 ∷ []
first_four [] few = absurd (omega arith)
first_four (a ∷ []) few = absurd (omega arith)
first_four (a ∷ b ∷ []) few = absurd (omega arith)
first_four (a ∷ b ∷ c ∷ []) few = absurd (omega arith)
first_four (a ∷ b ∷ c ∷ d ∷ more) few = refl

part_fits : (a n : ℕ) (bytes : List ℕ) → ((i : ℕ) → get_or bytes i 0 < 256) → (i : ℕ) →
    get_or (take n (drop a bytes)) i 0 < 256
part_fits a n bytes fits i = elim (cases_lt i n) [
  | inl below ↦ let same = get_or-part a n i bytes below in let fit = fits (a + i) in omega (arith, same, fit)
  | inr past ↦
      let none = get_or_past (take n (drop a bytes)) i 0 (omega (arith, length-take n (drop a bytes))) in
      omega (arith, none)
]

-- the size of the salt
salt_short : (bytes : List ℕ) (size : ℕ) → IsSound bytes size → get_or bytes 3 0 ≤ 32
salt_short bytes size sound =
    ltb-false 32 (get_or bytes 3 0) (sym (row_salt_size bytes size 3 (omega arith) (omega arith))
    ∙ sound 3 (omega arith))

salt_whole : (bytes : List ℕ) (size : ℕ) → length bytes ≡ 256 → IsSound bytes size →
    take 32 (drop 80 bytes) ≡ filled 32 (take (get_or bytes 3 0) (take 32 (drop 80 bytes)))
salt_whole bytes size whole sound =
    let short = salt_short bytes size sound in
    filled_from 32 (get_or bytes 3 0) (take 32 (drop 80 bytes)) (length-part 80 32 bytes (omega arith)) short
    (λ i past within.
    let place : 80 + i - 80 ≡ i = omega arith in
    let row = sym (row_salt bytes size (80 + i) (omega arith) (omega arith)) ∙ sound (80 + i) (omega arith) in
    get_or-part 80 32 i bytes within
    ∙ holds (get_or bytes (80 + i) 0) 0 (then_false (leb (get_or bytes 3 0) (80 + i - 80)) (not (eqb (get_or bytes
    (80 + i) 0) 0)) (le-leb (get_or bytes 3 0) (80 + i - 80) (omega arith)) row))

-- the fields that 256 bytes say are kept
pub kept : (bytes : List ℕ) (size : ℕ) → length bytes ≡ 256 → size ≤ 16777216 → IsSound bytes size →
    IsKept (get_or bytes 2 0) (get_or bytes 3 0) (take 32 (drop 80 bytes)) size (take 32 (drop 16 bytes))
kept bytes size whole few sound =
    let log = both_false (ltb (get_or bytes 2 0) 10) (ltb 12 (get_or bytes 2 0))
    (sym (row_log bytes size 2 (omega arith) (omega arith)) ∙ sound 2 (omega arith)) in
    record {
      low = ltb-false (get_or bytes 2 0) 10 log.0;
      high = ltb-false 12 (get_or bytes 2 0) log.1;
      short = salt_short bytes size sound;
      salt_filled = salt_whole bytes size whole sound;
      few = few;
      no_root = λ none. all_zeros 32 (take 32 (drop 16 bytes)) (length-part 16 32 bytes (omega arith))
          (λ i within.
          let row = sym (row_root bytes size (16 + i) (omega arith) (omega arith)) ∙ sound (16 + i) (omega arith) in
          get_or-part 16 32 i bytes within ∙ holds (get_or bytes (16 + i) 0) 0 (then_false (eqb size 0) (not (eqb
          (get_or bytes (16 + i) 0) 0)) (eq-eqb size 0 none) row))
          ∙ zeros_are 32;
    }

-- such bytes are the spelling of what they say
pub spelled : (bytes : List ℕ) (size : ℕ) → length bytes ≡ 256 → ((i : ℕ) → get_or bytes i 0 < 256) →
    IsSound bytes size → bytes ≡ spelling (parts_of bytes size)
unfolding spelling
spelled bytes size whole fits sound =
    let short = salt_short bytes size sound in
    let salt = take 32 (drop 80 bytes) in
    let version : get_or bytes 0 0 ≡ 1 =
    holds _ 1 (sym (row_version bytes size 0 (omega arith)) ∙ sound 0 (omega arith)) in
    let algorithm : get_or bytes 1 0 ≡ 1 =
    holds _ 1 (sym (row_version bytes size 1 (omega arith)) ∙ sound 1 (omega arith)) in
    let salt_size : get_or bytes 3 0 ≡ length (take (get_or bytes 3 0) salt) =
    omega (arith, length-take (get_or bytes 3 0) salt, length-part 80 32 bytes (omega arith)) in
    let front : take 4 bytes ≡ 1 ∷ 1 ∷ get_or bytes 2 0 ∷ length (take (get_or bytes 3 0) salt) ∷ [] =
    first_four bytes (omega arith)
    ∙ (λ i. version i ∷ algorithm i ∷ get_or bytes 2 0 ∷ salt_size i ∷ []) in
    let reserved : take 4 (drop 4 bytes) ≡ zeros 4 =
    all_zeros 4 (take 4 (drop 4 bytes)) (length-part 4 4 bytes (omega arith))
    (λ i within. get_or-part 4 4 i bytes within
    ∙ holds _ 0 (sym (row_reserved bytes size (4 + i) (omega arith) (omega arith)) ∙ sound (4 + i) (omega arith))) in
    let number : from_le_bytes w64 (take 8 (drop 8 bytes)) ≡ size =
    holds _ size (sym (row_size bytes size 8 (omega arith) (omega arith)) ∙ sound 8 (omega arith)) in
    let said : take 8 (drop 8 bytes) ≡ to_le_bytes w64 size =
    sym (le_bytes_8 (take 8 (drop 8 bytes)) size (length-part 8 8 bytes (omega arith)) (part_fits 8 8 bytes fits) (sym number)) in
    let root : take 64 (drop 16 bytes) ≡ filled 64 (take 32 (drop 16 bytes)) =
    filled_from 64 32 (take 64 (drop 16 bytes)) (length-part 16 64 bytes (omega arith)) (omega arith)
    (λ i past within. get_or-part 16 64 i bytes within
    ∙ holds _ 0 (sym (row_behind_root bytes size (16 + i) (omega arith) (omega arith)) ∙ sound (16 + i) (omega arith)))
    ∙ ap (λ xs. filled 64 xs) (take-take 32 64 (drop 16 bytes) (omega arith)) in
    let last : drop 112 bytes ≡ zeros 144 = all_zeros 144 (drop 112 bytes) (omega (arith, length-drop 112 bytes))
    (λ i within. get_or-drop 112 bytes i 0
    ∙ holds _ 0 (sym (row_last bytes size (112 + i) (omega arith)) ∙ sound (112 + i) (omega arith))) in
    let from_80 = cut_more 80 32 112 bytes refl ∙ (λ i. salt_whole bytes size whole sound i ++ last i) in
    let from_16 = cut_more 16 64 80 bytes refl ∙ (λ i. root i ++ from_80 i) in
    let from_8 = cut_more 8 8 16 bytes refl ∙ (λ i. said i ++ from_16 i) in
    let from_4 = cut_more 4 4 8 bytes refl ∙ (λ i. reserved i ++ from_8 i) in
    cut_more 0 4 4 bytes refl ∙ (λ i. front i ++ from_4 i)

-- the salt of its size is the first bytes of its row
pub said : (bytes : List ℕ) (size : ℕ) → IsSound bytes size → parts_of bytes size ≡ said_by bytes size
said bytes size sound = λ i. record {
  log = get_or bytes 2 0;
  salt = take-take (get_or bytes 3 0) 32 (drop 80 bytes) (salt_short bytes size sound) i;
  size = size;
  root = take 32 (drop 16 bytes);
}
