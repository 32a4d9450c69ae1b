-- The spelling of a descriptor breaks no row.
use Rattle.std.proofs.Common.{◌≡◌, ℕ, ◌+◌, ◌-◌, ◌^◌, ◌<◌, ◌≤◌, Bool, true, false, List, [], ◌∷◌, ◌++◌, length, take, drop, get_or, replicate, eqb, ltb, leb, ap, refl, sym, ◌∙◌, arith, inl, inr}
use Rattle.std.specs.Prelude.{not, ◌&&◌, ◌||◌}
use Rattle.std.specs.Int.{w64, to_le_bytes, from_le_bytes}
use Rattle.std.proofs.lemmas.Bool.{cases_lt, eq-eqb, eqb-true, not_from_true, le-ltb, leb-true}
use Rattle.std.proofs.lemmas.List.{append_assoc, length-take, drop-drop, take_at, drop_at, get_or-drop, get_or_append_left, get_or-replicate}
use Rattle.std.proofs.lemmas.Nat.{from_le_bytes-to_le_bytes_8}
use Rattle.hash_tree.specs.Tree.{filled}
use Rattle.hash_tree.proofs.HashBlocks.{length-filled}
use Rattle.fsv_tree.specs.Descriptor.{DescriptorParts, said_by, spelling, zeros, breaks, IsSound}
use Rattle.fsv_tree.specs.Kept.{IsKept, MayBeSaid}
use Rattle.fsv_tree.proofs.Table.{row_version, row_log, row_salt_size, row_reserved, row_size, row_size_rest, row_root, row_behind_root, row_salt, row_last}
use Rattle.fsv_tree.proofs.Zeros.{length-zeros, get_or-zeros, get_or-filled, filled_is}

-- fields that are kept say what may be said
pub kept_says : (log salt_size : ℕ) (salt : List ℕ) (size : ℕ) (root : List ℕ) → IsKept log salt_size salt size root →
    length salt ≡ 32 → length root ≡ 32 →
    MayBeSaid (record { log = log; salt = take salt_size salt; size = size; root = root })
kept_says log salt_size salt size root kept salt_row root_row =
    let short : salt_size ≤ 32 = kept.short in
    let few : size ≤ 16777216 = kept.few in
    record {
      low = kept.low;
      high = kept.high;
      short = omega (arith, length-take salt_size salt);
      few = omega arith;
      root_size = root_row;
      no_root = kept.no_root;
    }

-- the rows from a place on
abbrev from_8 : DescriptorParts → List ℕ
from_8 parts = to_le_bytes w64 parts.size ++ (filled 64 parts.root ++ (filled 32 parts.salt ++ zeros 144))

abbrev from_16 : DescriptorParts → List ℕ
from_16 parts = filled 64 parts.root ++ (filled 32 parts.salt ++ zeros 144)

abbrev from_80 : DescriptorParts → List ℕ
from_80 parts = filled 32 parts.salt ++ zeros 144

front_is : (parts : DescriptorParts) → spelling parts ≡ (1 ∷ 1 ∷ parts.log ∷ length parts.salt ∷ []) ++ (zeros 4 ++ from_8 parts)
unfolding spelling
front_is parts = refl

-- a byte of what stands from a place on
moved : (a place : ℕ) (bytes rest : List ℕ) → drop a bytes ≡ rest → a ≤ place →
    get_or bytes place 0 ≡ get_or rest (place - a) 0
moved a place bytes rest is from =
    let split : a + (place - a) ≡ place = omega arith in
    ap (λ (x : ℕ). get_or bytes x 0) (sym split)
    ∙ (sym (get_or-drop a bytes (place - a) 0) ∙ ap (λ xs. get_or xs (place - a) 0) is)

next : (a k b : ℕ) (bytes row rest : List ℕ) → drop a bytes ≡ row ++ rest → length row ≡ k → a + k ≡ b →
    drop b bytes ≡ rest
next a k b bytes row rest is size sum =
    ap (λ (x : ℕ). drop x bytes) (sym sum)
    ∙ (sym (drop-drop k a bytes) ∙ (ap (λ xs. drop k xs) is ∙ drop_at row rest k size))

behind_4 : (parts : DescriptorParts) → drop 4 (spelling parts) ≡ zeros 4 ++ from_8 parts
behind_4 parts = ap (λ xs. drop 4 xs) (front_is parts)

behind_8 : (parts : DescriptorParts) → drop 8 (spelling parts) ≡ from_8 parts
behind_8 parts = next 4 4 8 (spelling parts) (zeros 4) (from_8 parts) (behind_4 parts) (length-zeros 4) refl

length-le : (size : ℕ) → length (to_le_bytes w64 size) ≡ 8
length-le size = refl

behind_16 : (parts : DescriptorParts) → drop 16 (spelling parts) ≡ from_16 parts
behind_16 parts =
    next 8 8 16 (spelling parts) (to_le_bytes w64 parts.size) (from_16 parts) (behind_8 parts) (length-le parts.size) refl

behind_80 : (parts : DescriptorParts) → MayBeSaid parts → drop 80 (spelling parts) ≡ from_80 parts
behind_80 parts said =
    let root : length parts.root ≡ 32 = said.root_size in
    next 16 64 80 (spelling parts) (filled 64 parts.root) (from_80 parts) (behind_16 parts) (length-filled 64 parts.root
    (omega arith)) refl

behind_112 : (parts : DescriptorParts) → MayBeSaid parts → drop 112 (spelling parts) ≡ zeros 144
behind_112 parts said =
    next 80 32 112 (spelling parts) (filled 32 parts.salt) (zeros 144) (behind_80 parts said) (length-filled 32
    parts.salt said.short) refl

-- a byte that is what it should be
kept_to : (a b : ℕ) → a ≡ b → not (eqb a b) ≡ false
kept_to a b same = not_from_true (eqb a b) (eq-eqb a b same)

first_or : (a b : Bool) → a ≡ false → b ≡ false → (a || b) ≡ false
first_or false b first second = second
first_or true b first second = absurd cc

either_and : (a b : Bool) → (a ≡ true → b ≡ false) → (a && b) ≡ false
either_and false b second = refl
either_and true b second = second refl

byte_0 : (parts : DescriptorParts) → get_or (spelling parts) 0 0 ≡ 1
byte_0 parts = ap (λ xs. get_or xs 0 0) (front_is parts)

byte_1 : (parts : DescriptorParts) → get_or (spelling parts) 1 0 ≡ 1
byte_1 parts = ap (λ xs. get_or xs 1 0) (front_is parts)

byte_2 : (parts : DescriptorParts) → get_or (spelling parts) 2 0 ≡ parts.log
byte_2 parts = ap (λ xs. get_or xs 2 0) (front_is parts)

byte_3 : (parts : DescriptorParts) → get_or (spelling parts) 3 0 ≡ length parts.salt
byte_3 parts = ap (λ xs. get_or xs 3 0) (front_is parts)

-- a byte at a place whose number is known
at : (bytes : List ℕ) (place number byte : ℕ) → place ≡ number → get_or bytes number 0 ≡ byte → get_or bytes place 0 ≡ byte
at bytes place number byte same is = ap (λ (x : ℕ). get_or bytes x 0) same ∙ is

sound_front : (parts : DescriptorParts) → MayBeSaid parts → (place : ℕ) → place < 4 →
    breaks (spelling parts) parts.size place ≡ false
sound_front parts said place within = elim (cases_lt place 2) [
  | inl version ↦
      row_version (spelling parts) parts.size place version
      ∙ kept_to (get_or (spelling parts) place 0) 1 (elim (cases_lt place 1) [
        | inl none ↦ at (spelling parts) place 0 1 (omega arith) (byte_0 parts)
        | inr one ↦ at (spelling parts) place 1 1 (omega arith) (byte_1 parts)
      ])
  | inr past_2 ↦ elim (cases_lt place 3) [
    | inl log ↦
        let low : 10 ≤ parts.log = said.low in
        let high : parts.log ≤ 12 = said.high in
        let byte : get_or (spelling parts) place 0 ≡ parts.log =
        at (spelling parts) place 2 parts.log (omega arith) (byte_2 parts) in
        row_log (spelling parts) parts.size place past_2 log
        ∙ first_or (ltb (get_or (spelling parts) place 0) 10) (ltb 12 (get_or (spelling parts) place 0))
        (le-ltb (get_or (spelling parts) place 0) 10 (omega arith)) (le-ltb 12 (get_or (spelling parts) place 0) (omega
        arith))
    | inr past_3 ↦
        let short : length parts.salt ≤ 32 = said.short in
        let byte : get_or (spelling parts) place 0 ≡ length parts.salt =
        at (spelling parts) place 3 (length parts.salt) (omega arith) (byte_3 parts) in
        row_salt_size (spelling parts) parts.size place past_3 within
        ∙ le-ltb 32 (get_or (spelling parts) place 0) (omega arith)
  ]
]

pub number_said : (parts : DescriptorParts) → MayBeSaid parts →
    from_le_bytes w64 (take 8 (drop 8 (spelling parts))) ≡ parts.size
number_said parts said =
    ap (λ xs. from_le_bytes w64 (take 8 xs)) (behind_8 parts)
    ∙ (ap (λ xs. from_le_bytes w64 xs) (take_at (to_le_bytes w64 parts.size) (from_16 parts) 8 (length-le parts.size))
    ∙ from_le_bytes-to_le_bytes_8 parts.size said.few)

sound_size : (parts : DescriptorParts) → MayBeSaid parts → (place : ℕ) → 4 ≤ place → place < 16 →
    breaks (spelling parts) parts.size place ≡ false
sound_size parts said place low high = elim (cases_lt place 8) [
  | inl reserved ↦
      row_reserved (spelling parts) parts.size place low reserved
      ∙ kept_to (get_or (spelling parts) place 0) 0 (moved 4 place (spelling parts) (zeros 4 ++ from_8 parts) (behind_4
      parts) low
      ∙ (get_or_append_left (zeros 4) (from_8 parts) 0 (place - 4) (omega (arith, length-zeros 4))
      ∙ get_or-zeros 4 (place - 4)))
  | inr past_8 ↦ elim (cases_lt place 9) [
    | inl first ↦
        row_size (spelling parts) parts.size place past_8 first
        ∙ kept_to (from_le_bytes w64 (take 8 (drop 8 (spelling parts)))) parts.size (number_said parts said)
    | inr past_9 ↦ row_size_rest (spelling parts) parts.size place past_9 high
  ]
]

-- a byte of the root's row
root_byte : (parts : DescriptorParts) → MayBeSaid parts → (place : ℕ) → 16 ≤ place → place < 80 →
    get_or (spelling parts) place 0 ≡ get_or (filled 64 parts.root) (place - 16) 0
root_byte parts said place low high =
    let root : length parts.root ≡ 32 = said.root_size in
    let row : length (filled 64 parts.root) ≡ 64 = length-filled 64 parts.root (omega arith) in
    moved 16 place (spelling parts) (from_16 parts) (behind_16 parts) low
    ∙ get_or_append_left (filled 64 parts.root) (from_80 parts) 0 (place - 16) (omega arith)

no_root_byte : (parts : DescriptorParts) → MayBeSaid parts → parts.size ≡ 0 → (i : ℕ) → i < 32 →
    get_or (filled 64 parts.root) i 0 ≡ 0
no_root_byte parts said none i within =
    let root : length parts.root ≡ 32 = said.root_size in
    ap (λ xs. get_or xs i 0) (filled_is 64 parts.root)
    ∙ (get_or_append_left parts.root (zeros (64 - length parts.root)) 0 i (omega arith)
    ∙ (ap (λ xs. get_or xs i 0) (said.no_root none) ∙ get_or-replicate 32 i 0 0 within))

sound_root : (parts : DescriptorParts) → MayBeSaid parts → (place : ℕ) → 16 ≤ place → place < 80 →
    breaks (spelling parts) parts.size place ≡ false
sound_root parts said place low high = elim (cases_lt place 48) [
  | inl within ↦
      row_root (spelling parts) parts.size place low within
      ∙ either_and (eqb parts.size 0) (not (eqb (get_or (spelling parts) place 0) 0))
      (λ none. kept_to (get_or (spelling parts) place 0) 0 (root_byte parts said place low high
      ∙ no_root_byte parts said (eqb-true parts.size 0 none) (place - 16) (omega arith)))
  | inr past_48 ↦
      let root : length parts.root ≡ 32 = said.root_size in
      row_behind_root (spelling parts) parts.size place past_48 high
      ∙ kept_to (get_or (spelling parts) place 0) 0 (root_byte parts said place low high
      ∙ get_or-filled 64 parts.root (place - 16) (omega arith))
]

sound_salt : (parts : DescriptorParts) → MayBeSaid parts → (place : ℕ) → 80 ≤ place → place < 112 →
    breaks (spelling parts) parts.size place ≡ false
sound_salt parts said place low high =
    let row : length (filled 32 parts.salt) ≡ 32 = length-filled 32 parts.salt said.short in
    row_salt (spelling parts) parts.size place low high
    ∙ either_and (leb (get_or (spelling parts) 3 0) (place - 80)) (not (eqb (get_or (spelling parts) place 0) 0))
    (λ past. kept_to (get_or (spelling parts) place 0) 0
    (moved 80 place (spelling parts) (from_80 parts) (behind_80 parts said) low
    ∙ (get_or_append_left (filled 32 parts.salt) (zeros 144) 0 (place - 80) (omega arith)
    ∙ get_or-filled 32 parts.salt (place - 80) (omega (
      arith,
      leb-true (get_or (spelling parts) 3 0) (place - 80)
          past,
      byte_3 parts,
    )))))

-- no byte of a spelling breaks its row
pub sound_spelling : (parts : DescriptorParts) → MayBeSaid parts → IsSound (spelling parts) parts.size
sound_spelling parts said place within = elim (cases_lt place 4) [
  | inl front ↦ sound_front parts said place front
  | inr past_4 ↦ elim (cases_lt place 16) [
    | inl size ↦ sound_size parts said place past_4 size
    | inr past_16 ↦ elim (cases_lt place 80) [
      | inl root ↦ sound_root parts said place past_16 root
      | inr past_80 ↦ elim (cases_lt place 112) [
        | inl salt ↦ sound_salt parts said place past_80 salt
        | inr past ↦
            row_last (spelling parts) parts.size place past
            ∙ kept_to (get_or (spelling parts) place 0) 0 (moved 112 place (spelling parts) (zeros 144) (behind_112 parts said) past
            ∙ get_or-zeros 144 (place - 112))
      ]
    ]
  ]
]

-- a spelling says what it spells
pub said_again : (parts : DescriptorParts) → MayBeSaid parts → said_by (spelling parts) parts.size ≡ parts
said_again parts said =
    let root : length parts.root ≡ 32 = said.root_size in
    let root_is : take 32 (drop 16 (spelling parts)) ≡ parts.root =
    ap (λ xs. take 32 xs) (behind_16 parts)
    ∙ (ap (λ xs. take 32 (xs ++ from_80 parts)) (filled_is 64 parts.root)
    ∙ (ap (λ xs. take 32 xs) (append_assoc parts.root (zeros (64 - length parts.root)) (from_80 parts))
    ∙ take_at parts.root (zeros (64 - length parts.root) ++ from_80 parts) 32 root)) in
    let salt_is : take (get_or (spelling parts) 3 0) (drop 80 (spelling parts)) ≡ parts.salt =
    (λ i. take (byte_3 parts i) (behind_80 parts said i))
    ∙ (ap (λ xs. take (length parts.salt) (xs ++ zeros 144)) (filled_is 32 parts.salt)
    ∙ (ap (λ xs. take (length parts.salt) xs) (append_assoc parts.salt (zeros (32 - length parts.salt)) (zeros 144))
    ∙ take_at parts.salt (zeros (32 - length parts.salt) ++ zeros 144) (length parts.salt) refl)) in
    λ i. record { log = byte_2 parts i; salt = salt_is i; size = parts.size; root = root_is i }
