-- Bytes of levels.
use Rattle.std.proofs.Common.{◌≡◌, ℕ, zero, suc, ◌+◌, ◌-◌, ◌*◌, ◌/◌, ◌%◌, ◌<◌, ◌≤◌, min, List, [], ◌∷◌, ◌++◌, length, map, take, drop, replicate, ap, refl, sym, ◌∙◌, arith, inl, inr}
use Rattle.std.specs.Int.{div_ceil}
use Rattle.std.specs.List.{concat}
use Rattle.std.specs.Prelude.{All}
use Rattle.std.proofs.lemmas.Bool.{cases_lt}
use Rattle.std.proofs.lemmas.List.{append-nil, append_assoc, length-append, length-map, take_at, drop_at, take_all, drop_all}
use Rattle.std.proofs.lemmas.List.Elements.{All-head, All-tail}
use Rattle.std.proofs.lemmas.Nat.{div-add-mod', mod_below, div-mul-add, mul-le}
use Rattle.std.proofs.lemmas.Grind.{div_ceil_times}
use Rattle.std.proofs.Math.Nat.{div-div-eq-div-mul, suc-mul, mul_comm}
use Rattle.hash_tree.specs.Hash.{Hash}
use Rattle.hash_tree.specs.Chunks.{chunks}
use Rattle.hash_tree.specs.Shape.{IsHashBlockSize}
use Rattle.hash_tree.specs.Tree.{salted, filled, data_blocks, fan_out, hash_blocks, root, stored}
use Rattle.hash_tree.proofs.Numbers.{div_ceil_is, div_ceil_less, div_ceil_some}
use Rattle.hash_tree.proofs.Groups.{chunks_none, chunks_more, chunks_one, length-chunks, chunks-concat, whole_sizes}
use Rattle.hash_tree.proofs.HashBlocks.{digests_whole, length-concat_same, length-hash_blocks, hash_blocks_sizes, concat-hash_blocks}
use Rattle.hash_tree.proofs.Levels.{root_one, root_more, stored_one, stored_more}

-- a size of hash blocks, as a number
pub at_least : (hash : Hash) (size : ℕ) → IsHashBlockSize hash size → 4 ≤ size
at_least hash size is =
    omega (arith, is.even, mul-le 4 1 (fan_out hash size) hash.size is.wide hash.some)

-- a whole block is full already
pub filled_whole : (size : ℕ) (block : List ℕ) → length block ≡ size → filled size block ≡ block
unfolding filled
filled_whole size block whole =
    let room : size - length block ≡ 0 = omega arith in
    ap (λ (x : ℕ). block ++ replicate x 0) room ∙ append-nil block

-- a block that is copied, and then made as long as the size
pub resized : (size count : ℕ) (block items : List ℕ) → items ≡ block → count ≡ length block → length block ≤ size →
    take size items ++ replicate (size - count) 0 ≡ filled size block
unfolding filled
resized size count block items same number within =
    ap (λ xs. take size xs ++ replicate (size - count) 0) same
    ∙ (ap (λ xs. xs ++ replicate (size - count) 0) (take_all size block within)
    ∙ ap (λ (x : ℕ). block ++ replicate (size - x) 0) number)

pub all_filled : (size : ℕ) (blocks : List (List ℕ)) → All (λ block. length block ≡ size) blocks →
    map (filled size) blocks ≡ blocks
all_filled size [] all = refl
all_filled size (block ∷ blocks) all =
    let here = filled_whole size block (All-head (λ b. length b ≡ size) block blocks all) in
    let more = all_filled size blocks (All-tail (λ b. length b ≡ size) block blocks all) in
    ap (λ xs. xs ∷ map (filled size) blocks) here ∙ ap (λ xs. block ∷ xs) more

-- bytes that are whole blocks are cut into them
pub whole_blocks : (size : ℕ) (bytes : List ℕ) → All (λ block. length block ≡ size) (chunks size bytes) →
    data_blocks size bytes ≡ chunks size bytes
unfolding data_blocks
whole_blocks size bytes all = all_filled size (chunks size bytes) all

-- where the last block is a full one, so are all
pub full_blocks : (size : ℕ) (bytes : List ℕ) → 0 < size → length bytes % size ≡ 0 →
    data_blocks size bytes ≡ chunks size bytes
full_blocks size bytes positive full =
    let split = div-add-mod' (length bytes) size in
    let none : length bytes % size ≡ 0 = full in
    whole_blocks size bytes (whole_sizes size (length bytes / size) bytes positive (omega (arith, split)))

-- the blocks of bytes, one by one
pub data_blocks_none : (size : ℕ) (bytes : List ℕ) → 0 < size → length bytes ≡ 0 → data_blocks size bytes ≡ []
unfolding data_blocks
data_blocks_none size bytes positive none = ap (λ xs. map (filled size) xs) (chunks_none size bytes positive none)

pub data_blocks_more : (size : ℕ) (bytes : List ℕ) → 0 < size → 0 < length bytes →
    data_blocks size bytes ≡ filled size (take size bytes) ∷ data_blocks size (drop size bytes)
unfolding data_blocks
data_blocks_more size bytes positive some = ap (λ xs. map (filled size) xs) (chunks_more size bytes positive some)

pub data_blocks_one : (size : ℕ) (bytes : List ℕ) → 0 < length bytes → length bytes ≤ size →
    data_blocks size bytes ≡ filled size bytes ∷ []
unfolding data_blocks
data_blocks_one size bytes some within = ap (λ xs. map (filled size) xs) (chunks_one size bytes some within)

pub data_blocks_whole : (size : ℕ) (bytes : List ℕ) (whole : List (List ℕ)) → 0 < size → bytes ≡ concat whole →
    All (λ block. length block ≡ size) whole → data_blocks size bytes ≡ whole
unfolding data_blocks
data_blocks_whole size bytes whole positive is all =
    ap (λ xs. map (filled size) (chunks size xs)) is
    ∙ (ap (λ xs. map (filled size) xs) (chunks-concat size whole positive all) ∙ all_filled size whole all)

pub length-data_blocks : (size : ℕ) (bytes : List ℕ) → length (data_blocks size bytes) ≡ div_ceil (length bytes) size
unfolding data_blocks
length-data_blocks size bytes = length-map (chunks size bytes) (filled size) ∙ length-chunks size bytes

-- the blocks whose digests are done, and the rest
pub record Hashing (hash : Hash) (size : ℕ) (salt level done rest : List ℕ) : Type 0 where
  pub hashed : done ++ concat (map (salted hash salt) (data_blocks size rest)) ≡ concat (map (salted hash salt) (data_blocks size level))

-- the first chunk of bytes, and what is after it
only_chunk : (size : ℕ) (block others : List ℕ) → length others ≡ 0 → length block < size →
    (take size (block ++ others) ≡ block) × (drop size (block ++ others) ≡ others)
only_chunk size block [] none below =
    let same = append-nil block in (
      ap (λ xs. take size xs) same ∙ take_all size block (omega arith),
      ap (λ xs. drop size xs) same ∙ drop_all size block (omega arith),
    )
only_chunk size block (x ∷ xs) none below = absurd (omega arith)

first_chunk : (size : ℕ) (block others : List ℕ) → length block ≡ min size (length (block ++ others)) →
    (take size (block ++ others) ≡ block) × (drop size (block ++ others) ≡ others)
first_chunk size block others short =
    let sum : length (block ++ others) ≡ length block + length others = length-append block others in
    elim (cases_lt (length block) size) [
      | inr full ↦ (take_at block others size (omega arith), drop_at block others size (omega arith))
      | inl below ↦ only_chunk size block others (omega arith) below
    ]

-- one more block
pub hashing_more : (hash : Hash) (size : ℕ) (salt level done rest block others : List ℕ) → 0 < size →
    Hashing hash size salt level done rest →
    rest ≡ block ++ others → length block ≡ min size (length rest) → 0 < length rest →
    Hashing hash size salt level (done ++ salted hash salt (filled size block)) others
hashing_more hash size salt level done rest block others positive before parts short some =
    let count : length rest ≡ length (block ++ others) = ap length parts in
    let cuts = first_chunk size block others (short ∙ ap (λ (x : ℕ). min size x) count) in
    let cut : data_blocks size rest ≡ filled size block ∷ data_blocks size others =
    ap (λ xs. data_blocks size xs) parts
    ∙ (data_blocks_more size (block ++ others) positive (omega arith)
    ∙ (ap (λ xs. filled size xs ∷ data_blocks size (drop size (block ++ others))) cuts.0
    ∙ ap (λ xs. filled size block ∷ data_blocks size xs) cuts.1)) in
    record {
      hashed = append_assoc done (salted hash salt (filled size block)) (concat (map (salted hash salt) (data_blocks size others)))
          ∙ (ap (λ blocks. done ++ concat (map (salted hash salt) blocks)) (sym cut) ∙ before.hashed);
    }

-- none left
pub hashing_done : (hash : Hash) (size : ℕ) (salt level done rest : List ℕ) → 0 < size → Hashing hash size salt level done rest →
    length rest ≡ 0 →
    done ≡ concat (map (salted hash salt) (data_blocks size level))
hashing_done hash size salt level done rest positive before none =
    sym (append-nil done)
    ∙ (ap (λ blocks. done ++ concat (map (salted hash salt) blocks)) (sym (data_blocks_none size rest positive none))
    ∙ before.hashed)

-- the digests of n blocks fill as many blocks as there are groups of them
scaled : (n h width size : ℕ) → 0 < n → 0 < h → 1 ≤ width → h * width ≡ size →
    div_ceil (n * width) size ≡ div_ceil n h
scaled zero h width size some positive wide same = absurd (omega arith)
scaled (suc m) h width size some positive wide same =
    let n = suc m in
    let product : suc m * width ≡ m * width + width = suc-mul m width in
    let least = mul-le 1 1 h width positive wide in
    let first = div_ceil_is (n * width) size (omega arith) (omega arith) in
    let second = div_ceil_is n h positive some in
    let turned : size ≡ width * h = sym same ∙ mul_comm h width in
    let before : n * width - 1 ≡ m * width + (width - 1) = omega arith in
    let quotient : (n * width - 1) / width ≡ m = ap (λ (x : ℕ). x / width) before
    ∙ div-mul-add m width (width - 1) (omega arith) in
    let back : m ≡ n - 1 = omega arith in
    let both : (n * width - 1) / size ≡ (n - 1) / h =
    ap (λ (x : ℕ). (n * width - 1) / x) turned ∙ (sym (div-div-eq-div-mul (n * width - 1) width h)
    ∙ ap (λ (x : ℕ). x / h) (quotient ∙ back)) in
    omega (arith, first, second, both)

-- digests that are filled up to whole blocks are the hash blocks
pub hashed_level : (hash : Hash) (size : ℕ) (salt level done : List ℕ) (full : ℕ) → IsHashBlockSize hash size → 0 < length level →
    done ≡ concat (map (salted hash salt) (data_blocks size level)) →
    full ≡ div_ceil (div_ceil (length level) size * hash.size) size * size →
    take full done ++ replicate (full - length done) 0 ≡ concat (hash_blocks hash size salt (data_blocks size level))
hashed_level hash size salt level done full sizes any is room_is =
    let h = fan_out hash size in
    let blocks = data_blocks size level in
    let n = div_ceil (length level) size in
    let positive : 0 < size = omega (arith, at_least hash size sizes) in
    let wide : 4 ≤ h = sizes.wide in
    let wide_enough : 0 < h = omega arith in
    let same : h * hash.size ≡ size = sizes.even in
    let some : 0 < n = div_ceil_some (length level) size positive any in
    let count : length blocks ≡ n = length-data_blocks size level in
    let digests : length (map (salted hash salt) blocks) ≡ n = length-map blocks (salted hash salt) ∙ count in
    let bytes : length done ≡ n * hash.size = ap length is
    ∙ (length-concat_same hash.size (map (salted hash salt) blocks) (digests_whole hash salt blocks)
    ∙ ap (λ (x : ℕ). x * hash.size) digests) in
    let ceiling = scaled n h hash.size size some wide_enough hash.some same in
    let room : full ≡ div_ceil n h * size = room_is ∙ ap (λ (x : ℕ). x * size) ceiling in
    let fits : n * hash.size ≤ full = omega (arith, room_is, (div_ceil_times (n * hash.size) size positive).0) in
    let target = concat-hash_blocks hash size salt blocks wide_enough same in
    let zeros : full - length done ≡ div_ceil (length blocks) h * size - length blocks * hash.size =
    ap (λ (x : ℕ). full - x) bytes
    ∙ (ap (λ (x : ℕ). x - n * hash.size) room ∙ ap (λ (x : ℕ). div_ceil x h * size - x * hash.size) (sym count)) in
    ap (λ xs. xs ++ replicate (full - length done) 0) (take_all full done (omega arith))
    ∙ (ap (λ xs. xs ++ replicate (full - length done) 0) is
    ∙ (ap (λ (x : ℕ). concat (map (salted hash salt) blocks) ++ replicate x 0) zeros ∙ sym target))

-- the level above two blocks and more
pub record IsAbove (hash : Hash) (size : ℕ) (salt level above : List ℕ) : Type 0 where
  pub some : 0 < length above
  pub fewer : length above < length level
  pub root_is : root hash size salt (data_blocks size level) ≡ root hash size salt (data_blocks size above)
  pub stored_is : stored hash size salt (data_blocks size level) ≡ stored hash size salt (data_blocks size above) ++ above

pub level_above : (hash : Hash) (size : ℕ) (salt level above : List ℕ) → IsHashBlockSize hash size → size < length level →
    above ≡ concat (hash_blocks hash size salt (data_blocks size level)) → IsAbove hash size salt level above
level_above hash size salt level above sizes more is =
    let h = fan_out hash size in
    let blocks = data_blocks size level in
    let n = div_ceil (length level) size in
    let next = hash_blocks hash size salt blocks in
    let positive : 0 < size = omega (arith, at_least hash size sizes) in
    let wide : 4 ≤ h = sizes.wide in
    let many : 2 ≤ h = omega arith in
    let ceiling : n ≡ (length level - 1) / size + 1 = div_ceil_is (length level) size positive (omega arith) in
    let split = div-add-mod' (length level - 1) size in
    let quotient : 1 ≤ (length level - 1) / size = elim (cases_lt 0 ((length level - 1) / size)) [
      | inl positive_one ↦ positive_one
      | inr none ↦
          let product : (length level - 1) / size * size ≡ 0 * size = ap (λ (x : ℕ). x * size) (omega arith) in
          let low = mod_below (length level - 1) size positive in
          absurd (omega (arith, split, low))
    ] in
    let two_of : 2 ≤ n = omega arith in
    let count : length blocks ≡ n = length-data_blocks size level in
    let two : 2 ≤ length blocks = omega arith in
    let few : length next ≡ div_ceil n h = length-hash_blocks hash size salt blocks
    ∙ ap (λ (x : ℕ). div_ceil x h) count in
    let less : length next < n = omega (arith, few, div_ceil_less n h many two_of) in
    let not_none : 0 < length next = omega (arith, few, div_ceil_some n h (omega arith) (omega arith)) in
    let bytes : length above ≡ length next * size =
    ap length is ∙ length-concat_same size next (hash_blocks_sizes hash size salt blocks) in
    let order : length next * size ≤ (length level - 1) / size * size =
    mul-le (length next) size ((length level - 1) / size) size (omega arith) (omega arith) in
    let least : 1 * size ≤ length next * size = mul-le 1 size (length next) size (omega arith) (omega arith) in
    let cut : data_blocks size above ≡ next =
    data_blocks_whole size above next positive is (hash_blocks_sizes hash size salt blocks) in
    record {
      some = omega arith;
      fewer = omega (arith, split);
      root_is = root_more hash size salt blocks many two ∙ ap (λ groups. root hash size salt groups) (sym cut);
      stored_is = stored_more hash size salt blocks many two
          ∙ (ap (λ groups. stored hash size salt groups ++ concat next) (sym cut)
          ∙ ap (λ xs. stored hash size salt (data_blocks size above) ++ xs) (sym is));
    }

-- the level that is one block
pub root_of_one : (hash : Hash) (size : ℕ) (salt level : List ℕ) → 0 < length level → length level ≤ size →
    root hash size salt (data_blocks size level) ≡ salted hash salt (filled size level)
root_of_one hash size salt level some within =
    ap (λ groups. root hash size salt groups) (data_blocks_one size level some within)
    ∙ root_one hash size salt (filled size level ∷ []) (omega arith)

pub stored_of_one : (hash : Hash) (size : ℕ) (salt level : List ℕ) → 0 < length level → length level ≤ size →
    stored hash size salt (data_blocks size level) ≡ []
stored_of_one hash size salt level some within =
    ap (λ groups. stored hash size salt groups) (data_blocks_one size level some within)
    ∙ stored_one hash size salt (filled size level ∷ []) (omega arith)
