-- The hash blocks over a level.
use Rattle.std.proofs.Common.{◌≡◌, ℕ, zero, suc, ◌+◌, ◌-◌, ◌*◌, ◌/◌, ◌%◌, ◌<◌, ◌≤◌, List, [], ◌∷◌, ◌++◌, length, map, take, drop, replicate, get_or, ap, refl, sym, ◌∙◌, arith, inl, inr}
use Rattle.std.specs.Int.{div_ceil}
use Rattle.std.specs.List.{concat}
use Rattle.std.specs.Prelude.{All}
use Rattle.std.proofs.lemmas.Bool.{cases_lt}
use Rattle.std.proofs.lemmas.List.{append-nil, append_assoc, drop-drop, length-drop, length-take, length-append, length-map, length-replicate, take_at, drop_at, take-append-drop, get_or-map, get_or-take, get_or-drop}
use Rattle.std.proofs.lemmas.List.Elements.{All-head, All-tail, All-take, All-drop, All-map, All-from_get_or}
use Rattle.std.proofs.lemmas.List.Folds.{concat-append}
use Rattle.std.proofs.lemmas.Nat.{div-add-mod', mod_below, mul-le}
use Rattle.std.proofs.Math.Nat.{suc-mul, mul-div-le}
use Rattle.hash_tree.specs.Hash.{Hash}
use Rattle.hash_tree.specs.Chunks.{chunks}
use Rattle.hash_tree.specs.Tree.{salted, filled, fan_out, hash_blocks}
use Rattle.hash_tree.specs.Path.{digest_in}
use Rattle.hash_tree.proofs.Numbers.{div_ceil_none, div_ceil_more, div_ceil_one}
use Rattle.hash_tree.proofs.Groups.{chunks_none, chunks_more, chunks_one, length-chunks, get_or-chunks}

-- a filled block has its size
pub length-filled : (size : ℕ) (bytes : List ℕ) → length bytes ≤ size → length (filled size bytes) ≡ size
unfolding filled
length-filled size bytes within = omega (
  arith,
  length-append bytes (replicate (size - length bytes) 0),
  length-replicate {A = ℕ} (size - length bytes) 0,
)

-- lists of one length, joined
pub length-concat_same : (width : ℕ) (parts : List (List ℕ)) → All (λ part. length part ≡ width) parts →
    length (concat parts) ≡ length parts * width
length-concat_same width [] all = omega arith
length-concat_same width (part ∷ parts) all =
    let here : length part ≡ width = All-head (λ p. length p ≡ width) part parts all in
    let more = length-concat_same width parts (All-tail (λ p. length p ≡ width) part parts all) in
    omega (arith, more, length-append part (concat parts), suc-mul (length parts) width)

-- the digests of a level have one size
pub digests_whole : (hash : Hash) (salt : List ℕ) (blocks : List (List ℕ)) →
    All (λ digest. length digest ≡ hash.size) (map (salted hash salt) blocks)
digests_whole hash salt blocks = All-map (λ digest. length digest ≡ hash.size) (salted hash salt) blocks (λ k d within.
    hash.sized (salt ++ get_or blocks k d))

-- how many hash blocks there are
pub length-hash_blocks : (hash : Hash) (size : ℕ) (salt : List ℕ) (blocks : List (List ℕ)) →
    length (hash_blocks hash size salt blocks) ≡ div_ceil (length blocks) (fan_out hash size)
unfolding hash_blocks
length-hash_blocks hash size salt blocks =
    length-map (chunks (fan_out hash size) (map (salted hash salt) blocks)) (λ group. filled size (concat group))
    ∙ (length-chunks (fan_out hash size) (map (salted hash salt) blocks)
    ∙ ap (λ (x : ℕ). div_ceil x (fan_out hash size)) (length-map blocks (salted hash salt)))

-- hash block number k
pub get_or-hash_blocks : (hash : Hash) (size : ℕ) (salt : List ℕ) (blocks : List (List ℕ)) (k : ℕ) (d : List ℕ) →
    k < length (hash_blocks hash size salt blocks) →
    get_or (hash_blocks hash size salt blocks) k d ≡ filled size (concat (take (fan_out hash size) (drop (k * fan_out hash size) (map
    (salted hash salt) blocks))))
unfolding hash_blocks
get_or-hash_blocks hash size salt blocks k d within =
    let groups = chunks (fan_out hash size) (map (salted hash salt) blocks) in
    let inside : k < length groups = omega (arith, length-map groups (λ group. filled size (concat group))) in
    get_or-map (λ group. filled size (concat group)) groups k [] d inside
    ∙ ap (λ group. filled size (concat group)) (get_or-chunks (fan_out hash size) (map (salted hash salt) blocks) k [] inside)

-- the digests of a group fit a hash block
group_fits : (hash : Hash) (size : ℕ) (salt : List ℕ) (blocks : List (List ℕ)) (k : ℕ) →
    length (concat (take (fan_out hash size) (drop k (map (salted hash salt) blocks)))) ≤ size
group_fits hash size salt blocks k =
    let digests = map (salted hash salt) blocks in
    let group = take (fan_out hash size) (drop k digests) in
    let whole = All-take (λ digest. length digest ≡ hash.size) (fan_out hash size) (drop k digests)
    (All-drop (λ digest. length digest ≡ hash.size) k digests (digests_whole hash salt blocks)) in
    let bytes = length-concat_same hash.size group whole in
    let few = length-take (fan_out hash size) (drop k digests) in
    let within = mul-le (length group) hash.size (fan_out hash size) hash.size (omega (arith, few)) (omega arith) in
    omega (arith, bytes, within, mul-div-le size hash.size)

-- each hash block has the size
pub hash_blocks_sizes : (hash : Hash) (size : ℕ) (salt : List ℕ) (blocks : List (List ℕ)) →
    All (λ block. length block ≡ size) (hash_blocks hash size salt blocks)
hash_blocks_sizes hash size salt blocks = All-from_get_or (λ block. length block ≡ size) (hash_blocks hash size salt blocks) []
    (λ k within. ap length (get_or-hash_blocks hash size salt blocks k [] within)
    ∙ length-filled size (concat (take (fan_out hash size) (drop (k * fan_out hash size) (map (salted hash salt) blocks))))
    (group_fits hash size salt blocks (k * fan_out hash size)))

-- one part of lists of one length that are joined
pub part_of_joined : (width : ℕ) (parts : List (List ℕ)) (rest : List ℕ) (p : ℕ) →
    All (λ part. length part ≡ width) parts → p < length parts →
    take width (drop (p * width) (concat parts ++ rest)) ≡ get_or parts p []
part_of_joined width [] rest p all within = absurd (omega arith)
part_of_joined width (part ∷ parts) rest zero all within =
    let here : length part ≡ width = All-head (λ d. length d ≡ width) part parts all in
    let front : 0 * width ≡ 0 = omega arith in
    ap (λ (x : ℕ). take width (drop x ((part ++ concat parts) ++ rest))) front
    ∙ (ap (λ xs. take width xs) (append_assoc part (concat parts) rest)
    ∙ take_at part (concat parts ++ rest) width here)
part_of_joined width (part ∷ parts) rest (suc p) all within =
    let here : length part ≡ width = All-head (λ d. length d ≡ width) part parts all in
    let more = part_of_joined width parts rest p (All-tail (λ d. length d ≡ width) part parts all) (omega arith) in
    let product : suc p * width ≡ p * width + width = suc-mul p width in
    let step : suc p * width ≡ width + p * width = omega arith in
    let behind = drop_at part (concat parts ++ rest) width here in
    let joined = append_assoc part (concat parts) rest in
    ap (λ xs. take width xs)
    (ap (λ (x : ℕ). drop x ((part ++ concat parts) ++ rest)) step
    ∙ (sym (drop-drop (p * width) width ((part ++ concat parts) ++ rest))
    ∙ ap (λ xs. drop (p * width) xs) (ap (λ xs. drop width xs) joined ∙ behind)))
    ∙ more

-- the digest of block j stands in the hash block over it, at its place
pub digest_over : (hash : Hash) (size : ℕ) (salt : List ℕ) (blocks : List (List ℕ)) (j : ℕ) → 0 < fan_out hash size → j < length blocks →
    j / fan_out hash size < length (hash_blocks hash size salt blocks) →
    digest_in hash (j % fan_out hash size) (get_or (hash_blocks hash size salt blocks) (j / fan_out hash size) [])
    ≡ salted hash salt (get_or blocks j [])
unfolding filled
digest_over hash size salt blocks j positive within over =
    let h = fan_out hash size in
    let digests = map (salted hash salt) blocks in
    let group = take h (drop (j / h * h) digests) in
    let whole : All (λ digest. length digest ≡ hash.size) group =
    All-take (λ digest. length digest ≡ hash.size) h (drop (j / h * h) digests)
    (All-drop (λ digest. length digest ≡ hash.size) (j / h * h) digests (digests_whole hash salt blocks)) in
    let split : j / h * h + j % h ≡ j = div-add-mod' j h in
    let low : j % h < h = mod_below j h positive in
    let count : length digests ≡ length blocks = length-map blocks (salted hash salt) in
    let inside : j % h < length group = omega (
      arith,
      length-take h (drop (j / h * h) digests),
      length-drop (j / h * h) digests,
    ) in
    ap (λ xs. digest_in hash (j % h) xs) (get_or-hash_blocks hash size salt blocks (j / h) [] over)
    ∙ (part_of_joined hash.size group (replicate (size - length (concat group)) 0) (j % h) whole inside
    ∙ (get_or-take h (drop (j / h * h) digests) (j % h) [] low
    ∙ (get_or-drop (j / h * h) digests (j % h) []
    ∙ (ap (λ (x : ℕ). get_or digests x []) split ∙ get_or-map (salted hash salt) blocks j [] [] within))))

-- what is left of two numbers, each with the same added
same_rest : (a b c d size : ℕ) → c ≡ a + size → size + b ≡ d → a - b ≡ c - d
same_rest a b c d size first second = omega arith

-- a full group and the groups after it
full_group : (hash : Hash) (size : ℕ) (digests behind : List (List ℕ)) (others : List ℕ) → 0 < fan_out hash size →
    fan_out hash size * hash.size ≡ size →
    All (λ digest. length digest ≡ hash.size) digests → fan_out hash size < length digests → behind ≡ drop (fan_out hash size) digests →
    others ≡ concat behind ++ replicate (div_ceil (length behind) (fan_out hash size) * size - length (concat behind)) 0 →
    filled size (concat (take (fan_out hash size) digests)) ++ others
    ≡ concat digests ++ replicate (div_ceil (length digests) (fan_out hash size) * size - length (concat digests)) 0
unfolding filled
full_group hash size digests behind others positive even whole above is more =
    let h = fan_out hash size in
    let group = take h digests in
    let count : length group ≡ h = omega (arith, length-take h digests) in
    let bytes : length (concat group) ≡ length group * hash.size =
    length-concat_same hash.size group (All-take (λ digest. length digest ≡ hash.size) h digests whole) in
    let exact : length (concat group) ≡ size = bytes ∙ (ap (λ (x : ℕ). x * hash.size) count ∙ even) in
    let room : size - length (concat group) ≡ 0 = omega arith in
    let full : filled size (concat group) ≡ concat group =
    ap (λ (x : ℕ). concat group ++ replicate x 0) room ∙ append-nil (concat group) in
    let joined : concat group ++ concat behind ≡ concat digests =
    ap (λ xs. concat group ++ concat xs) is
    ∙ (sym (concat-append group (drop h digests)) ∙ ap concat (take-append-drop h digests)) in
    let lengths : length (concat group) + length (concat behind) ≡ length (concat digests) =
    sym (length-append (concat group) (concat behind)) ∙ ap length joined in
    let left : length behind ≡ length digests - h = ap length is ∙ length-drop h digests in
    let ceiling : div_ceil (length digests) h ≡ suc (div_ceil (length behind) h) =
    div_ceil_more (length digests) h positive (omega arith) ∙ ap (λ (x : ℕ). suc (div_ceil x h)) (sym left) in
    let product : div_ceil (length digests) h * size ≡ div_ceil (length behind) h * size + size =
    ap (λ (x : ℕ). x * size) ceiling ∙ suc-mul (div_ceil (length behind) h) size in
    let zeros : div_ceil (length behind) h * size - length (concat behind)
    ≡ div_ceil (length digests) h * size - length (concat digests) =
    same_rest (div_ceil (length behind) h * size) (length (concat behind)) (div_ceil (length digests) h * size)
    (length (concat digests)) size product (omega arith) in
    ap (λ xs. xs ++ others) full
    ∙ (ap (λ xs. concat group ++ xs) more
    ∙ (sym (append_assoc (concat group) (concat behind)
    (replicate (div_ceil (length behind) h * size - length (concat behind)) 0))
    ∙ (ap (λ xs. xs ++ replicate (div_ceil (length behind) h * size - length (concat behind)) 0) joined
    ∙ ap (λ (x : ℕ). concat digests ++ replicate x 0) zeros)))

-- digests that are cut into groups, each group filled: the digests, and zeros up to whole blocks
filled_groups : (hash : Hash) (steps size : ℕ) (digests : List (List ℕ)) → length digests ≤ steps → 0 < fan_out hash size →
    fan_out hash size * hash.size ≡ size →
    All (λ digest. length digest ≡ hash.size) digests →
    concat (map (λ group. filled size (concat group)) (chunks (fan_out hash size) digests))
    ≡ concat digests ++ replicate (div_ceil (length digests) (fan_out hash size) * size - length (concat digests)) 0
unfolding filled
filled_groups hash steps size [] few positive even whole =
    let none = div_ceil_none (fan_out hash size) positive in
    let product : div_ceil 0 (fan_out hash size) * size ≡ 0 * size = ap (λ (x : ℕ). x * size) none in
    let zeros : 0 ≡ div_ceil 0 (fan_out hash size) * size - 0 = omega arith in
    ap (λ groups. concat (map (λ group. filled size (concat group)) groups)) (chunks_none (fan_out hash size) [] positive
    refl)
    ∙ ap (λ (x : ℕ). replicate x 0) zeros
filled_groups hash zero size (digest ∷ digests) few positive even whole = absurd (omega arith)
filled_groups hash (suc steps) size (digest ∷ digests) few positive even whole =
    let all : List (List ℕ) = digest ∷ digests in
    let h = fan_out hash size in
    elim (cases_lt h (length all)) [
      | inl above ↦
          let more = filled_groups hash steps size (drop h all) (omega (arith, length-drop h all)) positive even
          (All-drop (λ d. length d ≡ hash.size) h all whole) in
          ap (λ groups. concat (map (λ group. filled size (concat group)) groups))
          (chunks_more h all positive (omega arith))
          ∙ full_group hash size all (drop h all)
          (concat (map (λ group. filled size (concat group)) (chunks h (drop h all))))
          positive even whole above refl more
      | inr within ↦
          let one = div_ceil_one (length all) h (omega arith) within in
          let product : div_ceil (length all) h * size ≡ 1 * size = ap (λ (x : ℕ). x * size) one in
          let zeros : size - length (concat all) ≡ div_ceil (length all) h * size - length (concat all) =
          ap (λ (x : ℕ). x - length (concat all)) (omega arith) in
          ap (λ groups. concat (map (λ group. filled size (concat group)) groups)) (chunks_one h all (omega arith)
          within)
          ∙ (append-nil (filled size (concat all))
          ∙ ap (λ (x : ℕ). concat all ++ replicate x 0) zeros)
    ]

-- the bytes of the hash blocks, where they are full but for the last: the digests, and zeros up to whole blocks
pub concat-hash_blocks : (hash : Hash) (size : ℕ) (salt : List ℕ) (blocks : List (List ℕ)) → 0 < fan_out hash size →
    fan_out hash size * hash.size ≡ size →
    concat (hash_blocks hash size salt blocks)
    ≡ concat (map (salted hash salt) blocks) ++ replicate (div_ceil (length blocks) (fan_out hash size) * size - length blocks *
    hash.size) 0
unfolding hash_blocks
concat-hash_blocks hash size salt blocks positive even =
    let digests = map (salted hash salt) blocks in
    let count : length digests ≡ length blocks = length-map blocks (salted hash salt) in
    let whole = digests_whole hash salt blocks in
    filled_groups hash (length digests) size digests (omega arith) positive even whole
    ∙ ap (λ (x : ℕ). concat digests ++ replicate x 0) (ap (λ (x : ℕ). div_ceil x (fan_out hash size) * size - length
    (concat digests)) count
    ∙ ap (λ (x : ℕ). div_ceil (length blocks) (fan_out hash size) * size - x) (length-concat_same hash.size digests whole
    ∙ ap (λ (x : ℕ). x * hash.size) count))
