-- Lists cut into groups.
use Rattle.std.proofs.Common.{◌≡◌, ℕ, zero, suc, ◌+◌, ◌-◌, ◌*◌, ◌<◌, ◌≤◌, List, [], ◌∷◌, ◌++◌, length, map, take, drop, get_or, ap, refl, sym, ◌∙◌, arith}
use Rattle.std.specs.Int.{div_ceil}
use Rattle.std.specs.List.{range_with_len, concat}
use Rattle.std.specs.Prelude.{All}
use Rattle.std.specs.Fork.{slice_chunk}
use Rattle.std.proofs.lemmas.List.{drop-drop, length-drop, length-take, length-append, take_at, drop_at, take_all}
use Rattle.std.proofs.lemmas.List.Elements.{All-nil, All-cons, All-head, All-tail, All-same}
use Rattle.std.proofs.Math.Nat.{suc-mul}
use Rattle.std.proofs.lemmas.List.FromFn.{length-map-range_with_len, get_or-map-range_with_len}
use Rattle.hash_tree.specs.Chunks.{chunks}
use Rattle.hash_tree.proofs.Numbers.{div_ceil_none, div_ceil_more}

-- two functions, one of which takes each number where the other takes the next one
shifted : {A : Type 0} (f g : ℕ → A) (a n : ℕ) → ((k : ℕ) → f (k + 1) ≡ g k) →
    map f (range_with_len (a + 1) n) ≡ map g (range_with_len a n)
shifted f g a zero each = refl
shifted f g a (suc n) each = let more = shifted f g (a + 1) n each in let here = each a in cc

-- nothing has no groups
pub chunks_none : {A : Type 0} (size : ℕ) (items : List A) → 0 < size → length items ≡ 0 → chunks size items ≡ []
unfolding chunks
chunks_none size items positive empty =
    let count : div_ceil (length items) size ≡ 0 = ap (λ (x : ℕ). div_ceil x size) empty
    ∙ div_ceil_none size positive in
    ap (λ (n : ℕ). map (slice_chunk items size) (range_with_len 0 n)) count

-- the place of the next group
place : (k size : ℕ) → (k + 1) * size ≡ size + k * size
place k size = omega arith

-- the first group of a list, and the groups of the rest
pub chunks_more : {A : Type 0} (size : ℕ) (items : List A) → 0 < size → 0 < length items →
    chunks size items ≡ take size items ∷ chunks size (drop size items)
unfolding chunks
chunks_more size items positive some =
    let rest : length (drop size items) ≡ length items - size = length-drop size items in
    let count : div_ceil (length items) size ≡ suc (div_ceil (length (drop size items)) size) =
    div_ceil_more (length items) size positive some ∙ ap (λ (x : ℕ). suc (div_ceil x size)) (sym rest) in
    let later = shifted (slice_chunk items size) (slice_chunk (drop size items) size) 0 (div_ceil (length (drop size
    items)) size)
    (λ k. ap (λ xs. take size xs) (ap (λ (x : ℕ). drop x items) (place k size)
    ∙ sym (drop-drop (k * size) size items))) in
    let front : 0 * size ≡ 0 = omega arith in
    ap (λ (n : ℕ). map (slice_chunk items size) (range_with_len 0 n)) count
    ∙ (ap (λ xs. take size (drop (0 * size) items) ∷ xs) later
    ∙ ap (λ (x : ℕ). take size (drop x items) ∷ map (slice_chunk (drop size items) size) (range_with_len 0 (div_ceil
    (length (drop size items)) size))) front)

-- how many groups there are
pub length-chunks : {A : Type 0} (size : ℕ) (items : List A) → length (chunks size items) ≡ div_ceil (length items) size
unfolding chunks
length-chunks size items = length-map-range_with_len (slice_chunk items size) 0 (div_ceil (length items) size)

-- group number k
pub get_or-chunks : {A : Type 0} (size : ℕ) (items : List A) (k : ℕ) (d : List A) → k < length (chunks size items) →
    get_or (chunks size items) k d ≡ take size (drop (k * size) items)
unfolding chunks
get_or-chunks size items k d within =
    get_or-map-range_with_len (slice_chunk items size) 0 (div_ceil (length items) size) k k d (omega (
      arith,
      length-chunks size items,
    )) (omega arith)

-- blocks of one size, joined and cut again
pub chunks-concat : (size : ℕ) (blocks : List (List ℕ)) → 0 < size → All (λ block. length block ≡ size) blocks →
    chunks size (concat blocks) ≡ blocks
chunks-concat size [] positive all = chunks_none size [] positive refl
chunks-concat size (block ∷ blocks) positive all =
    let here : length block ≡ size = All-head (λ b. length b ≡ size) block blocks all in
    let more = chunks-concat size blocks positive (All-tail (λ b. length b ≡ size) block blocks all) in
    let some : 0 < length (block ++ concat blocks) = omega (arith, length-append block (concat blocks)) in
    let first = take_at block (concat blocks) size here in
    let rest = drop_at block (concat blocks) size here in
    let cut = chunks_more size (block ++ concat blocks) positive some in
    cut ∙ (ap (λ xs. xs ∷ chunks size (drop size (block ++ concat blocks))) first
    ∙ ap (λ xs. block ∷ xs) (ap (λ xs. chunks size xs) rest ∙ more))

-- whole groups: their number, and the size of each
pub whole_count : {A : Type 0} (size n : ℕ) (items : List A) → 0 < size → length items ≡ n * size →
    length (chunks size items) ≡ n
whole_count size zero items positive count = ap length (chunks_none size items positive (omega arith))
whole_count size (suc n) items positive count =
    let product : suc n * size ≡ n * size + size = suc-mul n size in
    let rest = length-drop size items in
    let more = whole_count size n (drop size items) positive (omega (arith, rest)) in
    let cut = ap length (chunks_more size items positive (omega arith)) in
    omega (arith, more, cut)

pub whole_sizes : {A : Type 0} (size n : ℕ) (items : List A) → 0 < size → length items ≡ n * size →
    All (λ group. length group ≡ size) (chunks size items)
whole_sizes size zero items positive count =
    All-same (λ group. length group ≡ size) _ [] (chunks_none size items positive (omega arith)) (All-nil (λ group.
    length group ≡ size))
whole_sizes size (suc n) items positive count =
    let product : suc n * size ≡ n * size + size = suc-mul n size in
    let rest = length-drop size items in
    let more = whole_sizes size n (drop size items) positive (omega (arith, rest)) in
    let first : length (take size items) ≡ size = omega (arith, length-take size items) in
    All-same (λ group. length group ≡ size) _ _ (chunks_more size items positive (omega arith))
    (All-cons (λ group. length group ≡ size) (take size items) (chunks size (drop size items)) first more)

-- what fits one group is one
pub chunks_one : {A : Type 0} (size : ℕ) (items : List A) → 0 < length items → length items ≤ size →
    chunks size items ≡ items ∷ []
chunks_one size items some within =
    let rest = length-drop size items in
    chunks_more size items (omega arith) some
    ∙ (ap (λ xs. take size items ∷ xs) (chunks_none size (drop size items) (omega arith) (omega (arith, rest)))
    ∙ ap (λ xs. xs ∷ []) (take_all size items within))
