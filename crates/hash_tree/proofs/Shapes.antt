-- The shape of a tree.
use Rattle.std.proofs.Common.{◌≡◌, ℕ, zero, suc, ◌-◌, ◌/◌, ◌^◌, ◌<◌, ◌≤◌, List, [], length, get_or, leb, ap, refl, sym, ◌∙◌, subst, arith, inl, inr}
use Rattle.std.specs.Int.{div_ceil}
use Rattle.std.specs.Prelude.{All}
use Rattle.std.proofs.lemmas.Bool.{cases_lt, le-leb, lt-leb, cond-true, cond-false}
use Rattle.std.proofs.lemmas.List.Elements.{All-nil, All-cons, All-same}
use Rattle.std.proofs.Math.Nat.{div-eq_of_lt, div-one, pow-zero}
use Rattle.hash_tree.specs.Hash.{Hash}
use Rattle.hash_tree.specs.Tree.{fan_out, hash_blocks, levels}
use Rattle.hash_tree.specs.Shape.{IsHeight, height, height_within}
use Rattle.hash_tree.proofs.Numbers.{div_ceil_is, div_ceil_less, div_ceil_some, div_ceil_power, div_ceil_by_one, div_power_more, power_some}
use Rattle.hash_tree.proofs.HashBlocks.{length-hash_blocks, hash_blocks_sizes}
use Rattle.hash_tree.proofs.Levels.{hash_blocks_fewer, hash_blocks_some, levels_one, levels_more, levels_first, levels_some}

-- the height over one block, and over more
pub height_one : (h n : ℕ) → 0 < h → n ≤ 1 → IsHeight h n 0
height_one h n positive one = record {
  holds_all =
      let none : n - 1 ≡ 0 = omega arith in
      ap (λ (x : ℕ). x / h ^ 0) none ∙ div-eq_of_lt (power_some h 0 positive);
  least = λ fewer below. absurd (omega arith);
}

least_more : (h n m L : ℕ) → 2 ≤ n → m - 1 ≡ (n - 1) / h → ((fewer : ℕ) → fewer < L → 0 < (m - 1) / h ^ fewer) →
    (fewer : ℕ) → fewer < suc L → 0 < (n - 1) / h ^ fewer
least_more h n m L many next least zero below =
    let quotient : (n - 1) / h ^ 0 ≡ n - 1 = ap (λ (x : ℕ). (n - 1) / x) (pow-zero h) ∙ div-one (n - 1) in
    omega arith
least_more h n m L many next least (suc fewer) below =
    let here : 0 < (m - 1) / h ^ fewer = least fewer (omega arith) in
    let quotient : (n - 1) / h ^ suc fewer ≡ (m - 1) / h ^ fewer =
    div_power_more (n - 1) h fewer ∙ ap (λ (x : ℕ). x / h ^ fewer) (sym next) in
    omega arith

pub height_more : (h n m L : ℕ) → 0 < h → 2 ≤ n → m ≡ div_ceil n h → IsHeight h m L → IsHeight h n (suc L)
height_more h n m L positive many is height =
    let next : m - 1 ≡ (n - 1) / h = omega (arith, is, div_ceil_is n h positive (omega arith)) in
    record {
      holds_all = div_power_more (n - 1) h L ∙ (ap (λ (x : ℕ). x / h ^ L) (sym next) ∙ height.holds_all);
      least = least_more h n m L many next height.least;
    }

-- the levels above the data are as many as the height
height_steps : (hash : Hash) (steps size : ℕ) (salt : List ℕ) (blocks : List (List ℕ)) → length blocks ≤ steps →
    2 ≤ fan_out hash size → 0 < length blocks →
    IsHeight (fan_out hash size) (length blocks) (length (levels hash size salt blocks) - 1)
height_steps hash zero size salt blocks few many some = absurd (omega arith)
height_steps hash (suc steps) size salt blocks few many some =
    let next = hash_blocks hash size salt blocks in
    elim (cases_lt 1 (length blocks)) [
      | inl more ↦
          let fewer = hash_blocks_fewer hash size salt blocks many more in
          let above = height_steps hash steps size salt next (omega (
            arith,
            fewer,
          )) many (hash_blocks_some hash size salt blocks many some) in
          let here : IsHeight (fan_out hash size) (length blocks) (suc (length (levels hash size salt next) - 1)) =
          height_more (fan_out hash size) (length blocks) (length next) (length (levels hash size salt next) - 1) (omega arith)
          more
          (length-hash_blocks hash size salt blocks) above in
          let count : length (levels hash size salt blocks) ≡ suc (length (levels hash size salt next)) =
          ap length (levels_more hash size salt blocks many more) in
          subst (λ (x : ℕ). IsHeight (fan_out hash size) (length blocks) x) (omega (
            arith,
            count,
            levels_some hash size salt next,
          )) here
      | inr one ↦
          let count : length (levels hash size salt blocks) ≡ 1 = ap length (levels_one hash size salt blocks one) in
          subst (λ (x : ℕ). IsHeight (fan_out hash size) (length blocks) x) (omega arith) (height_one (fan_out hash size)
          (length blocks) (omega arith) one)
    ]

-- the height of a tree is one alone
pub same_height : (h n L M : ℕ) → IsHeight h n L → IsHeight h n M → L ≡ M
same_height h n L M first second = elim (cases_lt L M) [
  | inl below ↦
      let more : 0 < (n - 1) / h ^ L = second.least L below in
      let none : (n - 1) / h ^ L ≡ 0 = first.holds_all in
      absurd (omega arith)
  | inr from ↦ elim (cases_lt M L) [
    | inl below ↦
        let more : 0 < (n - 1) / h ^ M = first.least M below in
        let none : (n - 1) / h ^ M ≡ 0 = second.holds_all in
        absurd (omega arith)
    | inr other ↦ omega arith
  ]
]

-- the height, as it is counted, is the least number of levels
least_within : (steps h n : ℕ) → n ≤ steps → 2 ≤ h → 1 ≤ n → IsHeight h n (height_within steps h n)
unfolding height_within
least_within zero h n few many some = absurd (omega arith)
least_within (suc steps) h n few many some =
    let next = div_ceil n h in
    let more_levels = suc (height_within steps h next) in
    elim (cases_lt 1 n) [
      | inl more ↦
          let above = least_within steps h next (omega (arith, div_ceil_less n h many more)) many (div_ceil_some n h
          (omega arith) some) in
          subst (λ (x : ℕ). IsHeight h n x) (sym (cond-false (leb n 1) 0 more_levels (lt-leb n 1 more)))
          (height_more h n next (height_within steps h next) (omega arith) more refl above)
      | inr one ↦
          subst (λ (x : ℕ). IsHeight h n x) (sym (cond-true (leb n 1) 0 more_levels (le-leb n 1 one)))
          (height_one h n (omega arith) one)
    ]

pub height_least : (h n : ℕ) → 2 ≤ h → 1 ≤ n → IsHeight h n (height h n)
unfolding height
height_least h n many some = least_within n h n (omega arith) many some

pub levels_height : (hash : Hash) (size : ℕ) (salt : List ℕ) (blocks : List (List ℕ)) → 2 ≤ fan_out hash size → 0 < length blocks →
    IsHeight (fan_out hash size) (length blocks) (length (levels hash size salt blocks) - 1)
levels_height hash size salt blocks many some = height_steps hash (length blocks) size salt blocks (omega arith) many some

pub levels_count : (hash : Hash) (size : ℕ) (salt : List ℕ) (blocks : List (List ℕ)) → 2 ≤ fan_out hash size →
    0 < length blocks → length (levels hash size salt blocks) ≡ suc (height (fan_out hash size) (length blocks))
levels_count hash size salt blocks many some =
    let h = fan_out hash size in
    let same = same_height h (length blocks) (length (levels hash size salt blocks) - 1) (height h (length blocks))
    (levels_height hash size salt blocks many some) (height_least h (length blocks) many some) in
    omega (arith, same, levels_some hash size salt blocks)

-- how many blocks each level has
lengths_within : (hash : Hash) (steps size : ℕ) (salt : List ℕ) (blocks : List (List ℕ)) (k : ℕ) → length blocks ≤ steps →
    2 ≤ fan_out hash size → 0 < length blocks →
    k < length (levels hash size salt blocks) →
    length (get_or (levels hash size salt blocks) k []) ≡ div_ceil (length blocks) (fan_out hash size ^ k)
lengths_within hash steps size salt blocks zero few many some within =
    ap (λ all. length (get_or all 0 [])) (levels_first hash size salt blocks)
    ∙ sym (div_ceil_by_one (length blocks) (fan_out hash size) some)
lengths_within hash zero size salt blocks (suc k) few many some within = absurd (omega arith)
lengths_within hash (suc steps) size salt blocks (suc k) few many some within =
    let next = hash_blocks hash size salt blocks in
    elim (cases_lt 1 (length blocks)) [
      | inl more ↦
          let fewer = hash_blocks_fewer hash size salt blocks many more in
          let count : length (levels hash size salt blocks) ≡ suc (length (levels hash size salt next)) =
          ap length (levels_more hash size salt blocks many more) in
          let above = lengths_within hash steps size salt next k (omega (
            arith,
            fewer,
          )) many (hash_blocks_some hash size salt blocks many some) (omega arith) in
          ap (λ all. length (get_or all (suc k) [])) (levels_more hash size salt blocks many more)
          ∙ (above
          ∙ (ap (λ (x : ℕ). div_ceil x (fan_out hash size ^ k)) (length-hash_blocks hash size salt blocks)
          ∙ div_ceil_power (length blocks) (fan_out hash size) k (omega arith) some))
      | inr one ↦
          let count : length (levels hash size salt blocks) ≡ 1 = ap length (levels_one hash size salt blocks one) in
          absurd (omega arith)
    ]

pub levels_lengths : (hash : Hash) (size : ℕ) (salt : List ℕ) (blocks : List (List ℕ)) (k : ℕ) → 2 ≤ fan_out hash size →
    0 < length blocks →
    k < length (levels hash size salt blocks) →
    length (get_or (levels hash size salt blocks) k []) ≡ div_ceil (length blocks) (fan_out hash size ^ k)
levels_lengths hash size salt blocks k many some within =
    lengths_within hash (length blocks) size salt blocks k (omega arith) many some within

-- each block of each level has the size
sizes_within : (hash : Hash) (steps size : ℕ) (salt : List ℕ) (blocks : List (List ℕ)) → length blocks ≤ steps → 2 ≤ fan_out hash size →
    All (λ block. length block ≡ size) blocks → All (All (λ block. length block ≡ size)) (levels hash size salt blocks)
sizes_within hash zero size salt blocks few many all =
    All-same (All (λ block. length block ≡ size)) _ _ (levels_one hash size salt blocks (omega arith))
    (All-cons (All (λ block. length block ≡ size)) blocks [] all (All-nil (All (λ block. length block ≡ size))))
sizes_within hash (suc steps) size salt blocks few many all =
    let next = hash_blocks hash size salt blocks in
    elim (cases_lt 1 (length blocks)) [
      | inl more ↦
          let fewer = hash_blocks_fewer hash size salt blocks many more in
          let above = sizes_within hash steps size salt next (omega (
            arith,
            fewer,
          )) many (hash_blocks_sizes hash size salt blocks) in
          All-same (All (λ block. length block ≡ size)) _ _ (levels_more hash size salt blocks many more)
          (All-cons (All (λ block. length block ≡ size)) blocks (levels hash size salt next) all above)
      | inr one ↦
          All-same (All (λ block. length block ≡ size)) _ _ (levels_one hash size salt blocks one)
          (All-cons (All (λ block. length block ≡ size)) blocks [] all (All-nil (All (λ block. length block ≡ size))))
    ]

pub levels_sizes : (hash : Hash) (size : ℕ) (salt : List ℕ) (blocks : List (List ℕ)) → 2 ≤ fan_out hash size →
    All (λ block. length block ≡ size) blocks → All (All (λ block. length block ≡ size)) (levels hash size salt blocks)
levels_sizes hash size salt blocks many all = sizes_within hash (length blocks) size salt blocks (omega arith) many all

-- each next level is the hash blocks over the one before
next_within : (hash : Hash) (steps size : ℕ) (salt : List ℕ) (blocks : List (List ℕ)) (k : ℕ) → length blocks ≤ steps →
    2 ≤ fan_out hash size →
    suc k < length (levels hash size salt blocks) →
    get_or (levels hash size salt blocks) (suc k) [] ≡ hash_blocks hash size salt (get_or (levels hash size salt blocks) k [])
next_within hash zero size salt blocks k few many within =
    let count : length (levels hash size salt blocks) ≡ 1 = ap length (levels_one hash size salt blocks (omega arith)) in
    absurd (omega arith)
next_within hash (suc steps) size salt blocks zero few many within =
    let next = hash_blocks hash size salt blocks in
    elim (cases_lt 1 (length blocks)) [
      | inl more ↦
          ap (λ all. get_or all 1 []) (levels_more hash size salt blocks many more)
          ∙ (ap (λ all. get_or all 0 []) (levels_first hash size salt next)
          ∙ ap (λ all. hash_blocks hash size salt (get_or all 0 [])) (sym (levels_first hash size salt blocks)))
      | inr one ↦
          let count : length (levels hash size salt blocks) ≡ 1 = ap length (levels_one hash size salt blocks one) in
          absurd (omega arith)
    ]
next_within hash (suc steps) size salt blocks (suc k) few many within =
    let next = hash_blocks hash size salt blocks in
    elim (cases_lt 1 (length blocks)) [
      | inl more ↦
          let fewer = hash_blocks_fewer hash size salt blocks many more in
          let count : length (levels hash size salt blocks) ≡ suc (length (levels hash size salt next)) =
          ap length (levels_more hash size salt blocks many more) in
          ap (λ all. get_or all (suc (suc k)) []) (levels_more hash size salt blocks many more)
          ∙ (next_within hash steps size salt next k (omega (arith, fewer)) many (omega arith)
          ∙ ap (λ all. hash_blocks hash size salt (get_or all (suc k) [])) (sym (levels_more hash size salt blocks many more)))
      | inr one ↦
          let count : length (levels hash size salt blocks) ≡ 1 = ap length (levels_one hash size salt blocks one) in
          absurd (omega arith)
    ]

pub levels_next : (hash : Hash) (size : ℕ) (salt : List ℕ) (blocks : List (List ℕ)) (k : ℕ) → 2 ≤ fan_out hash size →
    suc k < length (levels hash size salt blocks) →
    get_or (levels hash size salt blocks) (suc k) [] ≡ hash_blocks hash size salt (get_or (levels hash size salt blocks) k [])
levels_next hash size salt blocks k many within = next_within hash (length blocks) size salt blocks k (omega arith) many within
