-- The shape of a tree, level by level.
use Rattle.std.proofs.Common.{◌≡◌, ℕ, zero, suc, ◌+◌, ◌-◌, ◌/◌, ◌^◌, ◌<◌, ◌≤◌, ap, refl, sym, ◌∙◌, subst, arith, inl, inr}
use Rattle.std.specs.Int.{div_ceil}
use Rattle.std.proofs.lemmas.Bool.{cases_lt, cases_eq}
use Rattle.std.proofs.lemmas.List.FromFn.{sum_by-map-range_with_len_more}
use Rattle.std.proofs.lemmas.Nat.{le-div, mul-le}
use Rattle.std.proofs.Math.Nat.{div-eq_of_lt, div-mul-le_self, pow-le-pow_left, pow-le-pow_right}
use Rattle.hash_tree.specs.Shape.{IsHeight, height, height_within, level_blocks, blocks_above, tree_blocks}
use Rattle.hash_tree.proofs.Shapes.{height_least, same_height}
use Rattle.hash_tree.proofs.Numbers.{div_ceil_is, div_ceil_power_then, div_ceil_by_one, power_some}

-- a level of the tree over n blocks, where each hash block has h digests: its number, its blocks, and those from
-- level 1 to it
pub record AtLevel (h n k level above : ℕ) : Type 0 where
  pub level_is : level ≡ level_blocks h n k
  pub above_is : above ≡ blocks_above h n k
  pub least : (fewer : ℕ) → fewer < k → 0 < (n - 1) / h ^ fewer
  pub bound : above + level ≤ n

pub at_first : (h n : ℕ) → 0 < n → AtLevel h n 0 n 0
unfolding blocks_above
at_first h n some = record {
  level_is = sym (div_ceil_by_one n h some);
  above_is = refl;
  least = λ fewer below. absurd (omega arith);
  bound = omega arith;
}

above_none : (h n : ℕ) → blocks_above h n 0 ≡ 0
unfolding blocks_above
above_none h n = refl

above_next : (h n k : ℕ) → blocks_above h n (k + 1) ≡ blocks_above h n k + level_blocks h n (k + 1)
unfolding blocks_above
above_next h n k = sum_by-map-range_with_len_more (λ x. x) (level_blocks h n) 1 k (k + 1) (omega arith)

pub above_more : (h n k : ℕ) → blocks_above h n (suc k) ≡ blocks_above h n k + level_blocks h n (suc k)
above_more h n k =
    let step : k + 1 ≡ suc k = omega arith in
    subst (λ (x : ℕ). blocks_above h n x ≡ blocks_above h n k + level_blocks h n x) step (above_next h n k)

least_more : (h n k : ℕ) → ((fewer : ℕ) → fewer < k → 0 < (n - 1) / h ^ fewer) → 0 < (n - 1) / h ^ k →
    (fewer : ℕ) → fewer < k + 1 → 0 < (n - 1) / h ^ fewer
least_more h n k least here fewer below = elim (cases_eq fewer k) [
  | inl same ↦ subst (λ (x : ℕ). 0 < (n - 1) / h ^ x) (sym same) here
  | inr other ↦ least fewer (omega arith)
]

-- above a level of two blocks and more the quotient isn't 0 yet
pub not_yet : (h n k level : ℕ) → 0 < h → 0 < n → level ≡ level_blocks h n k → 1 < level → 0 < (n - 1) / h ^ k
not_yet h n k level positive some is more = omega (arith, div_ceil_is n (h ^ k) (power_some h k positive) some)

-- at a level of one block the tree ends
pub at_last : (h n k level above : ℕ) → 2 ≤ h → 0 < n → AtLevel h n k level above → level ≤ 1 →
    (k ≡ height h n) × (above ≡ tree_blocks h n)
at_last h n k level above many some at one =
    let power = power_some h k (omega arith) in
    let high : IsHeight h n k = record {
      holds_all = omega (arith, at.level_is, div_ceil_is n (h ^ k) power some);
      least = at.least;
    } in
    let same = same_height h n k (height h n) high (height_least h n many some) in
    (same, at.above_is ∙ ap (λ (x : ℕ). blocks_above h n x) same)

-- a level over at least four blocks' worth has at most half as many
halved : (h level next : ℕ) → 4 ≤ h → 1 < level → next ≡ div_ceil level h → next + next ≤ level
halved h level next wide more is =
    let ceiling = div_ceil_is level h (omega arith) (omega arith) in
    let quarter : (level - 1) / h ≤ (level - 1) / 4 =
    le-div ((level - 1) / h) (level - 1) 4 (omega arith) (omega (
      arith,
      div-mul-le_self (level - 1) h,
      mul-le ((level - 1) / h) 4 ((level - 1) / h) h (omega arith) wide,
    )) in
    omega (arith, ceiling)

pub at_next : (h n k level above next : ℕ) → 4 ≤ h → 0 < n → AtLevel h n k level above → 1 < level →
    next ≡ div_ceil level h →
    AtLevel h n (k + 1) next (above + next)
at_next h n k level above next wide some at more is =
    let step : suc k ≡ k + 1 = omega arith in
    let next_is : next ≡ level_blocks h n (k + 1) = is ∙ (ap (λ (x : ℕ). div_ceil x h) at.level_is
    ∙ (div_ceil_power_then n h k (omega arith) some ∙ ap (λ (x : ℕ). div_ceil n (h ^ x)) step)) in
    let half : next + next ≤ level = halved h level next wide more is in
    let above_is : above ≡ blocks_above h n k = at.above_is in
    let bound : above + level ≤ n = at.bound in
    record {
      level_is = next_is;
      above_is = omega (arith, above_next h n k);
      least = least_more h n k at.least (not_yet h n k level (omega arith) some at.level_is more);
      bound = omega arith;
    }

-- 16,777,216 blocks have few levels
pub few_levels : (h n k : ℕ) → 4 ≤ h → n ≤ 16777216 → 0 < (n - 1) / h ^ k → k < 12
few_levels h n k wide few some = elim (cases_lt k 12) [
  | inl below ↦ below
  | inr from ↦
      let fours : 4 ^ 12 ≤ 4 ^ k = pow-le-pow_right (omega arith) from in
      let powers : 4 ^ k ≤ h ^ k = pow-le-pow_left wide k in
      let none : (n - 1) / h ^ k ≡ 0 = div-eq_of_lt (omega arith) in
      absurd (omega arith)
]

-- each level up to the highest, in numbers
pub at_level : (h n k : ℕ) → 4 ≤ h → 0 < n → k ≤ height h n →
    AtLevel h n k (level_blocks h n k) (blocks_above h n k)
at_level h n zero wide some within =
    subst (λ (x : ℕ). AtLevel h n 0 x (blocks_above h n 0)) (sym (div_ceil_by_one n h some))
    (subst (λ (x : ℕ). AtLevel h n 0 n x) (sym (above_none h n)) (at_first h n some))
at_level h n (suc k) wide some within =
    let high : IsHeight h n (height h n) = height_least h n (omega arith) some in
    let more : 0 < (n - 1) / h ^ k = high.least k (omega arith) in
    let here = at_level h n k wide some (omega arith) in
    let ceiling = div_ceil_is n (h ^ k) (power_some h k (omega arith)) some in
    let level = level_blocks h n k in
    let next = at_next h n k level (blocks_above h n k) (div_ceil level h) wide some here (omega (arith, ceiling)) refl in
    let step : k + 1 ≡ suc k = omega arith in
    let level_is : div_ceil level h ≡ level_blocks h n (suc k) = div_ceil_power_then n h k (omega arith) some in
    let above_is : blocks_above h n k + div_ceil level h ≡ blocks_above h n (suc k) =
    ap (λ (x : ℕ). blocks_above h n k + x) level_is
    ∙ sym (above_more h n k) in
    subst (λ (x : ℕ). AtLevel h n (suc k) (level_blocks h n (suc k)) x) above_is
    (subst (λ (x : ℕ). AtLevel h n (suc k) x (blocks_above h n k + div_ceil level h)) level_is
    (subst (λ (x : ℕ). AtLevel h n x (div_ceil level h) (blocks_above h n k + div_ceil level h)) step next))

-- a tree has fewer hash blocks than blocks
pub fewer_above : (h n : ℕ) → 4 ≤ h → 0 < n → tree_blocks h n < n
fewer_above h n wide some =
    let top = height h n in
    let at = at_level h n top wide some (omega arith) in
    let ceiling = div_ceil_is n (h ^ top) (power_some h top (omega arith)) some in
    omega (arith, at.bound, ceiling)

-- 16,777,216 blocks have at most 12 levels above them
pub low_height : (h n : ℕ) → 4 ≤ h → 0 < n → n ≤ 16777216 → height h n ≤ 12
low_height h n wide some few = elim (cases_lt 12 (height h n)) [
  | inl above ↦
      let high : IsHeight h n (height h n) = height_least h n (omega arith) some in
      let low = few_levels h n 12 wide few (high.least 12 above) in
      absurd (omega arith)
  | inr within ↦ within
]

-- over no blocks there are none
pub none_over : (h : ℕ) → tree_blocks h 0 ≡ 0
unfolding blocks_above height height_within
none_over h = refl

pub none_high : (h : ℕ) → height h 0 ≡ 0
unfolding height height_within
none_high h = refl
