-- Checked paths.
use Rattle.std.proofs.Common.{◌≡◌, ℕ, zero, suc, ◌-◌, ◌/◌, ◌%◌, ◌^◌, ◌<◌, ◌≤◌, List, [], ◌∷◌, length, get_or, Option, Some, None, ap, refl, sym, ◌∙◌, subst, arith, inl, inr}
use Rattle.std.specs.Prelude.{bytes_eq, ◌⊎◌}
use Rattle.std.proofs.lemmas.Bool.{cases_Bool, cond-true, cond-false, both_ways}
use Rattle.std.proofs.lemmas.Option.{none-some}
use Rattle.std.proofs.lemmas.Slice.Eq.{bytes_eq-Decides}
use Rattle.hash_tree.specs.Hash.{Hash}
use Rattle.hash_tree.specs.Tree.{salted, fan_out, hash_blocks, levels, root}
use Rattle.hash_tree.specs.Path.{digest_in, path_below, path, first_failing, Collide, Shown}
use Rattle.hash_tree.proofs.Numbers.{div_below_ceil, div_power_then, power_some, div_ceil_is}
use Rattle.hash_tree.proofs.HashBlocks.{digest_over}
use Rattle.hash_tree.proofs.Levels.{levels_some, levels_first}
use Rattle.hash_tree.proofs.Shapes.{levels_lengths, levels_next, levels_height}
use Rattle.std.proofs.Math.Nat.{div-one, pow-zero}

-- a path whose digests are all the wanted ones: its first block has the one wanted, and so have those below it
record First (hash : Hash) (h : ℕ) (salt wanted : List ℕ) (i : ℕ) (block : List ℕ) (below : List (List ℕ)) : Type 0 where
  here : wanted ≡ salted hash salt block
  more : first_failing hash h salt (digest_in hash ((i / h ^ (length below - 1)) % h) block) i below ≡ None

first_right : (hash : Hash) (h : ℕ) (salt wanted : List ℕ) (i : ℕ) (block : List ℕ) (below : List (List ℕ)) →
    first_failing hash h salt wanted i (block ∷ below) ≡ None → First hash h salt wanted i block below
unfolding first_failing
first_right hash h salt wanted i block below right =
    let test = bytes_eq wanted (salted hash salt block) in
    let others = first_failing hash h salt (digest_in hash ((i / h ^ (length below - 1)) % h) block) i below in
    let failure : Option (ℕ × ℕ) = Some (length below, i / h ^ length below) in
    elim (cases_Bool test) [
      | inl holds ↦ record {
        here = (bytes_eq-Decides wanted (salted hash salt block)).0 holds;
        more = sym (cond-true test others failure holds) ∙ right;
      }
      | inr fails ↦ absurd (none-some (length below, i / h ^ length below) (sym right
          ∙ cond-false test others failure fails))
    ]

-- the last of a path's blocks
last_more : (block : List ℕ) (below : List (List ℕ)) → 0 < length below →
    get_or (block ∷ below) (length (block ∷ below) - 1) [] ≡ get_or below (length below - 1) []
last_more block below some =
    let step : suc (length below) - 1 ≡ suc (length below - 1) = omega arith in
    ap (λ (x : ℕ). get_or (block ∷ below) x []) step

-- two blocks with one digest are the same, or collide
same_or_collide : (hash : Hash) (salt a b : List ℕ) → salted hash salt a ≡ salted hash salt b → (a ≡ b) ⊎ Collide hash salt a b
same_or_collide hash salt a b digests = elim (cases_Bool (bytes_eq a b)) [
  | inl holds ↦ inl ((bytes_eq-Decides a b).0 holds)
  | inr fails ↦ inr ((λ same. both_ways (bytes_eq a b) fails ((bytes_eq-Decides a b).1 same)), digests)
]

-- the digest that the block over another has at its place
digest_below : (hash : Hash) (size : ℕ) (salt : List ℕ) (blocks : List (List ℕ)) (i k : ℕ) → 2 ≤ fan_out hash size → i < length blocks →
    suc k < length (levels hash size salt blocks) →
    digest_in hash ((i / fan_out hash size ^ k) % fan_out hash size) (get_or (get_or (levels hash size salt blocks) (suc k) []) (i /
    fan_out hash size ^ suc k) [])
    ≡ salted hash salt (get_or (get_or (levels hash size salt blocks) k []) (i / fan_out hash size ^ k) [])
digest_below hash size salt blocks i k many inside within =
    let h = fan_out hash size in
    let level = get_or (levels hash size salt blocks) k [] in
    let next = levels_next hash size salt blocks k many within in
    let step = div_power_then i h k in
    let low : i / h ^ k < length level = omega (
      arith,
      levels_lengths hash size salt blocks k many (omega arith) (omega arith),
      div_below_ceil i (length blocks) (h ^ k) (power_some h k (omega arith)) inside,
    ) in
    let above : i / h ^ suc k < length (get_or (levels hash size salt blocks) (suc k) []) =
    omega (
      arith,
      levels_lengths hash size salt blocks (suc k) many (omega arith) within,
      div_below_ceil i (length blocks) (h ^ suc k) (power_some h (suc k) (omega arith)) inside,
    ) in
    let over : i / h ^ k / h < length (hash_blocks hash size salt level) =
    omega (arith, step, ap (λ (x : List (List ℕ)). length x) next) in
    ap (λ xs. digest_in hash ((i / h ^ k) % h) (get_or xs (i / h ^ suc k) [])) next
    ∙ (ap (λ (x : ℕ). digest_in hash ((i / h ^ k) % h) (get_or (hash_blocks hash size salt level) x [])) step
    ∙ digest_over hash size salt level (i / h ^ k) (omega arith) low over)

-- from level k down
checked_below : (hash : Hash) (k size : ℕ) (salt : List ℕ) (blocks : List (List ℕ)) (i : ℕ) (wanted : List ℕ) (taken : List (List
    ℕ)) →
    2 ≤ fan_out hash size → i < length blocks → k < length (levels hash size salt blocks) →
    wanted ≡ salted hash salt (get_or (get_or (levels hash size salt blocks) k []) (i / fan_out hash size ^ k) []) →
    length taken ≡ suc k → first_failing hash (fan_out hash size) salt wanted i taken ≡ None →
    (get_or taken (length taken - 1) [] ≡ get_or (get_or (levels hash size salt blocks) 0 []) (i / fan_out hash size ^ 0) [])
    ⊎ Shown hash salt (path_below (fan_out hash size) (levels hash size salt blocks) i (suc k)) taken
unfolding path_below
checked_below hash k size salt blocks i wanted [] many inside within is shape right = absurd (omega arith)
checked_below hash zero size salt blocks i wanted (block ∷ below) many inside within is shape right =
    let first = first_right hash (fan_out hash size) salt wanted i block below right in
    let mine = get_or (get_or (levels hash size salt blocks) 0 []) (i / fan_out hash size ^ 0) [] in
    elim (same_or_collide hash salt mine block (sym is ∙ first.here)) [
      | inl same ↦
          let one : suc (length below) - 1 ≡ 0 = omega arith in
          inl (ap (λ (x : ℕ). get_or (block ∷ below) x []) one ∙ sym same)
      | inr collide ↦ inr (inl collide)
    ]
checked_below hash (suc k) size salt blocks i wanted (block ∷ below) many inside within is shape right =
    let h = fan_out hash size in
    let first = first_right hash h salt wanted i block below right in
    let mine = get_or (get_or (levels hash size salt blocks) (suc k) []) (i / h ^ suc k) [] in
    elim (same_or_collide hash salt mine block (sym is ∙ first.here)) [
      | inl same ↦
          let lower : length below - 1 ≡ k = omega arith in
          let next : digest_in hash ((i / h ^ (length below - 1)) % h) block ≡ salted hash salt (get_or (get_or (levels hash size
          salt blocks) k []) (i / h ^ k) []) =
          ap (λ (x : ℕ). digest_in hash ((i / h ^ x) % h) block) lower
          ∙ (ap (λ xs. digest_in hash ((i / h ^ k) % h) xs) (sym same)
          ∙ digest_below hash size salt blocks i k many inside within) in
          elim (checked_below hash k size salt blocks i (digest_in hash ((i / h ^ (length below - 1)) % h) block) below many
          inside (omega arith) next (omega arith) first.more) [
            | inl leads ↦ inl (last_more block below (omega arith) ∙ leads)
            | inr shown ↦ inr (inr (same, shown))
          ]
      | inr collide ↦ inr (inl collide)
    ]

length-path_below : (h : ℕ) (all : List (List (List ℕ))) (i count : ℕ) → length (path_below h all i count) ≡ count
unfolding path_below
length-path_below h all i zero = refl
length-path_below h all i (suc count) = ap suc (length-path_below h all i count)

-- a number below another, divided by what divides all below that other to 0
under_one : (i n d : ℕ) → 0 < d → i < n → (n - 1) / d ≡ 0 → i / d ≡ 0
under_one i n d positive inside none =
    let ceiling = div_ceil_is n d positive (omega arith) in
    omega (arith, ceiling, div_below_ceil i n d positive inside)

root_is : (hash : Hash) (size : ℕ) (salt : List ℕ) (blocks : List (List ℕ)) →
    root hash size salt blocks
    ≡ salted hash salt (get_or (get_or (levels hash size salt blocks) (length (levels hash size salt blocks) - 1) []) 0 [])
unfolding root
root_is hash size salt blocks = refl

-- the block of the lowest level is the image's
pub bottom : (hash : Hash) (size : ℕ) (salt : List ℕ) (blocks : List (List ℕ)) (i : ℕ) →
    get_or (get_or (levels hash size salt blocks) 0 []) (i / fan_out hash size ^ 0) [] ≡ get_or blocks i []
bottom hash size salt blocks i =
    let by_one : i / fan_out hash size ^ 0 ≡ i = ap (λ (x : ℕ). i / x) (pow-zero (fan_out hash size)) ∙ div-one i in
    ap (λ all. get_or (get_or all 0 []) (i / fan_out hash size ^ 0) []) (levels_first hash size salt blocks)
    ∙ ap (λ (x : ℕ). get_or blocks x []) by_one

-- the root is the digest of the highest block over block i
root_over : (hash : Hash) (size : ℕ) (salt : List ℕ) (blocks : List (List ℕ)) (i top : ℕ) → 2 ≤ fan_out hash size → i < length blocks →
    top ≡ length (levels hash size salt blocks) - 1 →
    root hash size salt blocks ≡ salted hash salt (get_or (get_or (levels hash size salt blocks) top []) (i / fan_out hash size ^ top) [])
root_over hash size salt blocks i top many inside last =
    let h = fan_out hash size in
    let all = levels hash size salt blocks in
    let height = levels_height hash size salt blocks many (omega arith) in
    let divides : (length blocks - 1) / h ^ top ≡ 0 =
    ap (λ (x : ℕ). (length blocks - 1) / h ^ x) last ∙ height.holds_all in
    let first : i / h ^ top ≡ 0 =
    under_one i (length blocks) (h ^ top) (power_some h top (omega arith)) inside divides in
    root_is hash size salt blocks
    ∙ (ap (λ (x : ℕ). salted hash salt (get_or (get_or all x []) 0 [])) (sym last)
    ∙ ap (λ (x : ℕ). salted hash salt (get_or (get_or all top []) x [])) (sym first))

-- a path that is as long as the image's, and whose digests are all the wanted ones
pub checked : (hash : Hash) (size : ℕ) (salt : List ℕ) (blocks : List (List ℕ)) (i : ℕ) (taken : List (List ℕ)) →
    2 ≤ fan_out hash size → i < length blocks → length taken ≡ length (path hash size salt blocks i) →
    first_failing hash (fan_out hash size) salt (root hash size salt blocks) i taken ≡ None →
    (get_or taken (length taken - 1) [] ≡ get_or blocks i []) ⊎ Shown hash salt (path hash size salt blocks i) taken
unfolding path
checked hash size salt blocks i taken many inside shape right =
    let h = fan_out hash size in
    let all = levels hash size salt blocks in
    let top = length all - 1 in
    let some : 0 < length all = levels_some hash size salt blocks in
    let count : length all ≡ suc top = omega arith in
    let wanted = root_over hash size salt blocks i top many inside refl in
    let size_of : length taken ≡ suc top = shape ∙ (length-path_below h all i (length all) ∙ count) in
    let below =
    checked_below hash top size salt blocks i (root hash size salt blocks) taken many inside (omega arith) wanted size_of
    right in
    elim below [
      | inl leads ↦ inl (leads ∙ bottom hash size salt blocks i)
      | inr shown ↦ inr (subst (λ (x : ℕ). Shown hash salt (path_below h all i x) taken) (sym count) shown)
    ]

-- the image's own path, from level k down
own_below : (hash : Hash) (k size : ℕ) (salt : List ℕ) (blocks : List (List ℕ)) (i : ℕ) (wanted : List ℕ) →
    2 ≤ fan_out hash size → i < length blocks → k < length (levels hash size salt blocks) →
    wanted ≡ salted hash salt (get_or (get_or (levels hash size salt blocks) k []) (i / fan_out hash size ^ k) []) →
    first_failing hash (fan_out hash size) salt wanted i (path_below (fan_out hash size) (levels hash size salt blocks) i (suc k)) ≡ None
unfolding path_below first_failing
own_below hash zero size salt blocks i wanted many inside within is =
    let block = get_or (get_or (levels hash size salt blocks) 0 []) (i / fan_out hash size ^ 0) [] in
    cond-true (bytes_eq wanted (salted hash salt block)) None (Some (0, i / fan_out hash size ^ 0))
    ((bytes_eq-Decides wanted (salted hash salt block)).1 is)
own_below hash (suc k) size salt blocks i wanted many inside within is =
    let h = fan_out hash size in
    let all = levels hash size salt blocks in
    let below = path_below h all i (suc k) in
    let block = get_or (get_or all (suc k) []) (i / h ^ suc k) [] in
    let next = digest_in hash ((i / h ^ (length below - 1)) % h) block in
    let lower : length below - 1 ≡ k = omega (arith, length-path_below h all i (suc k)) in
    let is_next : next ≡ salted hash salt (get_or (get_or all k []) (i / h ^ k) []) =
    ap (λ (x : ℕ). digest_in hash ((i / h ^ x) % h) block) lower
    ∙ digest_below hash size salt blocks i k many inside within in
    cond-true (bytes_eq wanted (salted hash salt block)) (first_failing hash h salt next i below)
    (Some (length below, i / h ^ length below)) ((bytes_eq-Decides wanted (salted hash salt block)).1 is)
    ∙ own_below hash k size salt blocks i next many inside (omega arith) is_next

-- the image's own path
pub own : (hash : Hash) (size : ℕ) (salt : List ℕ) (blocks : List (List ℕ)) (i : ℕ) → 2 ≤ fan_out hash size → i < length blocks →
    first_failing hash (fan_out hash size) salt (root hash size salt blocks) i (path hash size salt blocks i) ≡ None
unfolding path
own hash size salt blocks i many inside =
    let h = fan_out hash size in
    let all = levels hash size salt blocks in
    let top = length all - 1 in
    let some : 0 < length all = levels_some hash size salt blocks in
    let count : length all ≡ suc top = omega arith in
    ap (λ (x : ℕ). first_failing hash h salt (root hash size salt blocks) i (path_below h all i x)) count
    ∙ own_below hash top size salt blocks i (root hash size salt blocks) many inside (omega arith)
    (root_over hash size salt blocks i top many inside refl)
