-- How many of some truth values are true.
use Rattle.std.proofs.Common.{◌≡◌, ℕ, zero, suc, ◌+◌, ◌<◌, ◌≤◌, Bool, true, false, List, [], ◌∷◌, length, take, get_or, refl, ap, ◌∙◌, arith}
use Rattle.ipe_gate_rule.specs.Active.{bit}
use Rattle.ipe_gate.specs.Slots.{bound_count}

take_next : (bs : List Bool) (n : ℕ) → n < length bs
    → bound_count (take (suc n) bs) ≡ bound_count (take n bs) + bit (get_or bs n false)
take_next [] n lt = absurd (omega arith)
take_next (b ∷ bs) zero lt = omega arith
take_next (b ∷ bs) (suc n) lt = let a = take_next bs n (omega arith) in omega arith

-- one more value raises the number by one exactly where it is true
pub count_next : (bs : List Bool) (n : ℕ) → n < length bs
    → (get_or bs n false ≡ true → bound_count (take (n + 1) bs) ≡ bound_count (take n bs) + 1)
    × (get_or bs n false ≡ false → bound_count (take (n + 1) bs) ≡ bound_count (take n bs))
count_next bs n lt =
    let e : n + 1 ≡ suc n = omega arith in
    let a = ap (λ m. bound_count (take m bs)) e ∙ take_next bs n lt in (
      (λ is. let z : bit (get_or bs n false) ≡ 1 = ap bit is in omega arith),
      (λ is. let z : bit (get_or bs n false) ≡ 0 = ap bit is in omega arith),
    )

pub count_few : (bs : List Bool) (n : ℕ) → bound_count (take n bs) ≤ n
count_few bs zero = omega arith
count_few [] (suc n) = omega arith
count_few (true ∷ bs) (suc n) = let a = count_few bs n in omega arith
count_few (false ∷ bs) (suc n) = let a = count_few bs n in omega arith

pub count_whole : (bs : List Bool) (n : ℕ) → length bs ≤ n → bound_count (take n bs) ≡ bound_count bs
count_whole [] zero le = refl
count_whole [] (suc n) le = refl
count_whole (b ∷ bs) zero le = absurd (omega arith)
count_whole (b ∷ bs) (suc n) le = ap (λ m. bit b + m) (count_whole bs n (omega arith))
