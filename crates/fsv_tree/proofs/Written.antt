-- Bytes that are written row after row into zeros.
use Rattle.std.proofs.Common.{◌≡◌, ℕ, ◌+◌, ◌-◌, List, [], ◌∷◌, ◌++◌, length, take, drop, ap, refl, sym, ◌∙◌, arith}
use Rattle.std.specs.Int.{w64, to_le_bytes}
use Rattle.std.proofs.lemmas.List.{append_assoc, length-append, take_at, drop_at}
use borrow.Rule.Slice.PartMut.{put_mid}
use Rattle.hash_tree.specs.Tree.{filled}
use Rattle.fsv_tree.specs.Descriptor.{DescriptorParts, spelling, zeros}
use Rattle.fsv_tree.proofs.Zeros.{length-zeros, zeros-append, drop-zeros, filled_is, zeros_are}

-- the next row, after a gap that stays zeros
next_row : (done bytes row : List ℕ) (gap k m n a : ℕ) → bytes ≡ done ++ zeros n → length done + gap ≡ a →
    length row ≡ k → n ≡ gap + (k + m) → put_mid a k bytes row ≡ (done ++ (zeros gap ++ row)) ++ zeros m
next_row done bytes row gap k m n a is place size room =
    let parts : bytes ≡ (done ++ zeros gap) ++ (zeros k ++ zeros m) =
    is ∙ (ap (λ (x : ℕ). done ++ zeros x) room
    ∙ (ap (λ xs. done ++ xs) (sym (zeros-append gap (k + m)) ∙ ap (λ xs. zeros gap ++ xs) (sym (zeros-append k m)))
    ∙ sym (append_assoc done (zeros gap) (zeros k ++ zeros m)))) in
    let front : length (done ++ zeros gap) ≡ a = omega (arith, length-append done (zeros gap), length-zeros gap) in
    let first = ap (λ xs. take a xs) parts ∙ take_at (done ++ zeros gap) (zeros k ++ zeros m) a front in
    let behind = ap (λ xs. drop k xs) (ap (λ xs. drop a xs) parts ∙ drop_at (done ++ zeros gap) (zeros k ++ zeros m) a
    front) ∙ drop_at (zeros k) (zeros m) k (length-zeros k) in
    (λ i. first i ++ (row ++ behind i))
    ∙ simp append_assoc

regrouped : (h z l r y s e : List ℕ) →
    ((((h ++ (z ++ l)) ++ r) ++ (y ++ s)) ++ e) ≡ h ++ (z ++ (l ++ ((r ++ y) ++ (s ++ e))))
regrouped h z l r y s e = simp append_assoc

-- the four rows of a descriptor
pub written : (start front number root salt : List ℕ) (parts : DescriptorParts) → start ≡ zeros 256 →
    front ≡ 1 ∷ 1 ∷ parts.log ∷ length parts.salt ∷ [] → number ≡ to_le_bytes w64 parts.size → root ≡ parts.root →
    length parts.root ≡ 32 → salt ≡ filled 32 parts.salt → length salt ≡ 32 →
    put_mid 80 32 (put_mid 16 32 (put_mid 8 8 (front ++ drop 4 start) number) root) salt ≡ spelling parts
unfolding spelling
written start front number root salt parts zero front_is number_is root_is root_size salt_is salt_size =
    let x1 : front ++ drop 4 start ≡ front ++ zeros 252 =
    ap (λ xs. front ++ drop 4 xs) zero ∙ ap (λ xs. front ++ xs) (drop-zeros 4 256) in
    let l1 : length front ≡ 4 = ap length front_is in
    let ln : length number ≡ 8 = ap length number_is in
    let lr : length root ≡ 32 = ap length root_is ∙ root_size in
    let x2 = next_row front (front ++ drop 4 start) number 4 8 240 252 8 x1 (omega arith) ln refl in
    let d2 = front ++ (zeros 4 ++ number) in
    let l2 : length d2 ≡ 16 = omega (arith, length-append front (zeros 4 ++ number), length-append (zeros 4) number, length-zeros 4) in
    let x3 = next_row d2 (put_mid 8 8 (front ++ drop 4 start) number) root 0 32 208 240 16 x2 (omega arith) lr refl in
    let d3 = d2 ++ (zeros 0 ++ root) in
    let l3 : length d3 ≡ 48 = omega (arith, length-append d2 (zeros 0 ++ root), length-append (zeros 0) root, length-zeros 0) in
    let x4 = next_row d3 (put_mid 16 32 (put_mid 8 8 (front ++ drop 4 start) number) root) salt 32 32 144 208 80 x3 (omega arith) salt_size refl in
    let none : zeros 0 ++ root ≡ root = ap (λ xs. xs ++ root) (zeros_are 0) in
    let full : root ++ zeros 32 ≡ filled 64 parts.root =
    (λ i. root_is i ++ zeros 32) ∙ (ap (λ (x : ℕ). parts.root ++ zeros (64 - x)) (sym root_size) ∙ sym (filled_is 64 parts.root)) in
    x4 ∙ (ap (λ xs. ((d2 ++ xs) ++ (zeros 32 ++ salt)) ++ zeros 144) none
    ∙ (regrouped front (zeros 4) number root (zeros 32) salt (zeros 144)
    ∙ (λ i. front_is i ++ (zeros 4 ++ (number_is i ++ (full i ++ (salt_is i ++ zeros 144)))))))
