-- What a checked read answers.
use Rattle.std.proofs.Common.{◌≡◌, ℕ, zero, suc, ◌+◌, ◌-◌, ◌<◌, ◌≤◌, List, [], ◌∷◌, ◌++◌, length, take, drop, get_or, Option, None, Some, Result, Ok, Err, ap, refl, sym, ◌∙◌, subst, arith, inl, inr}
use Rattle.std.specs.Prelude.{IfSome, IsErrOf, OnOk}
use Rattle.std.proofs.lemmas.List.{length-append, length-drop, take-append-drop, take_all}
use Rattle.std.proofs.lemmas.Option.{none-some}
use Rattle.blk_device.specs.Contents.{Contents, HasNone, content}
use Rattle.blk_device.specs.declared.devices.VerityError.{VerityError}
use Rattle.blk_device.specs.declared.devices.VerityError.TheVariants.{Corrupt, DeviceFault, Missing}
use Rattle.hash_tree.specs.Path.{first_failing, path, path_below}
use Rattle.hash_tree.specs.Hash.{Hash, hash_of}
use Rattle.hash_tree.specs.Shape.{height}
use Rattle.hash_tree.specs.Tree.{fan_out, levels, root}
use Rattle.hash_tree.specs.Law.{CheckedPathsLeadToTheImage, LevelsAreTheHeight}
use Rattle.stored_tree.specs.Checked.{CheckedBlocksAreOfTheImage, FailsAt, IsChecked, answer_of, failing}
use Rattle.stored_tree.specs.Stored.{OfBytes, Stored, held_blocks, levels_of}
use Rattle.stored_tree.proofs.Walking.{length-held_from}

length-path_below : (h : ℕ) (all : List (List (List ℕ))) (i count : ℕ) → length (path_below h all i count) ≡ count
unfolding path_below
length-path_below h all i zero = refl
length-path_below h all i (suc count) = ap suc (length-path_below h all i count)

length-path : (hash : Hash) (size : ℕ) (salt : List ℕ) (image : List (List ℕ)) (i : ℕ) →
    length (path hash size salt image i) ≡ length (levels hash size salt image)
unfolding path
length-path hash size salt image i =
    length-path_below (fan_out hash size) (levels hash size salt image) i (length (levels hash size salt image))

-- a checked path ends with the block of each image that has the root, or shows two blocks that collide
pub of_image : CheckedPathsLeadToTheImage → LevelsAreTheHeight → CheckedBlocksAreOfTheImage
of_image checked levels_count tree i taken block is inside right image count declared =
    let size = tree.block_size in
    let salt = tree.salt in
    let many : 2 ≤ fan_out (hash_of tree.algorithm) size = omega (arith, is.size.wide) in
    let some : 0 < length image = omega arith in
    let same : length (levels (hash_of tree.algorithm) size salt image) ≡ suc (levels_of tree) =
    levels_count (hash_of tree.algorithm) size salt image many some
    ∙ ap (λ (n : ℕ). suc (height (fan_out (hash_of tree.algorithm) size) n)) count in
    let whole : length taken ≡ levels_of tree + 1 = right.whole in
    let shape : length taken ≡ length (path (hash_of tree.algorithm) size salt image i) =
    omega (arith, length-path (hash_of tree.algorithm) size salt image i) in
    let top : length taken - 1 ≡ levels_of tree = omega arith in
    let last : get_or taken (length taken - 1) [] ≡ block = ap (λ (k : ℕ). get_or taken k []) top ∙ right.last in
    let none : first_failing (hash_of tree.algorithm) (fan_out (hash_of tree.algorithm) size) salt (root (hash_of tree.algorithm) size salt image) i taken ≡ None =
    ap (λ wanted. first_failing (hash_of tree.algorithm) (fan_out (hash_of tree.algorithm) size) salt wanted i taken) declared ∙ right.right in
    elim (checked (hash_of tree.algorithm) size salt image i taken many (omega arith) shape none) [
      | inl leads ↦ inl (sym last ∙ leads)
      | inr shown ↦ inr shown
    ]

-- the answer by what was taken
pub record Answers (tree : Stored) (i : ℕ) (taken : List (List ℕ)) (block : List ℕ)
    (result : Result (Unit {0}) VerityError) : Type 0 where
  pub ok : OnOk result (IsChecked tree i taken block)
  pub corrupt : (level b : ℕ) → IsErrOf result (Corrupt level b) → FailsAt tree i taken level b

-- and by what is held, where what was taken is its front
pub by_held : (tree : Stored) (i : ℕ) (taken held : List (List ℕ)) (block : List ℕ)
    (result : Result (Unit {0}) VerityError) → Answers tree i taken block result →
    (IsErrOf result Missing → ⊥) → length held ≡ suc (levels_of tree) → taken ≡ take (length taken) held →
    (IsErrOf result DeviceFault → ⊥) → result ≡ answer_of (failing tree i held)
by_held tree i taken held block (Ok tt) answers there long front sound =
    let right : IsChecked tree i taken block = answers.ok in
    let count : length taken ≡ levels_of tree + 1 = right.whole in
    let same : taken ≡ held = front ∙ take_all (length taken) held (omega arith) in
    ap answer_of (sym right.right ∙ ap (λ xs. failing tree i xs) same)
by_held tree i taken held block (Err (Corrupt level b)) answers there long front sound =
    let fails : FailsAt tree i taken level b = answers.corrupt level b refl in
    let left : length taken + level ≡ levels_of tree + 1 = fails.levels_left in
    let rest = drop (length taken) held in
    let whole : held ≡ taken ++ rest = sym (ap (λ xs. xs ++ rest) front ∙ take-append-drop (length taken) held) in
    ap answer_of (sym (fails.fails rest (omega (arith, length-drop (length taken) held)))
    ∙ ap (λ xs. failing tree i xs) (sym whole))
by_held tree i taken held block (Err DeviceFault) answers there long front sound = absurd (sound refl)
by_held tree i taken held block (Err Missing) answers there long front sound = absurd (there refl)

found_answer : (tree : Stored) (i : ℕ) (taken : List (List ℕ)) (block : List ℕ)
    (result : Result (Unit {0}) VerityError) (held : List ℕ → List (List ℕ)) (found : Option (List ℕ)) →
    Answers tree i taken block result → (IsErrOf result Missing → found ≡ None) →
    ((bytes : List ℕ) → length (held bytes) ≡ suc (levels_of tree)) →
    IfSome found (λ bytes. taken ≡ take (length taken) (held bytes)) →
    IfSome found (λ bytes.
    (IsErrOf result DeviceFault → ⊥) → result ≡ answer_of (failing tree i (held bytes)))
found_answer tree i taken block result held None answers missing long front = tt
found_answer tree i taken block result held (Some bytes) answers missing long front =
    by_held tree i taken (held bytes) block result answers (λ is. none-some bytes (sym (missing is))) (long bytes) front

-- the same over one device, of whose bytes the path is held
pub told_answer : (told : Option Contents) (name : List ℕ) (tree : Stored) (i : ℕ) (taken : List (List ℕ))
    (block : List ℕ) (result : Result (Unit {0}) VerityError) (held : List ℕ → List (List ℕ)) →
    Answers tree i taken block result → (IsErrOf result Missing → HasNone told name) →
    ((bytes : List ℕ) → length (held bytes) ≡ suc (levels_of tree)) →
    OfBytes told name (λ bytes. taken ≡ take (length taken) (held bytes)) →
    OfBytes told name (λ bytes.
    (IsErrOf result DeviceFault → ⊥) → result ≡ answer_of (failing tree i (held bytes)))
told_answer None name tree i taken block result held answers missing long front = tt
told_answer (Some items) name tree i taken block result held answers missing long front =
    found_answer tree i taken block result held (content name items) answers missing long front

-- a path with a block below the hash blocks is as long as a whole one
pub length-held : (tree : Stored) (bytes : List ℕ) (i : ℕ) (block : List ℕ) →
    length (held_blocks tree bytes i ++ block ∷ []) ≡ suc (levels_of tree)
length-held tree bytes i block =
    omega (
      arith,
      length-append (held_blocks tree bytes i) (block ∷ []),
      length-held_from tree bytes i 0 (levels_of tree),
    )

-- all of them and the block below them are the path
pub front_whole : (tree : Stored) (bytes : List ℕ) (i : ℕ) (path : List (List ℕ)) (block : List ℕ) →
    length path ≡ levels_of tree → path ≡ take (length path) (held_blocks tree bytes i) →
    path ++ block ∷ [] ≡ take (length (path ++ block ∷ [])) (held_blocks tree bytes i ++ block ∷ [])
front_whole tree bytes i path block long is =
    let held = held_blocks tree bytes i in
    let all = length-held_from tree bytes i 0 (levels_of tree) in
    let same : path ≡ held = is ∙ take_all (length path) held (omega (arith, all)) in
    ap (λ xs. xs ++ block ∷ []) same
    ∙ (sym (take_all (length (held ++ block ∷ [])) (held ++ block ∷ []) (omega arith))
    ∙ ap (λ (n : ℕ). take n (held ++ block ∷ [])) (sym (ap (λ (xs : List (List ℕ)). length (xs ++ block ∷ [])) same)))
