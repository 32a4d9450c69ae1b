-- What a reader of paths takes and answers.
use Rattle.std.proofs.Common.{◌≡◌, ℕ, suc, ◌+◌, ◌*◌, ◌<◌, ◌≤◌, List, [], ◌∷◌, ◌++◌, length, take, drop, get_or, Option, None, Some, Result, Ok, Err, ap, refl, sym, ◌∙◌, subst, arith, inl, inr}
use Rattle.std.specs.Prelude.{IfSome, IsErrOf, IsSomeAnd, OnOk, ◌⊎◌}
use Rattle.std.specs.Fork.{slice_chunk}
use Rattle.std.proofs.lemmas.Bool.{cases_lt}
use Rattle.std.proofs.lemmas.List.{length-append, take-append-le, take_all, take_at}
use Rattle.std.proofs.lemmas.Option.{none-some}
use Rattle.std.proofs.Math.Seq.{get_or-append_seam}
use Rattle.blk_device.specs.Contents.{Contents, HasNone, OnDevice, content}
use Rattle.blk_device.specs.declared.devices.VerityError.{VerityError}
use Rattle.blk_device.specs.declared.devices.VerityError.TheVariants.{DeviceFault, Missing}
use Rattle.stored_tree.specs.Checked.{HeldTreesAreRight, answer_of, failing}
use Rattle.stored_tree.specs.Stored.{HoldsTreeOf, IsStored, OfBoth, OfBytes, OfHashes, Stored, TakenFrom, held_blocks, held_path, levels_of}
use Rattle.stored_tree.proofs.Answering.{Answers, by_held, front_whole, length-held}
use Rattle.stored_tree.proofs.Walking.{length-held_from}

-- no blocks are the front of each path
none_front : (taken held : List (List ℕ)) → length taken ≡ 0 → taken ≡ take (length taken) held
none_front [] held none = refl
none_front (block ∷ taken) held none = absurd (omega arith)

-- what is true where there are bytes
with_bytes : (found : Option (List ℕ)) (bytes : List ℕ) (P : List ℕ → Type 0) → found ≡ Some bytes → IfSome found P →
    P bytes
with_bytes found bytes P is held = subst (λ (o : Option (List ℕ)). IfSome o P) is held

on_bytes : (found : Option (List ℕ)) (bytes : List ℕ) (P : List ℕ → Type 0) → found ≡ Some bytes → IsSomeAnd found P →
    P bytes
on_bytes found bytes P is held = subst (λ (o : Option (List ℕ)). IsSomeAnd o P) is held

-- the hash blocks that were taken, by the bytes of the tree's device
front_of : (items : Contents) (tree : Stored) (i : ℕ) (taken : List (List ℕ)) → TakenFrom (Some items) tree i taken →
    length taken ≤ levels_of tree → (hashes : List ℕ) →
    (0 < levels_of tree → content tree.device items ≡ Some hashes) →
    taken ≡ take (length taken) (held_blocks tree hashes i)
front_of items tree i taken from short hashes known = elim (cases_lt 0 (levels_of tree)) [
  | inl some ↦
      with_bytes (content tree.device items) hashes (λ bytes. taken ≡ take (length taken) (held_blocks tree bytes i))
      (known some) from.front
  | inr none ↦ none_front taken (held_blocks tree hashes i) (omega arith)
]

-- they are the front of the whole path, too
front_short : (tree : Stored) (i : ℕ) (taken : List (List ℕ)) (hashes last : List ℕ) → length taken ≤ levels_of tree →
    taken ≡ take (length taken) (held_blocks tree hashes i) →
    taken ≡ take (length taken) (held_blocks tree hashes i ++ last ∷ [])
front_short tree i taken hashes last short is =
    let held = held_blocks tree hashes i in
    is ∙ sym (take-append-le (length taken) held (last ∷ [])
    (omega (arith, length-held_from tree hashes i 0 (levels_of tree))))

-- where no block of the data was taken
pub check_short : (told : Option Contents) (tree : Stored) (i : ℕ) (taken : List (List ℕ)) (block : List ℕ) →
    TakenFrom told tree i taken → length taken ≤ levels_of tree →
    OfHashes told tree (λ hashes. taken ≡ take (length taken) (held_blocks tree hashes i ++ block ∷ []))
check_short None tree i taken block from short = tt
check_short (Some items) tree i taken block from short = λ hashes known.
    front_short tree i taken hashes block short (front_of items tree i taken from short hashes known)

pub read_short : (told : Option Contents) (disk : List ℕ) (tree : Stored) (i : ℕ) (taken : List (List ℕ)) →
    TakenFrom told tree i taken → length taken ≤ levels_of tree →
    OfBoth told disk tree (λ bytes hashes. taken ≡ take (length taken) (held_path tree bytes hashes i))
read_short None disk tree i taken from short = tt
read_short (Some items) disk tree i taken from short = λ bytes hashes there known.
    front_short tree i taken hashes (slice_chunk bytes tree.block_size i) short
    (front_of items tree i taken from short hashes known)

pub hashes_short : (told : Option Contents) (tree : Stored) (i : ℕ) (taken : List (List ℕ)) →
    TakenFrom told tree i taken → length taken ≤ levels_of tree → TakenFrom told tree i (take (levels_of tree) taken)
hashes_short told tree i taken from short =
    subst (λ xs. TakenFrom told tree i xs) (sym (take_all (levels_of tree) taken short)) from

-- where it was taken, or handed in
pub check_whole : (told : Option Contents) (tree : Stored) (i : ℕ) (taken path : List (List ℕ)) (block : List ℕ) →
    TakenFrom told tree i taken → length taken ≡ levels_of tree → path ≡ taken ++ block ∷ [] →
    OfHashes told tree (λ hashes. path ≡ take (length path) (held_blocks tree hashes i ++ block ∷ []))
check_whole None tree i taken path block from all added = tt
check_whole (Some items) tree i taken path block from all added = λ hashes known.
    subst (λ xs. xs ≡ take (length xs) (held_blocks tree hashes i ++ block ∷ [])) (sym added)
    (front_whole tree hashes i taken block all (front_of items tree i taken from (omega arith) hashes known))

pub hashes_whole : (told : Option Contents) (tree : Stored) (i : ℕ) (taken path : List (List ℕ)) (block : List ℕ) →
    TakenFrom told tree i taken → length taken ≡ levels_of tree → path ≡ taken ++ block ∷ [] →
    TakenFrom told tree i (take (levels_of tree) path)
hashes_whole told tree i taken path block from all added =
    subst (λ xs. TakenFrom told tree i xs)
    (sym (ap (λ xs. take (levels_of tree) xs) added ∙ take_at taken (block ∷ []) (levels_of tree) all)) from

-- what follows from what is true of a device that is there
on_map : (found : Option (List ℕ)) (P Q : List ℕ → Type 0) → ((bytes : List ℕ) → P bytes → Q bytes) →
    IsSomeAnd found P → IsSomeAnd found Q
on_map None P Q each on = on
on_map (Some bytes) P Q each on = each bytes on

pub device_map : (told : Option Contents) (name : List ℕ) (P Q : List ℕ → Type 0) →
    ((bytes : List ℕ) → P bytes → Q bytes) → OnDevice told name P → OnDevice told name Q
device_map None name P Q each on = tt
device_map (Some items) name P Q each on = on_map (content name items) P Q each on

pub read_of : (told now : Option Contents) (disk : List ℕ) (tree : Stored) (i size : ℕ) (block : List ℕ) → now ≡ told →
    size ≡ tree.block_size → length block ≡ tree.block_size →
    OnDevice now disk (λ all. take (length block) (drop (i * size) all) ≡ block) →
    OnDevice told disk (λ bytes. block ≡ slice_chunk bytes tree.block_size i)
read_of told now disk tree i size block same sized long read =
    device_map told disk
    (λ all. take (length block) (drop (i * size) all) ≡ block)
    (λ bytes. block ≡ slice_chunk bytes tree.block_size i)
    (λ bytes is. sym is
    ∙ (ap (λ (n : ℕ). take n (drop (i * size) bytes)) long
    ∙ ap (λ (n : ℕ). take tree.block_size (drop (i * n) bytes)) sized))
    (subst (λ items. OnDevice items disk (λ all. take (length block) (drop (i * size) all) ≡ block)) same read)

pub data_whole : (told : Option Contents) (disk : List ℕ) (tree : Stored) (i : ℕ) (taken path : List (List ℕ))
    (block : List ℕ) → length taken ≡ levels_of tree → path ≡ taken ++ block ∷ [] →
    OnDevice told disk (λ bytes. block ≡ slice_chunk bytes tree.block_size i) →
    OnDevice told disk (λ bytes. get_or path (levels_of tree) [] ≡ slice_chunk bytes tree.block_size i)
data_whole told disk tree i taken path block all added read =
    let last : get_or path (levels_of tree) [] ≡ block =
    ap (λ xs. get_or xs (levels_of tree) []) added
    ∙ (ap (λ (n : ℕ). get_or (taken ++ block ∷ []) n []) (sym all) ∙ get_or-append_seam taken block [] []) in
    device_map told disk
    (λ bytes. block ≡ slice_chunk bytes tree.block_size i)
    (λ bytes. get_or path (levels_of tree) [] ≡ slice_chunk bytes tree.block_size i)
    (λ bytes is. last ∙ is) read

pub read_whole : (told : Option Contents) (disk : List ℕ) (tree : Stored) (i : ℕ) (taken path : List (List ℕ))
    (block : List ℕ) → TakenFrom told tree i taken → length taken ≡ levels_of tree → path ≡ taken ++ block ∷ [] →
    OnDevice told disk (λ bytes. block ≡ slice_chunk bytes tree.block_size i) →
    OfBoth told disk tree (λ bytes hashes. path ≡ take (length path) (held_path tree bytes hashes i))
read_whole None disk tree i taken path block from all added read = tt
read_whole (Some items) disk tree i taken path block from all added read = λ bytes hashes there known.
    let same = on_bytes (content disk items) bytes (λ bytes. block ≡ slice_chunk bytes tree.block_size i) there read in
    let here = front_whole tree hashes i taken block all (front_of items tree i taken from (omega arith) hashes known) in
    subst (λ xs. xs ≡ take (length xs) (held_path tree bytes hashes i)) (sym added)
    (subst (λ last. taken ++ block ∷ [] ≡ take (length (taken ++ block ∷ [])) (held_blocks tree hashes i ++ last ∷ []))
    same here)

-- the answer to a block that is handed in
pub check_answer : (told : Option Contents) (tree : Stored) (i : ℕ) (path : List (List ℕ)) (block : List ℕ)
    (result : Result (Unit {0}) VerityError) → Answers tree i path block result →
    (IsErrOf result Missing → (0 < levels_of tree) × HasNone told tree.device) →
    OfHashes told tree (λ hashes. path ≡ take (length path) (held_blocks tree hashes i ++ block ∷ [])) →
    OfHashes told tree (λ hashes. (IsErrOf result DeviceFault → ⊥) →
    result ≡ answer_of (failing tree i (held_blocks tree hashes i ++ block ∷ [])))
check_answer None tree i path block result answers missing front = tt
check_answer (Some items) tree i path block result answers missing front = λ hashes known.
    by_held tree i path (held_blocks tree hashes i ++ block ∷ []) block result answers
    (λ is. let absent = missing is in none-some hashes (sym absent.1 ∙ known absent.0))
    (length-held tree hashes i block) (front hashes known)

pub check_complete : (told : Option Contents) (tree : Stored) (i : ℕ) (block : List ℕ)
    (result : Result (Unit {0}) VerityError) → HeldTreesAreRight → IsStored tree → i < tree.blocks →
    OfHashes told tree (λ hashes. (IsErrOf result DeviceFault → ⊥) →
    result ≡ answer_of (failing tree i (held_blocks tree hashes i ++ block ∷ []))) →
    OfHashes told tree (λ hashes. (image : List (List ℕ)) → HoldsTreeOf tree hashes image →
    block ≡ get_or image i [] → (IsErrOf result DeviceFault → ⊥) → result ≡ Ok tt)
check_complete None tree i block result held_right is inside answer = tt
check_complete (Some items) tree i block result held_right is inside answer = λ hashes known image holds same sound.
    let right = held_right tree hashes image i is holds inside in
    answer hashes known sound
    ∙ (ap (λ x. answer_of (failing tree i (held_blocks tree hashes i ++ x ∷ []))) same ∙ ap answer_of right.1)

-- and to one that is read
pub read_answer : (told : Option Contents) (disk : List ℕ) (tree : Stored) (i : ℕ) (path : List (List ℕ))
    (block : List ℕ) (result : Result (Unit {0}) VerityError) → Answers tree i path block result →
    (IsErrOf result Missing → HasNone told disk ⊎ ((0 < levels_of tree) × HasNone told tree.device)) →
    OfBoth told disk tree (λ bytes hashes. path ≡ take (length path) (held_path tree bytes hashes i)) →
    OfBoth told disk tree (λ bytes hashes. (IsErrOf result DeviceFault → ⊥) →
    result ≡ answer_of (failing tree i (held_path tree bytes hashes i)))
read_answer None disk tree i path block result answers missing front = tt
read_answer (Some items) disk tree i path block result answers missing front = λ bytes hashes there known.
    by_held tree i path (held_path tree bytes hashes i) block result answers
    (λ is. elim (missing is) [
      | inl none ↦ none-some bytes (sym none ∙ there)
      | inr absent ↦ none-some hashes (sym absent.1 ∙ known absent.0)
    ])
    (length-held tree hashes i (slice_chunk bytes tree.block_size i)) (front bytes hashes there known)

pub read_complete : (told : Option Contents) (disk : List ℕ) (tree : Stored) (i : ℕ)
    (result : Result (Unit {0}) VerityError) → HeldTreesAreRight → IsStored tree → i < tree.blocks →
    OfBoth told disk tree (λ bytes hashes. (IsErrOf result DeviceFault → ⊥) →
    result ≡ answer_of (failing tree i (held_path tree bytes hashes i))) →
    OfBoth told disk tree (λ bytes hashes. (image : List (List ℕ)) → HoldsTreeOf tree hashes image →
    slice_chunk bytes tree.block_size i ≡ get_or image i [] → (IsErrOf result DeviceFault → ⊥) → result ≡ Ok tt)
read_complete None disk tree i result held_right is inside answer = tt
read_complete (Some items) disk tree i result held_right is inside answer = λ bytes hashes there known image holds same sound.
    let right = held_right tree hashes image i is holds inside in
    answer bytes hashes there known sound
    ∙ (ap (λ x. answer_of (failing tree i (held_blocks tree hashes i ++ x ∷ []))) same ∙ ap answer_of right.1)

-- what follows from what an `Ok` says
pub after_ok : (result : Result (Unit {0}) VerityError) (P Q : Type 0) → (P → Q) → OnOk result P → OnOk result Q
after_ok (Ok tt) P Q each p = each p
after_ok (Err e) P Q each p = tt
