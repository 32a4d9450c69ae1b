-- Descriptors that are accepted or refused.
use Rattle.std.proofs.Common.{Result, ◌≡◌, ◌∙◌, ℕ, zero, suc, ◌+◌, ◌-◌, ◌<◌, ◌≤◌, nat_le, Bool, true, false, cond, List, length, take, drop, Some, None, Ok, Err, refl, ap, sym, arith, inl, inr, ◌⊎◌, Option, subst}
use Rattle.std.specs.List.{find, range_with_len}
use Rattle.std.proofs.lemmas.Bool.{cases_lt, le-leb, leb-true, lt-leb}
use Rattle.blk_device.specs.Contents.{Contents}
use Rattle.fsv_tree.specs.Descriptor.{DescriptorParts, IsFirstBreak, IsSound, breaks, said_by}
use Rattle.fsv_file.specs.File.{tree_of_file}
use Rattle.stored_tree.specs.Stored.{end_of}
use Rattle.ipe_requests.specs.declared.script.SealLine.{SealLine}
use Rattle.ipe_objects.specs.Devices.{bytes_under}
use Rattle.ipe_objects.specs.Seals.{accepted, descriptor_of, first_bad_byte, sealed_file}

-- the first number that passes is found
find-first : (test : ℕ → Bool) (from n place : ℕ) → from ≤ place → place < from + n → test place ≡ true
    → ((b : ℕ) → from ≤ b → b < place → test b ≡ false) → find test (range_with_len from n) ≡ Some place
find-first test from zero place low high passes others = absurd (omega arith)
find-first test from (suc n) place low high passes others =
    by (test from) refl (cases_lt from place)
    (λ lt. find-first test (from + 1) n place (omega (arith, lt)) (omega arith) passes (λ b l h. others b (omega (arith, l)) h))
  where
    by : (b : Bool) → test from ≡ b → (from < place) ⊎ (place ≤ from)
        → (from < place → find test (range_with_len (from + 1) n) ≡ Some place)
        → cond b (Some from) (find test (range_with_len (from + 1) n)) ≡ Some place
    by b is (inr le) rest =
        let same : from ≡ place = omega (arith, le, low) in
        let holds : b ≡ true = sym is ∙ ap test same ∙ passes in
        ap (λ (x : Bool). cond x (Some from) (find test (range_with_len (from + 1) n))) holds ∙ ap Some same
    by b is (inl lt) rest =
        let fails : b ≡ false = sym is ∙ others from (omega arith) lt in
        ap (λ (x : Bool). cond x (Some from) (find test (range_with_len (from + 1) n))) fails ∙ rest lt

find-none : (test : ℕ → Bool) (from n : ℕ) → ((b : ℕ) → from ≤ b → b < from + n → test b ≡ false)
    → find test (range_with_len from n) ≡ None
find-none test from zero none = refl
find-none test from (suc n) none =
    ap (λ (x : Bool). cond x (Some from) (find test (range_with_len (from + 1) n))) (none from (omega arith) (omega arith))
    ∙ find-none test (from + 1) n (λ b low high. none b (omega (arith, low)) (omega (arith, high)))

pub first-bad : (bytes : List ℕ) (size place : ℕ) → IsFirstBreak bytes size place → first_bad_byte bytes size ≡ Some place
unfolding first_bad_byte
first-bad bytes size place is =
    find-first (breaks bytes size) 0 256 place (omega arith) (omega (arith, is.within)) is.breaking
    (λ b low high. is.others b high)

pub none-bad : (bytes : List ℕ) (size : ℕ) → IsSound bytes size → first_bad_byte bytes size ≡ None
unfolding first_bad_byte
none-bad bytes size sound = find-none (breaks bytes size) 0 256 (λ b low high. sound b (omega (arith, high)))

-- the bytes of the descriptor
same-bytes : (device held bytes : List ℕ) (at : ℕ) → held ≡ device → bytes ≡ take (at + 256 - at) (drop at held)
    → bytes ≡ take 256 (drop at device)
same-bytes device held bytes at same is =
    let room : at + 256 - at ≡ 256 = omega arith in
    is ∙ ap (λ (n : ℕ). take n (drop at held)) room ∙ ap (λ (l : List ℕ). take 256 (drop at l)) same

-- it is refused for its first bad byte
pub refused-is : (images : Contents) (seal : SealLine) (size place : ℕ) (held bytes : List ℕ)
    → held ≡ bytes_under images seal.device → bytes ≡ take (seal.at + 256 - seal.at) (drop seal.at held)
    → IsFirstBreak bytes size place → descriptor_of images seal size ≡ Err place
refused-is images seal size place held bytes same is first =
    let device : List ℕ = bytes_under images seal.device in
    let all : bytes ≡ take 256 (drop seal.at device) = same-bytes device held bytes seal.at same is in
    sym (ap (λ (l : List ℕ). accepted seal (length device) (said_by l size) (first_bad_byte l size)) all)
    ∙ ap (accepted seal (length device) (said_by bytes size)) (first-bad bytes size place first)

sound-is : (images : Contents) (seal : SealLine) (size : ℕ) (held bytes : List ℕ) (descriptor : DescriptorParts)
    → held ≡ bytes_under images seal.device → bytes ≡ take (seal.at + 256 - seal.at) (drop seal.at held)
    → IsSound bytes size → descriptor ≡ said_by bytes size
    → descriptor_of images seal size
    ≡ cond (nat_le (end_of (tree_of_file (sealed_file seal descriptor))) (length held)) (Ok descriptor) (Err 256)
sound-is images seal size held bytes descriptor same is sound said =
    let device : List ℕ = bytes_under images seal.device in
    let all : bytes ≡ take 256 (drop seal.at device) = same-bytes device held bytes seal.at same is in
    sym (ap (λ (l : List ℕ). accepted seal (length device) (said_by l size) (first_bad_byte l size)) all)
    ∙ ap (accepted seal (length device) (said_by bytes size)) (none-bad bytes size sound)
    ∙ sym (ap (λ (d : DescriptorParts).
    cond (nat_le (end_of (tree_of_file (sealed_file seal d))) (length device)) (Ok d) (Err 256)) said)
    ∙ sym (ap (λ (l : List ℕ).
    cond (nat_le (end_of (tree_of_file (sealed_file seal descriptor))) (length l)) (Ok descriptor) (Err 256)) same)

-- it is accepted where its tree ends on the device
pub accepted-is : (images : Contents) (seal : SealLine) (size : ℕ) (held bytes : List ℕ) (descriptor : DescriptorParts)
    → held ≡ bytes_under images seal.device → bytes ≡ take (seal.at + 256 - seal.at) (drop seal.at held)
    → IsSound bytes size → descriptor ≡ said_by bytes size
    → end_of (tree_of_file (sealed_file seal descriptor)) ≤ length held → descriptor_of images seal size ≡ Ok descriptor
accepted-is images seal size held bytes descriptor same is sound said within =
    sound-is images seal size held bytes descriptor same is sound said
    ∙ ap (λ (b : Bool). cond b (Ok descriptor) (Err 256))
    (le-leb (end_of (tree_of_file (sealed_file seal descriptor))) (length held) within)

-- and else it is refused
pub beyond-is : (images : Contents) (seal : SealLine) (size : ℕ) (held bytes : List ℕ) (descriptor : DescriptorParts)
    → held ≡ bytes_under images seal.device → bytes ≡ take (seal.at + 256 - seal.at) (drop seal.at held)
    → IsSound bytes size → descriptor ≡ said_by bytes size
    → length held < end_of (tree_of_file (sealed_file seal descriptor)) → descriptor_of images seal size ≡ Err 256
beyond-is images seal size held bytes descriptor same is sound said beyond =
    sound-is images seal size held bytes descriptor same is sound said
    ∙ ap (λ (b : Bool). cond b (Ok descriptor) (Err 256))
    (lt-leb (end_of (tree_of_file (sealed_file seal descriptor))) (length held) beyond)

accepted-within : (seal : SealLine) (room : ℕ) (said descriptor : DescriptorParts) (bad : Option ℕ)
    → accepted seal room said bad ≡ Ok descriptor → end_of (tree_of_file (sealed_file seal descriptor)) ≤ room
accepted-within seal room said descriptor (Some byte) is = absurd (cc)
accepted-within seal room said descriptor None is = by (nat_le (end_of (tree_of_file (sealed_file seal said))) room) refl is
  where
    by : (b : Bool) → nat_le (end_of (tree_of_file (sealed_file seal said))) room ≡ b
        → cond {A = Result DescriptorParts ℕ} b (Ok said) (Err 256) ≡ Ok descriptor → end_of (tree_of_file (sealed_file seal descriptor)) ≤ room
    by true le e =
        let same : said ≡ descriptor = cc in
        subst (λ (d : DescriptorParts). end_of (tree_of_file (sealed_file seal d)) ≤ room) same
        (leb-true (end_of (tree_of_file (sealed_file seal said))) room le)
    by false le e = absurd (cc)

-- the tree of an accepted descriptor ends on the device
pub ends-within : (images : Contents) (seal : SealLine) (size : ℕ) (descriptor : DescriptorParts)
    → descriptor_of images seal size ≡ Ok descriptor
    → end_of (tree_of_file (sealed_file seal descriptor)) ≤ length (bytes_under images seal.device)
ends-within images seal size descriptor is =
    let device : List ℕ = bytes_under images seal.device in
    let bytes : List ℕ = take 256 (drop seal.at device) in
    accepted-within seal (length device) (said_by bytes size) descriptor (first_bad_byte bytes size) is
