-- A buffer that is filled from a device, piece by piece.
use Rattle.std.proofs.Common.{◌≡◌, ℕ, ◌+◌, ◌<◌, ◌≤◌, List, [], ◌++◌, length, take, drop, Option, None, Some, unwrap_or, ap, sym, ◌∙◌, subst, arith, inl, inr}
use Rattle.std.specs.Prelude.{IsSomeAnd}
use Rattle.std.proofs.lemmas.Bool.{cases_lt}
use Rattle.std.proofs.lemmas.Option.{none-some}
use Rattle.std.specs.Option.{option_map}
use Rattle.std.proofs.lemmas.List.{length-take, drop-drop, take_all}
use Rattle.std.proofs.Math.Seq.{take-add, take-append-add}
use Rattle.blk_device.specs.Contents.{Contents, HasBytes, OnDevice, content}

-- so many bytes at the buffer's front are the device's from a place on, where that is told: if there are any, the device
-- is there
pub record FilledTo (told : Option Contents) (name : List ℕ) (at : ℕ) (buffer : List ℕ) (done : ℕ) : Type 0 where
  pub within : done ≤ length buffer
  pub held : 0 < done → OnDevice told name (λ all. take done (drop at all) ≡ take done buffer)

-- what was read stands after what was there
joined : (before tail after : List ℕ) (done n : ℕ) → done ≤ length before → length after ≡ done + length tail →
    take (done + length tail) after ≡ take done before ++ tail → take (done + n) after ≡ take done before ++ take n tail
joined before tail after done n within long parts =
    let front : length (take done before) ≡ done = omega (arith, length-take done before) in
    let whole : after ≡ take done before ++ tail = sym (take_all (done + length tail) after (omega arith)) ∙ parts in
    ap (λ xs. take (done + n) xs) whole
    ∙ (ap (λ (k : ℕ). take (k + n) (take done before ++ tail)) (sym front)
    ∙ take-append-add (take done before) tail n)

-- none of the bytes are those of every list
none_done : (found before : List ℕ) (done : ℕ) → (0 < done → take done found ≡ take done before) →
    take done found ≡ take done before
none_done found before done first = elim (cases_lt 0 done) [
  | inl some ↦ first some
  | inr none ↦
      let empty : done ≡ 0 = omega arith in
      ap (λ (k : ℕ). take k found) empty ∙ sym (ap (λ (k : ℕ). take k before) empty)
]

more_of : (found : Option (List ℕ)) (at done n : ℕ) (before tail after : List ℕ) →
    n ≤ length tail →
    take (done + n) after ≡ take done before ++ take n tail →
    (0 < done → IsSomeAnd found (λ all. take done (drop at all) ≡ take done before)) →
    option_map (λ all. take (length (take n tail)) (drop (at + done) all)) found ≡ Some (take n tail) →
    IsSomeAnd found (λ all. take (done + n) (drop at all) ≡ take (done + n) after)
more_of None at done n before tail after inside parts first next = absurd (none-some (take n tail) next)
more_of (Some all) at done n before tail after inside parts first next =
    let count : length (take n tail) ≡ n = omega (arith, length-take n tail) in
    let order : at + done ≡ done + at = omega arith in
    let piece : take n (drop done (drop at all)) ≡ take n tail =
    ap (λ xs. take n xs) (drop-drop done at all)
    ∙ (ap (λ (k : ℕ). take k (drop (at + done) all)) (sym count) ∙ ap (λ (o : Option (List ℕ)). unwrap_or o []) next) in
    take-add done n (drop at all)
    ∙ (ap (λ xs. xs ++ take n (drop done (drop at all))) (none_done (drop at all) before done first)
    ∙ (ap (λ xs. take done before ++ xs) piece ∙ sym parts))

more_told : (told : Option Contents) (name : List ℕ) (at done n : ℕ) (before tail after : List ℕ) →
    n ≤ length tail →
    take (done + n) after ≡ take done before ++ take n tail →
    (0 < done → OnDevice told name (λ all. take done (drop at all) ≡ take done before)) →
    HasBytes told name (at + done) (take n tail) →
    OnDevice told name (λ all. take (done + n) (drop at all) ≡ take (done + n) after)
more_told None name at done n before tail after inside parts first next = tt
more_told (Some items) name at done n before tail after inside parts first next =
    more_of (content name items) at done n before tail after inside parts first next

-- one piece more
pub filled_more : (told now : Option Contents) (name : List ℕ) (at done n : ℕ) (before tail after : List ℕ) →
    FilledTo told name at before done → now ≡ told → HasBytes now name (at + done) (take n tail) →
    n ≤ length tail → length after ≡ done + length tail →
    take (done + length tail) after ≡ take done before ++ tail →
    FilledTo told name at after (done + n)
filled_more told now name at done n before tail after filled same next inside long parts = record {
  within = omega arith;
  held = λ _.
      let here : HasBytes told name (at + done) (take n tail) =
      subst (λ items. HasBytes items name (at + done) (take n tail)) same next in
      more_told told name at done n before tail after inside (joined before tail after done n filled.within long parts)
      filled.held here;
}

whole_of : (found : Option (List ℕ)) (at done : ℕ) (buffer : List ℕ) → done ≡ length buffer →
    IsSomeAnd found (λ all. take done (drop at all) ≡ take done buffer) →
    IsSomeAnd found (λ all. take (length buffer) (drop at all) ≡ buffer)
whole_of None at done buffer all held = held
whole_of (Some bytes) at done buffer all held =
    ap (λ (k : ℕ). take k (drop at bytes)) (sym all) ∙ (held ∙ take_all done buffer (omega arith))

-- all of it is filled
pub filled_whole : (told : Option Contents) (name : List ℕ) (at done : ℕ) (buffer : List ℕ) →
    FilledTo told name at buffer done → length buffer ≤ done → 0 < length buffer →
    OnDevice told name (λ all. take (length buffer) (drop at all) ≡ buffer)
filled_whole None name at done buffer filled past some = tt
filled_whole (Some items) name at done buffer filled past some =
    whole_of (content name items) at done buffer (omega (arith, filled.within)) (filled.held (omega arith))
