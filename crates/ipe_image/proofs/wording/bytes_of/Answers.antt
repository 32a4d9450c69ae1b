use Rattle.std.proofs.Common.{◌≡◌, ◌∙◌, ◌+◌, ◌-◌, ◌<◌, ◌≤◌, ◌++◌, List, ℕ, length, take, drop, min, get_or, ap, sym, arith, append_assoc, length-append, length-take}
use Rattle.std.specs.Prelude.{Result, Ok, Err, IsOk, OnOk}
use Rattle.std.specs.Int.{w64, to_le_bytes}
use Rattle.ipe_image.specs.Packing.{unpacked}
use Rattle.ipe_image.proofs.Unpacking.{next-piece}
use Rattle.ipe_image.proofs.wording.bytes_of.Goals as goal

-- what is said of a success, where it is one
taken : {A B : Type 0} (r : Result A B) (new all : List ℕ) → IsOk r → OnOk r (new ≡ all) → new ≡ all
taken (Ok _) new all there h = h
taken (Err _) new all there h = absurd (cc)

pub loop-word-preserved : goal.loop-word-preserved
loop-word-preserved c =
    let i = c.loop-word.word-index in
    let words = c.args.words.now in
    let old = c.loop-word.bytes.items in
    let new = c.try_extend_from_slice-fits.new.self.items in
    let piece = take c.min.result c.to_le_bytes.result in
    let len : c.len.result ≡ length old = c.len.ensures.value in
    let few : length old ≤ c.args.count = c.loop-word.invariant.1 in
    let size : c.min.result ≡ min (c.args.count - c.len.result) 8 = c.min.ensures in
    let eight : length c.to_le_bytes.result ≡ 8 = ap length c.to_le_bytes.ensures in
    let piece_len : length piece ≡ c.min.result = length-take c.min.result c.to_le_bytes.result ∙ omega arith in
    let fits : length old + length piece ≤ 64 = omega arith in
    let pushed : new ≡ old ++ piece =
    taken c.try_extend_from_slice-fits.result new (old ++ piece)
    (c.try_extend_from_slice-fits.ensures.variant.1 fits) c.try_extend_from_slice-fits.ensures.ok in
    let count : length new ≡ length old + length piece = ap length pushed ∙ length-append old piece in
    let some : i < length words = omega arith in
    let rest = unpacked (c.args.count - length new) (drop (i + 1) words) in
    let next : unpacked (c.args.count - length old) (drop i words) ≡ take c.min.result (to_le_bytes w64
    (get_or words i 0)) ++ rest =
    next-piece words i (c.args.count - length old) c.min.result (c.args.count - length new) some (omega arith)
    (omega arith) in (
      ap (λ (bs : List ℕ). bs ++ rest) pushed
          ∙ append_assoc old piece rest
          ∙ ap (λ (bs : List ℕ). old ++ (take c.min.result bs ++ rest)) c.to_le_bytes.ensures
          ∙ ap (λ (bs : List ℕ). old ++ bs) (sym next)
          ∙ c.loop-word.invariant.0,
      omega arith,
    )
