-- A region that begins with an image tells what the image tells.
use Rattle.std.proofs.Common.{◌≡◌, ℕ, zero, suc, ◌+◌, ◌<◌, ◌≤◌, List, [], ◌∷◌, ◌++◌, length, get_or, Some, refl, sym, ap, ◌∙◌, arith, append_assoc}
use Rattle.ipe_image.specs.Image.{image_of}
use Rattle.ipe_image.specs.Law.{AreOfPolicies, ReadAsThemselves}
use Rattle.ipe_image.specs.Parts.{ImageParts, parts_of, statements_of}
use Rattle.ipe_image.specs.Reading.{image_in}
use Rattle.ipe_gate_rule.specs.declared.event.Event.{Event}
use Rattle.ipe_gate_rule.specs.History.{content}
use Rattle.ipe_gate_rule.specs.Regions.{listed, region, words_at}

-- the values begin with words that they are at their places
listed_front : (f : ℕ → ℕ) (at n : ℕ) (words : List ℕ) → length words ≤ n → ((i : ℕ) → i < length words → f (at + i) ≡ get_or words i 0) → (rest : List ℕ) × (listed f at n ≡ words ++ rest)
listed_front f at n [] few same = (listed f at n, refl)
listed_front f at zero (w ∷ words) few same = absurd (omega arith)
listed_front f at (suc n) (w ∷ words) few same =
    let first : f at ≡ w = ap f (let e : at ≡ at + 0 = omega arith in e) ∙ same 0 (omega arith) in
    let more = listed_front f (suc at) n words (omega arith) (λ i lt. ap f (let e : suc at + i ≡ at + suc i = omega arith in e) ∙ same (suc i) (omega arith)) in
    (more.0, (λ j. first j ∷ more.1 j))

words_front : (f : ℕ → ℕ) (words : List ℕ) → length words ≤ 4096 → ((i : ℕ) → i < length words → f i ≡ get_or words i 0) → (rest : List ℕ) × (words_at f ≡ words ++ rest)
unfolding words_at
words_front f words few same = listed_front f 0 4096 words few (λ i lt. ap f (let e : 0 + i ≡ i = omega arith in e) ∙ same i lt)

pub region_told : ReadAsThemselves → AreOfPolicies → (slot : ℕ) (h : List Event) (words : List ℕ) (parts : ImageParts) → length words ≤ 4096 → ((i : ℕ) → i < length words → content slot i h ≡ get_or words i 0) → image_in words ≡ Some parts → image_in (region slot h) ≡ Some parts
region_told read policies slot h words parts few same told =
    let front = words_front (λ i. content slot i h) words few same in
    let of = policies words parts told in
    let image : List ℕ = image_of parts in
    let whole : region slot h ≡ image_of (parts_of parts.serial (statements_of parts)) ++ (of.behind ++ front.0) =
    front.1
    ∙ ap (λ (ws : List ℕ). ws ++ front.0) of.whole
    ∙ append_assoc image of.behind front.0
    ∙ ap (λ (p : ImageParts). image_of p ++ (of.behind ++ front.0)) (sym of.parts_are) in
    ap image_in whole
    ∙ read (statements_of parts) parts.serial (of.behind ++ front.0) of.policy
    ∙ ap (λ (p : ImageParts). Some p) of.parts_are
