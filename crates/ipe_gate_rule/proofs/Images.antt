-- Regions that begin with an image.
use Rattle.std.proofs.Common.{◌≡◌, ◌≢◌, ℕ, zero, suc, ◌+◌, ◌<◌, ◌≤◌, ◌==◌, ◌&&◌, Bool, true, false, List, [], ◌∷◌, ◌++◌, length, get_or, is_some, IsTrue, refl, sym, ap, ◌∙◌, subst, arith, true≢false, ne_eqb}
use Rattle.ipe_image.specs.Reading.{image_in}
use Rattle.ipe_image.proofs.Told.{read-some}
use Rattle.ipe_image.proofs.Roundtrip.{image-more}
use Rattle.ipe_gate_rule.specs.declared.event.Event.{Event}
use Rattle.ipe_gate_rule.specs.declared.event.Event.TheVariants.{Store, Switch, Claim, Return, Look}
use Rattle.ipe_gate_rule.specs.History.{active_slot, content}
use Rattle.ipe_gate_rule.specs.Legal.{Legal}
use Rattle.ipe_gate_rule.specs.Regions.{listed, words_at, begins_with_image, BeginsWithImage}
use Rattle.ipe_gate_rule.proofs.Counts.{cond_no}

length-listed : (f : ℕ → ℕ) (at n : ℕ) → length (listed f at n) ≡ n
length-listed f at zero = refl
length-listed f at (suc n) = ap suc (length-listed f (suc at) n)

get-listed : (f : ℕ → ℕ) (at n i : ℕ) → i < n → get_or (listed f at n) i 0 ≡ f (at + i)
get-listed f at zero i lt = absurd (omega arith)
get-listed f at (suc n) zero lt = ap f (let e : at ≡ at + 0 = omega arith in e)
get-listed f at (suc n) (suc i) lt =
    get-listed f (suc at) n i (omega arith) ∙ ap f (let e : suc at + i ≡ at + suc i = omega arith in e)

-- the values begin with words that they are at their places
listed-front : (f : ℕ → ℕ) (at n : ℕ) (words : List ℕ) → length words ≤ n
    → ((i : ℕ) → i < length words → f (at + i) ≡ get_or words i 0)
    → (behind : List ℕ) × (listed f at n ≡ words ++ behind)
listed-front f at n [] few same = (listed f at n, refl)
listed-front f at zero (w ∷ words) few same = absurd (omega arith)
listed-front f at (suc n) (w ∷ words) few same =
    let first : f at ≡ w = ap f (let e : at ≡ at + 0 = omega arith in e) ∙ same 0 (omega arith) in
    let more = listed-front f (suc at) n words (omega arith)
    (λ i lt. ap f (let e : suc at + i ≡ at + suc i = omega arith in e) ∙ same (suc i) (omega arith)) in
    (more.0, (λ j. first j ∷ more.1 j))

pub length-words_at : (f : ℕ → ℕ) → length (words_at f) ≡ 4096
unfolding words_at
length-words_at f = length-listed f 0 4096

pub get-words_at : (f : ℕ → ℕ) (i : ℕ) → i < 4096 → get_or (words_at f) i 0 ≡ f i
unfolding words_at
get-words_at f i lt = get-listed f 0 4096 i lt ∙ ap f (let e : 0 + i ≡ i = omega arith in e)

words_at-front : (f : ℕ → ℕ) (words : List ℕ) → length words ≤ 4096 → ((i : ℕ) → i < length words → f i ≡ get_or words i 0)
    → (behind : List ℕ) × (words_at f ≡ words ++ behind)
unfolding words_at
words_at-front f words few same =
    listed-front f 0 4096 words few (λ i lt. ap f (let e : 0 + i ≡ i = omega arith in e) ∙ same i lt)

-- words that begin with an image
pub image_begins : (f : ℕ → ℕ) (words : List ℕ) → length words ≤ 4096
    → ((i : ℕ) → i < length words → f i ≡ get_or words i 0) → IsTrue (is_some (image_in words)) → BeginsWithImage f
unfolding begins_with_image
image_begins f words few same some =
    let front = words_at-front f words few same in
    let told = read-some words some in
    ap (λ ws. is_some (image_in ws)) front.1 ∙ ap is_some (image-more words front.0 told.0 told.1)

-- what is read of words that begin with an image
pub image_told : (f : ℕ → ℕ) → BeginsWithImage f → IsTrue (is_some (image_in (words_at f)))
unfolding begins_with_image
image_told f begins = begins

and_no : (a b : Bool) → a ≡ false → (a && b) ≡ false
and_no true b e = absurd (true≢false e)
and_no false b e = refl

-- the region of the active slot begins with an image
pub active_image : (h : List Event) → Legal h → 0 < active_slot h → BeginsWithImage (λ i. content (active_slot h) i h)
active_image [] l pos = absurd (omega arith)
active_image (Store s i w ∷ h) l pos =
    let k = active_slot h in
    let apart : k ≢ s = λ e. l.0.3 (sym e) in
    subst BeginsWithImage
    (λ z j. sym (cond_no ((k == s) && (j == i)) w (content k j h) (and_no (k == s) (j == i) (ne_eqb k s apart))) z)
    (active_image h l.1 pos)
active_image (Switch s e u ∷ h) l pos = l.0.2 pos
active_image (Claim p ∷ h) l pos = active_image h l.1 pos
active_image (Return p ∷ h) l pos = active_image h l.1 pos
active_image (Look s ∷ h) l pos = active_image h l.1 pos
