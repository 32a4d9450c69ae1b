-- What words tell, they begin with.
use Rattle.std.proofs.Common.{◌≡◌, ◌∙◌, ℕ, Bool, true, false, ◌&&◌, cond, List, ◌++◌, length, take, drop, Option, Some, None, is_some, refl, ap, sym, subst}
use Rattle.std.specs.Prelude.{option_and_then}
use Rattle.std.proofs.lemmas.Bool.{and_parts}
use Rattle.std.proofs.lemmas.List.{take-append-drop}
use Rattle.std.proofs.lemmas.Slice.Eq.{bytes_eq-Decides}
use Rattle.ipe_image.specs.Parts.{ImageParts}
use Rattle.ipe_image.specs.Image.{image_of}
use Rattle.ipe_image.specs.Reading.{begin_with, decoded, image_in, is_complete}
use Rattle.ipe_image.specs.Found.{BeginsWithImage}

-- other words that are the same begin with the same image
pub moved : (words words' : List ℕ) (parts : ImageParts) → words ≡ words' → BeginsWithImage words parts
    → BeginsWithImage words' parts
moved words words' parts same h = record { complete = h.complete; behind = h.behind; whole = sym same ∙ h.whole }

-- what was read passed both tests
taken : (words : List ℕ) (o : Option ImageParts) (parts : ImageParts)
    → option_and_then (λ told. cond (is_complete told && begin_with (image_of told) words) (Some told) None) o ≡ Some parts
    → (is_complete parts && begin_with (image_of parts) words) ≡ true
taken words None parts e = absurd (cc)
taken words (Some told) parts e = at (is_complete told && begin_with (image_of told) words) refl e
  where
    at : (b : Bool) → (is_complete told && begin_with (image_of told) words) ≡ b
        → cond b (Some told) None ≡ Some parts → (is_complete parts && begin_with (image_of parts) words) ≡ true
    at true same e = let one : told ≡ parts =
        cc in subst (λ (p : ImageParts). (is_complete p && begin_with (image_of p) words) ≡ true) one same
    at false same e = absurd (cc)

-- words that tell parts begin with their image
pub read-begins : (words : List ℕ) (parts : ImageParts) → image_in words ≡ Some parts → BeginsWithImage words parts
read-begins words parts e =
    let both = and_parts _ _ (taken words (decoded words) parts e) in
    let front : take (length (image_of parts)) words ≡ image_of parts =
    (bytes_eq-Decides (take (length (image_of parts)) words) (image_of parts)).0 both.1 in
    record {
      complete = both.0;
      behind = drop (length (image_of parts)) words;
      whole = sym (take-append-drop (length (image_of parts)) words)
          ∙ ap (λ (ws : List ℕ). ws ++ drop (length (image_of parts)) words) front;
    }

-- words tell something, so they tell parts
pub read-some : (words : List ℕ) → is_some (image_in words) ≡ true → (parts : ImageParts)
    × (image_in words ≡ Some parts)
read-some words e = at (image_in words) refl e
  where
    at : (o : Option ImageParts) → image_in words ≡ o → is_some o ≡ true → (parts : ImageParts)
        × (image_in words ≡ Some parts)
    at (Some parts) same e = (parts, same)
    at None same e = absurd (cc)
