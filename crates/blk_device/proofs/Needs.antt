-- What a reader needs to know before it reads a range of a device.
use Rattle.std.proofs.Common.{◌≡◌, ℕ, ◌<◌, ◌≤◌, List, [], ◌∷◌, length, take, drop, Option, None, Some, ap, refl, sym, ◌∙◌, arith}
use Rattle.std.specs.Prelude.{IfSome, IsSomeAnd}
use Rattle.std.proofs.lemmas.List.{take_all}
use Rattle.std.specs.Option.{option_map}
use Rattle.blk_device.specs.Contents.{Contents, HasAtLeast, HasContent, HasDevice, HasNone, HasSize, OnDevice, content}

length_zero : (xs : List ℕ) → length xs ≡ 0 → xs ≡ []
length_zero [] none = refl
length_zero (x ∷ xs) none = absurd (omega arith)

of_size : (found : Option (List ℕ)) (n need : ℕ) → option_map length found ≡ Some n → need ≤ n →
    IfSome found (λ all. need ≤ length all)
of_size None n need size fits = tt
of_size (Some all) n need size fits = let same : length all ≡ n = cc in omega arith

-- a device that is large enough
pub size_fits : (told : Option Contents) (name : List ℕ) (n need : ℕ) → HasSize told name n → need ≤ n →
    HasAtLeast told name need
size_fits None name n need size fits = tt
size_fits (Some items) name n need size fits = of_size (content name items) n need size fits

short_of : (found : Option (List ℕ)) (n need : ℕ) → option_map length found ≡ Some n → n < need →
    IfSome found (λ all. length all < need)
short_of None n need size short = tt
short_of (Some all) n need size short = let same : length all ≡ n = cc in omega arith

-- one that isn't
pub size_short : (told : Option Contents) (name : List ℕ) (n need : ℕ) → HasSize told name n → n < need →
    IfSome told (λ items. IfSome (content name items) (λ all. length all < need))
size_short None name n need size short = tt
size_short (Some items) name n need size short = short_of (content name items) n need size short

of_none : (found : Option (List ℕ)) (need : ℕ) → found ≡ None → IfSome found (λ all. need ≤ length all)
of_none None need none = tt
of_none (Some all) need none = cc

-- and one that isn't there
pub none_fits : (told : Option Contents) (name : List ℕ) (need : ℕ) → HasNone told name → HasAtLeast told name need
none_fits None name need none = tt
none_fits (Some items) name need none = of_none (content name items) need none

of_there : (found : Option (List ℕ)) (n : ℕ) → option_map length found ≡ Some n → IsSomeAnd found (λ _. Unit {0})
of_there None n size = cc
of_there (Some all) n size = tt

-- one that has a size is there
pub size_there : (told : Option Contents) (name : List ℕ) (n : ℕ) → HasSize told name n → HasDevice told name
size_there None name n size = tt
size_there (Some items) name n size = of_there (content name items) n size

of_whole : (found : Option (List ℕ)) (n : ℕ) (bytes : List ℕ) → option_map length found ≡ Some n → length bytes ≡ n →
    IsSomeAnd found (λ all. take (length bytes) (drop 0 all) ≡ bytes) → found ≡ Some bytes
of_whole None n bytes size long held = cc
of_whole (Some all) n bytes size long held =
    let same : length all ≡ n = cc in
    ap (λ (xs : List ℕ). Some xs) (sym (take_all (length bytes) all (omega arith)) ∙ held)

-- all of a device that was read from its beginning
pub whole_read : (told : Option Contents) (name : List ℕ) (n : ℕ) (bytes : List ℕ) → HasSize told name n →
    length bytes ≡ n → OnDevice told name (λ all. take (length bytes) (drop 0 all) ≡ bytes) →
    HasContent told name bytes
whole_read None name n bytes size long held = tt
whole_read (Some items) name n bytes size long held = of_whole (content name items) n bytes size long held

of_empty : (found : Option (List ℕ)) (n : ℕ) (bytes : List ℕ) → option_map length found ≡ Some n → length bytes ≡ n →
    length bytes ≡ 0 → found ≡ Some bytes
of_empty None n bytes size long none = cc
of_empty (Some all) n [] size long none =
    let same : length all ≡ n = cc in
    ap (λ (xs : List ℕ). Some xs) (length_zero all (omega arith))
of_empty (Some all) n (byte ∷ bytes) size long none = absurd (omega arith)

-- all of one that has no bytes
pub empty_read : (told : Option Contents) (name : List ℕ) (n : ℕ) (bytes : List ℕ) → HasSize told name n →
    length bytes ≡ n → length bytes ≡ 0 → HasContent told name bytes
empty_read None name n bytes size long none = tt
empty_read (Some items) name n bytes size long none = of_empty (content name items) n bytes size long none
