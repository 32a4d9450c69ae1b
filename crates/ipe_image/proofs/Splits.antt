-- The parts of words that begin with a property.
use Rattle.std.proofs.Common.{◌≡◌, ◌∙◌, ℕ, ◌+◌, ◌<◌, ◌≤◌, suc, true, Bool, ◌&&◌, List, [], ◌∷◌, ◌++◌, length, take, drop, get_or, ap, sym, subst, arith, append_assoc, length-append}
use Rattle.std.specs.List.{flat_map, list_all}
use Rattle.std.proofs.lemmas.Bool.{and_parts}
use Rattle.std.proofs.lemmas.List.{take_at, drop_at}
use Rattle.ipe_policy.specs.Spelling.{words_for}
use Rattle.ipe_policy.specs.declared.statement.Property.{Property}
use Rattle.ipe_image.specs.Packing.{byte_words}
use Rattle.ipe_image.specs.Image.{named_digest, property_head, property_image}
use Rattle.ipe_image.specs.Reading.{fits_property}
use Rattle.ipe_image.specs.Heads.{ArePropertyImages, BeginsWithProperty}
use Rattle.ipe_image.proofs.Bytes.{length-packed_words}

-- the words of an algorithm's name, of a digest, and what stands after
pub record Parted (words : List ℕ) (property : Property) (behind : List ℕ) : Type 0 where
  pub some : 1 ≤ length words
  pub head : get_or words 0 0 ≡ property_head property
  pub rest : drop 1 words ≡ byte_words (named_digest property).alg ++ (byte_words
      (named_digest property).bytes ++ behind)
  pub alg_len : length (byte_words (named_digest property).alg) ≡ words_for (length (named_digest property).alg)
  pub digest_len : length (byte_words (named_digest property).bytes) ≡ words_for (length (named_digest property).bytes)
  pub total : length words ≡ 1 + words_for (length (named_digest property).alg) + words_for (length
      (named_digest property).bytes) + length behind

pub parted : (words : List ℕ) (property : Property) (behind : List ℕ) → BeginsWithProperty words property behind
    → Parted words property behind
parted words property behind h =
    let alg = byte_words (named_digest property).alg in
    let digest = byte_words (named_digest property).bytes in
    let alg_len : length alg ≡ words_for (length (named_digest property).alg) =
    length-packed_words _ (named_digest property).alg in
    let digest_len : length digest ≡ words_for (length (named_digest property).bytes) =
    length-packed_words _ (named_digest property).bytes in
    let whole : words ≡ property_head property ∷ ((alg ++ digest) ++ behind) = h.whole in
    let count : length words ≡ suc (length ((alg ++ digest) ++ behind)) = ap length whole in
    let parts : length ((alg ++ digest) ++ behind) ≡ length alg + length digest + length behind =
    omega (arith, length-append (alg ++ digest) behind, length-append alg digest) in
    record {
      some = omega arith;
      head = ap (λ (ws : List ℕ). get_or ws 0 0) whole;
      rest = ap (λ (ws : List ℕ). drop 1 ws) whole ∙ append_assoc alg digest behind;
      alg_len = alg_len;
      digest_len = digest_len;
      total = omega arith;
    }

-- where words are split into those of a name, of a digest and what stands after
pub record Split (first second third alg digest behind : List ℕ) : Type 0 where
  pub alg_is : first ≡ alg
  pub digest_is : second ≡ digest
  pub behind_is : third ≡ behind

pub split : (words alg digest behind rest first second third : List ℕ) (n m : ℕ)
    → words ≡ alg ++ (digest ++ behind) → length alg ≡ n → length digest ≡ m
    → first ≡ take n words → rest ≡ drop n words → second ≡ take m rest → third ≡ drop m rest
    → Split first second third alg digest behind
split words alg digest behind rest first second third n m whole alg_len digest_len first_is rest_is second_is third_is =
    let back : rest ≡ digest ++ behind = rest_is ∙ ap (drop n) whole ∙ drop_at alg (digest ++ behind) n alg_len in
    record {
      alg_is = first_is ∙ ap (take n) whole ∙ take_at alg (digest ++ behind) n alg_len;
      digest_is = second_is ∙ ap (take m) back ∙ take_at digest behind m digest_len;
      behind_is = third_is ∙ ap (drop m) back ∙ drop_at digest behind m digest_len;
    }

-- the properties that are left, of which all pass a test just where these do
pub record Left (test : Property → Bool) (words : List ℕ) (all : Bool) : Type 0 where
  pub left : List Property
  pub are : ArePropertyImages words left
  pub same : list_all test left ≡ all

-- the first of the properties that are left
pub record FirstLeft (test : Property → Bool) (words : List ℕ) (all : Bool) : Type 0 where
  pub property : Property
  pub more : List Property
  pub begins : BeginsWithProperty words property (flat_map property_image more)
  pub fit : list_all fits_property more ≡ true
  pub same : (test property && list_all test more) ≡ all

pub first-left : (test : Property → Bool) (words : List ℕ) (all : Bool) → 0 < length words
    → Left test words all → FirstLeft test words all
first-left test words all some h = at h.left h.are.fit h.are.whole h.same
  where
    at : (left : List Property) → list_all fits_property left ≡ true → words ≡ flat_map property_image left
        → list_all test left ≡ all → FirstLeft test words all
    at [] fit whole_is same = absurd (let none : length words ≡ 0 = ap length whole_is in omega arith)
    at (property ∷ more) fit whole_is same =
        let parts = and_parts (fits_property property) (list_all fits_property more) fit in
        record {
          property = property;
          more = more;
          begins = record { fits = parts.0; whole = whole_is };
          fit = parts.1;
          same = same;
        }

-- where no words are left, no properties are
pub none-left : (test : Property → Bool) (words : List ℕ) (all : Bool) → length words ≡ 0 → Left test words all
    → true ≡ all
none-left test words all none h = at h.left h.are.whole h.same
  where
    at : (left : List Property) → words ≡ flat_map property_image left → list_all test left ≡ all → true ≡ all
    at [] whole_is same = same
    at (property ∷ more) whole_is same = absurd (let some : 0 < length words = subst (λ (n : ℕ). 0 < n) (sym
        (ap length whole_is)) (omega arith) in omega arith)
