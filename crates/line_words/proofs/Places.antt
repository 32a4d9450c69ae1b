-- Where a word stands among words. Callers of a word index cite `position-push` and what follows it.
use Rattle.std.proofs.Common.{◌≡◌, ℕ, suc, ◌+◌, ◌<◌, Bool, true, false, cond, not, ◌||◌, nat_lt, List, [], ◌∷◌, ◌++◌, map, length, get_or, position, Option, Some, None, is_some, refl, sym, ap, ◌∙◌, arith}
use Rattle.std.proofs.lemmas.List.Quantifiers.{position-Some}
use Rattle.std.proofs.lemmas.Slice.Eq.{bytes_eq-Decides}
use Rattle.std.specs.Bool.{then_some}
use Rattle.std.specs.List.{list_any, position_or_len}
use Rattle.std.specs.Option.{option_map, option_or}
use Rattle.std.specs.Str.{bytes_eq}
use Rattle.line_words.specs.Words.{is_text}

module _ {X : Type 0} (p : X → Bool) where
  -- head by head
  pub position-cons : (x : X) (xs : List X) → position p (x ∷ xs) ≡ cond (p x) (Some 0) (option_map suc (position p xs))
  position-cons x xs = by (p x) (position_or_len p xs) (length xs)
    where
      by : (b : Bool) (n l : ℕ) → cond (nat_lt (cond (not b) (1 + n) 0) (suc l)) (Some (cond (not b) (1 + n) 0)) None ≡ cond b (Some 0) (option_map suc (cond (nat_lt n l) (Some n) None))
      by true n l = grind arith
      by false n l = grind arith

  -- a place is found where some element passes
  pub list_any-is_some : (xs : List X) → list_any p xs ≡ is_some (position p xs)
  list_any-is_some [] = refl
  list_any-is_some (x ∷ xs) = ap (λ b. p x || b) (list_any-is_some xs) ∙ by (p x) (position p xs) ∙ sym (ap is_some (position-cons x xs))
    where
      by : (b : Bool) (o : Option ℕ) → (b || is_some o) ≡ is_some (cond b (Some 0) (option_map suc o))
      by true o = refl
      by false None = refl
      by false (Some i) = refl

  -- one more element stands at the length, and counts where none before it passes
  pub position-append : (xs : List X) (y : X) → position p (xs ++ y ∷ []) ≡ option_or (position p xs) (then_some (p y) (length xs))
  position-append [] y = position-cons y [] ∙ by (p y)
    where
      by : (b : Bool) → cond {A = Option ℕ} b (Some 0) None ≡ then_some b 0
      by true = refl
      by false = refl
  position-append (x ∷ xs) y = position-cons x (xs ++ y ∷ []) ∙ ap (λ o. cond (p x) (Some 0) (option_map suc o)) (position-append xs y) ∙ by (p x) (position p xs) (p y) (length xs) ∙ sym (ap (λ o. option_or o (then_some (p y) (suc (length xs)))) (position-cons x xs))
    where
      by : (b : Bool) (o : Option ℕ) (c : Bool) (l : ℕ) → cond b (Some 0) (option_map suc (option_or o (then_some c l))) ≡ option_or (cond b (Some 0) (option_map suc o)) (then_some c (suc l))
      by true o c l = refl
      by false (Some i) c l = refl
      by false None true l = refl
      by false None false l = refl

-- a place by a test of what is made of the elements
pub position-map : {X Y : Type 0} (f : X → Y) (p : Y → Bool) (q : X → Bool) → ((x : X) → q x ≡ p (f x)) → (xs : List X) → position q xs ≡ position p (map f xs)
position-map f p q same [] = refl
position-map f p q same (x ∷ xs) = position-cons q x xs ∙ (λ i. cond (same x i) (Some 0) (option_map suc (position-map f p q same xs i))) ∙ sym (position-cons p (f x) (map f xs))

-- the test of a word, with the word first
pub is_text-swap : (text bytes : List ℕ) → bytes_eq text bytes ≡ is_text text bytes
is_text-swap text bytes = by (bytes_eq text bytes) (bytes_eq bytes text) (λ e. (bytes_eq-Decides bytes text).1 (sym ((bytes_eq-Decides text bytes).0 e))) (λ e. (bytes_eq-Decides text bytes).1 (sym ((bytes_eq-Decides bytes text).0 e)))
  where
    by : (a b : Bool) → (a ≡ true → b ≡ true) → (b ≡ true → a ≡ true) → a ≡ b
    by true b there back = sym (there refl)
    by false true there back = back refl
    by false false there back = refl

module _ (words : List (List ℕ)) (word : List ℕ) where
  -- one more word stands at the length
  pub position-push : (added : List ℕ) → position (is_text word) (words ++ added ∷ []) ≡ option_or (position (is_text word) words) (then_some (is_text word added) (length words))
  position-push added = position-append (is_text word) words added

  -- a word that is there keeps its place
  pub position-push-there : (added : List ℕ) (place : ℕ) → position (is_text word) words ≡ Some place → position (is_text word) (words ++ added ∷ []) ≡ Some place
  position-push-there added place at = position-push added ∙ ap (λ o. option_or o (then_some (is_text word added) (length words))) at

  -- a word that is not there is at the length once it is added
  pub position-push-same : position (is_text word) words ≡ None → position (is_text word) (words ++ word ∷ []) ≡ Some (length words)
  position-push-same none = position-push word ∙ ap (λ o. option_or o (then_some (is_text word word) (length words))) none ∙ ap (λ b. then_some b (length words)) ((bytes_eq-Decides word word).1 refl)

  -- and is still not there once another is added
  pub position-push-other : (added : List ℕ) → is_text word added ≡ false → position (is_text word) words ≡ None → position (is_text word) (words ++ added ∷ []) ≡ None
  position-push-other added apart none = position-push added ∙ ap (λ o. option_or o (then_some (is_text word added) (length words))) none ∙ ap (λ b. then_some b (length words)) apart

  -- a place is below the length
  pub position-below : (place : ℕ) → position (is_text word) words ≡ Some place → place < length words
  position-below place at = (position-Some (is_text word) words place [] at).0

  -- and the word stands there
  pub position-reads : (place : ℕ) (d : List ℕ) → position (is_text word) words ≡ Some place → get_or words place d ≡ word
  position-reads place d at = (bytes_eq-Decides (get_or words place d) word).0 (position-Some (is_text word) words place d at).1
