-- The words of the keys.
use Rattle.std.proofs.Common.{◌≡◌, ◌∙◌, ℕ, false, List, [], ◌∷◌, ◌++◌, position, None, ap, is_some, if◌then◌else◌}
use Rattle.std.proofs.lemmas.List.{map-append}
use Rattle.std.specs.List.{list_any}
use Rattle.std.specs.Str.{bytes_eq}
use Rattle.std.specs.declared.vec.Vec.{Vec}
use Rattle.indexmap.specs.IndexSet.{insert_key}
use Rattle.line_words.specs.Words.{is_text}
use Rattle.line_words.specs.WordIndex.{words_of}
use Rattle.line_words.proofs.Places.{list_any-is_some, position-map, is_text-swap}

module _ {A : Type 0} (keys : List (Vec ℕ A)) where
  -- a place among the keys is the place among the words
  pub position-words_of : (word : List ℕ) → position (λ key. bytes_eq word key.items) keys ≡ position (is_text word) (words_of keys)
  position-words_of word = position-map (λ key. key.items) (is_text word) (λ key. bytes_eq word key.items) (λ key. is_text-swap word key.items) keys

  -- a new word goes last
  pub words_of-insert_key : (key : Vec ℕ A) (word : List ℕ) → key.items ≡ word → position (is_text word) (words_of keys) ≡ None → words_of (insert_key (λ x y. bytes_eq x.items y.items) keys key) ≡ words_of keys ++ word ∷ []
  words_of-insert_key key word is none = ap (λ b. words_of (if b then keys else keys ++ key ∷ [])) absent ∙ map-append (λ k. k.items) keys (key ∷ []) ∙ ap (λ w. words_of keys ++ w ∷ []) is
    where
      absent : list_any (λ k. bytes_eq key.items k.items) keys ≡ false
      absent = list_any-is_some (λ k. bytes_eq key.items k.items) keys ∙ ap is_some (position-words_of key.items ∙ ap (λ w. position (is_text w) (words_of keys)) is ∙ none)
