-- Places of names, as they are noted one by one.
use Rattle.std.proofs.Common.{◌≡◌, ◌∙◌, ℕ, zero, suc, ◌<◌, ◌≤◌, ◌⊎◌, nat_lt, Bool, true, false, cond, List, [], ◌∷◌, ◌++◌, map, length, position, Option, Some, None, is_some, refl, ap, sym, subst, arith, inl, inr}
use Rattle.std.specs.Prelude.{slice_get}
use Rattle.std.specs.Bool.{then_some}
use Rattle.std.specs.List.{find, position_or_len}
use Rattle.std.specs.Option.{option_and_then, option_map, option_or}
use Rattle.std.proofs.lemmas.Bool.{cases_lt, le-ltb, lt-ltb}
use Rattle.std.proofs.lemmas.List.Folds.{find_at}
use Rattle.std.proofs.lemmas.List.Quantifiers.{position-Some}
use Rattle.std.proofs.lemmas.Option.{slice_get-get_or, slice_get_past, slice_get-map}
use Rattle.std.proofs.lemmas.Slice.Eq.{bytes_eq-Decides}
use Rattle.line_words.specs.Words.{is_text}
use Rattle.line_words.proofs.Places.{position-append, position-map}
use Rattle.ipe_objects.specs.Places.{Placed, PlacesAre, place_in, with_place}

-- the item at the first place that passes is the first that passes
pub place-find : {A : Type 0} (test : A → Bool) (items : List A)
    → option_and_then (slice_get items) (position test items) ≡ find test items
place-find test items = by (cases_lt (position_or_len test items) (length items)) ∙ sym (find_at test items)
  where
    by : (position_or_len test items < length items) ⊎ (length items ≤ position_or_len test items)
        → option_and_then (slice_get items)
        (cond (nat_lt (position_or_len test items) (length items)) (Some (position_or_len test items)) None)
        ≡ slice_get items (position_or_len test items)
    by (inl lt) =
        ap (λ (b : Bool). option_and_then (slice_get items) (cond b (Some (position_or_len test items)) None))
        (lt-ltb (position_or_len test items) (length items) lt)
    by (inr le) =
        ap (λ (b : Bool). option_and_then (slice_get items) (cond b (Some (position_or_len test items)) None))
        (le-ltb (position_or_len test items) (length items) le)
        ∙ sym (slice_get_past items (position_or_len test items) le)

-- the same through a list of what is made of each item
pub placed-find : {A B : Type 0} (make : A → B) (test : A → Bool) (items : List A)
    → option_and_then (slice_get (map make items)) (position test items) ≡ option_map make (find test items)
placed-find make test items =
    placed-by make items (position test items) ∙ ap (option_map make) (place-find test items)
  where
    placed-by : {A B : Type 0} (make : A → B) (items : List A) (o : Option ℕ)
        → option_and_then (slice_get (map make items)) o ≡ option_map make (option_and_then (slice_get items) o)
    placed-by make items None = refl
    placed-by make items (Some k) = slice_get-map make items k

-- what is made of the first item of a name, by the place of the name
pub made-find : {A B : Type 0} (make : A → B) (name_of : A → List ℕ) (name : List ℕ) (items : List A)
    → option_and_then (slice_get (map make items)) (position (is_text name) (map name_of items))
    ≡ option_map make (find (λ item. is_text name (name_of item)) items)
made-find make name_of name items =
    ap (λ (p : Option ℕ). option_and_then (slice_get (map make items)) p)
    (sym (position-map name_of (is_text name) (λ item. is_text name (name_of item)) (λ item. refl) items))
    ∙ placed-find make (λ item. is_text name (name_of item)) items

-- an item by the place of its name
pub named-find : {A : Type 0} (name_of : A → List ℕ) (name : List ℕ) (items : List A) (o : Option ℕ)
    → o ≡ position (is_text name) (map name_of items)
    → option_and_then (slice_get items) o ≡ find (λ item. is_text name (name_of item)) items
named-find name_of name items o is =
    ap (λ (p : Option ℕ). option_and_then (slice_get items) p)
    (is ∙ sym (position-map name_of (is_text name) (λ item. is_text name (name_of item)) (λ item. refl) items))
    ∙ place-find (λ item. is_text name (name_of item)) items

-- a place within a list holds an item
some-at : {A : Type 0} (items : List A) (k : ℕ) → k < length items → is_some (slice_get items k) ≡ true
some-at [] k within = absurd (omega arith)
some-at (item ∷ items) k within =
    ap is_some (slice_get-get_or (item ∷ items) k item within)

or-some : {A : Type 0} (o other : Option A) → is_some o ≡ true → option_or o other ≡ o
or-some None other is = absurd (cc)
or-some (Some x) other is = refl

slice_get-left : (some others : List ℕ) (k : ℕ) → k < length some → slice_get (some ++ others) k ≡ slice_get some k
slice_get-left [] others k within = absurd (omega arith)
slice_get-left (x ∷ some) others zero within = refl
slice_get-left (x ∷ some) others (suc k) within = slice_get-left some others k (omega arith)

slice_get-end : (some : List ℕ) (x : ℕ) → slice_get (some ++ x ∷ []) (length some) ≡ Some x
slice_get-end [] x = refl
slice_get-end (y ∷ some) x = slice_get-end some x

module _ (placed : Placed) (names : List (List ℕ)) (name : List ℕ) (even : length placed.places ≡ length placed.names)
    (are : PlacesAre placed names) where
  abbrev found : List ℕ → Option ℕ
  found query = position (is_text query) placed.names

  -- a query that is found has a place
  has-place : (query : List ℕ) (k : ℕ) → found query ≡ Some k → is_some (position (is_text query) names) ≡ true
  has-place query k is =
      let within : k < length placed.names = (position-Some (is_text query) placed.names k [] is).0 in
      ap is_some (sym (are query) ∙ ap (λ (o : Option ℕ). option_and_then (slice_get placed.places) o) is)
      ∙ some-at placed.places k (omega (arith, even))

  present : (query : List ℕ) (k : ℕ) → found name ≡ Some k
      → position (is_text query) names ≡ option_or (position (is_text query) names) (then_some (is_text query name) (length names))
  present query k is = by (is_text query name) refl (position (is_text query) names) refl
    where
      by : (b : Bool) → is_text query name ≡ b → (o : Option ℕ) → position (is_text query) names ≡ o
          → o ≡ option_or o (then_some b (length names))
      by b same (Some i) e = refl
      by false same None e = refl
      by true same None e =
          let is_query : name ≡ query = (bytes_eq-Decides name query).0 same in
          let has : is_some (position (is_text query) names) ≡ true =
          subst (λ (q : List ℕ). is_some (position (is_text q) names) ≡ true) is_query (has-place name k is) in
          let none : is_some (position (is_text query) names) ≡ false = ap is_some e in absurd (cc)

  added : (query : List ℕ) (o : Option ℕ) → found query ≡ o
      → option_and_then (slice_get (placed.places ++ length names ∷ []))
      (option_or o (then_some (is_text query name) (length placed.names)))
      ≡ option_or (position (is_text query) names) (then_some (is_text query name) (length names))
  added query (Some k) is =
      let within : k < length placed.names = (position-Some (is_text query) placed.names k [] is).0 in
      slice_get-left placed.places (length names ∷ []) k (omega (arith, even))
      ∙ sym (ap (λ (o : Option ℕ). option_and_then (slice_get placed.places) o) is)
      ∙ are query
      ∙ sym (or-some (position (is_text query) names) (then_some (is_text query name) (length names)) (has-place query k is))
  added query None is =
      by (is_text query name)
      ∙ sym (ap (λ (o : Option ℕ). option_or o (then_some (is_text query name) (length names)))
      (sym (are query) ∙ ap (λ (o : Option ℕ). option_and_then (slice_get placed.places) o) is))
    where
      by : (b : Bool) → option_and_then (slice_get (placed.places ++ length names ∷ []))
          (then_some b (length placed.names)) ≡ then_some b (length names)
      by true = ap (slice_get (placed.places ++ length names ∷ [])) (sym even) ∙ slice_get-end placed.places (length names)
      by false = refl

  -- one name more, at the end of the list
  pub placed-more : PlacesAre (with_place placed name (length names)) (names ++ name ∷ [])
  placed-more query = by (found name) refl ∙ sym (position-append (is_text query) names name)
    where
      by : (o : Option ℕ) → found name ≡ o
          → place_in (cond (is_some o) placed
          (record { names = placed.names ++ name ∷ []; places = placed.places ++ length names ∷ [] })) query
          ≡ option_or (position (is_text query) names) (then_some (is_text query name) (length names))
      by (Some k) is = are query ∙ present query k is
      by None is =
          ap (λ (o : Option ℕ). option_and_then (slice_get (placed.places ++ length names ∷ [])) o)
          (position-append (is_text query) placed.names name)
          ∙ added query (found query) refl
