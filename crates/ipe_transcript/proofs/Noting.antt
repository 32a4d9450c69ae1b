-- Entries that are filed as they come, one more at a time.
use Rattle.std.proofs.Common.{◌≡◌, ℕ, ◌==◌, cond, List, [], ◌∷◌, ◌++◌, Option, Some, None, refl, sym, ap, ◌∙◌, inl, inr}
use Rattle.std.specs.Option.{option_map, option_or}
use Rattle.std.proofs.lemmas.Bool.{eqb-true, cases_Bool}
use Rattle.ipe_transcript.specs.Keys.{Key}
use Rattle.ipe_transcript.specs.Filing.{latest_key, filed_key, filed}

-- entries that came after others, latest first
abbrev pub latest_first : {X : Type 0} → List X → List X → List X
latest_first before [] = before
latest_first before (x ∷ xs) = latest_first (x ∷ before) xs

pub latest_first-more : {X : Type 0} (before xs : List X) (x : X) → latest_first before (xs ++ x ∷ []) ≡ x ∷ latest_first before xs
latest_first-more before [] x = refl
latest_first-more before (y ∷ xs) x = latest_first-more (y ∷ before) xs x

-- a first choice, and the values of both
or_shown : {A B : Type 0} (shown : A → B) (o p : Option A) → option_map shown (option_or o p) ≡ option_or (option_map shown o) (option_map shown p)
or_shown shown None p = refl
or_shown shown (Some x) p = refl

module _ {X K : Type 0} (actor : X → ℕ) (key : X → Option Key) (shown : K → Key) where
  pub filed-more : (before xs : List X) (x : X) → filed actor key before (xs ++ x ∷ []) ≡ filed actor key before xs ++ (filed_key actor key (latest_first before xs) x, x) ∷ []
  filed-more before [] x = refl
  filed-more before (y ∷ xs) x = ap (λ (zs : List (Option Key × X)). (filed_key actor key before y, y) ∷ zs) (filed-more (y ∷ before) xs x)

  -- what is found of each actor is its latest key
  abbrev pub AreLatest : (ℕ → Option K) → List X → Type 0
  AreLatest found before = (a : ℕ) → option_map shown (found a) ≡ latest_key actor key a before

  -- the key by which an entry is filed, from its own and from what is found
  pub filed_from_found : (found : ℕ → Option K) (before : List X) (x : X) (own kept : Option K) → AreLatest found before → option_map shown own ≡ key x → kept ≡ option_or own (found (actor x)) → option_map shown kept ≡ filed_key actor key before x
  filed_from_found found before x own kept are is kept_is =
      ap (option_map shown) kept_is
      ∙ or_shown shown own (found (actor x))
      ∙ ap (λ (o : Option Key). option_or o (option_map shown (found (actor x)))) is
      ∙ ap (option_or (key x)) (are (actor x))

  -- and what is found after it is noted
  pub noted : (found then : ℕ → Option K) (before : List X) (x : X) (kept : Option K) → AreLatest found before → option_map shown kept ≡ filed_key actor key before x → ((a : ℕ) → then a ≡ cond (actor x == a) kept (found a)) → AreLatest then (x ∷ before)
  noted found then before x kept are kept_is noted_is a = elim (cases_Bool (actor x == a)) [
    | inl is ↦
        let same : actor x ≡ a = eqb-true (actor x) a is in
        let here : then a ≡ kept = noted_is a ∙ (rw is refl) in
        let latest : latest_key actor key a (x ∷ before) ≡ option_or (key x) (latest_key actor key a before) = rw is refl in
        ap (option_map shown) here ∙ kept_is ∙ ap (λ (n : ℕ). option_or (key x) (latest_key actor key n before)) same ∙ sym latest
    | inr is ↦
        let here : then a ≡ found a = noted_is a ∙ (rw is refl) in
        let latest : latest_key actor key a (x ∷ before) ≡ latest_key actor key a before = rw is refl in
        ap (option_map shown) here ∙ are a ∙ sym latest
  ]

  -- one entry more is filed and noted
  pub filed_step : (found then : ℕ → Option K) (done : List (Option Key × X)) (xs : List X) (x : X) (kept : Option K) → done ≡ filed actor key [] xs → AreLatest found (latest_first [] xs) → option_map shown kept ≡ filed_key actor key (latest_first [] xs) x → ((a : ℕ) → then a ≡ cond (actor x == a) kept (found a))
      → (done ++ (option_map shown kept, x) ∷ [] ≡ filed actor key [] (xs ++ x ∷ [])) × AreLatest then (latest_first [] (xs ++ x ∷ []))
  filed_step found then done xs x kept done_is are kept_is noted_is = (
    ap (λ (ys : List (Option Key × X)). ys ++ (option_map shown kept, x) ∷ []) done_is
        ∙ ap (λ (o : Option Key). filed actor key [] xs ++ (o, x) ∷ []) kept_is
        ∙ sym (filed-more [] xs x),
    λ a. noted found then (latest_first [] xs) x kept are kept_is noted_is a ∙ ap (latest_key actor key a) (sym (latest_first-more [] xs x)),
  )

-- where nothing is kept, nothing was found
or_none : {A : Type 0} (o p : Option A) → option_or o p ≡ None → p ≡ None
or_none None p is = is
or_none (Some x) p is = cc

pub nothing_noted : {K : Type 0} (found : ℕ → Option K) (n a : ℕ) (own kept : Option K) → kept ≡ option_or own (found n) → kept ≡ None → found a ≡ cond (n == a) kept (found a)
nothing_noted found n a own kept kept_is none = elim (cases_Bool (n == a)) [
  | inl is ↦
      let same : n ≡ a = eqb-true n a is in
      let gone : found a ≡ None = ap found (sym same) ∙ or_none own (found n) (sym kept_is ∙ none) in
      gone ∙ sym none ∙ (rw is refl)
  | inr is ↦ rw is refl
]
