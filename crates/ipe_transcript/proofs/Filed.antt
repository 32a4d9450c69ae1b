-- Entries that stand as they are filed are in the one order in which they may be printed.
use Rattle.std.proofs.Common.{◌≡◌, ℕ, ◌<◌, ◌==◌, ◌⊎◌, inl, inr, Bool, true, false, cond, List, [], ◌∷◌, map, Option, Some, None, refl, sym, ap, subst, ◌∙◌, arith}
use Rattle.std.specs.List.{filter_map, cons_option}
use Rattle.std.specs.Option.{option_or}
use Rattle.std.proofs.lemmas.Bool.{eq-eqb, eqb-true, cases_Bool}
use Rattle.std.specs.List.Sorted.{IsPermutation}
use Rattle.std.proofs.lemmas.List.Sorted.{IsPermutation-sym, IsPermutation-trans}
use Rattle.ipe_transcript.specs.Keys.{Key, Rises, own_of, FollowsItsOwn, StandsAtTheBeginning, UnplacedStand, AreInPlace, ArePrinted}
use Rattle.ipe_transcript.specs.Filing.{latest_key, filed_key, filed, IsKeyBefore, IsFiledBefore, LinesRise, AreFiled}
use Rattle.ipe_transcript.proofs.Rising.{before-trans, before-irrefl}
use Rattle.ipe_transcript.proofs.Once.{own-first, own-skip}
use Rattle.ipe_transcript.proofs.Sorting.{Ascends, sorted_once, Linked, in_order, in_of_permutation}
use Rattle.ipe_transcript.proofs.Apart.{Apart, ascend_apart, apart_permutation, ascend_from_apart}
use Rattle.ipe_transcript.proofs.Permuted.{own_permutes}

-- keys by which entries are filed are in a strict order
key_irrefl : (a : Option Key) → IsKeyBefore a a → ⊥
key_irrefl None before = before
key_irrefl (Some a) before = before-irrefl a before

key_trans : (a b c : Option Key) → IsKeyBefore a b → IsKeyBefore b c → IsKeyBefore a c
key_trans None None c h k = absurd h
key_trans None (Some b) None h k = absurd k
key_trans None (Some b) (Some c) h k = tt
key_trans (Some a) None c h k = absurd h
key_trans (Some a) (Some b) None h k = absurd k
key_trans (Some a) (Some b) (Some c) h k = before-trans a b c h k

module _ {X : Type 0} (actor line : X → ℕ) (key : X → Option Key) where
  abbrev Before : Option Key × X → Option Key × X → Type 0
  Before = IsFiledBefore actor line

  filed_irrefl : (x : Option Key × X) → Before x x → ⊥
  filed_irrefl x (inl before) = key_irrefl x.0 before
  filed_irrefl x (inr same) = by same.1
    where
      by : (actor x.1 < actor x.1) ⊎ ((actor x.1 ≡ actor x.1) × (line x.1 < line x.1)) → ⊥
      by (inl low) = omega (arith, low)
      by (inr low) = omega (arith, low.1)

  filed_trans : (x y z : Option Key × X) → Before x y → Before y z → Before x z
  filed_trans x y z (inl h) (inl k) = inl (key_trans x.0 y.0 z.0 h k)
  filed_trans x y z (inl h) (inr k) = inl (subst (IsKeyBefore x.0) k.0 h)
  filed_trans x y z (inr h) (inl k) = inl (subst (λ (o : Option Key). IsKeyBefore o z.0) (sym h.0) k)
  filed_trans x y z (inr h) (inr k) = inr (h.0 ∙ k.0, by h.1 k.1)
    where
      by : (actor x.1 < actor y.1) ⊎ ((actor x.1 ≡ actor y.1) × (line x.1 < line y.1)) → (actor y.1 < actor z.1) ⊎ ((actor y.1 ≡ actor z.1) × (line y.1 < line z.1)) → (actor x.1 < actor z.1) ⊎ ((actor x.1 ≡ actor z.1) × (line x.1 < line z.1))
      by (inl a) (inl b) = inl (omega (arith, a, b))
      by (inl a) (inr b) = inl (omega (arith, a, b.0))
      by (inr a) (inl b) = inl (omega (arith, a.0, b))
      by (inr a) (inr b) = inr (a.0 ∙ b.0, omega (arith, a.1, b.1))

  -- the entries of what is filed
  entry_in : Option Key × X → X
  entry_in x = x.1

  pub filed_entries : (before xs : List X) → map (λ (x : Option Key × X). x.1) (filed actor key before xs) ≡ xs
  filed_entries before [] = refl
  filed_entries before (x ∷ xs) = ap (λ (ys : List X). x ∷ ys) (filed_entries (x ∷ before) xs)

  -- an actor's own of what is filed, from its own alone
  abbrev actor_of_filed : Option Key × X → ℕ
  actor_of_filed x = actor x.1

  abbrev filed_own : Option Key → List X → List (Option Key × X)
  filed_own last [] = []
  filed_own last (x ∷ xs) = (option_or (key x) last, x) ∷ filed_own (option_or (key x) last) xs

  own_filed : (a : ℕ) (before xs : List X) → own_of actor_of_filed a (filed actor key before xs) ≡ filed_own (latest_key actor key a before) (own_of actor a xs)
  own_filed a before [] = refl
  own_filed a before (x ∷ xs) = elim (cases_Bool (actor x == a)) [
    | inl is ↦
        let e : actor x ≡ a = eqb-true (actor x) a is in
        let now : latest_key actor key a (x ∷ before) ≡ option_or (key x) (latest_key actor key a before) = rw is refl in
        let here : filed_key actor key before x ≡ option_or (key x) (latest_key actor key a before) = ap (λ (n : ℕ). option_or (key x) (latest_key actor key n before)) e in
        let rest : own_of actor_of_filed a (filed actor key (x ∷ before) xs) ≡ filed_own (option_or (key x) (latest_key actor key a before)) (own_of actor a xs) =
        own_filed a (x ∷ before) xs ∙ ap (λ (o : Option Key). filed_own o (own_of actor a xs)) now in
        rw is (
        ap (λ (o : Option Key). (o, x) ∷ own_of actor_of_filed a (filed actor key (x ∷ before) xs)) here
        ∙ ap (λ (ys : List (Option Key × X)). (option_or (key x) (latest_key actor key a before), x) ∷ ys) rest
        )
    | inr is ↦
        let now : latest_key actor key a (x ∷ before) ≡ latest_key actor key a before = rw is refl in
        let rest : own_of actor_of_filed a (filed actor key (x ∷ before) xs) ≡ filed_own (latest_key actor key a before) (own_of actor a xs) =
        own_filed a (x ∷ before) xs ∙ ap (λ (o : Option Key). filed_own o (own_of actor a xs)) now in
        rw is rest
  ]

  -- the latest key of all
  abbrev latest_of_all : List X → Option Key
  latest_of_all [] = None
  latest_of_all (x ∷ before) = option_or (key x) (latest_of_all before)

  abbrev AllUnplaced : X → List X → Type 0
  AllUnplaced x before = StandsAtTheBeginning actor key before x

  none_of_all : (x : X) (before : List X) → AllUnplaced x before → latest_of_all before ≡ None
  none_of_all x [] none = refl
  none_of_all x (y ∷ before) none = ap (λ (o : Option Key). option_or o (latest_of_all before)) none.0.0 ∙ none_of_all x before none.1

  none_of_own : (x : X) (a : ℕ) (before : List X) → AllUnplaced x before → latest_key actor key a before ≡ None
  none_of_own x a [] none = refl
  none_of_own x a (y ∷ before) none = by (actor y == a) (none_of_own x a before none.1)
    where
      by : (b : Bool) → latest_key actor key a before ≡ None → cond b (option_or (key y) (latest_key actor key a before)) (latest_key actor key a before) ≡ None
      by true rest = ap (λ (o : Option Key). option_or o (latest_key actor key a before)) none.0.0 ∙ rest
      by false rest = rest

  -- the latest entry is filed by the latest key of all
  abbrev IsLatest : X → List X → Type 0
  IsLatest x before = filed_key actor key before x ≡ latest_of_all (x ∷ before)

  -- what an entry that directly follows has to meet: that it is filed by the latest key, after the one before it
  abbrev Follows : X → List X → X → Type 0
  Follows previous before x =
      IsLatest x (previous ∷ before) × Before (latest_of_all (previous ∷ before), previous) (latest_of_all (x ∷ previous ∷ before), x)

  -- a list's lines, from each own entry to the next
  abbrev OwnRise : List X → Type 0
  OwnRise xs = (a : ℕ) → LinesRise line (own_of actor a xs)

  lines_rest : (x : X) (xs : List X) → LinesRise line (x ∷ xs) → LinesRise line xs
  lines_rest x [] rise = tt
  lines_rest x (y ∷ ys) rise = rise.1

  own_rest : (x : X) (xs : List X) → OwnRise (x ∷ xs) → OwnRise xs
  own_rest x xs rise a = elim (cases_Bool (actor x == a)) [
    | inl is ↦ lines_rest x (own_of actor a xs) (subst (LinesRise line) (own-first actor key a x xs is) (rise a))
    | inr is ↦ subst (LinesRise line) (own-skip actor key a x xs is) (rise a)
  ]

  -- the next line of the same actor is higher
  next_line : (previous x : X) (xs : List X) → actor previous ≡ actor x → OwnRise (previous ∷ x ∷ xs) → line previous < line x
  next_line previous x xs same rise =
      let first : (actor previous == actor x) ≡ true = eq-eqb (actor previous) (actor x) same in
      let second : (actor x == actor x) ≡ true = eq-eqb (actor x) (actor x) refl in
      let both : own_of actor (actor x) (previous ∷ x ∷ xs) ≡ previous ∷ x ∷ own_of actor (actor x) xs =
      own-first actor key (actor x) previous (x ∷ xs) first ∙ ap (λ (ys : List X). previous ∷ ys) (own-first actor key (actor x) x xs second) in
      (subst (LinesRise line) both (rise (actor x))).0

  -- an entry with a key, and one without
  placed_follows : (previous : X) (before : List X) (x : X) (xs : List X) (k : Key) → key x ≡ Some k → Rises (cons_option (latest_of_all (previous ∷ before)) (filter_map key (x ∷ xs))) → Follows previous before x
  placed_follows previous before x xs k is rise =
      let mine : filed_key actor key (previous ∷ before) x ≡ Some k = ap (λ (o : Option Key). option_or o (latest_key actor key (actor x) (previous ∷ before))) is in
      let all : latest_of_all (x ∷ previous ∷ before) ≡ Some k = ap (λ (o : Option Key). option_or o (latest_of_all (previous ∷ before))) is in
      let keys : Rises (cons_option (latest_of_all (previous ∷ before)) (k ∷ filter_map key xs)) = subst (λ (o : Option Key). Rises (cons_option (latest_of_all (previous ∷ before)) (cons_option o (filter_map key xs)))) is rise in
      (mine ∙ sym all, inl (subst (IsKeyBefore (latest_of_all (previous ∷ before))) (sym all) (behind (latest_of_all (previous ∷ before)) keys)))
    where
      behind : (o : Option Key) → Rises (cons_option o (k ∷ filter_map key xs)) → IsKeyBefore o (Some k)
      behind None keys = tt
      behind (Some j) keys = keys.0

  unplaced_follows : (previous : X) (before : List X) (x : X) (xs : List X) → key x ≡ None → IsLatest previous before → OwnRise (previous ∷ x ∷ xs) → FollowsItsOwn actor (previous ∷ before) x ⊎ StandsAtTheBeginning actor key (previous ∷ before) x → Follows previous before x
  unplaced_follows previous before x xs none latest rise (inl same) =
      let all : latest_of_all (x ∷ previous ∷ before) ≡ latest_of_all (previous ∷ before) = ap (λ (o : Option Key). option_or o (latest_of_all (previous ∷ before))) none in
      let first : (actor previous == actor x) ≡ true = eq-eqb (actor previous) (actor x) same in
      let own : latest_key actor key (actor x) (previous ∷ before) ≡ filed_key actor key before previous = rw first (ap (λ (n : ℕ). option_or (key previous) (latest_key actor key n before)) (sym same)) in
      let mine : filed_key actor key (previous ∷ before) x ≡ latest_key actor key (actor x) (previous ∷ before) = ap (λ (o : Option Key). option_or o (latest_key actor key (actor x) (previous ∷ before))) none in
      (mine ∙ own ∙ latest ∙ sym all, inr (sym all, inr (same, next_line previous x xs same rise)))
  unplaced_follows previous before x xs none latest rise (inr begins) =
      let all : latest_of_all (x ∷ previous ∷ before) ≡ latest_of_all (previous ∷ before) = ap (λ (o : Option Key). option_or o (latest_of_all (previous ∷ before))) none in
      let mine : filed_key actor key (previous ∷ before) x ≡ latest_key actor key (actor x) (previous ∷ before) = ap (λ (o : Option Key). option_or o (latest_key actor key (actor x) (previous ∷ before))) none in
      (mine ∙ none_of_own x (actor x) (previous ∷ before) begins ∙ sym (none_of_all x (previous ∷ before) begins) ∙ sym all, inr (sym all, inl begins.0.1))

  follows : (previous : X) (before : List X) (x : X) (xs : List X) → IsLatest previous before → Rises (cons_option (latest_of_all (previous ∷ before)) (filter_map key (x ∷ xs))) → UnplacedStand actor key (previous ∷ before) (x ∷ xs) → OwnRise (previous ∷ x ∷ xs) → Follows previous before x
  follows previous before x xs latest rises stand rise = by (key x) refl
    where
      by : (o : Option Key) → key x ≡ o → Follows previous before x
      by (Some k) is = placed_follows previous before x xs k is rises
      by None is = unplaced_follows previous before x xs is latest rise (stand.0 is)

  -- keys that rise after the latest rise after the next latest
  rises_on : (o p : Option Key) (keys : List Key) → Rises (cons_option o (cons_option p keys)) → Rises (cons_option (option_or p o) keys)
  rises_on o None keys rise = rise
  rises_on None (Some k) keys rise = rise
  rises_on (Some j) (Some k) keys rise = rise.1

  -- what is filed of entries in place stands in order
  linked : (previous : X) (before xs : List X) → IsLatest previous before → Rises (cons_option (latest_of_all (previous ∷ before)) (filter_map key xs)) → UnplacedStand actor key (previous ∷ before) xs → OwnRise (previous ∷ xs)
      → Linked Before filed_irrefl filed_trans ((latest_of_all (previous ∷ before), previous) ∷ filed actor key (previous ∷ before) xs)
  linked previous before [] latest rises stand rise = tt
  linked previous before (x ∷ xs) latest rises stand rise =
      let next = follows previous before x xs latest rises stand rise in
      let more = linked x (previous ∷ before) xs next.0 (rises_on (latest_of_all (previous ∷ before)) (key x) (filter_map key xs) rises) stand.1 (own_rest previous (x ∷ xs) rise) in (
        subst (λ (o : Option Key). Before (latest_of_all (previous ∷ before), previous) (o, x)) (sym next.0) next.1,
        subst (λ (o : Option Key). Linked Before filed_irrefl filed_trans ((o, x) ∷ filed actor key (x ∷ previous ∷ before) xs)) (sym next.0) more,
      )

  none_or : (o : Option Key) → option_or o None ≡ o
  none_or None = refl
  none_or (Some k) = refl

  filed_in_order : (printed : List X) → AreInPlace actor key printed → OwnRise printed → Ascends Before (filed actor key [] printed)
  filed_in_order [] is rise = tt
  filed_in_order (x ∷ xs) is rise =
      in_order Before filed_irrefl filed_trans (filed actor key [] (x ∷ xs))
      (linked x [] xs refl (subst (λ (o : Option Key). Rises (cons_option o (filter_map key xs))) (sym (none_or (key x))) is.rises) is.stand.1 rise)

  -- so entries that are filed, and stand so, are as they are printed
  pub filing_prints : (entries ordered printed : List X) → AreFiled actor line key entries ordered → ArePrinted actor key entries printed → OwnRise printed → ordered ≡ printed
  filing_prints entries ordered printed are is rise =
      let own : (a : ℕ) → own_of actor_of_filed a (filed actor key [] printed) ≡ own_of actor_of_filed a (filed actor key [] entries) =
      λ a. own_filed a [] printed ∙ ap (filed_own None) (is.own a) ∙ sym (own_filed a [] entries) in
      let moved : IsPermutation (filed actor key [] printed) are.by =
      IsPermutation-trans (filed actor key [] printed) (filed actor key [] entries) are.by (own_permutes actor_of_filed (filed actor key [] printed) (filed actor key [] entries) own) are.same in
      let ascend : Ascends Before (filed actor key [] printed) = filed_in_order printed is.in_place rise in
      let apart : Apart Before are.by = apart_permutation Before (filed actor key [] printed) are.by moved (ascend_apart Before (filed actor key [] printed) ascend) in
      let same : are.by ≡ filed actor key [] printed =
      sorted_once Before filed_irrefl filed_trans are.by (filed actor key [] printed) (ascend_from_apart Before are.by are.in_order apart) ascend
      (in_of_permutation are.by (filed actor key [] printed) (IsPermutation-sym (filed actor key [] printed) are.by moved))
      (in_of_permutation (filed actor key [] printed) are.by moved) in
      are.ordered_are ∙ ap (map (λ (x : Option Key × X). x.1)) same ∙ filed_entries [] printed
