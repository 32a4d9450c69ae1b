-- Lists that grow at their end, and what is declared in them.
use Rattle.std.proofs.Common.{◌≡◌, ℕ, suc, ◌<◌, ◌≤◌, Bool, true, false, cond, ◌||◌, List, [], ◌∷◌, ◌++◌, map, Option, Some, None, is_some, position, refl, sym, ap, ◌∙◌, arith}
use Rattle.std.specs.List.{AllByRecursion, find, list_any, slice_get}
use Rattle.std.specs.Option.{option_and_then, option_map, option_or}
use Rattle.std.proofs.lemmas.List.{map_push}
use Rattle.std.proofs.lemmas.List.Folds.{find-append}
use Rattle.line_words.specs.Words.{is_text}
use Rattle.line_words.proofs.Places.{list_any-is_some, position-cons}
use Rattle.ipe_requests.specs.Rules.{LinesRise}

-- ---- all elements

pub all-map : {X : Type 0} (P Q : X → Type 0) (xs : List X) → ((x : X) → P x → Q x) → AllByRecursion P xs
    → AllByRecursion Q xs
all-map P Q [] more all = tt
all-map P Q (x ∷ xs) more all = (more x all.0, all-map P Q xs more all.1)

pub all-push : {X : Type 0} (P : X → Type 0) (xs : List X) (x : X) → AllByRecursion P xs → P x
    → AllByRecursion P (xs ++ x ∷ [])
all-push P [] x all one = (one, tt)
all-push P (y ∷ ys) x all one = (all.0, all-push P ys x all.1 one)

-- a line of a higher number stands last
pub rise-push : {X : Type 0} (number : X → ℕ) (most : ℕ) (xs : List X) (x : X) → LinesRise number xs
    → AllByRecursion (λ (y : X). number y ≤ most) xs → most < number x → LinesRise number (xs ++ x ∷ [])
rise-push number most [] x rise within more = tt
rise-push number most (y ∷ []) x rise within more = (omega (arith, within.0), tt)
rise-push number most (y ∷ next ∷ xs) x rise within more =
    (rise.0, rise-push number most (next ∷ xs) x rise.1 within.1 more)

-- names stay those of the things
pub names-push : {X : Type 0} (key : X → List ℕ) (names : List (List ℕ)) (xs : List X) (x : X) → names ≡ map key xs
    → names ++ key x ∷ [] ≡ map key (xs ++ x ∷ [])
names-push key names xs x same = ap (λ (ns : List (List ℕ)). ns ++ key x ∷ []) same ∙ sym (map_push key xs x)

-- ---- what is found

or-some : {X : Type 0} (o p : Option X) → is_some o ≡ true → is_some (option_or o p) ≡ true
or-some None p e = absurd (cc)
or-some (Some x) p e = refl

-- what is found stays found
pub found-push : {X : Type 0} (test : X → Bool) (xs : List X) (x : X) → is_some (find test xs) ≡ true
    → is_some (find test (xs ++ x ∷ [])) ≡ true
found-push test xs x e =
    ap is_some (find-append test xs (x ∷ [])) ∙ or-some (find test xs) (find test (x ∷ [])) e

pub found-same : {X : Type 0} (test : X → Bool) (xs : List X) (x found : X) → find test xs ≡ Some found
    → find test (xs ++ x ∷ []) ≡ Some found
found-same test xs x found e =
    find-append test xs (x ∷ []) ∙ ap (λ o. option_or o (find test (x ∷ []))) e

list_any-find : {X : Type 0} (key : X → List ℕ) (name : List ℕ) (xs : List X)
    → list_any (is_text name) (map key xs) ≡ is_some (find (λ x. is_text name (key x)) xs)
list_any-find key name [] = refl
list_any-find key name (x ∷ xs) = chosen (is_text name (key x)) (list_any-find key name xs)
  where
    chosen : (b : Bool) → list_any (is_text name) (map key xs) ≡ is_some (find (λ x. is_text name (key x)) xs)
        → (b || list_any (is_text name) (map key xs)) ≡ is_some (cond b (Some x) (find (λ x. is_text name (key x)) xs))
    chosen true e = refl
    chosen false e = e

-- a thing whose name is declared is found
pub declared-found : {X : Type 0} (key : X → List ℕ) (name : List ℕ) (names : List (List ℕ)) (xs : List X)
    → names ≡ map key xs → is_some (position (is_text name) names) ≡ true
    → is_some (find (λ x. is_text name (key x)) xs) ≡ true
declared-found key name names xs same e =
    sym (list_any-find key name xs) ∙ ap (λ (ns : List (List ℕ)). list_any (is_text name) ns) (sym same)
    ∙ list_any-is_some (is_text name) names ∙ e

item-find : {X : Type 0} (key : X → List ℕ) (name : List ℕ) (xs : List X)
    → option_and_then (λ place. slice_get xs place) (position (is_text name) (map key xs))
    ≡ find (λ x. is_text name (key x)) xs
item-find key name [] = refl
item-find key name (x ∷ xs) =
    ap (λ o. option_and_then (λ place. slice_get (x ∷ xs) place) o) (position-cons (is_text name) (key x) (map key xs))
    ∙ chosen (is_text name (key x)) (position (is_text name) (map key xs)) (item-find key name xs)
  where
    chosen : (b : Bool) (o : Option ℕ)
        → option_and_then (λ place. slice_get xs place) o ≡ find (λ x. is_text name (key x)) xs
        → option_and_then (λ place. slice_get (x ∷ xs) place) (cond b (Some 0) (option_map suc o))
        ≡ cond b (Some x) (find (λ x. is_text name (key x)) xs)
    chosen true o e = refl
    chosen false None e = e
    chosen false (Some place) e = e

-- the thing that stands where its name does is the one that is found
pub item-found : {X : Type 0} (key : X → List ℕ) (name : List ℕ) (names : List (List ℕ)) (xs : List X)
    → names ≡ map key xs
    → option_and_then (λ place. slice_get xs place) (position (is_text name) names)
    ≡ find (λ x. is_text name (key x)) xs
item-found key name names xs same =
    ap (λ (ns : List (List ℕ)). option_and_then (λ place. slice_get xs place) (position (is_text name) ns)) same
    ∙ item-find key name xs
