-- What is there, or is answered, where each step gives only what has a property.
use Rattle.std.proofs.Common.{◌≡◌, ℕ, zero, suc, Bool, true, false, cond, List, [], ◌∷◌, Option, Some, None, Result, Ok, Err, refl}
use Rattle.std.specs.List.{AllByRecursion}
use Rattle.std.specs.Prelude.{slice_get}
use Rattle.std.specs.Option.{ok_or, option_and_then, option_map}
use Rattle.std.specs.Result.{IfOk}

-- what is there, if anything, has this
abbrev pub Found : {X : Type 0} → (X → Type 0) → Option X → Type 0
Found P None = Unit {0}
Found P (Some x) = P x

-- so it is where a test that fails leaves nothing
pub found_on : {X : Type 0} (P : X → Type 0) (test : Bool) (found : Option X) → (test ≡ true → Found P found) → Found P (cond test found None)
found_on P true found h = h refl
found_on P false found h = tt

-- what is made of what is there
pub found_map : {X Y : Type 0} (P : Y → Type 0) (f : X → Y) (found : Option X) → ((x : X) → P (f x)) → Found P (option_map f found)
found_map P f None h = tt
found_map P f (Some x) h = h x

-- what is made of what is there and has a property
pub found_made : {X Y : Type 0} (Q : X → Type 0) (P : Y → Type 0) (f : X → Y) (found : Option X) → Found Q found → ((x : X) → Q x → P (f x)) → Found P (option_map f found)
found_made Q P f None q h = tt
found_made Q P f (Some x) q h = h x q

-- what follows from what is there
pub found_and_then : {X Y : Type 0} (P : Y → Type 0) (f : X → Option Y) (found : Option X) → ((x : X) → Found P (f x)) → Found P (option_and_then f found)
found_and_then P f None h = tt
found_and_then P f (Some x) h = h x

-- one of two things that are there
pub found_either : {X : Type 0} (P : X → Type 0) (test : Bool) (one two : Option X) → Found P one → Found P two → Found P (cond test one two)
found_either P true one two h k = h
found_either P false one two h k = k

-- what holds of each element holds of the one at a place
pub get_all : {X : Type 0} (P : X → Type 0) (xs : List X) (place : ℕ) → AllByRecursion P xs → Found P (slice_get xs place)
get_all P [] place all = tt
get_all P (x ∷ xs) zero all = all.0
get_all P (x ∷ xs) (suc place) all = get_all P xs place all.1

-- what is there, or a fault
pub ok_found : {X E : Type 0} (P : X → Type 0) (found : Option X) (fault : E) → Found P found → IfOk (ok_or found fault) P
ok_found P None fault h = tt
ok_found P (Some x) fault h = h

-- one of two answers
pub ok_either : {X E : Type 0} (P : X → Type 0) (test : Bool) (one two : Result X E) → IfOk one P → IfOk two P → IfOk (cond test one two) P
ok_either P true one two h k = h
ok_either P false one two h k = k

-- an answer where a test holds
pub ok_on : {X E : Type 0} (P : X → Type 0) (test : Bool) (one : Result X E) (fault : E) → (test ≡ true → IfOk one P) → IfOk (cond test one (Err fault)) P
ok_on P true one fault h = h refl
ok_on P false one fault h = tt

-- each answer
pub ok_each : {X E : Type 0} (r : Result X E) → IfOk r (λ x. Unit {0})
ok_each (Ok x) = tt
ok_each (Err fault) = tt
