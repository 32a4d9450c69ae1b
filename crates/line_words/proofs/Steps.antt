-- Where a step gives a value: what each part of it gave.
use Rattle.std.proofs.Common.{◌≡◌, Bool, true, false, cond, Option, Some, None, refl}
use Rattle.std.specs.Option.{option_map, option_and_then, option_or}
use Rattle.std.proofs.lemmas.Option.{same_Some}
use Rattle.line_words.specs.Words.{when}

-- what is given where a condition holds: the condition holds, and it is given
pub when-parts : {A : Type 0} (b : Bool) (o : Option A) (x : A) → when b o ≡ Some x → (b ≡ true) × (o ≡ Some x)
when-parts true o x e = (refl, e)
when-parts false o x e = absurd (cc)

-- a value that is mapped comes of a value
pub map-parts : {A B : Type 0} (f : A → B) (o : Option A) (y : B) → option_map f o ≡ Some y
    → (x : A) × (o ≡ Some x) × (f x ≡ y)
map-parts f None y e = absurd (cc)
map-parts f (Some x) y e = (x, refl, same_Some (f x) y e)

-- where two steps give a value, both do
pub then-parts : {A B : Type 0} (f : A → Option B) (o : Option A) (y : B) → option_and_then f o ≡ Some y
    → (x : A) × (o ≡ Some x) × (f x ≡ Some y)
then-parts f None y e = absurd (cc)
then-parts f (Some x) y e = (x, refl, e)

-- what follows where either of two gives the value
pub or-cases : {A P : Type 0} (o p : Option A) (x : A) → option_or o p ≡ Some x → (o ≡ Some x → P)
    → (p ≡ Some x → P) → P
or-cases None p x e first second = second e
or-cases (Some y) p x e first second = first e

-- what follows where either of two, by a test, gives the value
pub if-cases : {A P : Type 0} (b : Bool) (o p : Option A) (x : A) → cond b o p ≡ Some x
    → (b ≡ true → o ≡ Some x → P) → (p ≡ Some x → P) → P
if-cases true o p x e first second = first refl e
if-cases false o p x e first second = second e
