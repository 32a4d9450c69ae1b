-- Steps that give a value: what each part of them gave.
use Rattle.std.proofs.Common.{◌≡◌, ◌⊎◌, inl, inr, Bool, true, false, cond, Option, Some, None, Result, Ok, Err, ok_or, option_map, refl, ap}
use Rattle.ipe_parse.specs.Tokens.{◌>>=◌}

-- the second step is taken where the first gives a value
pub then-ok : {A B E : Type 0} (r : Result A E) (x : A) (next : A → Result B E) → r ≡ Ok x → (r >>= next) ≡ next x
then-ok {A} {B} {E} r x next e = ap (λ (r : Result A E). r >>= next) e

-- where two steps give a value, both do
pub then-parts : {A B E : Type 0} (r : Result A E) (next : A → Result B E) (y : B) → (r >>= next) ≡ Ok y → (x : A) × (r ≡ Ok x) × (next x ≡ Ok y)
then-parts (Ok x) next y e = (x, refl, e)
then-parts (Err error) next y e = absurd (cc)

-- two values that are the same value
pub same-ok : {A E : Type 0} (x y : A) → ◌≡◌ {A = Result A E} (Ok x) (Ok y) → x ≡ y
same-ok x y e = cc

-- a value came from a value that is there
pub ok_or-parts : {A E : Type 0} (o : Option A) (error : E) (x : A) → ok_or o error ≡ Ok x → o ≡ Some x
ok_or-parts None error x e = absurd (cc)
ok_or-parts (Some y) error x e = cc

-- a mapped value came from a value
pub map-parts : {A B : Type 0} (f : A → B) (o : Option A) (y : B) → option_map f o ≡ Some y → (x : A) × (o ≡ Some x) × (f x ≡ y)
map-parts f None y e = absurd (cc)
map-parts f (Some x) y e = (x, refl, cc)

-- one of two answers was taken
pub chosen : {X : Type 0} (b : Bool) (x y : X) (o : Option X) → cond b (Some x) o ≡ Some y → ((b ≡ true) × (x ≡ y)) ⊎ (o ≡ Some y)
chosen true x y o e = inl (refl, cc)
chosen false x y o e = inr e

-- the test of a value that is there held
pub passed : {X E : Type 0} (b : Bool) (o : Result X E) (error : E) (y : X) → cond b o (Err error) ≡ Ok y → (b ≡ true) × (o ≡ Ok y)
passed true o error y e = (refl, e)
passed false o error y e = absurd (cc)

-- the test of an option that is there held
pub there : {X : Type 0} (b : Bool) (o : Option X) (x : X) → cond b o None ≡ Some x → (b ≡ true) × (o ≡ Some x)
there true o x e = (refl, e)
there false o x e = absurd (cc)

-- one of two readings was taken
pub split : {X E : Type 0} (b : Bool) (one other : Result X E) (y : X) → cond b one other ≡ Ok y → ((b ≡ true) × (one ≡ Ok y)) ⊎ ((b ≡ false) × (other ≡ Ok y))
split true one other y e = inl (refl, e)
split false one other y e = inr (refl, e)

-- the reading where a test holds
pub held : {X E : Type 0} (b : Bool) (one other : Result X E) → b ≡ true → cond b one other ≡ one
held b one other e = ap (λ (b : Bool). cond b one other) e
