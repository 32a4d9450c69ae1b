-- Results that go on, and tests that were passed.
use Rattle.std.proofs.Common.{◌≡◌, ℕ, Bool, true, false, cond, List, Option, Some, None, Result, Ok, Err, ok_or, refl}
use Rattle.ipe_requests.specs.declared.line.ScriptKind.{ScriptKind}
use Rattle.ipe_requests.specs.Reading.{and_then, unless}

pub ok_or-is : {A : Type 0} (o : Option A) (f : ScriptKind) (x : A) → ok_or o f ≡ Ok x → o ≡ Some x
ok_or-is None f x e = absurd (cc)
ok_or-is (Some y) f x e = cc

pub and_then-is : {A B : Type 0} (more : A → Result B ScriptKind) (r : Result A ScriptKind) (y : B) → and_then more r ≡ Ok y
    → (x : A) × (r ≡ Ok x) × (more x ≡ Ok y)
and_then-is more (Ok x) y e = (x, refl, e)
and_then-is more (Err f) y e = absurd (cc)

abbrev pub good : {A : Type 0} → A → Result A ScriptKind
good x = Ok x

pub ok-is : {A : Type 0} (x y : A) → good x ≡ good y → x ≡ y
ok-is x y e = cc

-- what a word that is good says of the tests of its rule: that of its form, and whether it was declared or sealed before

pub unless-ok : (b : Bool) (word value : List ℕ) (f : ScriptKind) → unless f b word ≡ Ok value → (b ≡ true) × (word ≡ value)
unless-ok true word value f e = (refl, cc)
unless-ok false word value f e = absurd (cc)

pub new-ok : (b d : Bool) (word value : List ℕ) (f g : ScriptKind) → cond b (cond d (Err f) (Ok word)) (Err g) ≡ Ok value
    → (b ≡ true) × (d ≡ false) × (word ≡ value)
new-ok true true word value f g e = absurd (cc)
new-ok true false word value f g e = (refl, refl, cc)
new-ok false d word value f g e = absurd (cc)

pub old-ok : (b d : Bool) (word value : List ℕ) (f g : ScriptKind) → cond b (cond d (Ok word) (Err f)) (Err g) ≡ Ok value
    → (b ≡ true) × (d ≡ true) × (word ≡ value)
old-ok true true word value f g e = (refl, refl, cc)
old-ok true false word value f g e = absurd (cc)
old-ok false d word value f g e = absurd (cc)

pub unsealed-ok : (b d k : Bool) (word value : List ℕ) (f g h : ScriptKind)
    → cond b (cond d (Err f) (cond k (Ok word) (Err g))) (Err h) ≡ Ok value
    → (b ≡ true) × (d ≡ false) × (k ≡ true) × (word ≡ value)
unsealed-ok true true k word value f g h e = absurd (cc)
unsealed-ok true false true word value f g h e = (refl, refl, refl, cc)
unsealed-ok true false false word value f g h e = absurd (cc)
unsealed-ok false d k word value f g h e = absurd (cc)
