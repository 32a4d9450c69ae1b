-- What a loop of writes has put into a sink so far.
use Rattle.std.proofs.Common.{◌≡◌, ℕ, ◌+◌, ◌≤◌, List, ◌++◌, length, take, drop, Option, None, Some, ap, ◌∙◌, subst, arith, length-append, append_assoc}
use Rattle.std.proofs.lemmas.List.{take-append-drop}
use Rattle.std.proofs.Math.Seq.{take-append-add}
use Rattle.ipe_words.specs.Sink.{Appends, AppendsPrefix}

-- the front of all, before the rest, is written
abbrev pub Wrote : Option (List ℕ) → Option (List ℕ) → List ℕ → List ℕ → Type 0
Wrote before now all rest = (front : List ℕ) × (all ≡ front ++ rest) × Appends before now front

-- what the clauses say once it is known what was written
known : (now next : Option (List ℕ)) (text bytes : List ℕ) → now ≡ Some text → Appends now next bytes → next ≡ Some (text ++ bytes)
known now next text bytes e a = let P : Option (List ℕ) → Type 0 = λ o. Appends o next bytes in subst P e a

Appends-twice : (before now next : Option (List ℕ)) (front part : List ℕ) → Appends before now front → Appends now next part → Appends before next (front ++ part)
Appends-twice None now next front part a b = tt
Appends-twice (Some text) now next front part a b =
    known now next (text ++ front) part a b ∙ ap Some (append_assoc text front part)

-- a call that took n bytes leaves the rest after them
pub Wrote-more : (before now next : Option (List ℕ)) (all rest : List ℕ) (n : ℕ) → Wrote before now all rest → Appends now next (take n rest) → Wrote before next all (drop n rest)
Wrote-more before now next all rest n wrote a =
    let front : List ℕ = wrote.0 in
    let whole : take n rest ++ drop n rest ≡ rest = take-append-drop n rest in
    let is : all ≡ front ++ rest = wrote.1 in
    let regroup : (front ++ take n rest) ++ drop n rest ≡ front ++ (take n rest ++ drop n rest) = append_assoc front (take n rest) (drop n rest) in
    (front ++ take n rest, cc, Appends-twice before now next front (take n rest) wrote.2 a)

known_prefix : (now next : Option (List ℕ)) (text bytes : List ℕ) → now ≡ Some text → AppendsPrefix now next bytes → (k : ℕ) × (k ≤ length bytes) × (next ≡ Some (text ++ take k bytes))
known_prefix now next text bytes e a = let P : Option (List ℕ) → Type 0 = λ o. AppendsPrefix o next bytes in subst P e a

-- a call that failed after some bytes leaves a front of all
pub AppendsPrefix-from_wrote : (before now next : Option (List ℕ)) (all rest : List ℕ) → Wrote before now all rest → AppendsPrefix now next rest → AppendsPrefix before next all
AppendsPrefix-from_wrote None now next all rest wrote a = tt
AppendsPrefix-from_wrote (Some text) now next all rest wrote a =
    let front : List ℕ = wrote.0 in
    let p : (k : ℕ) × (k ≤ length rest) × (next ≡ Some ((text ++ front) ++ take k rest)) = known_prefix now next (text ++ front) rest wrote.2 a in
    let k : ℕ = p.0 in
    let is : all ≡ front ++ rest = wrote.1 in
    let lengths : length all ≡ length front + length rest = ap length is ∙ length-append front rest in
    let within : k ≤ length rest = p.1 in
    let next_is : next ≡ Some ((text ++ front) ++ take k rest) = p.2 in
    let past : take (length front + k) (front ++ rest) ≡ front ++ take k rest = take-append-add front rest k in
    let regroup : (text ++ front) ++ take k rest ≡ text ++ (front ++ take k rest) = append_assoc text front (take k rest) in
    (length front + k, omega arith, cc)
