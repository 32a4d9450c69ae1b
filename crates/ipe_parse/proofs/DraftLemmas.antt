-- The flags of a draft after one more statement.
use Rattle.std.proofs.Common.{◌≡◌, ℕ, ◌+◌, ◌<◌, ◌≤◌, inl, inr, Bool, true, false, not, cond, ltb, Option, Some, None, drop, add-one, List, [], ◌∷◌, ◌++◌, length, get_or, set, refl, sym, ◌∙◌, arith, length-set, get_or-set_same, get_or-set_other}
use Rattle.std.specs.List.{find}
use Rattle.std.proofs.Math.Seq.{drop-cons}
use Rattle.std.proofs.lemmas.Bool.{not-false, cases_eq, eq-eqb, ne_eqb, ltb-false, ltb-true, lt-ltb, le-ltb, cases_lt}
use Rattle.ipe_policy.specs.declared.op.Op.{Op}
use Rattle.ipe_policy.specs.declared.op.Op.TheVariants.{Execute, Firmware, Kmodule, KexecImage, KexecInitramfs, Policy, X509Cert}
use Rattle.ipe_policy.specs.declared.op.Action.{Action}
use Rattle.ipe_policy.specs.declared.statement.Statement.{Statement}
use Rattle.ipe_policy.specs.declared.statement.Statement.TheVariants.{Rule, OpDefault, GlobalDefault}
use Rattle.ipe_policy.specs.Statement.{op_number, operations}
use Rattle.ipe_policy.specs.Policy.{op_defaults, global_defaults}
use Rattle.ipe_parse.specs.declared.given.Given.TheVariants.{Nothing, OfOp, Global}
use Rattle.ipe_parse.specs.Given.{given_of}
use Rattle.ipe_parse.proofs.Defaults.{global-append, op-append}
use Rattle.ipe_parse.specs.Defaults.{Flags, IsOnce, first_missing, has_global_default, has_op_default, repeats_default}

-- ---- which defaults one statement gives

gives_no_op : (op : Op) (s : Statement) → given_of s ≡ Nothing → length (op_defaults op (s ∷ [])) ≡ 0
gives_no_op op (Rule o properties action) e = refl
gives_no_op op (OpDefault o action) e = absurd (cc)
gives_no_op op (GlobalDefault action) e = absurd (cc)

gives_no_global : (s : Statement) → given_of s ≡ Nothing → length (global_defaults (s ∷ [])) ≡ 0
gives_no_global (Rule o properties action) e = refl
gives_no_global (OpDefault o action) e = absurd (cc)
gives_no_global (GlobalDefault action) e = absurd (cc)

global_gives_no_op : (op : Op) (s : Statement) → given_of s ≡ Global → length (op_defaults op (s ∷ [])) ≡ 0
global_gives_no_op op (Rule o properties action) e = absurd (cc)
global_gives_no_op op (OpDefault o action) e = absurd (cc)
global_gives_no_op op (GlobalDefault action) e = refl

global_gives_one : (s : Statement) → given_of s ≡ Global → length (global_defaults (s ∷ [])) ≡ 1
global_gives_one (Rule o properties action) e = absurd (cc)
global_gives_one (OpDefault o action) e = absurd (cc)
global_gives_one (GlobalDefault action) e = refl

op_gives_one : (op other : Op) (action : Action) → op_number op ≡ op_number other → length (op_defaults op (OpDefault other action ∷ [])) ≡ 1
op_gives_one op other action e = rw (eq-eqb (op_number op) (op_number other) e)

op_gives_none : (op other : Op) (action : Action) → (op_number op ≡ op_number other → ⊥) → length (op_defaults op (OpDefault other action ∷ [])) ≡ 0
op_gives_none op other action e = rw (ne_eqb (op_number op) (op_number other) e)

-- ---- what stays

same_count : (n m k : ℕ) → n ≡ m + k → k ≡ 0 → ltb 0 m ≡ ltb 0 n
same_count n m k e none = let same : n ≡ m = omega arith in rw same

some_count : (n m k : ℕ) → n ≡ m + k → k ≡ 1 → true ≡ ltb 0 n
some_count n m k e one = sym (lt-ltb 0 n (omega arith))

pub Flags-nothing : (ops : List Bool) (given : Bool) (items : List Statement) (s : Statement) → given_of s ≡ Nothing → Flags ops given items → Flags ops given (items ++ s ∷ [])
Flags-nothing ops given items s e flags = record {
  seven = flags.seven;
  of_op = λ op. flags.of_op op ∙ same_count _ _ _ (op-append op items (s ∷ [])) (gives_no_op op s e);
  of_global = flags.of_global ∙ same_count _ _ _ (global-append items (s ∷ [])) (gives_no_global s e);
}

pub Flags-global : (ops : List Bool) (given : Bool) (items : List Statement) (s : Statement) → given_of s ≡ Global → Flags ops given items → Flags ops true (items ++ s ∷ [])
Flags-global ops given items s e flags = record {
  seven = flags.seven;
  of_op = λ op. flags.of_op op ∙ same_count _ _ _ (op-append op items (s ∷ [])) (global_gives_no_op op s e);
  of_global = some_count _ _ _ (global-append items (s ∷ [])) (global_gives_one s e);
}

op_below : (op : Op) → op_number op < 7
op_below Execute = omega arith
op_below Firmware = omega arith
op_below Kmodule = omega arith
op_below KexecImage = omega arith
op_below KexecInitramfs = omega arith
op_below Policy = omega arith
op_below X509Cert = omega arith

of_op-marked : (ops : List Bool) (given : Bool) (items : List Statement) (other : Op) (action : Action) → Flags ops given items → (op : Op)
    → get_or (set ops (op_number other) true) (op_number op) false ≡ has_op_default op (items ++ OpDefault other action ∷ [])
of_op-marked ops given items other action flags op =
    elim (cases_eq (op_number op) (op_number other)) [
      | inl same ↦ rw same (get_or-set_same ops (op_number other) true false (omega (arith, flags.seven, op_below other)) ∙ some_count _ _ _ (op-append op items (OpDefault other action ∷ [])) (op_gives_one op other action same))
      | inr apart ↦ get_or-set_other ops (op_number other) (op_number op) true false apart ∙ flags.of_op op ∙ same_count _ _ _ (op-append op items (OpDefault other action ∷ [])) (op_gives_none op other action apart)
    ]

pub Flags-of_op : (ops : List Bool) (given : Bool) (items : List Statement) (s : Statement) (op : Op) → given_of s ≡ OfOp op → Flags ops given items → Flags (set ops (op_number op) true) given (items ++ s ∷ [])
Flags-of_op ops given items (Rule o properties action) op e flags = absurd (cc)
Flags-of_op ops given items (GlobalDefault action) op e flags = absurd (cc)
Flags-of_op ops given items (OpDefault other action) op e flags =
    let same : other ≡ op = cc in
    record {
      seven = length-set ops (op_number op) true ∙ flags.seven;
      of_op = rw (← same) (of_op-marked ops given items other action flags);
      of_global = flags.of_global ∙ same_count _ _ _ (global-append items (OpDefault other action ∷ [])) refl;
    }

-- ---- no default twice

op_defaults-same : (op other : Op) (items : List Statement) → op_number op ≡ op_number other → op_defaults op items ≡ op_defaults other items
op_defaults-same op other [] e = refl
op_defaults-same op other (Rule o properties action ∷ items) e = op_defaults-same op other items e
op_defaults-same op other (GlobalDefault action ∷ items) e = op_defaults-same op other items e
op_defaults-same op other (OpDefault o action ∷ items) e = rw (e, op_defaults-same op other items e)

once-op : (items : List Statement) (other : Op) (action : Action) → has_op_default other items ≡ false → ((op : Op) → length (op_defaults op items) ≤ 1) → (op : Op) → length (op_defaults op (items ++ OpDefault other action ∷ [])) ≤ 1
once-op items other action free once op =
    elim (cases_eq (op_number op) (op_number other)) [
      | inl same ↦
          let none : length (op_defaults op items) ≡ 0 = rw (op_defaults-same op other items same) (omega (arith, ltb-false 0 (length (op_defaults other items)) free)) in
          omega (arith, op-append op items (OpDefault other action ∷ []), op_gives_one op other action same)
      | inr apart ↦ omega (arith, once op, op-append op items (OpDefault other action ∷ []), op_gives_none op other action apart)
    ]

pub IsOnce-push : (items : List Statement) (s : Statement) → repeats_default items s ≡ false → IsOnce items → IsOnce (items ++ s ∷ [])
IsOnce-push items (Rule o properties action) free once = record {
  op_once = λ op. omega (arith, once.op_once op, op-append op items (Rule o properties action ∷ []));
  global_once = omega (arith, once.global_once, global-append items (Rule o properties action ∷ []));
}
IsOnce-push items (OpDefault other action) free once = record {
  op_once = once-op items other action free once.op_once;
  global_once = omega (arith, once.global_once, global-append items (OpDefault other action ∷ []));
}
IsOnce-push items (GlobalDefault action) free once = record {
  op_once = λ op. omega (arith, once.op_once op, op-append op items (GlobalDefault action ∷ []));
  global_once = omega (arith, ltb-false 0 (length (global_defaults items)) free, global-append items (GlobalDefault action ∷ []));
}

-- ---- the first operation that has no default

pub find-hit : {X : Type 0} (p : X → Bool) (xs : List X) (i : ℕ) (d : X) → i < length xs → p (get_or xs i d) ≡ true → find p (drop i xs) ≡ Some (get_or xs i d)
find-hit p xs i d within e = rw (drop-cons xs i d within, e)

pub find-miss : {X : Type 0} (p : X → Bool) (xs : List X) (i : ℕ) (d : X) → i < length xs → p (get_or xs i d) ≡ false → find p (drop (i + 1) xs) ≡ find p (drop i xs)
find-miss p xs i d within e = rw (drop-cons xs i d within, add-one, e)

pub first_missing-by_op : (items : List Statement) → has_global_default items ≡ false → first_missing items ≡ find (λ op. not (has_op_default op items)) operations
first_missing-by_op items e = rw e

not_found : {X : Type 0} (b : Bool) (x : X) (o : Option X) → cond b (Some x) o ≡ None → (b ≡ false) × (o ≡ None)
not_found true x o e = absurd (cc)
not_found false x o e = (refl, e)

all_given : (items : List Statement) → find (λ op. not (has_op_default op items)) operations ≡ None → (op : Op) → has_op_default op items ≡ true
all_given items e =
    let one = not_found (not (has_op_default Execute items)) Execute _ e in
    let two = not_found (not (has_op_default Firmware items)) Firmware _ one.1 in
    let three = not_found (not (has_op_default Kmodule items)) Kmodule _ two.1 in
    let four = not_found (not (has_op_default KexecImage items)) KexecImage _ three.1 in
    let five = not_found (not (has_op_default KexecInitramfs items)) KexecInitramfs _ four.1 in
    let six = not_found (not (has_op_default Policy items)) Policy _ five.1 in
    let seven = not_found (not (has_op_default X509Cert items)) X509Cert _ six.1 in
    λ op. elim op as (λ op. has_op_default op items ≡ true) [
      | Execute ↦ not-false _ one.0
      | Firmware ↦ not-false _ two.0
      | Kmodule ↦ not-false _ three.0
      | KexecImage ↦ not-false _ four.0
      | KexecInitramfs ↦ not-false _ five.0
      | Policy ↦ not-false _ six.0
      | X509Cert ↦ not-false _ seven.0
    ]

pub each-has-one : (items : List Statement) → first_missing items ≡ None → (op : Op) → 1 ≤ length (op_defaults op items) + length (global_defaults items)
each-has-one items e op =
    elim (cases_lt 0 (length (global_defaults items))) [
      | inl some ↦ omega arith
      | inr none ↦
          let each = all_given items (sym (first_missing-by_op items (le-ltb 0 _ none)) ∙ e) op in
          omega (arith, ltb-true 0 (length (op_defaults op items)) each)
    ]
