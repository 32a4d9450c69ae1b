-- The parts of a policy.
use Rattle.std.proofs.Common.{◌≡◌, ◌∙◌, ℕ, ◌≤◌, Bool, true, false, ◌||◌, List, [], ◌∷◌, ◌++◌, length, map, slice_get, Option, Some, None, is_some, refl, ap, arith}
use Rattle.std.specs.List.{filter_map, list_all}
use borrow.Author.Tests.{le-leb}
use Rattle.std.proofs.lemmas.Bool.{and_from}
use Rattle.ipe_policy.specs.declared.op.Op.{Op}
use Rattle.ipe_policy.specs.declared.op.Op.TheVariants.{Execute, Firmware, Kmodule, KexecImage, KexecInitramfs, Policy, X509Cert}
use Rattle.ipe_policy.specs.declared.op.Action.{Action}
use Rattle.ipe_policy.specs.declared.statement.Statement.{Statement}
use Rattle.ipe_policy.specs.declared.evaluation.Context.{Context}
use Rattle.ipe_policy.specs.declared.evaluation.Found.{Found}
use Rattle.ipe_policy.specs.declared.evaluation.Which.{Which}
use Rattle.ipe_policy.specs.declared.evaluation.Which.TheVariants.{OpDefault, GlobalDefault}
use Rattle.ipe_policy.specs.Statement.{RuleParts, operations, rule_of}
use Rattle.ipe_policy.specs.Policy.{IsPolicy, global_defaults, op_defaults}
use Rattle.ipe_policy.specs.Evaluation.{decision, first_default, first_match}
use Rattle.ipe_image.specs.Parts.{own_default, parts_of}
use Rattle.ipe_image.specs.Reading.{has_defaults, is_complete}
use Rattle.ipe_policy.specs.Spelling.{words_of_image}
use Rattle.ipe_image.specs.Image.{default_word, grouped, image_of, records, tables, words_used}
use Rattle.ipe_image.specs.Decision.{decision_in, default_found, default_in}
use Rattle.ipe_image.specs.Law.{HasImage}
use Rattle.ipe_image.proofs.Rules.{rules-fit}

-- a list with an element has a first one
first-some : (xs : List Action) → 1 ≤ length xs → is_some (slice_get xs 0) ≡ true
first-some [] h = absurd (omega arith)
first-some (x ∷ xs) h = refl

-- where there is no global default, each operation has one
own-some : (items : List Statement) → IsPolicy items → global_defaults items ≡ [] → (op : Op)
    → is_some (slice_get (op_defaults op items) 0) ≡ true
own-some items h none op = let count : length (global_defaults items) ≡ 0 =
    ap length none in first-some (op_defaults op items) (omega (arith, h.each_has_one op))

or-left : (x y : Bool) → x ≡ true → (x || y) ≡ true
or-left true y e = refl
or-left false y e = absurd (cc)

or-right : (x y : Bool) → y ≡ true → (x || y) ≡ true
or-right true y e = refl
or-right false y e = e

-- there is a global default, or each operation has one
some-defaults : (items : List Statement) (serial : ℕ) → IsPolicy items
    → (is_some (parts_of serial items).global || list_all is_some (parts_of serial items).defaults) ≡ true
some-defaults items serial h = at (global_defaults items) refl
  where
    at : (xs : List Action) → global_defaults items ≡ xs
        → (is_some (slice_get (global_defaults items) 0) || list_all is_some (parts_of serial items).defaults) ≡ true
    at (x ∷ xs) e = or-left _ _ (ap (λ (ys : List Action). is_some (slice_get ys 0)) e)
    at [] e = or-right _ _ (
        and_from _ _ (own-some items h e Execute) (
        and_from _ _ (own-some items h e Firmware) (
        and_from _ _ (own-some items h e Kmodule) (
        and_from _ _ (own-some items h e KexecImage) (
        and_from _ _ (own-some items h e KexecInitramfs) (
        and_from _ _ (own-some items h e Policy) (
        and_from _ _ (own-some items h e X509Cert) refl)))))))

-- the parts of a policy that has an image are complete
pub parts-complete : (items : List Statement) (serial : ℕ) → HasImage items → is_complete (parts_of serial items) ≡ true
parts-complete items serial h =
    let few : words_used (parts_of serial items) ≤ 4096 = h.few in
    and_from (has_defaults (parts_of serial items)) _ (some-defaults items serial h.policy) (and_from _ _ (rules-fit items h.policy.statements)
    (le-leb _ 4096 few))

-- the first of some defaults
first-found : (which : Which) (actions : List Action) (otherwise : Option Found)
    → default_found which (slice_get actions 0) otherwise ≡ first_default which actions otherwise
first-found which [] otherwise = refl
first-found which (action ∷ actions) otherwise = refl

-- an operation's default among the parts
own-is : (items : List Statement) (serial : ℕ) (op : Op)
    → own_default (parts_of serial items) op ≡ slice_get (op_defaults op items) 0
own-is items serial Execute = refl
own-is items serial Firmware = refl
own-is items serial Kmodule = refl
own-is items serial KexecImage = refl
own-is items serial KexecInitramfs = refl
own-is items serial Policy = refl
own-is items serial X509Cert = refl

-- the defaults that parts and policy give
defaults-alike : (items : List Statement) (serial : ℕ) (op : Op)
    → default_in (parts_of serial items) op ≡ first_default OpDefault (op_defaults op items)
    (first_default GlobalDefault (global_defaults items) None)
defaults-alike items serial op =
    ap (λ (o : Option Action). default_found OpDefault o (default_found GlobalDefault (slice_get
    (global_defaults items) 0) None)) (own-is items serial op)
    ∙ ap (λ (o : Option Found). default_found OpDefault (slice_get (op_defaults op items) 0) o)
    (first-found GlobalDefault (global_defaults items) None)
    ∙ first-found OpDefault (op_defaults op items) (first_default GlobalDefault (global_defaults items) None)

-- what a policy's parts decide is what the policy decides
pub decide-alike : (items : List Statement) (serial : ℕ) (op : Op) (context : Context)
    → decision_in (parts_of serial items) op context ≡ decision items op context
decide-alike items serial op context = at (first_match items op context) refl
  where
    at : (o : Option (ℕ × RuleParts)) → first_match items op context ≡ o
        → decision_in (parts_of serial items) op context ≡ decision items op context
    at (Some rule) e = rw e
    at None e = rw e (defaults-alike items serial op)

-- the words before the tables, the tables and the records are the image of a policy
pub compiled : (items slice : List Statement) (serial words : ℕ) (first head all : List ℕ) → slice ≡ items
    → words ≡ words_of_image items → first ≡ []
    → head ≡ first ++ words ∷ serial ∷ default_word (slice_get (global_defaults slice) 0) ∷ (map (λ op. default_word
    (slice_get (op_defaults op slice) 0)) operations ++ length (filter_map rule_of slice) ∷ [])
    → all ≡ head ++ (tables (filter_map rule_of slice) ++ records (grouped (filter_map rule_of slice)))
    → all ≡ image_of (parts_of serial items)
compiled items slice serial words first head all slice_is words_is first_is head_is all_is =
    rw (all_is, head_is, first_is, words_is, slice_is)
