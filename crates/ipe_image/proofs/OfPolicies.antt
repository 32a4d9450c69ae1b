-- Complete parts are those of a policy's image.
use Rattle.std.proofs.Common.{◌≡◌, ◌∙◌, ℕ, ◌+◌, ◌≤◌, Bool, true, false, not, cond, List, [], ◌∷◌, ◌++◌, length, map, slice_get, sum_by, Option, Some, None, refl, ap, arith, append-nil, length-append}
use Rattle.std.specs.List.{AllByRecursion, filter_map, flat_map, list_all}
use Rattle.std.proofs.lemmas.Bool.{and_parts, not-true}
use Rattle.std.proofs.lemmas.List.{length-map}
use Rattle.std.proofs.lemmas.List.Elements.{filter_map-append}
use Rattle.ipe_policy.specs.declared.op.Op.{Op}
use Rattle.ipe_policy.specs.declared.op.Op.TheVariants.{Execute, Firmware, Kmodule, KexecImage, KexecInitramfs, Policy, X509Cert}
use Rattle.ipe_policy.specs.declared.op.Action.{Action}
use Rattle.ipe_policy.specs.declared.statement.Statement.{Statement}
use Rattle.ipe_policy.specs.Statement.{RuleParts, op_default_of, operations, rule_of, same_op}
use Rattle.ipe_policy.specs.Spelling.{rule_words, words_of_image}
use Rattle.ipe_policy.specs.Policy.{IsPolicy, IsStatement, global_defaults, op_defaults}
use Rattle.ipe_image.specs.Parts.{ImageParts, global_statements, own_default, own_statements, parts_of, rule_statement, statements_of}
use Rattle.ipe_image.specs.Image.{words_used}
use Rattle.ipe_image.specs.Reading.{image_in}
use Rattle.ipe_image.specs.Law.{AreOfAPolicy}
use Rattle.ipe_image.proofs.Places.{Complete, complete-facts, some-default}
use Rattle.ipe_image.proofs.Rules.{rules-are}
use Rattle.ipe_image.proofs.Sizes.{fewer-rules}
use Rattle.ipe_image.proofs.Told.{read-begins}

-- what an option gives, as a list
abbrev listed : Option Action → List Action
listed None = []
listed (Some action) = action ∷ []

first-listed : (o : Option Action) → slice_get (listed o) 0 ≡ o
first-listed None = refl
first-listed (Some action) = refl

few-listed : (o : Option Action) → length (listed o) ≤ 1
few-listed None = omega arith
few-listed (Some action) = omega arith

-- the statements of the operations' defaults
abbrev owns : (Op → Option Action) → List Op → List Statement
owns own ops = flat_map (λ op. own_statements op (own op)) ops

-- what rules give
rules-no-global : (rules : List RuleParts) → global_defaults (map rule_statement rules) ≡ []
rules-no-global [] = refl
rules-no-global (rule ∷ rules) = rules-no-global rules

rules-no-own : (op : Op) (rules : List RuleParts) → op_defaults op (map rule_statement rules) ≡ []
rules-no-own op [] = refl
rules-no-own op (rule ∷ rules) = rules-no-own op rules

rules-rules : (rules : List RuleParts) → filter_map rule_of (map rule_statement rules) ≡ rules
rules-rules [] = refl
rules-rules (rule ∷ rules) = ap (λ (rs : List RuleParts). rule ∷ rs) (rules-rules rules)

-- what the operations' defaults give
owns-no-global : (own : Op → Option Action) (ops : List Op) (more : List Statement)
    → global_defaults (owns own ops ++ more) ≡ global_defaults more
owns-no-global own [] more = refl
owns-no-global own (op ∷ ops) more = at (own op) (owns-no-global own ops more)
  where
    at : (o : Option Action) → global_defaults (owns own ops ++ more) ≡ global_defaults more
        → global_defaults ((own_statements op o ++ owns own ops) ++ more) ≡ global_defaults more
    at None rest = rest
    at (Some action) rest = rest

owns-no-rule : (own : Op → Option Action) (ops : List Op) (more : List Statement)
    → filter_map rule_of (owns own ops ++ more) ≡ filter_map rule_of more
owns-no-rule own [] more = refl
owns-no-rule own (op ∷ ops) more = at (own op) (owns-no-rule own ops more)
  where
    at : (o : Option Action) → filter_map rule_of (owns own ops ++ more) ≡ filter_map rule_of more
        → filter_map rule_of ((own_statements op o ++ owns own ops) ++ more) ≡ filter_map rule_of more
    at None rest = rest
    at (Some action) rest = rest

-- an operation's own statement among others
picked : (op other : Op) (b : Bool) (o : Option Action) (more : List Statement) → same_op op other ≡ b
    → op_defaults op (own_statements other o ++ more) ≡ cond b (listed o) [] ++ op_defaults op more
picked op other true None more same = refl
picked op other false None more same = refl
picked op other true (Some action) more same = rw same
picked op other false (Some action) more same = rw same

owns-of-others : (own : Op → Option Action) (op : Op) (ops : List Op)
    → list_all (λ other. not (same_op op other)) ops ≡ true → op_defaults op (owns own ops) ≡ []
owns-of-others own op [] all = refl
owns-of-others own op (other ∷ ops) all =
    let both = and_parts (not (same_op op other)) (list_all (λ other. not (same_op op other)) ops) all in
    picked op other false (own other) (owns own ops) (not-true _ both.0) ∙ owns-of-others own op ops both.1

owns-of : (own : Op → Option Action) (op : Op) (front behind : List Op) → same_op op op ≡ true
    → list_all (λ other. not (same_op op other)) front ≡ true
    → list_all (λ other. not (same_op op other)) behind ≡ true
    → op_defaults op (owns own (front ++ op ∷ behind)) ≡ listed (own op)
owns-of own op [] behind same none after =
    picked op op true (own op) (owns own behind) same
    ∙ ap (λ (more : List Action). listed (own op) ++ more) (owns-of-others own op behind after)
    ∙ append-nil (listed (own op))
owns-of own op (other ∷ front) behind same none after =
    let both = and_parts (not (same_op op other)) (list_all (λ other. not (same_op op other)) front) none in
    picked op other false (own other) (owns own (front ++ op ∷ behind)) (not-true _ both.0)
    ∙ owns-of own op front behind same both.1 after

owns-of-op : (own : Op → Option Action) (op : Op) → op_defaults op (owns own operations) ≡ listed (own op)
owns-of-op own Execute =
    owns-of own Execute [] (Firmware ∷ Kmodule ∷ KexecImage ∷ KexecInitramfs ∷ Policy ∷ X509Cert ∷ []) refl refl refl
owns-of-op own Firmware =
    owns-of own Firmware (Execute ∷ []) (Kmodule ∷ KexecImage ∷ KexecInitramfs ∷ Policy ∷ X509Cert ∷ []) refl refl refl
owns-of-op own Kmodule =
    owns-of own Kmodule (Execute ∷ Firmware ∷ []) (KexecImage ∷ KexecInitramfs ∷ Policy ∷ X509Cert ∷ []) refl refl refl
owns-of-op own KexecImage =
    owns-of own KexecImage (Execute ∷ Firmware ∷ Kmodule ∷ []) (KexecInitramfs ∷ Policy ∷ X509Cert ∷ []) refl refl refl
owns-of-op own KexecInitramfs =
    owns-of own KexecInitramfs (Execute ∷ Firmware ∷ Kmodule ∷ KexecImage ∷ []) (Policy ∷ X509Cert ∷ []) refl refl refl
owns-of-op own Policy =
    owns-of own Policy (Execute ∷ Firmware ∷ Kmodule ∷ KexecImage ∷ KexecInitramfs ∷ []) (X509Cert ∷ []) refl refl refl
owns-of-op own X509Cert =
    owns-of own X509Cert (Execute ∷ Firmware ∷ Kmodule ∷ KexecImage ∷ KexecInitramfs ∷ Policy ∷ []) [] refl refl refl

-- what the statements of parts give
global-told : (parts : ImageParts) → global_defaults (statements_of parts) ≡ listed parts.global
global-told parts = at parts.global
  where
    rest : List Statement
    rest = owns (own_default parts) operations ++ map rule_statement parts.rules

    none : global_defaults rest ≡ []
    none = owns-no-global (own_default parts) operations (map rule_statement parts.rules) ∙ rules-no-global parts.rules

    at : (o : Option Action) → global_defaults (global_statements o ++ rest) ≡ listed o
    at None = none
    at (Some action) = ap (λ (more : List Action). action ∷ more) none

own-told : (parts : ImageParts) (op : Op) → op_defaults op (statements_of parts) ≡ listed (own_default parts op)
own-told parts op = at parts.global
  where
    own : List Statement
    own = owns (own_default parts) operations

    rules : List Statement
    rules = map rule_statement parts.rules

    found : op_defaults op (own ++ rules) ≡ listed (own_default parts op)
    found = filter_map-append (op_default_of op) own rules
        ∙ ap (λ (more : List Action). op_defaults op own ++ more) (rules-no-own op parts.rules)
        ∙ append-nil (op_defaults op own) ∙ owns-of-op (own_default parts) op

    at : (o : Option Action)
        → op_defaults op (global_statements o ++ (own ++ rules)) ≡ listed (own_default parts op)
    at None = found
    at (Some action) = found

rules-told : (parts : ImageParts) → filter_map rule_of (statements_of parts) ≡ parts.rules
rules-told parts = at parts.global
  where
    rest : List Statement
    rest = owns (own_default parts) operations ++ map rule_statement parts.rules

    found : filter_map rule_of rest ≡ parts.rules
    found = owns-no-rule (own_default parts) operations (map rule_statement parts.rules) ∙ rules-rules parts.rules

    at : (o : Option Action) → filter_map rule_of (global_statements o ++ rest) ≡ parts.rules
    at None = found
    at (Some action) = found

-- seven defaults are those of the operations in order
seven : (parts : ImageParts) (defaults : List (Option Action)) → parts.defaults ≡ defaults → length defaults ≡ 7
    → map (own_default parts) operations ≡ defaults
seven parts (a ∷ b ∷ c ∷ d ∷ e ∷ f ∷ g ∷ []) same count = rw same
seven parts [] same count = absurd (omega arith)
seven parts (a ∷ []) same count = absurd (omega arith)
seven parts (a ∷ b ∷ []) same count = absurd (omega arith)
seven parts (a ∷ b ∷ c ∷ []) same count = absurd (omega arith)
seven parts (a ∷ b ∷ c ∷ d ∷ []) same count = absurd (omega arith)
seven parts (a ∷ b ∷ c ∷ d ∷ e ∷ []) same count = absurd (omega arith)
seven parts (a ∷ b ∷ c ∷ d ∷ e ∷ f ∷ []) same count = absurd (omega arith)
seven parts (a ∷ b ∷ c ∷ d ∷ e ∷ f ∷ g ∷ h ∷ more) same count = absurd (omega arith)

-- two functions that agree on each element of a list
map-alike : (f g : Op → Option Action) (ops : List Op) → ((op : Op) → f op ≡ g op) → map f ops ≡ map g ops
map-alike f g [] same = refl
map-alike f g (op ∷ ops) same =
    ap (λ (o : Option Action). o ∷ map f ops) (same op)
    ∙ ap (λ (os : List (Option Action)). g op ∷ os) (map-alike f g ops same)

parts-of : (parts : ImageParts) → Complete parts → parts_of parts.serial (statements_of parts) ≡ parts
parts-of parts complete =
    let items = statements_of parts in
    let global : slice_get (global_defaults items) 0 ≡ parts.global =
    ap (λ (found : List Action). slice_get found 0) (global-told parts) ∙ first-listed parts.global in
    let defaults : map (λ op. slice_get (op_defaults op items) 0) operations ≡ parts.defaults =
    map-alike (λ op. slice_get (op_defaults op items) 0) (own_default parts) operations
    (λ op. ap (λ (found : List Action). slice_get found 0) (own-told parts op) ∙ first-listed (own_default parts op))
    ∙ seven parts parts.defaults refl complete.seven in
    rw (global, defaults, rules-told parts)

-- the statements keep the rules of a policy
all-append : (xs ys : List Statement) → AllByRecursion IsStatement xs → AllByRecursion IsStatement ys
    → AllByRecursion IsStatement (xs ++ ys)
all-append [] ys h k = k
all-append (x ∷ xs) ys h k = (h.0, all-append xs ys h.1 k)

global-are : (o : Option Action) → AllByRecursion IsStatement (global_statements o)
global-are None = tt
global-are (Some action) = (tt, tt)

owns-are : (own : Op → Option Action) (ops : List Op) → AllByRecursion IsStatement (owns own ops)
owns-are own [] = tt
owns-are own (op ∷ ops) = all-append (own_statements op (own op)) (owns own ops) (at (own op)) (owns-are own ops)
  where
    at : (o : Option Action) → AllByRecursion IsStatement (own_statements op o)
    at None = tt
    at (Some action) = (tt, tt)

few-global : (o : Option Action) → length (global_statements o) ≤ 1
few-global None = omega arith
few-global (Some action) = omega arith

few-owns : (own : Op → Option Action) (ops : List Op) → length (owns own ops) ≤ length ops
few-owns own [] = omega arith
few-owns own (op ∷ ops) =
    let more = few-owns own ops in
    let one : length (own_statements op (own op)) ≤ 1 = at (own op) in
    omega (arith, length-append (own_statements op (own op)) (owns own ops))
  where
    at : (o : Option Action) → length (own_statements op o) ≤ 1
    at None = omega arith
    at (Some action) = omega arith

some-or : (own global : Option Action) → (own ≡ None → global ≡ None → ⊥) → 1 ≤ length (listed own) + length (listed global)
some-or None None none = absurd (none refl refl)
some-or None (Some b) none = omega arith
some-or (Some a) global none = omega arith

is-policy : (parts : ImageParts) → Complete parts → IsPolicy (statements_of parts)
is-policy parts complete =
    let global = ap length (global-told parts) in
    let own = owns (own_default parts) operations in
    let rules = map rule_statement parts.rules in
    let few_words = complete.few in
    record {
      few = let first = few-global parts.global in
          let second = few-owns (own_default parts) operations in
          let third : length rules ≡ length parts.rules = length-map parts.rules rule_statement in
          omega (
            arith,
            length-append (global_statements parts.global) (own ++ rules),
            length-append own rules,
            fewer-rules parts.rules,
          );
      global_once = let few = few-listed parts.global in omega arith;
      op_once = λ op. let few = few-listed (own_default parts op) in let same = ap length (own-told parts op) in omega arith;
      each_has_one = λ op. let some = some-or (own_default parts op) parts.global (some-default parts op complete) in
          let same = ap length (own-told parts op) in omega arith;
      statements = all-append (global_statements parts.global) (own ++ rules) (global-are parts.global)
          (all-append own rules (owns-are (own_default parts) operations) (rules-are parts.rules complete.fit));
    }

-- what words tell, they tell of a policy
pub of-policy : (words : List ℕ) (parts : ImageParts) → image_in words ≡ Some parts → AreOfAPolicy words parts
of-policy words parts told =
    let begins = read-begins words parts told in
    let complete = complete-facts parts begins.complete in
    let same : words_of_image (statements_of parts) ≡ words_used parts =
    ap (λ (rules : List RuleParts). 25 + sum_by rule_words rules) (rules-told parts) in
    record {
      policy = record {
        policy = is-policy parts complete;
        few = let most = complete.few in omega arith;
      };
      parts_are = parts-of parts complete;
      behind = begins.behind;
      whole = begins.whole;
    }
