-- Rules grouped by operation.
use Rattle.std.proofs.Common.{◌≡◌, ◌∙◌, ℕ, ◌+◌, ◌<◌, ◌≤◌, suc, zero, Bool, true, false, ◌==◌, ◌&&◌, ◌||◌, cond, List, [], ◌∷◌, ◌++◌, length, sum_by, take, drop, slice_get, Option, Some, None, option_map, refl, ap, sym, arith, append_assoc, append-nil}
use Rattle.std.specs.Prelude.{nat_le}
use Rattle.std.specs.Option.{option_or}
use Rattle.std.specs.List.{cons_option, enumerate_from, filter, filter_map, find, flat_map, list_all, list_any}
use Rattle.std.proofs.lemmas.Bool.{and_from, and_parts, eq-eqb, le-leb}
use Rattle.std.proofs.lemmas.Grind.{flat_map-append}
use Rattle.std.proofs.lemmas.List.{drop_all, drop_at}
use Rattle.std.proofs.lemmas.List.Folds.{find-append, list_all-append}
use Rattle.std.proofs.lemmas.List.Sums.{sum_by-append, sum_by-cons}
use Rattle.ipe_policy.specs.declared.op.Op.{Op}
use Rattle.ipe_policy.specs.declared.op.Op.TheVariants.{Execute, Firmware, Kmodule, KexecImage, KexecInitramfs, Policy, X509Cert}
use Rattle.ipe_policy.specs.declared.evaluation.Context.{Context}
use Rattle.ipe_policy.specs.Evaluation.{holds_in, matches}
use Rattle.ipe_policy.specs.declared.op.Action.{Action}
use Rattle.ipe_policy.specs.declared.statement.Property.{Property}
use Rattle.ipe_policy.specs.declared.statement.Statement.{Statement}
use Rattle.ipe_policy.specs.declared.statement.Statement.TheVariants.{Rule, OpDefault, GlobalDefault}
use Rattle.ipe_policy.specs.Statement.{RuleParts, op_number, operations, rule_of, same_op}
use Rattle.ipe_policy.specs.Spelling.{rule_words}
use Rattle.ipe_image.specs.Image.{grouped, records, rule_record, rules_of, words_of, words_of_op}
use Rattle.ipe_image.specs.Reading.{fits_rule, in_text_order, rule_numbered}
use Rattle.ipe_image.proofs.Compare.{differ}
use Rattle.ipe_image.proofs.Sizes.{length-records}

-- the rules of an operation among numbered rules
abbrev pub group : List (ℕ × RuleParts) → Op → List (ℕ × RuleParts)
group rules op = filter (λ rule. same_op op rule.1.op) rules

-- a sum over lists that are joined
sum-joined : {X Y : Type 0} (f : Y → ℕ) (g : X → List Y) (xs : List X)
    → sum_by f (flat_map g xs) ≡ sum_by (λ x. sum_by f (g x)) xs
sum-joined f g [] = refl
sum-joined f g (x ∷ xs) =
    sum_by-append f (g x) (flat_map g xs) ∙ ap (λ (n : ℕ). sum_by f (g x) + n) (sum-joined f g xs)
    ∙ sym (sum_by-cons (λ y. sum_by f (g y)) x xs)

-- a sum over what a test keeps of a list
sum-kept : {X : Type 0} (f : X → ℕ) (p : X → Bool) (x : X) (xs : List X)
    → sum_by f (filter p (x ∷ xs)) ≡ cond (p x) (f x + sum_by f (filter p xs)) (sum_by f (filter p xs))
sum-kept f p x xs = at (p x)
  where
    at : (b : Bool) → sum_by f (cond b (x ∷ filter p xs) (filter p xs))
        ≡ cond b (f x + sum_by f (filter p xs)) (sum_by f (filter p xs))
    at true = sum_by-cons f x (filter p xs)
    at false = refl

sum-alike : {X : Type 0} (f g : X → ℕ) (xs : List X) → ((x : X) → f x ≡ g x) → sum_by f xs ≡ sum_by g xs
sum-alike f g [] same = refl
sum-alike f g (x ∷ xs) same =
    sum_by-cons f x xs ∙ ap (λ (n : ℕ). n + sum_by f xs) (same x)
    ∙ ap (λ (n : ℕ). g x + n) (sum-alike f g xs same) ∙ sym (sum_by-cons g x xs)

-- a rule is of one of the operations
one-more : (op : Op) (n : ℕ) (w : Op → ℕ)
    → sum_by (λ other. cond (same_op other op) (n + w other) (w other)) operations ≡ n + sum_by w operations
one-more Execute n w = omega arith
one-more Firmware n w = omega arith
one-more Kmodule n w = omega arith
one-more KexecImage n w = omega arith
one-more KexecInitramfs n w = omega arith
one-more Policy n w = omega arith
one-more X509Cert n w = omega arith

-- a sum over all groups is that over all rules
sum-grouped : (f : (ℕ × RuleParts) → ℕ) (xs : List (ℕ × RuleParts))
    → sum_by f (flat_map (group xs) operations) ≡ sum_by f xs
sum-grouped f [] = refl
sum-grouped f (x ∷ xs) =
    sum-joined f (group (x ∷ xs)) operations
    ∙ sum-alike (λ op. sum_by f (group (x ∷ xs) op)) (λ op. cond (same_op op x.1.op) (f x + sum_by f (group xs op))
    (sum_by f (group xs op))) operations (λ op. sum-kept f (λ rule. same_op op rule.1.op) x xs)
    ∙ one-more x.1.op (f x) (λ op. sum_by f (group xs op))
    ∙ ap (λ (n : ℕ). f x + n) (sym (sum-joined f (group xs) operations) ∙ sum-grouped f xs)
    ∙ sym (sum_by-cons f x xs)

count-is : {X : Type 0} (xs : List X) → length xs ≡ sum_by (λ x. 1) xs
count-is [] = refl
count-is (x ∷ xs) = omega (arith, count-is xs, sum_by-cons (λ y. 1) x xs)

count-numbered : (n : ℕ) (rules : List RuleParts) → length (enumerate_from n rules) ≡ length rules
count-numbered n [] = refl
count-numbered n (rule ∷ rules) = ap suc (count-numbered (n + 1) rules)

-- there are as many rules in groups as rules
pub length-grouped : (rules : List RuleParts) → length (grouped rules) ≡ length rules
length-grouped rules =
    count-is (grouped rules) ∙ sum-grouped (λ rule. 1) (enumerate_from 1 rules)
    ∙ sym (count-is (enumerate_from 1 rules)) ∙ count-numbered 1 rules

words-numbered : (n : ℕ) (rules : List RuleParts)
    → sum_by (λ (rule : ℕ × RuleParts). rule_words rule.1) (enumerate_from n rules) ≡ sum_by rule_words rules
words-numbered n [] = refl
words-numbered n (rule ∷ rules) =
    sum_by-cons (λ (r : ℕ × RuleParts). rule_words r.1) (n, rule) (enumerate_from (n + 1) rules)
    ∙ ap (λ (k : ℕ). rule_words rule + k) (words-numbered (n + 1) rules) ∙ sym (sum_by-cons rule_words rule rules)

-- the records of all groups have as many words as those of the rules
pub words-grouped : (rules : List RuleParts) → words_of (grouped rules) ≡ sum_by rule_words rules
words-grouped rules =
    sum-grouped (λ rule. rule_words rule.1) (enumerate_from 1 rules) ∙ words-numbered 1 rules

-- the first element that passes a second test among those that a first one keeps
pub find-kept : {X : Type 0} (p q : X → Bool) (xs : List X) → find q (filter p xs) ≡ find (λ x. p x && q x) xs
find-kept p q [] = refl
find-kept p q (x ∷ xs) = at (p x) (find-kept p q xs)
  where
    at : (b : Bool) → find q (filter p xs) ≡ find (λ y. p y && q y) xs
        → find q (cond b (x ∷ filter p xs) (filter p xs)) ≡ cond (b && q x) (Some x) (find (λ y. p y && q y) xs)
    at true rest = ap (λ o. cond (q x) (Some x) o) rest
    at false rest = rest

-- no rule has a number before the first
find-past : (s : (ℕ × RuleParts) → Bool) (k n : ℕ) (rules : List RuleParts) → k < n
    → find (λ rule. s rule && rule.0 == k) (enumerate_from n rules) ≡ None
find-past s k n [] past = refl
find-past s k n (rule ∷ rules) past =
    at (s (n, rule)) (differ n k (λ e. omega arith)) (find-past s k (n + 1) rules (omega arith))
  where
    at : (b : Bool) → (n == k) ≡ false
        → find (λ rule. s rule && rule.0 == k) (enumerate_from (n + 1) rules) ≡ None
        → cond (b && n == k) (Some (n, rule)) (find (λ rule. s rule && rule.0 == k) (enumerate_from (n + 1) rules))
        ≡ None
    at true apart rest =
        ap (λ (c : Bool). cond c (Some (n, rule)) (find (λ rule. s rule && rule.0 == k)
        (enumerate_from (n + 1) rules))) apart ∙ rest
    at false apart rest = rest

-- the rule of a number is the one at its place, if it passes another test
find-numbered : (s : (ℕ × RuleParts) → Bool) (k n i : ℕ) (rules : List RuleParts) (rule : RuleParts) → k ≡ n + i
    → slice_get rules i ≡ Some rule
    → find (λ other. s other && other.0 == k) (enumerate_from n rules) ≡ cond (s (k, rule)) (Some (k, rule)) None
find-numbered s k n i [] rule is there = absurd (cc)
find-numbered s k n zero (one ∷ rules) rule is there =
    let same : one ≡ rule = cc in
    let number : n ≡ k = omega arith in
    ap (λ (m : ℕ). cond (s (m, one) && m == k) (Some (m, one)) rest) number
    ∙ ap (λ (r : RuleParts). cond (s (k, r) && k == k) (Some (k, r)) rest) same
    ∙ at (s (k, rule)) (eq-eqb k k refl) (find-past s k (n + 1) rules (omega arith))
  where
    rest : Option (ℕ × RuleParts)
    rest = find (λ other. s other && other.0 == k) (enumerate_from (n + 1) rules)

    at : (b : Bool) → (k == k) ≡ true → rest ≡ None
        → cond (b && k == k) (Some (k, rule)) rest ≡ cond b (Some (k, rule)) None
    at true itself none = ap (λ (c : Bool). cond c (Some (k, rule)) rest) itself
    at false itself none = none
find-numbered s k n (suc i) (one ∷ rules) rule is there =
    at (s (n, one)) (differ n k (λ e. omega arith)) (find-numbered s k (n + 1) i rules rule (omega arith) there)
  where
    rest : Option (ℕ × RuleParts)
    rest = find (λ other. s other && other.0 == k) (enumerate_from (n + 1) rules)

    at : (b : Bool) → (n == k) ≡ false → rest ≡ cond (s (k, rule)) (Some (k, rule)) None
        → cond (b && n == k) (Some (n, one)) rest ≡ cond (s (k, rule)) (Some (k, rule)) None
    at true apart more = ap (λ (c : Bool). cond c (Some (n, one)) rest) apart ∙ more
    at false apart more = more

-- what is found in joined lists, where it is what each that has it gives
find-joined : {X : Type 0} (q : X → Bool) (g : Op → List X) (x : X) (has : Op → Bool)
    → ((op : Op) → find q (g op) ≡ cond (has op) (Some x) None) → (ops : List Op)
    → find q (flat_map g ops) ≡ cond (list_any has ops) (Some x) None
find-joined q g x has each [] = refl
find-joined q g x has each (op ∷ ops) =
    find-append q (g op) (flat_map g ops) ∙ ap (λ o. option_or o (find q (flat_map g ops))) (each op)
    ∙ at (has op) (find-joined q g x has each ops)
  where
    at : (b : Bool) → find q (flat_map g ops) ≡ cond (list_any has ops) (Some x) None
        → option_or (cond b (Some x) None) (find q (flat_map g ops)) ≡ cond (b || list_any has ops) (Some x) None
    at true rest = refl
    at false rest = rest

some-op : (op : Op) → list_any (λ other. same_op other op) operations ≡ true
some-op Execute = refl
some-op Firmware = refl
some-op Kmodule = refl
some-op KexecImage = refl
some-op KexecInitramfs = refl
some-op Policy = refl
some-op X509Cert = refl

-- the rule of a number stands in its group
numbered-found : (rules : List RuleParts) (i : ℕ) (rule : RuleParts) → slice_get rules i ≡ Some rule
    → rule_numbered (grouped rules) (1 + i) ≡ Some rule
numbered-found rules i rule there =
    ap (λ (o : Option (ℕ × RuleParts)). option_map (λ (r : ℕ × RuleParts). r.1) o)
    (find-joined (λ other. other.0 == 1 + i) (rules_of rules) (1 + i, rule) (λ op. same_op op rule.op) each operations
    ∙ ap (λ (b : Bool). cond b (Some (1 + i, rule)) None) (some-op rule.op))
  where
    each : (op : Op) → find (λ other. other.0 == 1 + i) (rules_of rules op)
        ≡ cond (same_op op rule.op) (Some (1 + i, rule)) None
    each op = find-kept (λ other. same_op op other.1.op) (λ other. other.0 == 1 + i) (enumerate_from 1 rules)
        ∙ find-numbered (λ other. same_op op other.1.op) (1 + i) 1 i rules rule refl there

-- what is given for each number in turn
each-in-turn : (h : ℕ → Option RuleParts) (n : ℕ) (ys : List (ℕ × RuleParts)) (left : List RuleParts)
    → length ys ≡ length left
    → ((k : ℕ) (rule : RuleParts) → slice_get left k ≡ Some rule → h (n + k) ≡ Some rule)
    → filter_map (λ place. h place.0) (enumerate_from n ys) ≡ left
each-in-turn h n [] [] same gives = refl
each-in-turn h n [] (rule ∷ left) same gives = absurd (omega arith)
each-in-turn h n (y ∷ ys) [] same gives = absurd (omega arith)
each-in-turn h n (y ∷ ys) (rule ∷ left) same gives =
    let here : n ≡ n + 0 = omega arith in
    ap (λ (o : Option RuleParts). cons_option o (filter_map (λ place. h place.0) (enumerate_from (n + 1) ys)))
    (ap h here ∙ gives 0 rule refl)
    ∙ ap (λ (rules : List RuleParts). rule ∷ rules) (each-in-turn h (n + 1) ys left (omega arith)
    (λ k other there. let next : n + 1 + k ≡ n + suc k = omega arith in ap h next ∙ gives (suc k) other there))

-- rules that were grouped are put into the order of the text again
pub in-text-order : (rules : List RuleParts) → in_text_order (grouped rules) ≡ rules
in-text-order rules =
    each-in-turn (rule_numbered (grouped rules)) 1 (grouped rules) rules (length-grouped rules) (numbered-found rules)

-- a rule that fits, with a number that its record can hold
abbrev pub sound : (ℕ × RuleParts) → Bool
sound rule = nat_le rule.0 4096 && fits_rule rule.1

sound-numbered : (n : ℕ) (rules : List RuleParts) → n + length rules ≤ 4097 → list_all fits_rule rules ≡ true
    → list_all sound (enumerate_from n rules) ≡ true
sound-numbered n [] few fit = refl
sound-numbered n (rule ∷ rules) few fit =
    let both = and_parts (fits_rule rule) (list_all fits_rule rules) fit in
    and_from (sound (n, rule)) (list_all sound (enumerate_from (n + 1) rules))
    (and_from (nat_le n 4096) (fits_rule rule) (le-leb n 4096 (omega arith)) both.0)
    (sound-numbered (n + 1) rules (omega arith) both.1)

all-kept : {X : Type 0} (p q : X → Bool) (xs : List X) → list_all p xs ≡ true → list_all p (filter q xs) ≡ true
all-kept p q [] all = refl
all-kept p q (x ∷ xs) all =
    let both = and_parts (p x) (list_all p xs) all in
    at (q x) both.0 (all-kept p q xs both.1)
  where
    at : (b : Bool) → p x ≡ true → list_all p (filter q xs) ≡ true
        → list_all p (cond b (x ∷ filter q xs) (filter q xs)) ≡ true
    at true one rest = and_from (p x) (list_all p (filter q xs)) one rest
    at false one rest = rest

all-joined : {X Y : Type 0} (p : Y → Bool) (g : X → List Y) (xs : List X) → ((x : X) → list_all p (g x) ≡ true)
    → list_all p (flat_map g xs) ≡ true
all-joined p g [] each = refl
all-joined p g (x ∷ xs) each =
    list_all-append p (g x) (flat_map g xs)
    ∙ and_from (list_all p (g x)) (list_all p (flat_map g xs)) (each x) (all-joined p g xs each)

-- each rule of a group is sound
pub sound-group : (rules : List RuleParts) (op : Op) → length rules ≤ 4096 → list_all fits_rule rules ≡ true
    → list_all sound (rules_of rules op) ≡ true
sound-group rules op few fit =
    all-kept sound (λ rule. same_op op rule.1.op) (enumerate_from 1 rules)
    (sound-numbered 1 rules (omega arith) fit)

pub sound-grouped : (rules : List RuleParts) → length rules ≤ 4096 → list_all fits_rule rules ≡ true
    → list_all sound (grouped rules) ≡ true
sound-grouped rules few fit = all-joined sound (rules_of rules) operations (λ op. sound-group rules op few fit)

-- the operations before one, this one, and those after it
parted-ops : (op : Op) → operations ≡ take (op_number op) operations ++ (op ∷ drop (op_number op + 1) operations)
parted-ops Execute = refl
parted-ops Firmware = refl
parted-ops Kmodule = refl
parted-ops KexecImage = refl
parted-ops KexecInitramfs = refl
parted-ops Policy = refl
parted-ops X509Cert = refl

-- the records of an operation stand after those of the operations before it
pub group-stands : (rules : List RuleParts) (op : Op) (behind : List ℕ) → (rest : List ℕ)
    × (drop (sum_by (words_of_op rules) (take (op_number op) operations)) (records (grouped rules) ++ behind)
    ≡ records (rules_of rules op) ++ rest)
group-stands rules op behind =
    let before = take (op_number op) operations in
    let after = drop (op_number op + 1) operations in
    let front = flat_map (rules_of rules) before in
    let back = flat_map (rules_of rules) after in
    let record_of : (ℕ × RuleParts) → List ℕ = λ rule. rule_record rule.0 rule.1 in
    let parted : grouped rules ≡ front ++ (rules_of rules op ++ back) =
    ap (flat_map (rules_of rules)) (parted-ops op) ∙ flat_map-append (rules_of rules) before (op ∷ after) in
    let tail = records (rules_of rules op) ++ (records back ++ behind) in
    let words : records (grouped rules) ++ behind ≡ records front ++ tail =
    ap (λ (rs : List (ℕ × RuleParts)). records rs ++ behind) parted
    ∙ ap (λ (ws : List ℕ). ws ++ behind) (flat_map-append record_of front (rules_of rules op ++ back))
    ∙ ap (λ (ws : List ℕ). (records front ++ ws) ++ behind) (flat_map-append record_of (rules_of rules op) back)
    ∙ append_assoc (records front) (records (rules_of rules op) ++ records back) behind
    ∙ ap (λ (ws : List ℕ). records front ++ ws) (append_assoc (records (rules_of rules op)) (records back) behind) in
    let size : length (records front) ≡ sum_by (words_of_op rules) before =
    length-records front ∙ sum-joined (λ rule. rule_words rule.1) (rules_of rules) before in (
      records back ++ behind,
      ap (drop (sum_by (words_of_op rules) before)) words
          ∙ drop_at (records front) tail (sum_by (words_of_op rules) before) size,
    )

-- the records of an operation and of those before it are among all records
pub words-before : (rules : List RuleParts) (op : Op)
    → sum_by (words_of_op rules) (take (op_number op) operations) + words_of_op rules op ≤ sum_by rule_words rules
words-before rules op =
    let before = take (op_number op) operations in
    let after = drop (op_number op + 1) operations in
    let all : sum_by rule_words rules ≡ sum_by (words_of_op rules) operations =
    sym (words-grouped rules) ∙ sum-joined (λ rule. rule_words rule.1) (rules_of rules) operations in
    let parted : sum_by (words_of_op rules) operations
    ≡ sum_by (words_of_op rules) before + sum_by (words_of_op rules) (op ∷ after) =
    ap (sum_by (words_of_op rules)) (parted-ops op) ∙ sum_by-append (words_of_op rules) before (op ∷ after) in
    omega (arith, sum_by-cons (words_of_op rules) op after)

-- all properties of a rule hold
abbrev pub holding : Context → (ℕ × RuleParts) → Bool
holding context rule = list_all (holds_in context) rule.1.properties

-- the first rule that matches is the first of its operation whose properties all hold
pub find-in-group : (rules : List RuleParts) (op : Op) (context : Context)
    → find (holding context) (rules_of rules op) ≡ find (matches op context) (enumerate_from 1 rules)
find-in-group rules op context =
    find-kept (λ rule. same_op op rule.1.op) (holding context) (enumerate_from 1 rules)

-- the rules of an operation among statements, numbered from this number on
abbrev pub group_from : ℕ → List Statement → Op → List (ℕ × RuleParts)
group_from n items op = group (enumerate_from n (filter_map rule_of items)) op

-- a statement that is a rule of the operation, one that is another rule, and one that is none
group-next : (n : ℕ) (items more : List Statement) (item : Statement) (rule : RuleParts) (op : Op) (b : Bool)
    → items ≡ item ∷ more → rule_of item ≡ Some rule → same_op op rule.op ≡ b
    → group_from n items op ≡ cond b ((n, rule) ∷ group_from (n + 1) more op) (group_from (n + 1) more op)
group-next n items more item rule op b at is same =
    ap (λ (is : List Statement). group_from n is op) at
    ∙ ap (λ (o : Option RuleParts). group (enumerate_from n (cons_option o (filter_map rule_of more))) op) is
    ∙ ap (λ (c : Bool). cond c ((n, rule) ∷ group_from (n + 1) more op) (group_from (n + 1) more op)) same

group-none : (n : ℕ) (items more : List Statement) (item : Statement) (op : Op) → items ≡ item ∷ more
    → rule_of item ≡ None → group_from n items op ≡ group_from n more op
group-none n items more item op at is =
    ap (λ (is : List Statement). group_from n is op) at
    ∙ ap (λ (o : Option RuleParts). group (enumerate_from n (cons_option o (filter_map rule_of more))) op) is

-- a statement that is no rule
pub not-a-rule : (item : Statement) → ((op : Op) (properties : List Property) (action : Action)
    → item ≡ Rule op properties action → ⊥) → rule_of item ≡ None
not-a-rule (Rule op properties action) not = absurd (not op properties action refl)
not-a-rule (OpDefault op action) not = refl
not-a-rule (GlobalDefault action) not = refl

-- after so many statements: the words and the records of the rest are all, and so are the rules
pub record SoFar (first words : List ℕ) (items : List Statement) (op : Op) (number count i : ℕ) : Type 0 where
  pub words_are : words ++ records (group_from (number + 1) (drop i items) op)
      ≡ first ++ records (rules_of (filter_map rule_of items) op)
  pub few : number ≤ i
  pub fewer : count ≤ number
  pub counted : count + length (group_from (number + 1) (drop i items) op)
      ≡ length (rules_of (filter_map rule_of items) op)

pub so-far-first : (first : List ℕ) (items : List Statement) (op : Op) → SoFar first first items op 0 0 0
so-far-first first items op = record {
  words_are = refl;
  few = omega arith;
  fewer = omega arith;
  counted = omega arith;
}

pub so-far-kept : (first words words' : List ℕ) (items : List Statement) (op : Op) (number count i number' count' : ℕ)
    (item : Statement) (rule : RuleParts) → drop i items ≡ item ∷ drop (i + 1) items → rule_of item ≡ Some rule
    → same_op op rule.op ≡ true → words' ≡ words ++ rule_record (number + 1) rule → number' ≡ number + 1
    → count' ≡ count + 1 → SoFar first words items op number count i → SoFar first words' items op number' count' (i + 1)
so-far-kept first words words' items op number count i number' count' item rule at is same words_is number_is count_is h =
    let more = drop (i + 1) items in
    let next = group-next (number + 1) (drop i items) more item rule op true at is same in
    let count_next = ap length next in
    let few = h.few in
    let fewer = h.fewer in
    let counted = h.counted in
    let rest_is : length (group_from (number' + 1) more op) ≡ length (group_from (number + 1 + 1) more op) =
    ap (λ (n : ℕ). length (group_from (n + 1) more op)) number_is in
    record {
      words_are = ap (λ (n : ℕ). words' ++ records (group_from (n + 1) more op)) number_is
          ∙ ap (λ (ws : List ℕ). ws ++ records (group_from (number + 1 + 1) more op)) words_is
          ∙ append_assoc words (rule_record (number + 1) rule) (records (group_from (number + 1 + 1) more op))
          ∙ ap (λ (rules : List (ℕ × RuleParts)). words ++ records rules) (sym next) ∙ h.words_are;
      few = omega arith;
      fewer = omega arith;
      counted = omega arith;
    }

pub so-far-other : (first words words' : List ℕ) (items : List Statement) (op : Op) (number count i number' count' : ℕ)
    (item : Statement) (rule : RuleParts) → drop i items ≡ item ∷ drop (i + 1) items → rule_of item ≡ Some rule
    → same_op op rule.op ≡ false → words' ≡ words → number' ≡ number + 1 → count' ≡ count
    → SoFar first words items op number count i → SoFar first words' items op number' count' (i + 1)
so-far-other first words words' items op number count i number' count' item rule at is same words_is number_is count_is h =
    let more = drop (i + 1) items in
    let next = group-next (number + 1) (drop i items) more item rule op false at is same in
    let count_next = ap length next in
    let few = h.few in
    let fewer = h.fewer in
    let counted = h.counted in
    let rest_is : length (group_from (number' + 1) more op) ≡ length (group_from (number + 1 + 1) more op) =
    ap (λ (n : ℕ). length (group_from (n + 1) more op)) number_is in
    record {
      words_are = ap (λ (n : ℕ). words' ++ records (group_from (n + 1) more op)) number_is
          ∙ ap (λ (ws : List ℕ). ws ++ records (group_from (number + 1 + 1) more op)) words_is
          ∙ ap (λ (rules : List (ℕ × RuleParts)). words ++ records rules) (sym next) ∙ h.words_are;
      few = omega arith;
      fewer = omega arith;
      counted = omega arith;
    }

pub so-far-none : (first words words' : List ℕ) (items : List Statement) (op : Op) (number count i number' count' : ℕ)
    (item : Statement) → drop i items ≡ item ∷ drop (i + 1) items → rule_of item ≡ None
    → words' ≡ words → number' ≡ number → count' ≡ count
    → SoFar first words items op number count i → SoFar first words' items op number' count' (i + 1)
so-far-none first words words' items op number count i number' count' item at is words_is number_is count_is h =
    let more = drop (i + 1) items in
    let next = group-none (number + 1) (drop i items) more item op at is in
    let count_next = ap length next in
    let few = h.few in
    let fewer = h.fewer in
    let counted = h.counted in
    let rest_is : length (group_from (number' + 1) more op) ≡ length (group_from (number + 1) more op) =
    ap (λ (n : ℕ). length (group_from (n + 1) more op)) number_is in
    record {
      words_are = ap (λ (n : ℕ). words' ++ records (group_from (n + 1) more op)) number_is
          ∙ ap (λ (ws : List ℕ). ws ++ records (group_from (number + 1) more op)) words_is
          ∙ ap (λ (rules : List (ℕ × RuleParts)). words ++ records rules) (sym next) ∙ h.words_are;
      few = omega arith;
      fewer = omega arith;
      counted = omega arith;
    }

-- after all statements
pub record AllSoFar (first words : List ℕ) (items : List Statement) (op : Op) (count : ℕ) : Type 0 where
  pub words_are : words ≡ first ++ records (rules_of (filter_map rule_of items) op)
  pub counted : count ≡ length (rules_of (filter_map rule_of items) op)

pub so-far-all : (first words : List ℕ) (items : List Statement) (op : Op) (number count i : ℕ) → length items ≤ i
    → SoFar first words items op number count i → AllSoFar first words items op count
so-far-all first words items op number count i past h =
    let none : drop i items ≡ [] = drop_all i items past in
    let no_group : group_from (number + 1) (drop i items) op ≡ [] =
    ap (λ (is : List Statement). group_from (number + 1) is op) none in
    let no_rule = ap length no_group in
    let counted = h.counted in
    record {
      words_are = sym (append-nil words)
          ∙ ap (λ (rules : List (ℕ × RuleParts)). words ++ records rules) (sym no_group) ∙ h.words_are;
      counted = omega arith;
    }
