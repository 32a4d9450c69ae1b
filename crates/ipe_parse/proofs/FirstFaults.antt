-- The fault that the reader names is the first of the rows of checks.
use Rattle.std.proofs.Common.{◌≡◌, ◌∙◌, ◌⊎◌, inl, inr, ℕ, ◌-◌, Bool, true, false, not, cond, ◌&&◌, ◌||◌, List, [], ◌∷◌, ◌++◌, length, take, Option, Some, None, is_some, Result, Ok, Err, ok_or, option_map, refl, ap, sym, subst}
use Rattle.std.specs.Prelude.{◌↔◌, codes, nat_le}
use Rattle.std.specs.List.{find}
use Rattle.std.specs.Option.{option_map_or}
use Rattle.std.specs.Result.{result_ok}
use Rattle.ipe_policy.specs.declared.op.Op.{Op}
use Rattle.ipe_policy.specs.declared.op.Action.{Action}
use Rattle.ipe_policy.specs.declared.statement.Property.{Property}
use Rattle.ipe_policy.specs.declared.statement.Property.TheVariants.{DmverityRoothash, FsverityDigest}
use Rattle.ipe_policy.specs.declared.statement.Statement.{Statement}
use Rattle.ipe_policy.specs.declared.statement.Statement.TheVariants.{Rule, OpDefault, GlobalDefault}
use Rattle.ipe_policy.specs.declared.version.Version.{Version}
use Rattle.ipe_policy.specs.Policy.{PolicyParts}
use Rattle.ipe_policy.specs.Words.{is_name}
use Rattle.ipe_policy.specs.Version.{version_of}
use Rattle.line_words.specs.Words.{is_text}
use Rattle.ipe_parse.specs.declared.header.Header.{Header}
use Rattle.ipe_parse.specs.declared.error.BadKind.{BadKind}
use Rattle.ipe_parse.specs.declared.error.BadKind.TheVariants.{NoHeader, BadName, BadVersion, BadOp, BadAction, PropertyInDefault, TwiceDefault, TooManyProperties, BadProperty, BadDigest}
use Rattle.ipe_parse.specs.declared.error.BadText.{BadText}
use Rattle.ipe_parse.specs.declared.error.BadText.TheVariants.{Bad, NoDefault}
use Rattle.ipe_parse.specs.Tokens.{◌>>=◌, begins, behind, default_of, digest_of, header_of, last_action, lone_action, op_named, op_of, or_else, properties_of, property_of, rule_of_line, statement_of, truth_property_of}
use Rattle.ipe_parse.specs.Defaults.{first_missing, has_global_default, has_op_default, repeats_default}
use Rattle.ipe_parse.specs.Reading.{SpokenLine, at_line, completed, not_twice, reading, reading_of_lines, spoken_lines, statements_from}
use Rattle.ipe_parse.specs.FirstFault.{FaultFree, FirstFault, IsFirstFaulty, default_row, first_failed, header_row, line_fault, names_digest, rule_row}
use Rattle.ipe_parse.proofs.SpelledStatements.{statement-read, statement-spelled}

-- the fault in an answer
abbrev fault_in : {A : Type 0} → Result A BadKind → Option BadKind
fault_in (Ok x) = None
fault_in (Err kind) = Some kind

-- ---- rows

abbrev header_with : List ℕ → Version → Result Header BadKind
header_with name value = Ok (record { name = name; version = value })

header-two : (keys named : Bool) (name : List ℕ) (version : Option Version)
    → fault_in (cond keys (cond named (ok_or version BadVersion >>= header_with name) (Err BadName)) (Err NoHeader))
    ≡ cond keys (cond named (cond (is_some version) None (Some BadVersion)) (Some BadName)) (Some NoHeader)
header-two true true name (Some version) = refl
header-two true true name None = refl
header-two true false name version = refl
header-two false named name version = refl

header-fault : (tokens : List (List ℕ)) → fault_in (header_of tokens) ≡ first_failed header_row [] tokens
header-fault [] = refl
header-fault (name ∷ []) = refl
header-fault (name ∷ version ∷ []) =
    header-two (begins (codes "policy_name=") name && begins (codes "policy_version=") version)
    (is_name (behind (codes "policy_name=") name)) (behind (codes "policy_name=") name)
    (version_of (behind (codes "policy_version=") version))
header-fault (name ∷ version ∷ third ∷ others) = refl

-- a default that is given, or not
twice-fault : (given : Bool) (statement : Statement)
    → fault_in (cond given (Err TwiceDefault) (Ok statement)) ≡ cond (not given) None (Some TwiceDefault)
twice-fault true statement = refl
twice-fault false statement = refl

op-default : (before : List Statement) (op : Option Op) (action : Option Action) (few : Bool)
    → fault_in (not_twice before (ok_or op BadOp >>= λ op. (ok_or action BadAction >>= λ action.
    cond few (Ok action) (Err PropertyInDefault)) >>= λ action. Ok (OpDefault op action)))
    ≡ cond (is_some op) (cond (is_some action) (cond few
    (cond (not (option_map_or (λ op. has_op_default op before) op false)) None (Some TwiceDefault))
    (Some PropertyInDefault)) (Some BadAction)) (Some BadOp)
op-default before None action few = refl
op-default before (Some op) None few = refl
op-default before (Some op) (Some action) false = refl
op-default before (Some op) (Some action) true = twice-fault (has_op_default op before) (OpDefault op action)

global-default : (before : List Statement) (action : Option Action) (few : Bool)
    → fault_in (not_twice before ((ok_or action BadAction >>= λ action.
    cond few (Ok action) (Err PropertyInDefault)) >>= λ action. Ok (GlobalDefault action)))
    ≡ cond (is_some action) (cond few (cond (not (has_global_default before)) None (Some TwiceDefault))
    (Some PropertyInDefault)) (Some BadAction)
global-default before None few = refl
global-default before (Some action) false = refl
global-default before (Some action) true = twice-fault (has_global_default before) (GlobalDefault action)

default-fault : (before : List Statement) (first : List ℕ) (others : List (List ℕ))
    → fault_in (not_twice before (default_of others)) ≡ first_failed default_row before (first ∷ others)
default-fault before first [] = refl
default-fault before first (second ∷ others) = at (begins (codes "op=") second)
  where
    op : Option Op
    op = op_named (behind (codes "op=") second)

    at : (names : Bool)
        → fault_in (not_twice before (cond names
        (ok_or op BadOp >>= λ op. lone_action others >>= λ action. Ok (OpDefault op action))
        (lone_action (second ∷ others) >>= λ action. Ok (GlobalDefault action))))
        ≡ cond (not names || is_some op) (cond (is_some (last_action (cond names others (second ∷ others))))
        (cond (nat_le (length (cond names others (second ∷ others))) 1)
        (cond (not (cond names (option_map_or (λ op. has_op_default op before) op false) (has_global_default before)))
        None (Some TwiceDefault)) (Some PropertyInDefault)) (Some BadAction)) (Some BadOp)
    at true = op-default before op (last_action others) (nat_le (length others) 1)
    at false = global-default before (last_action (second ∷ others)) (nat_le (length (second ∷ others)) 1)

property-two : (truth : Option Property) (one other : Bool) (first second : Option Property)
    → fault_in (or_else truth (cond one (ok_or first BadDigest) (cond other (ok_or second BadDigest) (Err BadProperty))))
    ≡ cond (is_some (result_ok (or_else truth (cond one (ok_or first BadDigest) (cond other (ok_or second BadDigest)
    (Err BadProperty)))))) None (Some (cond (one || other) BadDigest BadProperty))
property-two (Some property) one other first second = refl
property-two None true other (Some property) second = refl
property-two None true other None second = refl
property-two None false true first (Some property) = refl
property-two None false true first None = refl
property-two None false false first second = refl

property-fault : (token : List ℕ)
    → fault_in (property_of token)
    ≡ cond (is_some (result_ok (property_of token))) None (Some (cond (names_digest token) BadDigest BadProperty))
property-fault token =
    property-two (truth_property_of token) (begins (codes "dmverity_roothash=") token)
    (begins (codes "fsverity_digest=") token)
    (option_map DmverityRoothash (digest_of (behind (codes "dmverity_roothash=") token)))
    (option_map FsverityDigest (digest_of (behind (codes "fsverity_digest=") token)))

-- the first of some tokens that is no property
abbrev bad_in : List (List ℕ) → Option (List ℕ)
bad_in tokens = find (λ token. not (is_some (result_ok (property_of token)))) tokens

-- what the first bad token makes of a rule
abbrev bad_fault : Option (List ℕ) → Option BadKind
bad_fault bad =
    cond (not (option_map_or names_digest bad false)) (cond (not (is_some bad)) None (Some BadProperty)) (Some BadDigest)

bad-some : (token : List ℕ) → Some (cond (names_digest token) BadDigest BadProperty) ≡ bad_fault (Some token)
bad-some token = at (names_digest token)
  where
    at : (digest : Bool) → Some (cond digest BadDigest BadProperty)
        ≡ cond (not digest) (Some BadProperty) (Some BadDigest)
    at true = refl
    at false = refl

properties-fault : (tokens : List (List ℕ)) → fault_in (properties_of tokens) ≡ bad_fault (bad_in tokens)
properties-fault [] = refl
properties-fault (token ∷ tokens) =
    at (property_of token) (property-fault token) (properties-fault tokens)
  where
    more : (property : Property) (r : Result (List Property) BadKind)
        → fault_in (r >>= λ properties. Ok (property ∷ properties)) ≡ fault_in r
    more property (Ok properties) = refl
    more property (Err kind) = refl

    at : (r : Result Property BadKind)
        → fault_in r ≡ cond (is_some (result_ok r)) None (Some (cond (names_digest token) BadDigest BadProperty))
        → fault_in (properties_of tokens) ≡ bad_fault (bad_in tokens)
        → fault_in (r >>= λ property. properties_of tokens >>= λ properties. Ok (property ∷ properties))
        ≡ bad_fault (cond (not (is_some (result_ok r))) (Some token) (bad_in tokens))
    at (Ok property) one rest = more property (properties_of tokens) ∙ rest
    at (Err kind) one rest = one ∙ bad-some token

rule-two : (before : List Statement) (op : Option Op) (action : Option Action) (few : Bool)
    (properties : Result (List Property) BadKind) (bad : Option (List ℕ)) → fault_in properties ≡ bad_fault bad
    → fault_in (not_twice before (ok_or op BadOp >>= λ op. ok_or action BadAction >>= λ action.
    cond few (properties >>= λ properties. Ok (Rule op properties action)) (Err TooManyProperties)))
    ≡ cond (is_some op) (cond (is_some action) (cond few (bad_fault bad) (Some TooManyProperties)) (Some BadAction))
    (Some BadOp)
rule-two before None action few properties bad e = refl
rule-two before (Some op) None few properties bad e = refl
rule-two before (Some op) (Some action) false properties bad e = refl
rule-two before (Some op) (Some action) true (Ok properties) bad e = e
rule-two before (Some op) (Some action) true (Err kind) bad e = e

rule-fault : (before : List Statement) (first : List ℕ) (others : List (List ℕ))
    → fault_in (not_twice before (rule_of_line first others)) ≡ first_failed rule_row before (first ∷ others)
rule-fault before first others =
    rule-two before (op_of first) (last_action others) (nat_le (length others) 17)
    (properties_of (take (length others - 1) others)) (bad_in (take (length others - 1) others))
    (properties-fault (take (length others - 1) others))

-- a line's fault is that of its row
line-fault : (before : List Statement) (tokens : List (List ℕ))
    → fault_in (not_twice before (statement_of tokens)) ≡ line_fault before tokens
line-fault before [] = refl
line-fault before (first ∷ others) = at (is_text (codes "DEFAULT") first)
  where
    at : (b : Bool) → fault_in (not_twice before (cond b (default_of others) (rule_of_line first others)))
        ≡ first_failed (cond b default_row rule_row) before (first ∷ others)
    at true = default-fault before first others
    at false = rule-fault before first others

-- ---- lines

-- an answer without a fault, and with one
no-fault : {A : Type 0} (r : Result A BadKind) → fault_in r ≡ None → (x : A) × (r ≡ Ok x)
no-fault (Ok x) e = (x, refl)
no-fault (Err kind) e = absurd (cc)

one-fault : {A : Type 0} (r : Result A BadKind) (kind : BadKind) → fault_in r ≡ Some kind → r ≡ Err kind
one-fault (Ok x) kind e = absurd (cc)
one-fault (Err other) kind e = ap Err (cc)

-- a statement that repeats nothing is what was read
kept : (before : List Statement) (r : Result Statement BadKind) (statement : Statement)
    → not_twice before r ≡ Ok statement → r ≡ Ok statement
kept before (Err kind) statement e = absurd (cc)
kept before (Ok one) statement e = at (repeats_default before one) e
  where
    at : (b : Bool) → cond b (Err TwiceDefault) (Ok one) ≡ Ok statement → ◌≡◌ {A = Result Statement BadKind} (Ok one) (Ok statement)
    at true e = absurd (cc)
    at false e = e

-- lines without a fault are read as what they spell
free-read : (before : List Statement) (lines : List SpokenLine) (items : List Statement) → FaultFree before lines items
    → statements_from before lines ≡ Ok items
free-read before [] items h = ap Ok (sym h)
free-read before (line ∷ lines) items h =
    let read = statement-read line.tokens h.0 h.1 in
    let none = no-fault (not_twice before (statement_of line.tokens)) (line-fault before line.tokens ∙ h.2) in
    let same : ◌≡◌ {A = Result Statement BadKind} (Ok h.0) (Ok none.0) = sym read ∙ kept before _ none.0 none.1 in
    let is : h.0 ≡ none.0 = cc in
    ap (λ (r : Result Statement BadKind). at_line line.number r >>= λ statement.
    statements_from (before ++ statement ∷ []) lines) (none.1 ∙ ap Ok (sym is))
    ∙ free-read (before ++ h.0 ∷ []) lines items h.3

read-free : (before : List Statement) (lines : List SpokenLine) (items : List Statement)
    → statements_from before lines ≡ Ok items → FaultFree before lines items
read-free before [] items e = cc
read-free before (line ∷ lines) items e =
    at (not_twice before (statement_of line.tokens)) refl (λ statement. read-free (before ++ statement ∷ []) lines items) e
  where
    at : (r : Result Statement BadKind) → not_twice before (statement_of line.tokens) ≡ r
        → ((statement : Statement) → statements_from (before ++ statement ∷ []) lines ≡ Ok items
        → FaultFree (before ++ statement ∷ []) lines items)
        → (at_line line.number r >>= λ statement. statements_from (before ++ statement ∷ []) lines) ≡ Ok items
        → FaultFree before (line ∷ lines) items
    at (Err kind) is rest e = absurd (cc)
    at (Ok statement) is rest e = (
      statement,
      statement-spelled line.tokens statement (kept before _ statement is),
      sym (line-fault before line.tokens) ∙ ap fault_in is,
      rest statement e,
    )

-- a line with a fault after lines without one
faulty-read : (before : List Statement) (front : List SpokenLine) (line : SpokenLine) (others : List SpokenLine)
    (items : List Statement) (kind : BadKind) → FaultFree before front items → line_fault items line.tokens ≡ Some kind
    → statements_from before (front ++ line ∷ others) ≡ Err (Bad line.number kind)
faulty-read before [] line others items kind free fails =
    let here : line_fault before line.tokens ≡ Some kind =
    ap (λ (is : List Statement). line_fault is line.tokens) (sym free) ∙ fails in
    ap (λ (r : Result Statement BadKind). at_line line.number r >>= λ statement.
    statements_from (before ++ statement ∷ []) others)
    (one-fault (not_twice before (statement_of line.tokens)) kind (line-fault before line.tokens ∙ here))
faulty-read before (one ∷ front) line others items kind h fails =
    let read = statement-read one.tokens h.0 h.1 in
    let none = no-fault (not_twice before (statement_of one.tokens)) (line-fault before one.tokens ∙ h.2) in
    let same : ◌≡◌ {A = Result Statement BadKind} (Ok h.0) (Ok none.0) = sym read ∙ kept before _ none.0 none.1 in
    let is : h.0 ≡ none.0 = cc in
    ap (λ (r : Result Statement BadKind). at_line one.number r >>= λ statement.
    statements_from (before ++ statement ∷ []) (front ++ line ∷ others)) (none.1 ∙ ap Ok (sym is))
    ∙ faulty-read (before ++ h.0 ∷ []) front line others items kind h.3 fails

-- a fault of lines is that of a first faulty one
abbrev Faulty : List Statement → List SpokenLine → BadText → Type 0
Faulty before lines (Bad number kind) = IsFirstFaulty before lines number kind
Faulty before lines (NoDefault op) = ⊥

read-faulty : (before : List Statement) (lines : List SpokenLine) (fault : BadText)
    → statements_from before lines ≡ Err fault → Faulty before lines fault
read-faulty before [] fault e = absurd (cc)
read-faulty before (line ∷ lines) fault e =
    at (not_twice before (statement_of line.tokens)) refl fault (λ statement. read-faulty (before ++ statement ∷ []) lines) e
  where
    more : (statement : Statement) (fault : BadText) → not_twice before (statement_of line.tokens) ≡ Ok statement
        → Faulty (before ++ statement ∷ []) lines fault → Faulty before (line ∷ lines) fault
    more statement (NoDefault op) is h = h
    more statement (Bad number kind) is h = record {
      front = line ∷ h.front;
      line = h.line;
      others = h.others;
      items = h.items;
      whole = ap (λ (ls : List SpokenLine). line ∷ ls) h.whole;
      free = (
        statement,
        statement-spelled line.tokens statement (kept before _ statement is),
        sym (line-fault before line.tokens) ∙ ap fault_in is,
        h.free,
      );
      number_is = h.number_is;
      fails = h.fails;
    }

    here : (kind : BadKind) (fault : BadText) → not_twice before (statement_of line.tokens) ≡ Err kind
        → Bad line.number kind ≡ fault → Faulty before (line ∷ lines) fault
    here kind fault is same = subst (Faulty before (line ∷ lines)) same (record {
      front = [];
      line = line;
      others = lines;
      items = before;
      whole = refl;
      free = refl;
      number_is = refl;
      fails = sym (line-fault before line.tokens) ∙ ap fault_in is;
    })

    at : (r : Result Statement BadKind) → not_twice before (statement_of line.tokens) ≡ r → (fault : BadText)
        → ((statement : Statement) (fault : BadText) → statements_from (before ++ statement ∷ []) lines ≡ Err fault
        → Faulty (before ++ statement ∷ []) lines fault)
        → (at_line line.number r >>= λ statement. statements_from (before ++ statement ∷ []) lines) ≡ Err fault
        → Faulty before (line ∷ lines) fault
    at (Err kind) is fault rest e = here kind fault is (cc)
    at (Ok statement) is fault rest e = more statement fault is (rest statement fault e)

-- ---- the text

-- the reader of the lines after a header
abbrev behind_header : Header → List SpokenLine → Result PolicyParts BadText
behind_header header lines = statements_from [] lines >>= λ items. completed header items (first_missing items)

after-items : (header : Header) (lines : List SpokenLine) (r : Result (List Statement) BadText)
    → statements_from [] lines ≡ r → (fault : BadText)
    → (r >>= λ items. completed header items (first_missing items)) ≡ Err fault
    → (Faulty [] lines fault) ⊎ ((items : List Statement) × (op : Op) × (fault ≡ NoDefault op) × FaultFree [] lines items
    × (first_missing items ≡ Some op))
after-items header lines (Err other) is fault e = inl (read-faulty [] lines fault (is ∙ ap Err (cc)))
after-items header lines (Ok items) is fault e = at (first_missing items) refl e
  where
    at : (o : Option Op) → first_missing items ≡ o → completed header items o ≡ Err fault
        → (Faulty [] lines fault) ⊎ ((items : List Statement) × (op : Op) × (fault ≡ NoDefault op)
        × FaultFree [] lines items × (first_missing items ≡ Some op))
    at None missing e = absurd (cc)
    at (Some op) missing e = inr (items, op, cc, read-free [] lines items is, missing)

lines-first : (lines : List SpokenLine) (fault : BadText) → reading_of_lines lines ≡ Err fault → FirstFault lines fault
lines-first [] fault e = subst (FirstFault []) {x = Bad 1 NoHeader} {y = fault} (cc) (refl, refl)
lines-first (line ∷ lines) fault e = at (header_of line.tokens) refl e
  where
    none : (header : Header) → header_of line.tokens ≡ Ok header → first_failed header_row [] line.tokens ≡ None
    none header is = sym (header-fault line.tokens) ∙ ap fault_in is

    faulty : (fault : BadText) → first_failed header_row [] line.tokens ≡ None → Faulty [] lines fault
        → FirstFault (line ∷ lines) fault
    faulty (Bad number kind) none h = inr (none, h)
    faulty (NoDefault op) none h = absurd h

    by : first_failed header_row [] line.tokens ≡ None
        → (Faulty [] lines fault) ⊎ ((items : List Statement) × (op : Op) × (fault ≡ NoDefault op)
        × FaultFree [] lines items × (first_missing items ≡ Some op))
        → FirstFault (line ∷ lines) fault
    by none (inl h) = faulty fault none h
    by none (inr h) = subst (FirstFault (line ∷ lines)) (sym h.2) (h.0, none, h.3, h.4)

    at : (r : Result Header BadKind) → header_of line.tokens ≡ r
        → (at_line line.number r >>= λ header. behind_header header lines) ≡ Err fault → FirstFault (line ∷ lines) fault
    at (Err kind) is e = subst (FirstFault (line ∷ lines)) {x = Bad line.number kind} {y = fault} (cc)
        (inl (refl, sym (header-fault line.tokens) ∙ ap fault_in is))
    at (Ok header) is e =
        by (none header is) (after-items header lines (statements_from [] lines) refl fault e)

first-lines : (lines : List SpokenLine) (fault : BadText) → FirstFault lines fault → reading_of_lines lines ≡ Err fault
first-lines [] (Bad number kind) h = ap (λ (f : BadText). Err f)
    (ap (λ (n : ℕ). Bad n NoHeader) (sym h.0) ∙ ap (Bad number) (sym h.1))
first-lines [] (NoDefault op) h = absurd h
first-lines (line ∷ lines) (Bad number kind) (inl h) =
    ap (λ (r : Result Header BadKind). at_line line.number r >>= λ header. behind_header header lines)
    (one-fault (header_of line.tokens) kind (header-fault line.tokens ∙ h.1))
    ∙ ap (λ (n : ℕ). Err (Bad n kind)) h.0
first-lines (line ∷ lines) (Bad number kind) (inr h) =
    let header = no-fault (header_of line.tokens) (header-fault line.tokens ∙ h.0) in
    let f = h.1 in
    ap (λ (r : Result Header BadKind). at_line line.number r >>= λ header. behind_header header lines) header.1
    ∙ ap (λ (r : Result (List Statement) BadText). r >>= λ items. completed header.0 items (first_missing items))
    (ap (statements_from []) f.whole ∙ faulty-read [] f.front f.line f.others f.items kind f.free f.fails
    ∙ ap (λ (n : ℕ). Err (Bad n kind)) f.number_is)
first-lines (line ∷ lines) (NoDefault op) h =
    let header = no-fault (header_of line.tokens) (header-fault line.tokens ∙ h.1) in
    ap (λ (r : Result Header BadKind). at_line line.number r >>= λ header. behind_header header lines) header.1
    ∙ ap (λ (r : Result (List Statement) BadText). r >>= λ items. completed header.0 items (first_missing items))
    (free-read [] lines h.0 h.2)
    ∙ ap (completed header.0 h.0) h.3

pub reader-first : (text : List ℕ) (fault : BadText) → (reading text ≡ Err fault) ↔ FirstFault (spoken_lines text) fault
unfolding reading
reader-first text fault = (lines-first (spoken_lines text) fault, first-lines (spoken_lines text) fault)
