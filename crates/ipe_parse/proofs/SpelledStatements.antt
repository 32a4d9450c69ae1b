-- Lines that spell statements or a header are read as them, and no others are.
use Rattle.std.proofs.Common.{◌≡◌, ℕ, suc, ◌-◌, ◌≤◌, ⊎_elim, Bool, true, cond, leb, List, [], ◌∷◌, ◌++◌, length, take, drop, codes, slice_get, Option, Some, Result, Ok, Err, ok_or, refl, sym, ◌∙◌, ap, subst, arith, option_and_then, length-append, le-leb, leb-true}
use Rattle.std.specs.List.{AllZip}
use Rattle.std.proofs.lemmas.Bool.{and_parts}
use Rattle.std.proofs.lemmas.Option.{option_and_then_some}
use Rattle.std.proofs.lemmas.Slice.Zip.{AllZip-long}
use Rattle.std.proofs.Math.Seq.{take-append_seam}
use Rattle.ipe_policy.specs.declared.op.Op.{Op}
use Rattle.ipe_policy.specs.declared.op.Action.{Action}
use Rattle.ipe_policy.specs.declared.op.Action.TheVariants.{Allow, Deny}
use Rattle.ipe_policy.specs.declared.statement.Property.{Property}
use Rattle.ipe_policy.specs.declared.statement.Statement.{Statement}
use Rattle.ipe_policy.specs.declared.statement.Statement.TheVariants.{Rule, OpDefault, GlobalDefault}
use Rattle.ipe_policy.specs.declared.version.Version.{Version}
use Rattle.ipe_policy.specs.Words.{is_name}
use Rattle.line_words.specs.Words.{is_text}
use Rattle.ipe_policy.specs.Version.{version_of}
use Rattle.ipe_policy.specs.Spelling.{action_token, op_token}
use Rattle.ipe_parse.specs.declared.header.Header.{Header}
use Rattle.ipe_parse.specs.declared.error.BadKind.{BadKind}
use Rattle.ipe_parse.specs.declared.error.BadKind.TheVariants.{NoHeader, BadName, BadVersion, BadOp, BadAction, PropertyInDefault, TooManyProperties}
use Rattle.ipe_parse.specs.Tokens.{◌>>=◌, action_named, begins, default_of, header_of, header_parts, last_action, lone_action, op_named, op_of, properties_of, rule_of_line, statement_of}
use Rattle.ipe_parse.specs.Reads.{SpellsProperty, SpellsStatement}
use Rattle.ipe_parse.proofs.Steps.{held, ok_or-parts, passed, same-ok, split, then-ok, then-parts, there}
use Rattle.ipe_parse.proofs.Spells.{action_named-is, action_named-token, begins-is, op_named-is, op_named-word, text-is}
use Rattle.ipe_parse.proofs.SpelledProperties.{properties-read, properties-spelled}

-- ---- the last token

-- the number of the elements before the last one
length-before : {X : Type 0} (xs : List X) (x : X) → length (xs ++ x ∷ []) - 1 ≡ length xs
length-before xs x = omega (arith, length-append xs (x ∷ []))

-- the element after a list
behind-is : {X : Type 0} (xs : List X) (x : X) → slice_get (xs ++ x ∷ []) (length xs) ≡ Some x
behind-is [] x = refl
behind-is (y ∷ xs) x = behind-is xs x

-- the last element is the one after the others
last-is : {X : Type 0} (xs : List X) (x : X) → slice_get (xs ++ x ∷ []) (length (xs ++ x ∷ []) - 1) ≡ Some x
last-is xs x = ap (slice_get (xs ++ x ∷ [])) (length-before xs x) ∙ behind-is xs x

-- what stands before the last element
front-is : {X : Type 0} (xs : List X) (x : X) → take (length (xs ++ x ∷ []) - 1) (xs ++ x ∷ []) ≡ xs
front-is xs x = ap (λ (n : ℕ). take n (xs ++ x ∷ [])) (length-before xs x) ∙ take-append_seam xs (x ∷ [])

-- a list with a last element is what stands before it, and it
front-and-last : {X : Type 0} (xs : List X) (x : X) → slice_get xs (length xs - 1) ≡ Some x → xs ≡ take (length xs - 1) xs ++ x ∷ []
front-and-last [] x e = absurd (cc)
front-and-last (y ∷ []) x e = let same : y ≡ x = cc in ap (λ (z : _). z ∷ []) same
front-and-last (y ∷ z ∷ zs) x e =
    let later : length (y ∷ z ∷ zs) - 1 ≡ suc (length (z ∷ zs) - 1) = omega arith in
    let there : slice_get (z ∷ zs) (length (z ∷ zs) - 1) ≡ Some x = sym (ap (slice_get (y ∷ z ∷ zs)) later) ∙ e in
    ap (λ (rest : List _). y ∷ rest) (front-and-last (z ∷ zs) x there)
    ∙ sym (ap (λ (n : ℕ). take n (y ∷ z ∷ zs) ++ x ∷ []) later)

-- the action after words is read
action-read : (words : List (List ℕ)) (action : Action) → last_action (words ++ action_token action ∷ []) ≡ Some action
action-read words action = ap (option_and_then action_named) (last-is words (action_token action)) ∙ action_named-token action

-- where an action is read, its token stands last
action-spelled : (tokens : List (List ℕ)) (action : Action) → last_action tokens ≡ Some action → tokens ≡ take (length tokens - 1) tokens ++ action_token action ∷ []
action-spelled tokens action e =
    option_and_then_some action_named (slice_get tokens (length tokens - 1)) action e λ token found named.
    front-and-last tokens token found ∙ ap (λ (t : List ℕ). take (length tokens - 1) tokens ++ t ∷ []) (action_named-is token action named)

-- where an action is read alone, its token stands alone
lone-spelled : (tokens : List (List ℕ)) (action : Action) → lone_action tokens ≡ Ok action → tokens ≡ action_token action ∷ []
lone-spelled tokens action e =
    let last = then-parts (ok_or (last_action tokens) BadAction) (λ (action : Action). cond (leb (length tokens) 1) (Ok action) (Err PropertyInDefault)) action e in
    let few = passed (leb (length tokens) 1) (Ok last.0) PropertyInDefault action last.2 in
    let bound : length tokens ≤ 1 = leb-true (length tokens) 1 few.0 in
    let front = front-none tokens bound in
    action-spelled tokens last.0 (ok_or-parts (last_action tokens) BadAction last.0 last.1)
    ∙ ap (λ (front : List (List ℕ)). front ++ action_token last.0 ∷ []) front
    ∙ ap (λ (a : Action). action_token a ∷ []) (same-ok last.0 action few.1)
  where
    front-none : {X : Type 0} (xs : List X) → length xs ≤ 1 → take (length xs - 1) xs ≡ []
    front-none [] h = refl
    front-none (x ∷ []) h = refl
    front-none (x ∷ y ∷ ys) h = absurd (omega arith)

-- ---- statements

-- at most sixteen properties and an action are at most seventeen tokens
few-enough : (words : List (List ℕ)) (properties : List Property) (token : List ℕ) → AllZip SpellsProperty words properties → length properties ≤ 16 → leb (length (words ++ token ∷ [])) 17 ≡ true
few-enough words properties token each few = le-leb _ _ (omega (arith, length-append words (token ∷ []), AllZip-long SpellsProperty words properties each))

-- the tokens of a rule are read as it
rule-read : (op : Op) (words : List (List ℕ)) (properties : List Property) (action : Action) → AllZip SpellsProperty words properties → length properties ≤ 16
    → rule_of_line (op_token op) (words ++ action_token action ∷ []) ≡ Ok (Rule op properties action)
rule-read op words properties action each few =
    let others : List (List ℕ) = words ++ action_token action ∷ [] in
    let fit = few-enough words properties (action_token action) each few in
    let first : ok_or (op_of (op_token op)) BadOp ≡ Ok op = ap (λ (o : Option Op). ok_or o BadOp) (op_named-word op) in
    let last : ok_or (last_action others) BadAction ≡ Ok action = ap (λ (a : Option Action). ok_or a BadAction) (action-read words action) in
    then-ok (ok_or (op_of (op_token op)) BadOp) op _ first
    ∙ then-ok (ok_or (last_action others) BadAction) action _ last
    ∙ held (leb (length others) 17) _ (Err TooManyProperties) fit
    ∙ ap (λ (front : List (List ℕ)). properties_of front >>= λ properties. Ok (Rule op properties action)) (front-is words (action_token action))
    ∙ then-ok (properties_of words) properties (λ properties. Ok (Rule op properties action)) (properties-read words properties each)

-- a line that spells a statement is read as it
pub statement-read : (tokens : List (List ℕ)) (statement : Statement) → SpellsStatement tokens statement → statement_of tokens ≡ Ok statement
statement-read tokens (Rule op properties action) h = ap statement_of h.1 ∙ rule-read op h.0 properties action h.2 h.3
statement-read tokens (OpDefault op Allow) h =
    ap statement_of h ∙ ap (λ (o : Option Op). ok_or o BadOp >>= λ op. Ok (OpDefault op Allow)) (op_named-word op)
statement-read tokens (OpDefault op Deny) h =
    ap statement_of h ∙ ap (λ (o : Option Op). ok_or o BadOp >>= λ op. Ok (OpDefault op Deny)) (op_named-word op)
statement-read tokens (GlobalDefault Allow) h = ap statement_of h
statement-read tokens (GlobalDefault Deny) h = ap statement_of h

-- a token after the sign of operations that names one is its token
op-spelled : (token : List ℕ) (op : Op) → begins (codes "op=") token ≡ true → op_named (drop 3 token) ≡ Some op → token ≡ op_token op
op-spelled token op begun e = begins-is (codes "op=") token begun ∙ ap (λ (word : List ℕ). codes "op=" ++ word) (op_named-is (drop 3 token) op e)

-- the default of an operation, from the token that names it and the others
abbrev default_on_op : List ℕ → List (List ℕ) → Result Statement BadKind
default_on_op second others = ok_or (op_named (drop 3 second)) BadOp >>= λ op. lone_action others >>= λ action. Ok (OpDefault op action)

-- the global default, from its tokens
abbrev default_on_all : List (List ℕ) → Result Statement BadKind
default_on_all tokens = lone_action tokens >>= λ action. Ok (GlobalDefault action)

-- tokens that are read as the default of an operation spell it
op_default-spelled : (second : List ℕ) (others : List (List ℕ)) (statement : Statement) → begins (codes "op=") second ≡ true → default_on_op second others ≡ Ok statement
    → SpellsStatement (codes "DEFAULT" ∷ second ∷ others) statement
op_default-spelled second others statement begun e =
    let one = then-parts (ok_or (op_named (drop 3 second)) BadOp) (λ (op : Op). lone_action others >>= λ action. Ok (OpDefault op action)) statement e in
    let two = then-parts (lone_action others) (λ (action : Action). Ok (OpDefault one.0 action)) statement one.2 in
    let same_second = op-spelled second one.0 begun (ok_or-parts _ BadOp one.0 one.1) in
    let same_others = lone-spelled others two.0 two.1 in
    let whole : codes "DEFAULT" ∷ second ∷ others ≡ codes "DEFAULT" ∷ op_token one.0 ∷ action_token two.0 ∷ [] =
    ap (λ (t : List ℕ). codes "DEFAULT" ∷ t ∷ others) same_second ∙ ap (λ (ts : List (List ℕ)). codes "DEFAULT" ∷ op_token one.0 ∷ ts) same_others in
    subst (λ (s : Statement). SpellsStatement (codes "DEFAULT" ∷ second ∷ others) s) (same-ok (OpDefault one.0 two.0) statement two.2) whole

-- tokens that are read as the global default spell it
global_default-spelled : (tokens : List (List ℕ)) (statement : Statement) → default_on_all tokens ≡ Ok statement → SpellsStatement (codes "DEFAULT" ∷ tokens) statement
global_default-spelled tokens statement e =
    let one = then-parts (lone_action tokens) (λ (action : Action). Ok (GlobalDefault action)) statement e in
    let whole : codes "DEFAULT" ∷ tokens ≡ codes "DEFAULT" ∷ action_token one.0 ∷ [] = ap (λ (ts : List (List ℕ)). codes "DEFAULT" ∷ ts) (lone-spelled tokens one.0 one.1) in
    subst (λ (s : Statement). SpellsStatement (codes "DEFAULT" ∷ tokens) s) (same-ok (GlobalDefault one.0) statement one.2) whole

-- words after DEFAULT that are read as a statement spell it
default-spelled : (others : List (List ℕ)) (statement : Statement) → default_of others ≡ Ok statement → SpellsStatement (codes "DEFAULT" ∷ others) statement
default-spelled [] statement e = absurd (cc)
default-spelled (second ∷ others) statement e =
    ⊎_elim (λ h. op_default-spelled second others statement h.0 h.1) (λ h. global_default-spelled (second ∷ others) statement h.1)
    (split (begins (codes "op=") second) (default_on_op second others) (default_on_all (second ∷ others)) statement e)

-- a token that names an operation is its token
op_of-spelled : (token : List ℕ) (op : Op) → op_of token ≡ Some op → token ≡ op_token op
op_of-spelled token op e =
    let both = there (begins (codes "op=") token) (op_named (drop 3 token)) op e in
    op-spelled token op both.0 both.1

-- the parts of a rule that are read spell it
rule-spelled-by : (first : List ℕ) (others : List (List ℕ)) (op : Op) (action : Action) (properties : List Property) → first ≡ op_token op → others ≡ take (length others - 1) others ++ action_token action ∷ []
    → length others ≤ 17 → properties_of (take (length others - 1) others) ≡ Ok properties → SpellsStatement (first ∷ others) (Rule op properties action)
rule-spelled-by first others op action properties first_is others_is few read =
    let words : List (List ℕ) = take (length others - 1) others in
    let each = properties-spelled words properties read in (
      words,
      ap (λ (t : List ℕ). t ∷ others) first_is ∙ ap (λ (ts : List (List ℕ)). op_token op ∷ ts) others_is,
      each,
      omega (arith, ap length others_is, length-append words (action_token action ∷ []), AllZip-long SpellsProperty words properties each),
    )

-- the rule of an operation, its other tokens and an action
abbrev rule_with : Op → List (List ℕ) → Action → Result Statement BadKind
rule_with op others action = cond (leb (length others) 17) (properties_of (take (length others - 1) others) >>= λ properties. Ok (Rule op properties action)) (Err TooManyProperties)

-- a line that is read as a rule spells it
rule-spelled : (first : List ℕ) (others : List (List ℕ)) (statement : Statement) → rule_of_line first others ≡ Ok statement → SpellsStatement (first ∷ others) statement
rule-spelled first others statement e =
    let one = then-parts (ok_or (op_of first) BadOp) (λ (op : Op). ok_or (last_action others) BadAction >>= rule_with op others) statement e in
    let two = then-parts (ok_or (last_action others) BadAction) (rule_with one.0 others) statement one.2 in
    let few = passed (leb (length others) 17) (properties_of (take (length others - 1) others) >>= λ properties. Ok (Rule one.0 properties two.0)) TooManyProperties statement two.2 in
    let three = then-parts (properties_of (take (length others - 1) others)) (λ (properties : List Property). Ok (Rule one.0 properties two.0)) statement few.1 in
    subst (λ (s : Statement). SpellsStatement (first ∷ others) s) (same-ok (Rule one.0 three.0 two.0) statement three.2)
    (rule-spelled-by first others one.0 two.0 three.0
    (op_of-spelled first one.0 (ok_or-parts _ BadOp one.0 one.1))
    (action-spelled others two.0 (ok_or-parts _ BadAction two.0 two.1))
    (leb-true (length others) 17 few.0)
    three.1)

-- a line that is read as a statement spells it
pub statement-spelled : (tokens : List (List ℕ)) (statement : Statement) → statement_of tokens ≡ Ok statement → SpellsStatement tokens statement
statement-spelled [] statement e = absurd (cc)
statement-spelled (first ∷ others) statement e =
    ⊎_elim
    (λ h. subst (λ (t : List ℕ). SpellsStatement (t ∷ others) statement) (sym (text-is (codes "DEFAULT") first h.0)) (default-spelled others statement h.1))
    (λ h. rule-spelled first others statement h.1)
    (split (is_text (codes "DEFAULT") first) (default_of others) (rule_of_line first others) statement e)

-- ---- the header

-- the tokens of a line spell the header
pub record SpellsHeader (tokens : List (List ℕ)) (header : Header) : Type 0 where
  pub version_word : List ℕ
  pub whole : tokens ≡ (codes "policy_name=" ++ header.name) ∷ (codes "policy_version=" ++ version_word) ∷ []
  pub name : is_name header.name ≡ true
  pub version : version_of version_word ≡ Some header.version

-- the header of a name and a version
abbrev header_with : List ℕ → Version → Result Header BadKind
header_with name version = Ok (record { name = name; version = version })

-- a good name and a good version make a header
parts-read : (b : Bool) (o : Option Version) (header : Header) → b ≡ true → o ≡ Some header.version
    → cond b (ok_or o BadVersion >>= header_with header.name) (Err BadName) ≡ Ok header
parts-read b o header b_is o_is = rw (b_is, o_is)

-- a line that spells a header is read as it
pub header-read : (tokens : List (List ℕ)) (header : Header) → SpellsHeader tokens header → header_of tokens ≡ Ok header
header-read tokens header h = ap header_of h.whole ∙ parts-read _ _ header h.name h.version

-- a name and a version after their keys spell a header
spelled-by : (first second name version_word : List ℕ) (version : Version) (header : Header) → first ≡ codes "policy_name=" ++ name → second ≡ codes "policy_version=" ++ version_word
    → is_name name ≡ true → version_of version_word ≡ Some version → ◌≡◌ {A = Header} (record { name = name; version = version }) header → SpellsHeader (first ∷ second ∷ []) header
spelled-by first second name version_word version header first_is second_is named spelled same =
    subst (λ (h : Header). SpellsHeader (first ∷ second ∷ []) h) same (record {
      version_word = version_word;
      whole = ap (λ (t : List ℕ). t ∷ second ∷ []) first_is ∙ ap (λ (t : List ℕ). (codes "policy_name=" ++ name) ∷ t ∷ []) second_is;
      name = named;
      version = spelled;
    })

-- two tokens that are read as a header spell it
two-spelled : (first second : List ℕ) (header : Header) → header_of (first ∷ second ∷ []) ≡ Ok header → SpellsHeader (first ∷ second ∷ []) header
two-spelled first second header e =
    let keys = passed _ (header_parts (drop 12 first) (drop 15 second)) NoHeader header e in
    let each = and_parts (begins (codes "policy_name=") first) (begins (codes "policy_version=") second) keys.0 in
    let named = passed (is_name (drop 12 first)) _ BadName header keys.1 in
    let version = then-parts (ok_or (version_of (drop 15 second)) BadVersion) (header_with (drop 12 first)) header named.1 in
    spelled-by first second (drop 12 first) (drop 15 second) version.0 header (begins-is (codes "policy_name=") first each.0) (begins-is (codes "policy_version=") second each.1)
    named.0 (ok_or-parts _ BadVersion version.0 version.1) (same-ok _ header version.2)

-- a line that is read as a header spells it
pub header-spelled : (tokens : List (List ℕ)) (header : Header) → header_of tokens ≡ Ok header → SpellsHeader tokens header
header-spelled [] header e = absurd (cc)
header-spelled (first ∷ []) header e = absurd (cc)
header-spelled (first ∷ second ∷ []) header e = two-spelled first second header e
header-spelled (first ∷ second ∷ third ∷ others) header e = absurd (cc)
