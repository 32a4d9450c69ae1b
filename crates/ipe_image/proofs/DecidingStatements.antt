-- The statement by which the parts of a policy decide is the policy's.
use Rattle.std.proofs.Common.{◌≡◌, ◌∙◌, ℕ, ◌-◌, suc, zero, Bool, true, false, List, [], ◌∷◌, slice_get, Option, Some, None, is_some, option_map, refl, ap, sym}
use Rattle.std.specs.List.{filter, filter_map, find}
use Rattle.std.specs.Option.{option_and_then}
use Rattle.ipe_policy.specs.declared.op.Op.{Op}
use Rattle.ipe_policy.specs.declared.op.Action.{Action}
use Rattle.ipe_policy.specs.declared.statement.Statement.{Statement}
use Rattle.ipe_policy.specs.declared.statement.Statement.TheVariants as statement
use Rattle.ipe_policy.specs.declared.evaluation.Context.{Context}
use Rattle.ipe_policy.specs.declared.evaluation.Found.{Found}
use Rattle.ipe_policy.specs.declared.evaluation.Which.TheVariants as which
use Rattle.ipe_policy.specs.Statement.{RuleParts, global_default_of, op_default_of, rule_of, same_op}
use Rattle.ipe_policy.specs.Policy.{global_defaults, op_defaults}
use Rattle.ipe_policy.specs.Evaluation.{decision, deciding_statement, first_default, first_match, found_statement}
use Rattle.ipe_image.specs.Parts.{parts_of, rule_statement}
use Rattle.ipe_image.specs.Decision.{deciding}
use Rattle.ipe_image.specs.Answer.{IsRuling}
use Rattle.ipe_image.specs.declared.hit.Hit.{Hit}
use Rattle.ipe_image.proofs.Policies.{decide-alike}
use Rattle.ipe_image.proofs.Texts.{one-op}

-- a rule at a place among the rules
rule-at : (items : List Statement) (n : ℕ)
    → option_map rule_statement (slice_get (filter_map rule_of items) n)
    ≡ slice_get (filter (λ item. is_some (rule_of item)) items) n
rule-at [] n = refl
rule-at (statement.Rule op properties action ∷ items) zero = refl
rule-at (statement.Rule op properties action ∷ items) (suc n) = rule-at items n
rule-at (statement.OpDefault op action ∷ items) n = rule-at items n
rule-at (statement.GlobalDefault action ∷ items) n = rule-at items n

-- the first default of an operation is given by the first statement that gives one
own-at : (op : Op) (items : List Statement) (action : Action) (more : List Action) → op_defaults op items ≡ action ∷ more
    → Some (statement.OpDefault op action) ≡ find (λ item. is_some (op_default_of op item)) items
own-at op [] action more e = absurd (cc)
own-at op (statement.Rule other properties act ∷ items) action more e = own-at op items action more e
own-at op (statement.GlobalDefault act ∷ items) action more e = own-at op items action more e
own-at op (statement.OpDefault other act ∷ items) action more e =
    at (same_op op other) refl (own-at op items action more)
  where
    at : (b : Bool) → same_op op other ≡ b
        → (op_defaults op items ≡ action ∷ more
        → Some (statement.OpDefault op action) ≡ find (λ item. is_some (op_default_of op item)) items)
        → Some (statement.OpDefault op action)
        ≡ find (λ item. is_some (op_default_of op item)) (statement.OpDefault other act ∷ items)
    at true same rest =
        let first : act ∷ op_defaults op items ≡ action ∷ more = by_same same e in
        let one : act ≡ action = cc in
        ap (λ (o : Op). Some (statement.OpDefault o action)) (one-op op other same)
        ∙ ap (λ (a : Action). Some (statement.OpDefault other a)) (sym one)
        ∙ sym (found same)
      where
        given : same_op op other ≡ true
            → op_defaults op (statement.OpDefault other act ∷ items) ≡ act ∷ op_defaults op items
        given same = rw same

        by_same : same_op op other ≡ true → op_defaults op (statement.OpDefault other act ∷ items) ≡ action ∷ more
            → act ∷ op_defaults op items ≡ action ∷ more
        by_same same e = sym (given same) ∙ e

        found : same_op op other ≡ true
            → find (λ item. is_some (op_default_of op item)) (statement.OpDefault other act ∷ items)
            ≡ Some (statement.OpDefault other act)
        found same = rw same
    at false same rest = rest (passed same e) ∙ sym (next same)
      where
        skipped : same_op op other ≡ false
            → op_defaults op (statement.OpDefault other act ∷ items) ≡ op_defaults op items
        skipped same = rw same

        passed : same_op op other ≡ false → op_defaults op (statement.OpDefault other act ∷ items) ≡ action ∷ more
            → op_defaults op items ≡ action ∷ more
        passed same e = sym (skipped same) ∙ e

        next : same_op op other ≡ false
            → find (λ item. is_some (op_default_of op item)) (statement.OpDefault other act ∷ items)
            ≡ find (λ item. is_some (op_default_of op item)) items
        next same = rw same

-- the first global default is given by the first statement that gives one
global-at : (items : List Statement) (action : Action) (more : List Action) → global_defaults items ≡ action ∷ more
    → Some (statement.GlobalDefault action) ≡ find (λ item. is_some (global_default_of item)) items
global-at [] action more e = absurd (cc)
global-at (statement.Rule other properties act ∷ items) action more e = global-at items action more e
global-at (statement.OpDefault other act ∷ items) action more e = global-at items action more e
global-at (statement.GlobalDefault act ∷ items) action more e = let one : act ≡ action = cc in
    ap (λ (a : Action). Some (statement.GlobalDefault a)) (sym one)

-- by what was found
by-found : (items : List Statement) (serial : ℕ) (op : Op) (found : Found) (own global : List Action)
    → op_defaults op items ≡ own → global_defaults items ≡ global
    → first_default which.OpDefault own (first_default which.GlobalDefault global None) ≡ Some found
    → deciding (parts_of serial items) op found ≡ found_statement items op found.which
by-found items serial op found (action ∷ own) global own_is global_is e =
    let is : ◌≡◌ {A = Found} (record { action = action; which = which.OpDefault }) found = cc in
    ap (λ (f : Found). deciding (parts_of serial items) op f) (sym is) ∙ own-at op items action own own_is
    ∙ ap (λ (f : Found). found_statement items op f.which) is
by-found items serial op found [] (action ∷ global) own_is global_is e =
    let is : ◌≡◌ {A = Found} (record { action = action; which = which.GlobalDefault }) found = cc in
    ap (λ (f : Found). deciding (parts_of serial items) op f) (sym is) ∙ global-at items action global global_is
    ∙ ap (λ (f : Found). found_statement items op f.which) is
by-found items serial op found [] [] own_is global_is e = absurd (cc)

found-one : (items : List Statement) (serial : ℕ) (op : Op) (context : Context) (found : Found)
    → decision items op context ≡ Some found
    → deciding (parts_of serial items) op found ≡ found_statement items op found.which
found-one items serial op context found e = at (first_match items op context) refl
  where
    at : (o : Option (ℕ × RuleParts)) → first_match items op context ≡ o
        → deciding (parts_of serial items) op found ≡ found_statement items op found.which
    at (Some rule) first =
        let told : ◌≡◌ {A = Option Found} (Some (record { action = rule.1.action; which = which.Rule rule.0 }))
        (Some found) = sym (matched first) ∙ e in
        let is : ◌≡◌ {A = Found} (record { action = rule.1.action; which = which.Rule rule.0 }) found = cc in
        ap (λ (f : Found). deciding (parts_of serial items) op f) (sym is) ∙ rule-at items (rule.0 - 1)
        ∙ ap (λ (f : Found). found_statement items op f.which) is
      where
        matched : first_match items op context ≡ Some rule
            → decision items op context ≡ Some (record { action = rule.1.action; which = which.Rule rule.0 })
        matched first = rw first
    at None first =
        let told : first_default which.OpDefault (op_defaults op items) (first_default which.GlobalDefault (global_defaults items) None) ≡ Some found = sym (defaulted first) ∙ e in
        by-found items serial op found (op_defaults op items) (global_defaults items) refl refl told
      where
        defaulted : first_match items op context ≡ None
            → decision items op context ≡ first_default which.OpDefault (op_defaults op items)
            (first_default which.GlobalDefault (global_defaults items) None)
        defaulted first = rw first

pub one-statement : (items : List Statement) (serial : ℕ) (op : Op) (context : Context) (found : Found)
    → decision items op context ≡ Some found
    → deciding (parts_of serial items) op found ≡ deciding_statement items op context
one-statement items serial op context found e =
    found-one items serial op context found e
    ∙ ap (λ (o : Option Found). option_and_then (λ (f : Found). found_statement items op f.which) o) (sym e)

-- what the image of a policy decided, it decided by the policy's deciding statement
pub ruling-statement : (serial : ℕ) (items : List Statement) (op : Op) (context : Context) (hit : Hit)
    → IsRuling serial items op context hit
    → deciding_statement items op context ≡ deciding (parts_of serial items) op hit.found
ruling-statement serial items op context hit ruling =
    sym (one-statement items serial op context hit.found (sym (decide-alike items serial op context)
    ∙ ruling.answer.decision))
