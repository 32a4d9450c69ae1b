-- How the tokens of a rule lie in its text.
use Rattle.std.proofs.Common.{◌≡◌, ◌∙◌, ℕ, ◌-◌, ◌<◌, zero, suc, true, List, [], ◌∷◌, ◌++◌, length, map, slice_get, Option, Some, None, refl, ap, sym, subst, arith, append_assoc}
use Rattle.std.specs.List.{flat_map, list_all}
use Rattle.std.proofs.lemmas.Bool.{and_parts, eqb-true}
use Rattle.ipe_policy.specs.declared.op.Op.{Op}
use Rattle.ipe_policy.specs.declared.op.Action.{Action}
use Rattle.ipe_policy.specs.declared.evaluation.Context.{Context}
use Rattle.ipe_policy.specs.declared.evaluation.Found.{Found}
use Rattle.ipe_policy.specs.declared.evaluation.Which.TheVariants.{Rule, OpDefault, GlobalDefault}
use Rattle.ipe_policy.specs.declared.statement.Property.{Property}
use Rattle.ipe_policy.specs.declared.statement.Statement.TheVariants as statement
use Rattle.ipe_policy.specs.Statement.{RuleParts, op_number, operations, same_op}
use Rattle.ipe_policy.specs.Evaluation.{matches}
use Rattle.ipe_policy.specs.Spelling.{action_token, op_token, property_token, statement_text}
use Rattle.line_words.specs.Lines.{joined}
use Rattle.ipe_image.specs.Parts.{ImageParts, own_default}
use Rattle.ipe_image.specs.Image.{property_image, rule_record}
use Rattle.ipe_image.specs.Reading.{fits_property, fits_rule, image_in}
use Rattle.ipe_image.specs.Heads.{ArePropertyImages, BeginsWithProperty}
use Rattle.ipe_image.specs.Decision.{default_found, default_in, first_match_in, match_found, record_in}
use Rattle.ipe_image.specs.Answer.{IsAnswer}
use Rattle.ipe_image.specs.declared.hit.Hit.{Hit}
use Rattle.ipe_image.proofs.Deciders.{record-found, stands}
use Rattle.ipe_image.proofs.Places.{complete-facts}
use Rattle.ipe_image.proofs.Roundtrip.{op-back}
use Rattle.ipe_image.proofs.Told.{read-begins}

-- each property with a blank before it
abbrev pub tokens_text : List Property → List ℕ
tokens_text properties = flat_map (λ property. 32 ∷ property_token property) properties

-- the text so far, and that of the properties that are left
pub record TextLeft (words text whole : List ℕ) : Type 0 where
  pub left : List Property
  pub are : ArePropertyImages words left
  pub same : text ++ tokens_text left ≡ whole

-- the first of the properties that are left
pub record FirstText (words text whole : List ℕ) : Type 0 where
  pub property : Property
  pub more : List Property
  pub begins : BeginsWithProperty words property (flat_map property_image more)
  pub fit : list_all fits_property more ≡ true
  pub same : text ++ (32 ∷ property_token property ++ tokens_text more) ≡ whole

pub first-text : (words text whole : List ℕ) → 0 < length words → TextLeft words text whole → FirstText words text whole
first-text words text whole some h = at h.left h.are.fit h.are.whole h.same
  where
    at : (left : List Property) → list_all fits_property left ≡ true → words ≡ flat_map property_image left
        → text ++ tokens_text left ≡ whole → FirstText words text whole
    at [] fit whole_is same = absurd (let none : length words ≡ 0 = ap length whole_is in omega arith)
    at (property ∷ more) fit whole_is same =
        let parts = and_parts (fits_property property) (list_all fits_property more) fit in
        record {
          property = property;
          more = more;
          begins = record { fits = parts.0; whole = whole_is };
          fit =
              parts.1;
          same = same;
        }

-- where no words are left, the text is whole
pub text-done : (words text whole : List ℕ) → length words ≡ 0 → TextLeft words text whole → text ++ [] ≡ whole
text-done words text whole none h = at h.left h.are.whole h.same
  where
    at : (left : List Property) → words ≡ flat_map property_image left → text ++ tokens_text left ≡ whole
        → text ++ [] ≡ whole
    at [] whole_is same = same
    at (property ∷ more) whole_is same = absurd (let some : 0 < length words = subst (λ (n : ℕ). 0 < n) (sym
        (ap length whole_is)) (omega arith) in omega arith)

-- some words, the middle ones made of a list
joined-map : (first : List ℕ) (properties : List Property) (last : List ℕ)
    → joined (first ∷ (map property_token properties ++ last ∷ [])) ≡ first ++ (tokens_text properties ++ 32 ∷ last)
joined-map first [] last = refl
joined-map first (property ∷ properties) last =
    ap (λ rest. first ++ 32 ∷ rest) (joined-map (property_token property) properties last
    ∙ sym (append_assoc (property_token property) (tokens_text properties) (32 ∷ last)))

-- a rule's text, token by token
pub rule-spelled : (op : Op) (properties : List Property) (action : Action)
    → statement_text (statement.Rule op properties action) ≡ op_token op ++
    (tokens_text properties ++ 32 ∷ action_token action)
rule-spelled op properties action = joined-map (op_token op) properties (action_token action)

-- operations of one number are one
pub one-op : (a b : Op) → same_op a b ≡ true → a ≡ b
one-op a b e =
    let number : op_number a ≡ op_number b = eqb-true _ _ e in
    let both : ◌≡◌ {A = Option Op} (Some a) (Some b) = sym (op-back a) ∙ ap (slice_get operations) number ∙ op-back b in
    cc

-- an answer whose rule is told: the rule is of the operation, fits, and its words are given
pub record IsRuleAnswer (parts : ImageParts) (op : Op) (number : ℕ) (action : Action) (words : List ℕ) : Type 0 where
  pub rule : RuleParts
  pub place : slice_get parts.rules (number - 1) ≡ Some rule
  pub op_is : rule.op ≡ op
  pub action_is : rule.action ≡ action
  pub fits : fits_rule rule ≡ true
  pub words_are : words ≡ rule_record number rule

-- a rule at a place of rules that fit fits
fits-at : (rules : List RuleParts) (n : ℕ) (rule : RuleParts) → list_all fits_rule rules ≡ true
    → slice_get rules n ≡ Some rule → fits_rule rule ≡ true
fits-at [] n rule fit e = absurd (cc)
fits-at (one ∷ rules) zero rule fit e =
    let same : one ≡ rule = cc in
    ap fits_rule (sym same) ∙ (and_parts (fits_rule one) (list_all fits_rule rules) fit).0
fits-at (one ∷ rules) (suc n) rule fit e =
    fits-at rules n rule (and_parts (fits_rule one) (list_all fits_rule rules) fit).1 e

-- a default is no rule
no-rule : (own global : Option Action) (found : Found) (number : ℕ)
    → default_found OpDefault own (default_found GlobalDefault global None) ≡ Some found → found.which ≡ Rule number → ⊥
no-rule (Some action) global found number e which = let is : ◌≡◌ {A = Found}
    (record { action = action; which = OpDefault }) found = cc in let kinds : OpDefault ≡ Rule number =
    ap (λ (f : Found). f.which) is ∙ which in cc
no-rule None (Some action) found number e which = let is : ◌≡◌ {A = Found}
    (record { action = action; which = GlobalDefault }) found = cc in let kinds : GlobalDefault ≡ Rule number =
    ap (λ (f : Found). f.which) is ∙ which in cc
no-rule None None found number e which = cc

pub rule-answer : (words : List ℕ) (parts : ImageParts) (op : Op) (context : Context) (hit : Hit) (number : ℕ)
    → image_in words ≡ Some parts → IsAnswer parts op context hit → hit.found.which ≡ Rule number
    → IsRuleAnswer parts op number hit.found.action hit.rule.items
rule-answer words parts op context hit number told h which = at (first_match_in parts op context) refl h.decision
  where
    fit : list_all fits_rule parts.rules ≡ true
    fit = (complete-facts parts (read-begins words parts told).complete).fit

    at : (o : Option (ℕ × RuleParts)) → first_match_in parts op context ≡ o
        → match_found o (default_in parts op) ≡ Some hit.found
        → IsRuleAnswer parts op number hit.found.action hit.rule.items
    at None e decided = absurd (no-rule (own_default parts op) parts.global hit.found number decided which)
    at (Some one) e decided =
        let is : ◌≡◌ {A = Found} (record { action = one.1.action; which = Rule one.0 }) hit.found = cc in
        let numbers : Rule one.0 ≡ Rule number = ap (λ (f : Found). f.which) is ∙ which in
        let same : one.0 ≡ number = cc in
        let first : first_match_in parts op context ≡ Some (number, one.1) = e ∙ ap (λ (n : ℕ). Some (n, one.1)) same in
        let s = stands (matches op context) 1 parts.rules number one.1 first in
        record {
          rule = one.1;
          place = s.place;
          op_is = sym (one-op op one.1.op (and_parts _ _ s.passes).0);
          action_is = ap (λ (f : Found). f.action) is;
          fits = fits-at parts.rules (number - 1) one.1 fit s.place;
          words_are = h.rule ∙ ap (record_in parts) which ∙ record-found parts op context number one.1 first;
        }
