-- The statement that decided.
use Rattle.std.proofs.Common.{◌≡◌, ◌∙◌, ℕ, ◌+◌, ◌-◌, ◌≤◌, suc, Bool, true, false, cond, List, [], ◌∷◌, slice_get, Option, Some, None, refl, ap, sym, arith}
use Rattle.std.specs.List.{find, enumerate_from}
use Rattle.std.specs.Option.{option_map_or}
use Rattle.ipe_policy.specs.declared.op.Op.{Op}
use Rattle.ipe_policy.specs.declared.op.Action.{Action}
use Rattle.ipe_policy.specs.declared.evaluation.Context.{Context}
use Rattle.ipe_policy.specs.declared.evaluation.Found.{Found}
use Rattle.ipe_policy.specs.declared.evaluation.Which.TheVariants.{Rule, OpDefault, GlobalDefault}
use Rattle.ipe_policy.specs.Statement.{RuleParts}
use Rattle.ipe_policy.specs.Evaluation.{matches}
use Rattle.ipe_image.specs.Parts.{ImageParts, own_default}
use Rattle.ipe_image.specs.Image.{rule_record}
use Rattle.ipe_image.specs.Decision.{default_found, default_in, first_match_in, record_in}

-- a rule that was found under a number stands in its place, and passes the test
pub record Stands (test : (ℕ × RuleParts)
    → Bool) (first : ℕ) (rules : List RuleParts) (number : ℕ) (rule : RuleParts) : Type 0 where
  pub from : first ≤ number
  pub place : slice_get rules (number - first) ≡ Some rule
  pub passes : test (number, rule) ≡ true

pub stands : (test : (ℕ × RuleParts) → Bool) (first : ℕ) (rules : List RuleParts) (number : ℕ) (rule : RuleParts)
    → find test (enumerate_from first rules) ≡ Some (number, rule) → Stands test first rules number rule
stands test first [] number rule e = absurd (cc)
stands test first (one ∷ rules) number rule e =
    at (stands test (first + 1) rules number rule) (test (first, one)) refl e
  where
    at : (find test (enumerate_from (first + 1) rules) ≡ Some (number, rule)
        → Stands test (first + 1) rules number rule) → (b : Bool) → test (first, one) ≡ b
        → cond b (Some (first, one)) (find test (enumerate_from (first + 1) rules)) ≡ Some (number, rule)
        → Stands test first (one ∷ rules) number rule
    at more true passes e =
        let pair : ◌≡◌ {A = ℕ × RuleParts} (first, one) (number, rule) = cc in
        let number_is : first ≡ number = ap (λ (p : ℕ × RuleParts). p.0) pair in
        let rule_is : one ≡ rule = ap (λ (p : ℕ × RuleParts). p.1) pair in
        let none : number - first ≡ 0 = omega arith in
        record {
          from = omega arith;
          place = ap (λ (k : ℕ). slice_get (one ∷ rules) k) none ∙ ap (λ (r : RuleParts). Some r) rule_is;
          passes = ap test (sym pair) ∙ passes;
        }
    at more false passes e =
        let s = more e in
        let from = s.from in
        let next : number - first ≡ suc (number - (first + 1)) = omega arith in
        record {
          from = omega arith;
          place = ap (λ (k : ℕ). slice_get (one ∷ rules) k) next
              ∙ s.place;
          passes = s.passes;
        }

-- the words of the first match
pub record-found : (parts : ImageParts) (op : Op) (context : Context) (number : ℕ) (rule : RuleParts)
    → first_match_in parts op context ≡ Some (number, rule) → record_in parts (Rule number) ≡ rule_record number rule
record-found parts op context number rule e =
    ap (λ (o : Option RuleParts). option_map_or (λ (r : RuleParts). rule_record number r) o []) (stands
    (matches op context) 1 parts.rules number rule e).place

-- a default has no words
no-words : (parts : ImageParts) (own global : Option Action) (found : Found)
    → default_found OpDefault own (default_found GlobalDefault global None) ≡ Some found
    → record_in parts found.which ≡ []
no-words parts (Some action) global found e = let is : ◌≡◌ {A = Found}
    (record { action = action; which = OpDefault }) found = cc in ap (λ (f : Found). record_in parts f.which) (sym is)
no-words parts None (Some action) found e = let is : ◌≡◌ {A = Found}
    (record { action = action; which = GlobalDefault }) found =
    cc in ap (λ (f : Found). record_in parts f.which) (sym is)
no-words parts None None found e = absurd (cc)

pub record-default : (parts : ImageParts) (op : Op) (found : Found) → default_in parts op ≡ Some found
    → record_in parts found.which ≡ []
record-default parts op found e = no-words parts (own_default parts op) parts.global found e
