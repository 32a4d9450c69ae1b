use Rattle.std.proofs.Common.{◌≡◌, ◌∙◌, ◌-◌, ◌≤◌, ◌++◌, ◌∷◌, List, ℕ, length, take, drop, Option, Some, refl, ap, sym, arith}
use Rattle.std.specs.Prelude.{IfOk, Result, Ok, Err}
use Rattle.std.specs.Option.{option_map}
use Rattle.std.proofs.lemmas.Bool.{and_parts}
use Rattle.std.proofs.lemmas.List.{take_rest}
use Rattle.ipe_policy.specs.declared.op.Op.{Op}
use Rattle.ipe_policy.specs.declared.op.Action.{Action}
use Rattle.ipe_policy.specs.declared.evaluation.Which.{Which}
use Rattle.ipe_policy.specs.declared.evaluation.Which.TheVariants.{Rule, OpDefault, GlobalDefault}
use Rattle.ipe_policy.specs.declared.statement.Statement.{Statement}
use Rattle.ipe_policy.specs.declared.statement.Statement.TheVariants as statement
use Rattle.ipe_policy.specs.declared.evaluation.Context.{Context}
use Rattle.ipe_policy.specs.Evaluation.{deciding_statement}
use Rattle.ipe_policy.specs.Statement.{RuleParts}
use Rattle.ipe_policy.specs.Spelling.{action_token, op_token, statement_text}
use Rattle.ipe_image.specs.declared.hit.Hit.{Hit}
use Rattle.ipe_image.specs.Answer.{IsRuling}
use Rattle.ipe_image.specs.Parts.{ImageParts, parts_of}
use Rattle.ipe_image.specs.Heads.{ArePropertyImages}
use Rattle.ipe_image.specs.Parts.{rule_statement}
use Rattle.ipe_image.specs.Decision.{deciding, statement_by}
use Rattle.ipe_image.proofs.DecidingStatements.{ruling-statement}
use Rattle.ipe_image.proofs.Texts.{IsRuleAnswer, rule-answer, rule-spelled, tokens_text}
use Rattle.ipe_image.proofs.wording.rule_text.Goals as goal

-- what is said of a success, said otherwise
if-ok : {A B : Type 0} (r : Result A B) (P Q : A → Type 0) → ((x : A) → P x → Q x) → IfOk r P → IfOk r Q
if-ok (Ok x) P Q f h = f x h
if-ok (Err e) P Q f h = tt

-- the words after the head of a rule that decided
behind-head : (parts : ImageParts) (op : Op) (number : ℕ) (action : Action) (words slice : List ℕ)
    (h : IsRuleAnswer parts op number action words) → slice ≡ words
    → ArePropertyImages (take (length slice - 1) (drop 1 slice)) h.rule.properties
behind-head parts op number action words slice h same =
    record {
      fit = (and_parts _ _ h.fits).1;
      whole = take_rest slice 1 ∙ ap (λ (ws : List ℕ). drop 1 ws) (same
          ∙ h.words_are);
    }

-- a rule that decided has a head
some-words : (parts : ImageParts) (op : Op) (number : ℕ) (action : Action) (words slice : List ℕ)
    → IsRuleAnswer parts op number action words → slice ≡ words → 1 ≤ length slice
some-words parts op number action words slice h same = let count = ap length (same ∙ h.words_are) in omega arith

-- the text of a rule that decided
spelled : (parts : ImageParts) (op : Op) (number : ℕ) (action : Action) (words text : List ℕ) (which : Which)
    (h : IsRuleAnswer parts op number action words) → which ≡ Rule number
    → text ≡ op_token op ++ (tokens_text h.rule.properties ++ 32 ∷ action_token action)
    → option_map statement_text (statement_by parts op action which) ≡ Some text
spelled parts op number action words text which h which_is text_is =
    ap (λ (w : Which). option_map statement_text (statement_by parts op action w)) which_is
    ∙ ap (λ (o : Option RuleParts). option_map statement_text (option_map rule_statement o)) h.place
    ∙ ap (λ (o : Op). Some (statement_text (statement.Rule o h.rule.properties h.rule.action))) h.op_is
    ∙ ap (λ (a : Action). Some (statement_text (statement.Rule op h.rule.properties a))) h.action_is
    ∙ ap (λ (t : List ℕ). Some t) (rule-spelled op h.rule.properties action ∙ sym text_is)

pub slice_bounds-rule_line-count : goal.slice_bounds-rule_line-count
slice_bounds-rule_line-count c =
    some-words _ _ _ _ _ _ (rule-answer c.requires.words c.requires.parts c.args.op c.requires.context c.args.hit.now
    c.in-Rule.field-0 c.requires.image c.requires.answer c.in-Rule.is) c.as_slice.ensures.value

pub slice_bounds-rule_line-start : goal.slice_bounds-rule_line-start
slice_bounds-rule_line-start c =
    let some = some-words _ _ _ _ _ _
    (rule-answer c.requires.words c.requires.parts c.args.op c.requires.context c.args.hit.now c.in-Rule.field-0
    c.requires.image c.requires.answer c.in-Rule.is) c.as_slice.ensures.value in
    some

pub rule_line-requires : goal.rule_line-requires
rule_line-requires c =
    let r = rule-answer c.requires.words c.requires.parts c.args.op c.requires.context c.args.hit.now
    c.in-Rule.field-0 c.requires.image c.requires.answer c.in-Rule.is in
    (r.rule.properties, behind-head _ _ _ _ _ _ r c.as_slice.ensures.value)

-- what is said of the statement that the image tells is said of the policy's
by-policy : (serial : ℕ) (items : List Statement) (op : Op) (context : Context) (hit : Hit) (text : List ℕ)
    → IsRuling serial items op context hit
    → option_map statement_text (deciding (parts_of serial items) op hit.found) ≡ Some text
    → option_map statement_text (deciding_statement items op context) ≡ Some text
by-policy serial items op context hit text ruling told =
    ap (option_map statement_text) (ruling-statement serial items op context hit ruling) ∙ told

pub returns-in-Rule : goal.returns-in-Rule
returns-in-Rule c serial items context ruling =
    let parts = parts_of serial items in
    let r = rule-answer ruling.words parts c.args.op context c.args.hit.now c.in-Rule.field-0 ruling.image ruling.answer
    c.in-Rule.is in
    if-ok c.rule_line.result _ _ (λ text e. by-policy serial items c.args.op context c.args.hit.now text.items ruling
    (spelled parts c.args.op c.in-Rule.field-0 c.args.hit.now.found.action _ text.items _ r c.in-Rule.is e))
    (c.rule_line.ensures r.rule.properties (behind-head _ _ _ _ _ _ r c.as_slice.ensures.value))

-- the text of a default that decided
default-text : (serial : ℕ) (items : List Statement) (op : Op) (context : Context) (hit : Hit)
    (text : List ℕ) (which : Which) (statement : Statement) → IsRuling serial items op context hit
    → hit.found.which ≡ which → statement_by (parts_of serial items) op hit.found.action which ≡ Some statement
    → text ≡ statement_text statement → option_map statement_text (deciding_statement items op context) ≡ Some text
default-text serial items op context hit text which statement ruling which_is told text_is =
    by-policy serial items op context hit text ruling
    (ap (λ (w : Which). option_map statement_text (statement_by (parts_of serial items) op hit.found.action w)) which_is
    ∙ ap (option_map statement_text) told ∙ ap (λ (t : List ℕ). Some t) (sym text_is))

pub returns-in-OpDefault : goal.returns-in-OpDefault
returns-in-OpDefault c serial items context ruling =
    if-ok c.statement_text.result _ _ (λ text e. default-text serial items c.args.op context c.args.hit.now text.items
    OpDefault (statement.OpDefault c.args.op c.args.hit.now.found.action) ruling c.in-OpDefault.is refl e)
    c.statement_text.ensures

pub returns-in-GlobalDefault : goal.returns-in-GlobalDefault
returns-in-GlobalDefault c serial items context ruling =
    if-ok c.statement_text-in-GlobalDefault.result _ _ (λ text e. default-text serial items c.args.op context c.args.hit.now text.items
    GlobalDefault (statement.GlobalDefault c.args.hit.now.found.action) ruling c.in-GlobalDefault.is refl e)
    c.statement_text-in-GlobalDefault.ensures
