-- The record of an access, by what its own claim found.
use Rattle.std.proofs.Common.{◌≡◌, ℕ, zero, suc, ◌==◌, ◌&&◌, ◌||◌, Bool, true, false, cond, List, Option, Some, None, is_some, refl, sym, ap, subst, ◌∙◌, arith}
use Rattle.std.specs.Option.{option_and_then, option_map}
use Rattle.std.proofs.lemmas.Bool.{ne_eqb}
use Rattle.std.proofs.lemmas.Option.{same_Some}
use Rattle.ipe_policy.specs.declared.op.Op.{Op}
use Rattle.ipe_policy.specs.declared.request.Object.{Object}
use Rattle.ipe_policy.specs.declared.request.Request.{Request}
use Rattle.ipe_policy.specs.declared.request.Subject.{Subject}
use Rattle.ipe_policy.specs.declared.statement.Statement.{Statement}
use Rattle.ipe_policy.specs.declared.evaluation.Context.{Context}
use Rattle.ipe_policy.specs.declared.evaluation.Found.{Found}
use Rattle.ipe_policy.specs.Evaluation.{decision, deciding_statement}
use Rattle.ipe_policy.specs.Request.{evaluated_op, hook_of}
use Rattle.ipe_audit.specs.Records.{decided_text}
use Rattle.ipe_image.specs.declared.hit.Hit.{Hit}
use Rattle.ipe_image.specs.declared.hit.Ruling.{Ruling}
use Rattle.ipe_image.specs.Answer.{IsAnswer, IsHit, IsRuling}
use Rattle.ipe_image.specs.Decision.{deciding, decision_in}
use Rattle.ipe_image.specs.Law.{AreOfPolicies, DecideAlike, DecideByOneStatement}
use Rattle.ipe_image.specs.Parts.{ImageParts, parts_of, statements_of}
use Rattle.ipe_image.specs.Reading.{image_in}
use Rattle.ipe_machine.specs.Policies.{Policies}
use Rattle.ipe_machine.specs.Machine.{denies, is_due}
use Rattle.ipe_gate_rule.specs.declared.event.Event.{Event}
use Rattle.ipe_gate_rule.specs.History.{active_slot, enforce_of, success_of}
use Rattle.ipe_gate_rule.specs.Regions.{region}
use Rattle.ipe_hooks.specs.Hooks.{IsDecision}
use Rattle.ipe_hooks.specs.Rulings.{found_in}
use Rattle.ipe_records.specs.Records.{access_by}
use Rattle.ipe_weave.specs.Gate.{image_at, record_by_image}
use Rattle.ipe_weave.specs.Lines.{Access}
use Rattle.ipe_weave.specs.Gate.{machine_at}
use Rattle.ipe_workers.specs.Ruled.{IsRuled, IsRuledAt, IsRuledFor, recorded}

-- what was found is what an image decides for the operation
hit_by : (slot : ℕ) (h : List Event) (op : Op) (context : Context) (found : Option Hit) (hit : Hit) → IsDecision slot h op context found → found ≡ Some hit → IsHit op hit
hit_by zero h op context found hit none is = absurd (cc)
hit_by (suc k) h op context found hit d is =
    let same : d.decided ≡ hit = same_Some d.decided hit (sym d.hit_is ∙ is) in
    record {
      words = region (suc k) h;
      parts = d.parts;
      context = context;
      image = d.image;
      answer = subst (IsAnswer d.parts op context) same d.answer;
    }

hit_for : (h : List Event) (asked : Option Op) (op : Op) (context : Context) (ruling : Ruling) (hit : Hit) → IsRuledFor h asked context ruling → asked ≡ Some op → ruling.hit ≡ Some hit → IsHit op hit
hit_for h None op context ruling hit is asked found = absurd (cc)
hit_for h (Some other) op context ruling hit is asked found =
    subst (λ (o : Op). IsHit o hit) (same_Some other op asked) (hit_by (active_slot h) h other context ruling.hit hit is.decision found)

pub hit_of : (access : Access) (op : Op) (ruling : Ruling) (hit : Hit) → (h : List Event) × IsRuled h access ruling → evaluated_op access.request ≡ Some op → ruling.hit ≡ Some hit → IsHit op hit
hit_of access op ruling hit is asked found = hit_for is.0 (evaluated_op access.request) op access.context ruling hit is.1 asked found

-- a slot that is one has the image of its region
image_of_slot : (k : ℕ) (h : List Event) → image_at (suc k) h ≡ image_in (region (suc k) h)
image_of_slot k h =
    let some : (suc k == 0) ≡ false = ne_eqb (suc k) 0 (λ e. omega (arith, e)) in
    rw some refl

abbrev due_at : List Event → Option Found → Bool
due_at h found = is_due (machine_at h).policies found

-- the record by parts, of what was found
abbrev record_found : List Event → ImageParts → Access → Op → Option Found → Option (List ℕ)
record_found h parts access op found =
    cond (due_at h found)
    (option_and_then (λ (f : Found). option_map (access_by (machine_at h).policies access.request access.subject access.object op) (deciding parts op f)) found)
    None

-- the text of a deciding statement
text_is : (policies : Policies) (request : Request) (subject : Subject) (object : Object) (op : Op) (statement : Option Statement)
    → option_map (access_by policies request subject object op) statement ≡ decided_text op (hook_of request) policies.enforce subject object statement
text_is policies request subject object op None = refl
text_is policies request subject object op (Some statement) = refl

-- the statement that decided
statement_is : DecideAlike → DecideByOneStatement → (items : List Statement) (serial : ℕ) (parts : ImageParts) (op : Op) (context : Context) (found : Found)
    → parts_of serial items ≡ parts → decision_in parts op context ≡ Some found → deciding parts op found ≡ deciding_statement items op context
statement_is alike one items serial parts op context found same is =
    let decides : decision items op context ≡ Some found = sym (alike items serial op context) ∙ ap (λ (p : ImageParts). decision_in p op context) same ∙ is in
    ap (λ (p : ImageParts). deciding p op found) (sym same) ∙ one items serial op context found decides

by_slot : AreOfPolicies → DecideAlike → DecideByOneStatement → (slot : ℕ) (h : List Event) (access : Access) (op : Op) (found : Option Hit) (hit : Hit) (made : List ℕ)
    → IsDecision slot h op access.context found → found ≡ Some hit → due_at h (Some hit.found) ≡ true
    → ((serial : ℕ) (items : List Statement) (context : Context) → IsRuling serial items op context hit → decided_text op (hook_of access.request) (enforce_of h) access.subject access.object (deciding_statement items op context) ≡ Some made)
    → record_by_image h (image_at slot h) access (Some op) ≡ Some made
by_slot policies alike one zero h access op found hit made none is due text = absurd (cc)
by_slot policies alike one (suc k) h access op found hit made d is due text =
    let parts : ImageParts = d.parts in
    let items : List Statement = statements_of parts in
    let same : d.decided ≡ hit = same_Some d.decided hit (sym d.hit_is ∙ is) in
    let answer : IsAnswer parts op access.context hit = subst (IsAnswer parts op access.context) same d.answer in
    let of = policies (region (suc k) h) parts d.image in
    let statement : deciding parts op hit.found ≡ deciding_statement items op access.context = statement_is alike one items parts.serial parts op access.context hit.found of.parts_are answer.decision in
    let ruling : IsRuling parts.serial items op access.context hit = record {
      words = region (suc k) h;
      image = d.image ∙ ap Some (sym of.parts_are);
      answer = subst (λ (p : ImageParts). IsAnswer p op access.context hit) (sym of.parts_are) answer;
    } in
    ap (λ (p : Option ImageParts). record_by_image h p access (Some op)) (image_of_slot k h ∙ d.image)
    ∙ ap (record_found h parts access op) answer.decision
    ∙ ap (λ (b : Bool). cond b (option_map (access_by (machine_at h).policies access.request access.subject access.object op) (deciding parts op hit.found)) None) due
    ∙ ap (option_map (access_by (machine_at h).policies access.request access.subject access.object op)) statement
    ∙ text_is (machine_at h).policies access.request access.subject access.object op (deciding_statement items op access.context)
    ∙ text parts.serial items access.context ruling

-- a record is due of what was found
due_found : (h : List Event) (op : Op) (context : Context) (ruling : Ruling) (hit : Hit) → IsRuledAt h op context ruling → ruling.hit ≡ Some hit → ruling.record_due ≡ due_at h (Some hit.found)
due_found h op context ruling hit is found =
    ap (λ (r : Ruling). r.record_due) is.ruling_is
    ∙ ap (λ (o : Option Hit). is_some o && (denies (found_in o) || success_of h)) found

made_for : AreOfPolicies → DecideAlike → DecideByOneStatement → (h : List Event) (asked : Option Op) (op : Op) (access : Access) (ruling : Ruling) (hit : Hit) (made : List ℕ)
    → IsRuledFor h asked access.context ruling → asked ≡ Some op → ruling.hit ≡ Some hit → ruling.record_due ≡ true
    → ((serial : ℕ) (items : List Statement) (context : Context) → IsRuling serial items op context hit → decided_text op (hook_of access.request) ruling.enforce access.subject access.object (deciding_statement items op context) ≡ Some made)
    → record_by_image h (image_at (active_slot h) h) access asked ≡ Some made
made_for policies alike one h None op access ruling hit made is asked found due text = absurd (cc)
made_for policies alike one h (Some other) op access ruling hit made is asked found due text =
    let same : other ≡ op = same_Some other op asked in
    let here : IsRuledAt h op access.context ruling = subst (λ (o : Op). IsRuledAt h o access.context ruling) same is in
    ap (λ (o : Op). record_by_image h (image_at (active_slot h) h) access (Some o)) same
    ∙ by_slot policies alike one (active_slot h) h access op ruling.hit hit made here.decision found (sym (due_found h op access.context ruling hit here found) ∙ due)
    (λ serial items context of.
    ap (λ (b : Bool). decided_text op (hook_of access.request) b access.subject access.object (deciding_statement items op context)) (sym (ap (λ (r : Ruling). r.enforce) here.ruling_is))
    ∙ text serial items context of)

-- the record that is made is that of the access
pub record_made : AreOfPolicies → DecideAlike → DecideByOneStatement → (h : List Event) (access : Access) (op : Op) (ruling : Ruling) (hit : Hit) (made : List ℕ)
    → IsRuled h access ruling → evaluated_op access.request ≡ Some op → ruling.hit ≡ Some hit → ruling.record_due ≡ true
    → ((serial : ℕ) (items : List Statement) (context : Context) → IsRuling serial items op context hit → decided_text op (hook_of access.request) ruling.enforce access.subject access.object (deciding_statement items op context) ≡ Some made)
    → Some made ≡ recorded h access
record_made policies alike one h access op ruling hit made is asked found due text =
    sym (made_for policies alike one h (evaluated_op access.request) op access ruling hit made is asked found due text)
