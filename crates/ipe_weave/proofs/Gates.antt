-- The basis of the running gate has its laws.
use Rattle.std.proofs.Common.{◌≡◌, ◌≢◌, ℕ, zero, suc, ◌==◌, cond, List, [], ◌∷◌, Option, Some, None, refl, sym, ap, ◌∙◌}
use Rattle.std.specs.Prelude.{pos, negsuc, ◌&&◌}
use Rattle.std.specs.Option.{option_map, option_and_then}
use Rattle.std.proofs.lemmas.Bool.{ne_eqb}
use Rattle.ipe_policy.specs.declared.op.Op.{Op}
use Rattle.ipe_policy.specs.declared.evaluation.Context.{Context}
use Rattle.ipe_policy.specs.declared.evaluation.Found.{Found}
use Rattle.ipe_policy.specs.Evaluation.{decision, found_statement}
use Rattle.ipe_policy.specs.Request.{evaluated_op}
use Rattle.ipe_image.specs.Parts.{ImageParts}
use Rattle.ipe_image.specs.Reading.{image_in}
use Rattle.ipe_image.specs.Decision.{deciding}
use Rattle.ipe_image.specs.Law.{DecideAlike, DecideByOneStatement}
use Rattle.ipe_machine.specs.declared.event.CoreRuling.{CoreRuling}
use Rattle.ipe_machine.specs.Policies as state
use Rattle.ipe_machine.specs.Policies.{Policies, active_entry, policy_in}
use Rattle.ipe_machine.specs.Answer.{Verdicts}
use Rattle.ipe_machine.specs.Machine.{Machine, denies, is_due, next_place, ruling_at}
use Rattle.ipe_machine.specs.Epochs.{CommandsStayOrBegin}
use Rattle.ipe_records.specs.Records.{access_by, access_under, access_with}
use Rattle.ipe_records.specs.Ruled.{parts_in}
use Rattle.ipe_gate_rule.specs.declared.event.Event.{Event}
use Rattle.ipe_gate_rule.specs.declared.event.Event.TheVariants.{Store, Switch, Claim, Return, Look}
use Rattle.ipe_gate_rule.specs.History.{active_slot, enforce_of, content}
use Rattle.ipe_gate_rule.specs.Regions.{listed, words_at}
use Rattle.ipe_gate_rule.specs.Legal.{Legal}
use Rattle.ipe_weave.specs.Lines.{Access, ruled, hook_reply}
use Rattle.ipe_weave.specs.Basis.{MayBe}
use Rattle.ipe_weave.specs.Standing.{IsLike}
use Rattle.ipe_weave.specs.Gate.{image_at, image_of, ruling_by_image, record_by_image, claimed_by_image, Holds, gate_basis, machine_at}
use Rattle.ipe_weave.proofs.Founded.{IsBasis, Founded}
use Rattle.ipe_weave.proofs.EntryAnswers.{entry_answers}

-- regions with the same words
listed_same : (f g : ℕ → ℕ) (at n : ℕ) → ((i : ℕ) → f i ≡ g i) → listed f at n ≡ listed g at n
listed_same f g at zero same = refl
listed_same f g at (suc n) same =
    ap (λ (x : ℕ). x ∷ listed f (suc at) n) (same at) ∙ ap (λ (xs : List ℕ). g at ∷ xs) (listed_same f g (suc at) n same)

words_same : (f g : ℕ → ℕ) → ((i : ℕ) → f i ≡ g i) → words_at f ≡ words_at g
unfolding words_at
words_same f g same = listed_same f g 0 4096 same

image_same : (slot : ℕ) (h later : List Event) → ((i : ℕ) → content slot i later ≡ content slot i h) → image_at slot later ≡ image_at slot h
image_same slot h later same =
    ap (λ (words : List ℕ). cond (slot == 0) None (image_in words)) (words_same (λ i. content slot i later) (λ i. content slot i h) same)

-- the other slots' words aren't the active one's
store_apart : (h : List Event) (slot index word : ℕ) → slot ≢ active_slot h → (i : ℕ) → content (active_slot h) i (Store slot index word ∷ h) ≡ content (active_slot h) i h
store_apart h slot index word apart i = rw (ne_eqb (active_slot h) slot (λ e. apart (sym e))) refl

holds_shown : (slot : ℕ) (h : List Event) (entry : Option state.Loaded) → Holds slot h entry → image_at slot h ≡ image_of entry
holds_shown slot h None holds = rw holds refl
holds_shown slot h (Some entry) holds = rw (ne_eqb slot 0 holds.0) holds.1

-- the ruling and the record of what was found
abbrev ruling_of : List Event → ℕ → Option Found → CoreRuling
ruling_of h serial found = record {
  code = cond (denies found && enforce_of h) (negsuc 12) (pos 0);
  place = Some (next_place (machine_at h));
  serial = Some serial;
  found = found;
  enforce = enforce_of h;
  record_due = is_due (machine_at h).policies found;
}

abbrev record_of : List Event → ImageParts → Access → Op → Option Found → Option (List ℕ)
record_of h parts access op found =
    cond (is_due (machine_at h).policies found)
    (option_and_then (λ (f : Found). option_map (access_by (machine_at h).policies access.request access.subject access.object op) (deciding parts op f)) found)
    None

-- what the image of an entry's policy answers is what the entry does
ruled_by : DecideAlike → (h : List Event) (entry : Option state.Loaded) (op : Op) (context : Context) → ruling_by_image h (image_of entry) op context ≡ ruling_at (machine_at h) entry op context
ruled_by law h None op context = refl
ruled_by law h (Some entry) op context = ap (ruling_of h entry.serial) (law (policy_in entry.text).items entry.serial op context)

-- the record by the statement that the image tells is that by the policy's
stated : DecideByOneStatement → (h : List Event) (entry : state.Loaded) (access : Access) (op : Op) (found : Option Found)
    → decision (policy_in entry.text).items op access.context ≡ found
    → option_and_then (λ (f : Found). option_map (access_by (machine_at h).policies access.request access.subject access.object op) (deciding (parts_in entry) op f)) found
    ≡ access_under (machine_at h).policies access.request access.subject access.object access.context op entry
stated law h entry access op None none =
    ap (λ (o : Option Found). option_map (access_by (machine_at h).policies access.request access.subject access.object op) (option_and_then (λ (f : Found). found_statement (policy_in entry.text).items op f.which) o)) (sym none)
stated law h entry access op (Some found) some =
    ap (option_map (access_by (machine_at h).policies access.request access.subject access.object op)) (law (policy_in entry.text).items entry.serial op access.context found some)

recorded_by : DecideAlike → DecideByOneStatement → (h : List Event) (entry : Option state.Loaded) (access : Access) (op : Option Op)
    → record_by_image h (image_of entry) access op ≡ access_with (machine_at h).policies access.request access.subject access.object access.context op entry
recorded_by law one h None access None = refl
recorded_by law one h (Some entry) access None = refl
recorded_by law one h None access (Some op) = refl
recorded_by law one h (Some entry) access (Some op) =
    let found : Option Found = decision (policy_in entry.text).items op access.context in
    ap (record_of h (parts_in entry) access op) (law (policy_in entry.text).items entry.serial op access.context)
    ∙ ap (λ (r : Option (List ℕ)). cond (is_due (machine_at h).policies found) r None) (stated one h entry access op found refl)

gate_answers : DecideAlike → DecideByOneStatement → (machine : Machine) (h : List Event) (op : Op) (access : Access) → IsLike machine h → image_at (active_slot h) h ≡ image_of (active_entry machine.policies)
    → claimed_by_image h (image_at (active_slot h) h) op access ≡ hook_reply machine (Some op) access
gate_answers law one machine h op access like shows =
    ap (λ (parts : Option ImageParts). claimed_by_image h parts op access) shows
    ∙ ap (λ (r : CoreRuling). ruled r (record_by_image h (image_of (active_entry machine.policies)) access (evaluated_op access.request))) (ruled_by law h (active_entry machine.policies) op access.context)
    ∙ ap (λ (r : Option (List ℕ)). ruled (ruling_at (machine_at h) (active_entry machine.policies) op access.context) r) (recorded_by law one h (active_entry machine.policies) access (evaluated_op access.request))
    ∙ entry_answers machine h op access like

pub gate_laws : DecideAlike → DecideByOneStatement → (verdicts : Verdicts) → IsBasis (gate_basis verdicts)
gate_laws law one verdicts = record {
  at_start = refl;
  at_claim = λ p h entry shows. image_same (active_slot h) h (Claim p ∷ h) (λ i. refl) ∙ shows;
  at_return = λ p h entry shows. image_same (active_slot h) h (Return p ∷ h) (λ i. refl) ∙ shows;
  at_look = λ s h entry shows. image_same (active_slot h) h (Look s ∷ h) (λ i. refl) ∙ shows;
  at_store = λ s i w h entry allowed shows. image_same (active_slot h) h (Store s i w ∷ h) (store_apart h s i w allowed.3) ∙ shows;
  at_switch = λ s e u h policies begins. (image_same s h (Switch s e u ∷ h) (λ i. refl) ∙ holds_shown s h (active_entry policies) begins.0, begins.1, begins.2);
  answers = gate_answers law one;
}

-- a legal history of the gate may be
pub legal_may_be : (verdicts : Verdicts) (h : List Event) → Legal h → MayBe (gate_basis verdicts) h
legal_may_be verdicts [] legal = tt
legal_may_be verdicts (e ∷ h) legal = (legal.0, legal_may_be verdicts h legal.1)

-- the same with the law of the machine's commands
abbrev pub founded_gate : CommandsStayOrBegin → DecideAlike → DecideByOneStatement → Verdicts → Founded
founded_gate commands law one verdicts = record { basis = gate_basis verdicts; laws = gate_laws law one verdicts; commands = commands }
