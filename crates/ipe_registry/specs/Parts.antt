-- The parts of a plan: what a text brings, the answers after it, and which plan fits an answer.
use Rattle.std.specs.Prelude.{false, ◌≡◌, ◌≤◌, ◌==◌, ◌&&◌, ℕ, not, nat_le, List, [], ◌∷◌, is_some, Result, Ok, Err, length}
use Rattle.sha2.specs.Sha256.{sha256}
use Rattle.line_words.specs.Words.{is_text}
use Rattle.ipe_policy.specs.declared.version.Version.{Version}
use Rattle.ipe_policy.specs.Policy.{PolicyParts}
use Rattle.ipe_policy.specs.Spelling.{words_of_image}
use Rattle.ipe_parse.specs.Reading.{reading}
use Rattle.ipe_machine.specs.declared.command.Act.{Act}
use Rattle.ipe_machine.specs.declared.answer.Done.{Done}
use Rattle.ipe_machine.specs.declared.answer.Done.TheVariants.{Loaded, Updated, Activated}
use Rattle.ipe_machine.specs.declared.answer.Refusal.{Refusal}
use Rattle.ipe_machine.specs.declared.answer.Refusal.TheVariants.{Exists, NoSpace, OtherName, EpochFull}
use Rattle.ipe_machine.specs.Policies.{Policies, entry_named, is_active}
use Rattle.ipe_machine.specs.Change.{change_of, done_by}
use Rattle.ipe_machine.specs.Answer.{Verdicts, answer_by, text_cases, stale_case, most_words, most_loaded, last_epoch, is_step}
use Rattle.ipe_registry.specs.declared.change.Plan.{Plan}
use Rattle.ipe_registry.specs.declared.change.Plan.TheVariants as plan

-- a text alone is refused so, or may go on
abbrev pub text_answer : Verdicts → List ℕ → Result Done Refusal
text_answer verdicts text = answer_by (text_cases verdicts text) Loaded

-- a policy, whose image fits, and a digest that a text brings
abbrev pub Brings : Verdicts → List ℕ → PolicyParts → List ℕ → Type 0
Brings verdicts text policy digest =
    (text_answer verdicts text ≡ Ok Loaded) × (reading text ≡ Ok policy) × (digest ≡ sha256 text)
    × (words_of_image policy.items ≤ most_words)

-- what `taken` says of a text
abbrev pub IsTaken : Verdicts → List ℕ → Result (PolicyParts × List ℕ) Refusal → Type 0
IsTaken verdicts text (Ok found) = Brings verdicts text found.0 found.1
IsTaken verdicts text (Err refusal) = text_answer verdicts text ≡ Err refusal

-- the rest of a load, of a text that brings this policy
abbrev pub addition_answer : Policies → PolicyParts → Result Done Refusal
addition_answer policies policy =
    answer_by
    ((is_some (entry_named policy.name policies.loaded), Err Exists)
    ∷ (nat_le most_loaded (length policies.loaded), Err NoSpace)
    ∷ [])
    Loaded

-- the rest of an update, of a name at this version and a text that brings this policy
abbrev pub replacement_answer : Policies → List ℕ → Version → PolicyParts → Result Done Refusal
replacement_answer policies name present policy =
    answer_by
    ((not (is_text name policy.name), Err OtherName)
    ∷ stale_case present policy.version
    ∷ (is_active name policies && (policies.epoch == last_epoch), Err EpochFull)
    ∷ [])
    Updated

-- a plan of an act that is answered so
abbrev pub IsPlanOf : Policies → Act → Result Done Refusal → Plan → Type 0
IsPlanOf policies act answer (plan.Refused refusal) = answer ≡ Err refusal
IsPlanOf policies act answer (plan.Same done) = (answer ≡ Ok done) × (is_step (Ok done) ≡ false)
IsPlanOf policies act answer (plan.Ready change) =
    (answer ≡ Ok (done_by change)) × (change ≡ change_of policies act)
