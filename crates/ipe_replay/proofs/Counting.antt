-- What is counted of the entries along an order is what the lines of the request file say.
use Rattle.std.proofs.Common.{◌≡◌, ℕ, suc, ◌+◌, ◌-◌, ◌==◌, Bool, true, false, cond, inl, inr, List, [], ◌∷◌, ◌++◌, length, map, Option, Some, None, is_some, refl, sym, ap, ◌∙◌, arith}
use Rattle.std.specs.Prelude.{count_by}
use Rattle.std.proofs.lemmas.Bool.{cases_Bool, eqb-false}
use Rattle.std.proofs.lemmas.List.{length-append}
use Rattle.std.proofs.lemmas.List.Concat.{flat_map-cons}
use Rattle.std.proofs.lemmas.List.Sums.{sum_by-append, sum_by-cons}
use Rattle.std.proofs.lemmas.List.Sorted.{length_permutation, sum_by-IsPermutation}
use Rattle.ipe_policy.specs.declared.evaluation.Context.{Context}
use Rattle.ipe_policy.specs.declared.op.Op.{Op}
use Rattle.ipe_machine.specs.Answer.{Verdicts}
use Rattle.ipe_machine.specs.declared.event.Event.TheVariants as event
use Rattle.ipe_machine.specs.Machine.{Machine, after_event, claimed, ruling_at}
use Rattle.ipe_machine.specs.Policies.{Loaded, Policies, active_entry}
use Rattle.ipe_transcript.specs.declared.transcript.Content.{Content}
use Rattle.ipe_transcript.specs.declared.transcript.Entry.{Entry}
use Rattle.ipe_transcript.proofs.Permuted.{own_permutes}
use Rattle.ipe_weave.specs.Lines.{Acted, IsWeave, Line, Task, Write, Read, Hook, actor_of, actor_of_task, after_line, after_lines, after_task, entries_of, joined, line_reply, own_lines, phases_entries, task_of, task_reply}
use Rattle.ipe_weave.specs.Standing.{policies_after, policies_then}
use Rattle.ipe_weave.specs.Told.{told_entry}
use Rattle.ipe_lines.specs.Asked.{Files}
use Rattle.ipe_lines.specs.Told.{content_of_line, one_list, told_phase, told_phases}
use Rattle.ipe_replay.specs.Counts.{is_counted}
use Rattle.ipe_replay.specs.Ends.{commands_in}
use Rattle.ipe_replay.specs.Summary.{count_done, is_claim, is_claim_task, is_command, is_command_task, is_done, is_hook, is_hook_task}
use Rattle.ipe_replay.specs.declared.counts.Counted.TheVariants.{Hooks, Placed, Commands, Done}
use Rattle.ipe_replay.proofs.Ends.{commands_both}

-- what a test adds to a count
abbrev counted : {X : Type 0} → (X → Bool) → X → ℕ
counted test x = cond (test x) 1 0

count-cons : {X : Type 0} (test : X → Bool) (x : X) (xs : List X) → count_by test (x ∷ xs) ≡ counted test x + count_by test xs
count-cons test x xs = sum_by-cons (counted test) x xs

count-both : {X : Type 0} (test : X → Bool) (xs ys : List X) → count_by test (xs ++ ys) ≡ count_by test xs + count_by test ys
count-both test xs ys = sum_by-append (counted test) xs ys

zero_more : (n : ℕ) → 0 + n ≡ n
zero_more n = omega arith

-- what is told of a line with its reply
abbrev told_line : Verdicts → Machine → ℕ → Option Content → Line → Entry
told_line verdicts machine phase content line = told_entry phase content line (line_reply verdicts machine line)

-- a test of entries that is told by their lines
abbrev Tells : Verdicts → (Entry → Bool) → (Line → Bool) → Type 0
Tells verdicts test asks =
    (machine : Machine) (phase : ℕ) (content : Option Content) (line : Line) → test (told_line verdicts machine phase content line) ≡ asks line

module _ (verdicts : Verdicts) (files : Files) where
  module _ (test : Entry → Bool) (asks : Line → Bool) (tells : Tells verdicts test asks) where
    phase_counts : (machine : Machine) (phase : ℕ) (lines : List Line) → count_by test (told_phase files phase (entries_of verdicts machine lines)) ≡ count_by asks lines
    phase_counts machine phase [] = refl
    phase_counts machine phase (line ∷ lines) =
        let first : Acted = record { line = line; reply = line_reply verdicts machine line } in
        let content = content_of_line files first in
        let rest = told_phase files phase (entries_of verdicts (after_line verdicts machine line) lines) in
        count-cons test (told_line verdicts machine phase content line) rest
        ∙ ap (λ (b : Bool). cond b 1 0 + count_by test rest) (tells machine phase content line)
        ∙ ap (λ (n : ℕ). counted asks line + n) (phase_counts (after_line verdicts machine line) phase lines)
        ∙ sym (count-cons asks line lines)

    pub order_counts : (machine : Machine) (phase : ℕ) (order : List (List Line)) → count_by test (one_list (told_phases files phase (phases_entries verdicts machine order))) ≡ count_by asks (joined order)
    order_counts machine phase [] = refl
    order_counts machine phase (lines ∷ order) =
        let first = told_phase files phase (entries_of verdicts machine lines) in
        let next = after_lines verdicts machine lines in
        let rest = told_phases files (phase + 1) (phases_entries verdicts next order) in
        ap (count_by test) (flat_map-cons (λ (entries : List Entry). entries) first rest)
        ∙ count-both test first (one_list rest)
        ∙ ap (λ (n : ℕ). n + count_by test (one_list rest)) (phase_counts machine phase lines)
        ∙ ap (λ (n : ℕ). count_by asks lines + n) (order_counts next (phase + 1) order)
        ∙ sym (count-both asks lines (joined order))

  -- what claims has a place
  has_place : (machine : Machine) (entry : Option Loaded) (op : Op) (context : Context) → is_some (ruling_at machine entry op context).place ≡ true
  has_place machine None op context = refl
  has_place machine (Some entry) op context = refl

  hook_told : (machine : Machine) (phase : ℕ) (content : Option Content) (line : Line) (task : Task)
      → (is_counted Hooks (told_entry phase content line (task_reply verdicts machine task)) ≡ is_hook_task task)
      × (is_counted Placed (told_entry phase content line (task_reply verdicts machine task)) ≡ is_claim_task task)
      × (is_counted Commands (told_entry phase content line (task_reply verdicts machine task)) ≡ is_command_task task)
      × (is_counted Done (told_entry phase content line (task_reply verdicts machine task)) ≡ is_done verdicts machine.policies task)
  hook_told machine phase content line (Write may asked) = (refl, refl, refl, refl)
  hook_told machine phase content line (Read node) = (refl, refl, refl, refl)
  hook_told machine phase content line (Hook worker None access) = (refl, refl, refl, refl)
  hook_told machine phase content line (Hook worker (Some op) access) = (refl, has_place machine (active_entry machine.policies) op access.context, refl, refl)

  pub hooks_tell : Tells verdicts (is_counted Hooks) is_hook
  hooks_tell machine phase content line = (hook_told machine phase content line line.task).0

  pub claims_tell : Tells verdicts (is_counted Placed) is_claim
  claims_tell machine phase content line = (hook_told machine phase content line line.task).1

  pub commands_tell : Tells verdicts (is_counted Commands) is_command
  commands_tell machine phase content line = (hook_told machine phase content line line.task).2

  -- ---- the administrator's lines that are done

  -- a claim, returned at once where it holds a policy, leaves the policies
  claimed_policies : (machine : Machine) (pass : ℕ) (entry : Option Loaded)
      → (cond (is_some entry) (after_event verdicts (claimed machine pass entry) (event.Return pass)) (claimed machine pass entry)).policies ≡ machine.policies
  claimed_policies machine pass None = refl
  claimed_policies machine pass (Some entry) = refl

  -- the policies of the machine after a task
  task_policies : (machine : Machine) (task : Task) → (after_task verdicts machine task).policies ≡ policies_after verdicts machine.policies task
  task_policies machine (Write may asked) = refl
  task_policies machine (Read node) = refl
  task_policies machine (Hook worker None access) = refl
  task_policies machine (Hook worker (Some op) access) = claimed_policies machine (worker - 1) (active_entry machine.policies)

  -- what isn't the administrator's is never counted as done, and leaves the policies
  other_task : (policies : Policies) (task : Task) → (actor_of_task task == 0) ≡ false → (is_done verdicts policies task ≡ false) × (policies_after verdicts policies task ≡ policies)
  other_task policies (Write may asked) other = absurd (eqb-false 0 0 other refl)
  other_task policies (Read node) other = absurd (eqb-false 0 0 other refl)
  other_task policies (Hook worker op access) other = (refl, refl)

  -- one line more, of whoever it is
  done_next : (machine : Machine) (line : Line) (tasks : List Task) (told : ℕ) → told ≡ count_done verdicts (after_line verdicts machine line).policies tasks
      → cond (is_done verdicts machine.policies line.task) 1 0 + told ≡ count_done verdicts machine.policies (line.task ∷ tasks)
  done_next machine line tasks told e =
      ap (λ (n : ℕ). cond (is_done verdicts machine.policies line.task) 1 0 + n)
      (e ∙ ap (λ (p : Policies). count_done verdicts p tasks) (task_policies machine line.task))

  phase_done : (machine : Machine) (phase : ℕ) (lines : List Line)
      → (count_by (is_counted Done) (told_phase files phase (entries_of verdicts machine lines)) ≡ count_done verdicts machine.policies (map task_of (own_lines 0 lines)))
      × ((after_lines verdicts machine lines).policies ≡ policies_then verdicts machine.policies (map task_of (own_lines 0 lines)))
  phase_done machine phase [] = (refl, refl)
  phase_done machine phase (line ∷ lines) =
      let next : Machine = after_line verdicts machine line in
      let rest : List Entry = told_phase files phase (entries_of verdicts next lines) in
      let tasks : List Task = map task_of (own_lines 0 lines) in
      let more = phase_done next phase lines in
      let content : Option Content = content_of_line files (record { line = line; reply = line_reply verdicts machine line }) in
      let head : count_by (is_counted Done) (told_line verdicts machine phase content line ∷ rest) ≡ cond (is_done verdicts machine.policies line.task) 1 0 + count_by (is_counted Done) rest =
      count-cons (is_counted Done) (told_line verdicts machine phase content line) rest
      ∙ ap (λ (b : Bool). cond b 1 0 + count_by (is_counted Done) rest) (hook_told machine phase content line line.task).3 in
      elim (cases_Bool (actor_of line == 0)) [
        | inl own ↦ rw own (
          head ∙ done_next machine line tasks (count_by (is_counted Done) rest) more.0,
          more.1 ∙ ap (λ (p : Policies). policies_then verdicts p tasks) (task_policies machine line.task),
        )
        | inr other ↦
            let no = other_task machine.policies line.task other in
            let same : next.policies ≡ machine.policies = task_policies machine line.task ∙ no.1 in
            rw other (
              head ∙ ap (λ (b : Bool). cond b 1 0 + count_by (is_counted Done) rest) no.0
                  ∙ zero_more (count_by (is_counted Done) rest) ∙ more.0
                  ∙ ap (λ (p : Policies). count_done verdicts p tasks) same,
              more.1 ∙ ap (λ (p : Policies). policies_then verdicts p tasks) same,
            )
      ]

  done_both : (policies : Policies) (xs ys : List Task) → count_done verdicts policies (xs ++ ys) ≡ count_done verdicts policies xs + count_done verdicts (policies_then verdicts policies xs) ys
  done_both policies [] ys = sym (zero_more (count_done verdicts policies ys))
  done_both policies (x ∷ xs) ys =
      let next = policies_after verdicts policies x in
      let rest = done_both next xs ys in
      let one = cond (is_done verdicts policies x) 1 0 in
      ap (λ (n : ℕ). one + n) rest
      ∙ omega (arith)

  pub order_done : (machine : Machine) (phase : ℕ) (order : List (List Line)) → count_by (is_counted Done) (one_list (told_phases files phase (phases_entries verdicts machine order))) ≡ count_done verdicts machine.policies (commands_in order)
  order_done machine phase [] = refl
  order_done machine phase (lines ∷ order) =
      let first = told_phase files phase (entries_of verdicts machine lines) in
      let next = after_lines verdicts machine lines in
      let rest = told_phases files (phase + 1) (phases_entries verdicts next order) in
      let own = map task_of (own_lines 0 lines) in
      let one = phase_done machine phase lines in
      ap (count_by (is_counted Done)) (flat_map-cons (λ (entries : List Entry). entries) first rest)
      ∙ count-both (is_counted Done) first (one_list rest)
      ∙ ap (λ (n : ℕ). n + count_by (is_counted Done) (one_list rest)) one.0
      ∙ ap (λ (n : ℕ). count_done verdicts machine.policies own + n)
      (order_done next (phase + 1) order ∙ ap (λ (p : Policies). count_done verdicts p (commands_in order)) one.1)
      ∙ sym (done_both machine.policies own (commands_in order))
      ∙ ap (count_done verdicts machine.policies) (sym (commands_both lines order))

  -- ---- there is an entry for each line

  phase_long : (machine : Machine) (phase : ℕ) (lines : List Line) → length (told_phase files phase (entries_of verdicts machine lines)) ≡ length lines
  phase_long machine phase [] = refl
  phase_long machine phase (line ∷ lines) = ap suc (phase_long (after_line verdicts machine line) phase lines)

  pub order_long : (machine : Machine) (phase : ℕ) (order : List (List Line)) → length (one_list (told_phases files phase (phases_entries verdicts machine order))) ≡ length (joined order)
  order_long machine phase [] = refl
  order_long machine phase (lines ∷ order) =
      let first = told_phase files phase (entries_of verdicts machine lines) in
      let next = after_lines verdicts machine lines in
      let rest = told_phases files (phase + 1) (phases_entries verdicts next order) in
      ap length (flat_map-cons (λ (entries : List Entry). entries) first rest)
      ∙ length-append first (one_list rest)
      ∙ ap (λ (n : ℕ). n + length (one_list rest)) (phase_long machine phase lines)
      ∙ ap (λ (n : ℕ). length lines + n) (order_long next (phase + 1) order)
      ∙ sym (length-append lines (joined order))

-- ---- an order that is a weave has the same lines

pub weave_counts : (asks : Line → Bool) (order script : List (List Line)) → IsWeave script order → count_by asks (joined order) ≡ count_by asks (joined script)
weave_counts asks [] [] weave = refl
weave_counts asks [] (lines ∷ script) weave = absurd weave
weave_counts asks (part ∷ order) [] weave = absurd weave
weave_counts asks (part ∷ order) (lines ∷ script) weave =
    count-both asks part (joined order)
    ∙ ap (λ (n : ℕ). n + count_by asks (joined order)) (sym (sum_by-IsPermutation (counted asks) part lines (own_permutes actor_of part lines weave.0)))
    ∙ ap (λ (n : ℕ). count_by asks lines + n) (weave_counts asks order script weave.1)
    ∙ sym (count-both asks lines (joined script))

pub weave_long : (order script : List (List Line)) → IsWeave script order → length (joined order) ≡ length (joined script)
weave_long [] [] weave = refl
weave_long [] (lines ∷ script) weave = absurd weave
weave_long (part ∷ order) [] weave = absurd weave
weave_long (part ∷ order) (lines ∷ script) weave =
    length-append part (joined order)
    ∙ ap (λ (n : ℕ). n + length (joined order)) (sym (length_permutation part lines (own_permutes actor_of part lines weave.0)))
    ∙ ap (λ (n : ℕ). length lines + n) (weave_long order script weave.1)
    ∙ sym (length-append lines (joined script))

pub weave_commands : (order script : List (List Line)) → IsWeave script order → commands_in order ≡ commands_in script
weave_commands [] [] weave = refl
weave_commands [] (lines ∷ script) weave = absurd weave
weave_commands (part ∷ order) [] weave = absurd weave
weave_commands (part ∷ order) (lines ∷ script) weave =
    commands_both part order
    ∙ ap (λ (own : List Line). map task_of own ++ commands_in order) (weave.0 0)
    ∙ ap (λ (tasks : List Task). map task_of (own_lines 0 lines) ++ tasks) (weave_commands order script weave.1)
    ∙ sym (commands_both lines script)
