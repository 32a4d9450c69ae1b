-- What the entries that a run tells come to.
use Rattle.std.proofs.Common.{◌≡◌, ℕ, ◌+◌, ◌≤◌, Bool, Option, List, [], ◌∷◌, length, map, refl, sym, ap, subst, ◌∙◌}
use Rattle.std.specs.Prelude.{count_by}
use Rattle.std.proofs.lemmas.List.{length-append, length-map}
use Rattle.std.proofs.lemmas.List.Concat.{flat_map-cons}
use Rattle.ipe_audit.specs.declared.records.Brief.{Brief}
use Rattle.ipe_gate_rule.specs.declared.event.Event.{Event}
use Rattle.ipe_machine.specs.Answer.{Verdicts}
use Rattle.ipe_machine.specs.Machine.{Machine}
use Rattle.ipe_machine.specs.Policies.{first_policies}
use Rattle.ipe_requests.specs.declared.script.Phase.{Phase}
use Rattle.ipe_requests.specs.Law.{IsOfFile}
use Rattle.ipe_requests.specs.Requests.{Script}
use Rattle.ipe_requests.specs.Rules.{count_lines}
use Rattle.ipe_requests.specs.Spelling.{request_text}
use Rattle.ipe_transcript.specs.declared.transcript.Entry.{Entry}
use Rattle.ipe_weave.specs.Lines.{IsWeave, Line, joined, phases_entries}
use Rattle.ipe_weave.specs.Phases.{order_of}
use Rattle.ipe_lines.specs.Asked.{Files, at_the_start, line_of, lines_of, phases_of, verdicts_of}
use Rattle.ipe_lines.specs.Told.{TellInOrder, one_list, told_phases}
use Rattle.ipe_replay.specs.Counts.{is_counted, tally_of}
use Rattle.ipe_replay.specs.Ends.{EndsWith, commands_of, last_policies}
use Rattle.ipe_replay.specs.Phases.{lines_in}
use Rattle.ipe_replay.specs.Summary.{count_done, is_claim, is_command, is_hook, summary_of}
use Rattle.ipe_replay.specs.declared.counts.Counted.TheVariants.{Hooks, Placed, Commands, Done}
use Rattle.ipe_replay.specs.declared.counts.Tally.{Tally}
use Rattle.ipe_replay.specs.declared.summary.Summary.{Summary}
use Rattle.ipe_replay.specs.declared.transcript.Replayed.{Replayed}
use Rattle.ipe_replay.proofs.Few.{few-lines}
use Rattle.ipe_replay.proofs.Counting.{claims_tell, commands_tell, hooks_tell, order_counts, order_done, order_long, weave_commands, weave_counts, weave_long}

-- there are as many lines in phases as these have
lines_long : (script : Script) (files : Files) (phases : List Phase) → length (joined (map (λ (phase : Phase). lines_of script files phase.lines) phases)) ≡ length (lines_in phases)
lines_long script files [] = refl
lines_long script files (phase ∷ phases) =
    let first = lines_of script files phase.lines in
    let rest = map (λ (other : Phase). lines_of script files other.lines) phases in
    length-append first (joined rest)
    ∙ ap (λ (n : ℕ). n + length (joined rest)) (length-map phase.lines (line_of script files))
    ∙ ap (λ (n : ℕ). length phase.lines + n) (lines_long script files phases)
    ∙ sym (ap length (flat_map-cons (λ (other : Phase). other.lines) phase phases) ∙ length-append phase.lines (lines_in phases))

-- entries come to what the lines of a request file say
pub record ComeTo (script : Script) (files : Files) (entries : List Entry) : Type 0 where
  pub long : length entries ≡ length (lines_in script.phases)
  pub hooks : count_by (is_counted Hooks) entries ≡ count_by is_hook (joined (phases_of script files))
  pub placed : count_by (is_counted Placed) entries ≡ count_by is_claim (joined (phases_of script files))
  pub commands : count_by (is_counted Commands) entries ≡ count_by is_command (joined (phases_of script files))
  pub ok : count_by (is_counted Done) entries ≡ count_done (verdicts_of script) first_policies (commands_of script files)

pub told_come_to : (script : Script) (files : Files) (history : List Event) (entries : List (List Entry)) → TellInOrder script files history entries → ComeTo script files (one_list entries)
told_come_to script files history entries tell =
    subst (λ (phases : List (List Entry)). ComeTo script files (one_list phases)) (sym all) (record {
      long = order_long verdicts files machine 1 order ∙ weave_long order lines weave ∙ lines_long script files script.phases;
      hooks = order_counts verdicts files (is_counted Hooks) is_hook (hooks_tell verdicts files) machine 1 order ∙ weave_counts is_hook order lines weave;
      placed = order_counts verdicts files (is_counted Placed) is_claim (claims_tell verdicts files) machine 1 order ∙ weave_counts is_claim order lines weave;
      commands = order_counts verdicts files (is_counted Commands) is_command (commands_tell verdicts files) machine 1 order ∙ weave_counts is_command order lines weave;
      ok = order_done verdicts files machine 1 order ∙ ap (count_done verdicts first_policies) (weave_commands order lines weave);
    })
  where
    verdicts : Verdicts
    verdicts = verdicts_of script

    machine : Machine
    machine = at_the_start script

    order : List (List Line)
    order = order_of tell.printed

    lines : List (List Line)
    lines = phases_of script files

    weave : IsWeave lines order
    weave = tell.order.along.weave

    all : entries ≡ told_phases files 1 (phases_entries verdicts machine order)
    all = tell.told ∙ ap (told_phases files 1) (sym tell.order.along.replies)

-- there are no more entries than a request file may have bytes
pub few_told : (script : Script) (files : Files) (history : List Event) (entries : List (List Entry)) → TellInOrder script files history entries
    → count_lines script ≤ length (request_text script) → IsOfFile script → length (one_list entries) ≤ 16777216
few_told script files history entries tell counted of =
    subst (λ (n : ℕ). n ≤ 16777216) (sym (told_come_to script files history entries tell).long) (few-lines script script.phases refl counted of)

same_summary : (a b : Summary) → a.hooks ≡ b.hooks → a.placed ≡ b.placed → a.commands ≡ b.commands → a.ok ≡ b.ok → a.epoch ≡ b.epoch → a.active ≡ b.active → a.enforce ≡ b.enforce
    → a.success_audit ≡ b.success_audit → a ≡ b
same_summary a b hooks placed commands ok epoch active enforce success =
    ap (λ (n : ℕ). record a { hooks = n }) hooks
    ∙ ap (λ (n : ℕ). record a { hooks = b.hooks; placed = n }) placed
    ∙ ap (λ (n : ℕ). record a { hooks = b.hooks; placed = b.placed; commands = n }) commands
    ∙ ap (λ (n : ℕ). record a { hooks = b.hooks; placed = b.placed; commands = b.commands; ok = n }) ok
    ∙ ap (λ (n : ℕ). record b { epoch = n; active = a.active; enforce = a.enforce; success_audit = a.success_audit }) epoch
    ∙ ap (λ (x : Option Brief). record b { active = x; enforce = a.enforce; success_audit = a.success_audit }) active
    ∙ ap (λ (x : Bool). record b { enforce = x; success_audit = a.success_audit }) enforce
    ∙ ap (λ (x : Bool). record b { success_audit = x }) success

-- what is counted of entries, with the policies at the end, is what their run comes to
pub sums_up : (script : Script) (files : Files) (history : List Event) (entries : List (List Entry)) → TellInOrder script files history entries
    → (replayed : Replayed) → EndsWith (last_policies script files) replayed → (summary : Summary)
    → (tally : Tally) → tally ≡ tally_of (one_list entries) → summary.hooks ≡ tally.hooks → summary.placed ≡ tally.placed → summary.commands ≡ tally.commands → summary.ok ≡ tally.done
    → summary.epoch ≡ replayed.epoch → summary.active ≡ replayed.active → summary.enforce ≡ replayed.enforce → summary.success_audit ≡ replayed.success
    → summary ≡ summary_of script files
sums_up script files history entries tell replayed end summary tally told hooks placed commands ok epoch active enforce success =
    let come = told_come_to script files history entries tell in
    same_summary summary (summary_of script files) (hooks ∙ ap (λ (t : Tally). t.hooks) told ∙ come.hooks) (placed ∙ ap (λ (t : Tally). t.placed) told ∙ come.placed)
    (commands ∙ ap (λ (t : Tally). t.commands) told ∙ come.commands) (ok ∙ ap (λ (t : Tally). t.done) told ∙ come.ok)
    (epoch ∙ end.epoch) (active ∙ end.active) (enforce ∙ end.enforce) (success ∙ end.success)
