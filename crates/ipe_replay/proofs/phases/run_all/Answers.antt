use Rattle.std.proofs.Common.{◌≡◌, ℕ, ◌<◌, ◌≤◌, List, [], Ok, length, map, sym, ap, subst, ◌∙◌, arith, rules}
use Rattle.ipe_gate.specs.Meeting.{AreAllPasses, IsClosing}
use Rattle.ipe_admin.specs.Outcomes.{gate_in}
use Rattle.ipe_requests.specs.Requests.{Script, requests_of}
use Rattle.ipe_requests.specs.Spelling.{request_text}
use Rattle.ipe_requests.specs.declared.script.Phase.{Phase}
use Rattle.ipe_requests.specs.declared.script.PhaseLine.{PhaseLine}
use Rattle.ipe_lines.specs.Asked.{verdicts_of}
use Rattle.ipe_lines.specs.Files.{files_of}
use Rattle.ipe_transcript.specs.declared.transcript.Entry.{Entry}
use Rattle.ipe_workers.specs.declared.worker.Worker.{Worker}
use Rattle.ipe_workers.specs.Beside.{AllReady}
use Rattle.ipe_workers.specs.Phases.{AreLevel}
use Rattle.ipe_workers.specs.Prepared.{files_in}
use Rattle.ipe_workers.specs.Workers.{pass_of}
use Rattle.ipe_replay.specs.Ends.{end_of, last_policies}
use Rattle.ipe_replay.specs.Phases.{HavePhases, IsWholeRun, lines_in}
use Rattle.ipe_replay.proofs.Ending.{Ran, all_passes, ends, new_level, new_long, new_ready, whole_run}
use Rattle.ipe_replay.proofs.Few.{few-lines, few-phases}
use Rattle.ipe_replay.proofs.Running.{may_run, whole_list}
use Rattle.ipe_replay.proofs.phases.run_all.Goals as goal

pub start-requires-clause-some : goal.start-requires-clause-some
start-requires-clause-some g c =
    let script = c.args.requests.now in
    let rule = c.requests_keep_their_rules.ensures.workers (request_text script) script c.requests_are_read_of_their_spelling.ensures.read in
    subst (λ (n : ℕ). 0 < n) (sym (ap (λ (s : Script). s.workers) c.requests.view_is)) rule.0

pub start-requires-clause-few : goal.start-requires-clause-few
start-requires-clause-few g c =
    let script = c.args.requests.now in
    let rule = c.requests_keep_their_rules.ensures.workers (request_text script) script c.requests_are_read_of_their_spelling.ensures.read in
    subst (λ (n : ℕ). n ≤ 30) (sym (ap (λ (s : Script). s.workers) c.requests.view_is)) rule.1

pub run_phases-requires-clause-signer : goal.run_phases-requires-clause-signer
run_phases-requires-clause-signer g c κs within = c.requires.signer ∙ ap verdicts_of (sym c.requires.requests)

pub run_phases-requires-clause-may : goal.run_phases-requires-clause-may
run_phases-requires-clause-may g c κs within =
    let objects = c.args.setting.now.objects.now in
    let images = c.args.setting.now.images.now in
    let text = request_text c.args.requests.now in
    let phases = c.as_slice-phases.ensures ∙ ap (λ (s : Script). s.phases) (c.requests.view_is ∙ sym c.requires.requests) in
    let read : requests_of text ≡ Ok objects.script = c.requests_are_read_of_their_spelling.ensures.read ∙ ap (λ (s : Script). Ok s) (sym c.requires.requests) in
    may_run objects images c.as_slice-phases.result.now phases c.requires.prepared
    (c.requests_keep_their_rules.ensures.hooks text objects.script read)
    (c.numbers_of_lines_rise.ensures text objects.script (files_in objects images) read)

pub run_phases-requires-clause-few : goal.run_phases-requires-clause-few
run_phases-requires-clause-few g c κs within =
    let phases = c.as_slice-phases.ensures ∙ ap (λ (s : Script). s.phases) c.requests.view_is in
    subst (λ (ps : List Phase). length ps ≤ 16777216) (sym phases) (few-phases c.args.requests.now c.requests_are_read_of_their_spelling.ensures)

pub run_phases-requires-clause-serials : goal.run_phases-requires-clause-serials
run_phases-requires-clause-serials g c κs within =
    let few : length (lines_in c.as_slice-phases.result.now) ≤ 16777216 =
    few-lines c.args.requests.now c.as_slice-phases.result.now (c.as_slice-phases.ensures ∙ ap (λ (s : Script). s.phases) c.requests.view_is)
    (c.requests_keep_their_rules.ensures.few (request_text c.args.requests.now) c.args.requests.now c.requests_are_read_of_their_spelling.ensures.read)
    c.requests_are_read_of_their_spelling.ensures in
    let first = ap (λ p. p.next) c.in_ok-admin.ensures.policies in
    omega (arith, first, few)

pub run_phases-requires-clause-ready : goal.run_phases-requires-clause-ready
run_phases-requires-clause-ready g c κs within =
    let script = c.args.requests.now in
    let lines : List PhaseLine = lines_in c.as_slice-phases.result.now in
    let few : length lines ≤ 16777216 =
    few-lines script c.as_slice-phases.result.now (c.as_slice-phases.ensures ∙ ap (λ (s : Script). s.phases) c.requests.view_is)
    (c.requests_keep_their_rules.ensures.few (request_text script) script c.requests_are_read_of_their_spelling.ensures.read) c.requests_are_read_of_their_spelling.ensures in
    let rule = c.requests_keep_their_rules.ensures.workers (request_text script) script c.requests_are_read_of_their_spelling.ensures.read in
    let most : c.requests.inside.workers ≤ 30 = subst (λ (n : ℕ). n ≤ 30) (sym (ap (λ (s : Script). s.workers) c.requests.view_is)) rule.1 in
    subst (AllReady c.args.setting.now.objects.now c.args.setting.now.images.now lines) (sym c.deref_mut.ensures.value)
    (new_ready c.args.setting.now.objects.now c.args.setting.now.images.now c.requests.inside.workers c.in_ok-admin.admin c.in_ok-admin.passes.items c.in_ok-workers.workers.items lines most few
    c.in_ok-admin.ensures c.in_ok-workers.ensures)

pub run_phases-requires-clause-all : goal.run_phases-requires-clause-all
run_phases-requires-clause-all g c κs within =
    let objects = c.args.setting.now.objects.now in
    let images = c.args.setting.now.images.now in
    ap length c.deref_mut.ensures.value
    ∙ new_long objects images c.requests.inside.workers c.in_ok-admin.admin c.in_ok-admin.passes.items c.in_ok-workers.workers.items c.in_ok-admin.ensures c.in_ok-workers.ensures
    ∙ ap (λ (s : Script). s.workers) (c.requests.view_is ∙ sym c.requires.requests)

pub run_phases-requires-clause-level : goal.run_phases-requires-clause-level
run_phases-requires-clause-level g c κs within =
    let objects = c.args.setting.now.objects.now in
    let images = c.args.setting.now.images.now in
    subst (AreLevel [] c.in_ok-admin.admin) (sym c.deref_mut.ensures.value)
    (new_level objects images c.requests.inside.workers c.in_ok-admin.admin c.in_ok-admin.passes.items c.in_ok-workers.workers.items c.in_ok-admin.ensures c.in_ok-workers.ensures)

-- the workers that are handed on are those that ran
pub close-requires : goal.close-requires
close-requires g c =
    let objects = c.args.setting.now.objects.now in
    let images = c.args.setting.now.images.now in
    let vs = c.run_phases.new.workers in
    let ran : Ran objects images c.requests.inside.workers c.in_ok-admin.admin c.in_ok-admin.passes.items c.as_slice-phases.result.now c.run_phases.new.admin c.in_ok-workers.workers.items vs
    c.in_ok-entries.entries.items = record {
      first = c.in_ok-admin.ensures;
      made = c.in_ok-workers.ensures;
      ran =
          subst (λ (ws : List Worker). HavePhases objects images c.as_slice-phases.result.now c.in_ok-admin.admin c.run_phases.new.admin ws vs c.in_ok-entries.entries.items)
          c.deref_mut.ensures.value c.in_ok-entries.ensures;
    } in
    let long : length vs ≡ length c.in_ok-workers.workers.items = search rules in
    let all : length c.in_ok-workers.workers.items ≡ c.in_ok-workers.workers.len = search rules in
    let whole = whole_list vs c.in_ok-workers.workers.items c.in_ok-workers.workers.len long all in
    subst (λ (us : List Worker). AreAllPasses (gate_in c.run_phases.new.admin) (map pass_of us)) (sym whole)
    (all_passes objects images c.requests.inside.workers c.in_ok-admin.admin c.in_ok-admin.passes.items c.as_slice-phases.result.now c.run_phases.new.admin
    c.in_ok-workers.workers.items vs c.in_ok-entries.entries.items ran)

pub returns : goal.returns
returns g c =
    let objects = c.args.setting.now.objects.now in
    let images = c.args.setting.now.images.now in
    let vs = c.run_phases.new.workers in
    let ran : Ran objects images c.requests.inside.workers c.in_ok-admin.admin c.in_ok-admin.passes.items c.as_slice-phases.result.now c.run_phases.new.admin c.in_ok-workers.workers.items vs
    c.in_ok-entries.entries.items = record {
      first = c.in_ok-admin.ensures;
      made = c.in_ok-workers.ensures;
      ran =
          subst (λ (ws : List Worker). HavePhases objects images c.as_slice-phases.result.now c.in_ok-admin.admin c.run_phases.new.admin ws vs c.in_ok-entries.entries.items)
          c.deref_mut.ensures.value c.in_ok-entries.ensures;
    } in
    let long : length vs ≡ length c.in_ok-workers.workers.items = search rules in
    let all : length c.in_ok-workers.workers.items ≡ c.in_ok-workers.workers.len = search rules in
    let whole = whole_list vs c.in_ok-workers.workers.items c.in_ok-workers.workers.len long all in
    let same = c.requests.view_is ∙ sym c.requires.requests in
    let closing : IsClosing (gate_in c.run_phases.new.admin) (map pass_of vs) c.in_ok-closed.closed =
    subst (λ (us : List Worker). IsClosing (gate_in c.run_phases.new.admin) (map pass_of us) c.in_ok-closed.closed) whole c.in_ok-closed.ensures in
    record {
      whole =
          subst (λ (entries : List Entry). IsWholeRun objects images entries c.in_ok-closed.closed) (sym c.from_vec.ensures)
          (whole_run objects images c.requests.inside.workers c.phases_meet.ensures.run c.in_ok-admin.admin c.in_ok-admin.passes.items c.as_slice-phases.result.now c.run_phases.new.admin
          c.in_ok-workers.workers.items vs c.in_ok-entries.entries.items c.in_ok-closed.closed ran closing
          (sym (c.as_slice-phases.ensures ∙ ap (λ (s : Script). s.phases) same)) (sym (ap (λ (s : Script). s.workers) same)));
      end =
          c.in_ok-end.ensures
          ∙ ap end_of (c.registry.ensures ∙ ends objects images c.requests.inside.workers c.in_ok-admin.admin c.in_ok-admin.passes.items c.as_slice-phases.result.now c.run_phases.new.admin
          c.in_ok-workers.workers.items vs c.in_ok-entries.entries.items c.in_ok-closed.closed ran closing
          (sym (c.as_slice-phases.ensures ∙ ap (λ (s : Script). s.phases) same)))
          ∙ ap (λ (s : Script). end_of (last_policies s (files_of s images))) c.requires.requests;
    }
