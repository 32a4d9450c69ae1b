use Rattle.std.proofs.Common.{◌≡◌, ◌≤◌, List, length, ap, sym, subst, ◌∙◌, arith}
use Rattle.std.proofs.lemmas.Result.{IfOk-weaker}
use Rattle.ipe_gate.specs.Meeting.{history}
use Rattle.ipe_requests.specs.Requests.{Script}
use Rattle.ipe_requests.specs.Spelling.{request_text}
use Rattle.ipe_requests.specs.declared.script.Phase.{Phase}
use Rattle.ipe_transcript.specs.declared.transcript.Entry.{Entry}
use Rattle.ipe_transcript.specs.Order.{AreOrdered}
use Rattle.ipe_lines.specs.Files.{files_of}
use Rattle.ipe_replay.proofs.Few.{few-phases}
use Rattle.ipe_replay.proofs.Running.{script_run}
use Rattle.ipe_replay.proofs.transcript.transcript_of.Goals as goal

pub overflow_cast-phases : goal.overflow_cast-phases
overflow_cast-phases c =
    let phases : c.as_slice.result.now ≡ c.args.requests.now.phases =
    c.as_slice.ensures ∙ ap (λ (s : Script). s.phases) c.requests.view_is in
    let few : length c.as_slice.result.now ≤ 16777216 =
    subst (λ (ps : List Phase). length ps ≤ 16777216) (sym phases)
    (few-phases c.args.requests.now c.requests_are_read_of_their_spelling.ensures) in
    omega (arith, few)

pub returns : goal.returns
returns c =
    let script = c.args.requests.now in
    let files = files_of script c.args.images.now in
    let phases : c.as_slice.result.now ≡ script.phases = c.as_slice.ensures ∙ ap (λ (s : Script). s.phases) c.requests.view_is in
    let run = script_run c.requires.0 c.args.images.now script c.args.entries c.args.closed.now c.requires.1 c.requires.2 in
    IfOk-weaker c.order.result _ _ (λ transcript ordered.
    c.gate_run_is_told_in_order.ensures (request_text script) script files (history c.args.closed.now) run.0 transcript
    c.requests_are_read_of_their_spelling.ensures.read run.1 run.2
    (subst (λ (entries : List Entry). AreOrdered (length script.phases) entries transcript) run.3
    (subst (λ (ps : List Phase). AreOrdered (length ps) c.args.entries transcript) phases ordered))) c.order.ensures
