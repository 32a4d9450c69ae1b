use Rattle.std.proofs.Common.{◌≤◌, List, length, refl, sym, ap, subst, ◌∙◌}
use Rattle.ipe_gate.specs.Meeting.{history}
use Rattle.ipe_lines.specs.Files.{files_of}
use Rattle.ipe_lines.specs.Told.{one_list}
use Rattle.ipe_requests.specs.Spelling.{request_text}
use Rattle.ipe_transcript.specs.declared.transcript.Entry.{Entry}
use Rattle.ipe_replay.specs.Counts.{tally_of}
use Rattle.ipe_replay.proofs.Summing.{few_told, sums_up}
use Rattle.ipe_replay.proofs.summary.summarize.Goals as goal

pub of-tally-requires : goal.of-tally-requires
of-tally-requires g c =
    let script = c.args.requests.now in
    let read = c.requests_are_read_of_their_spelling.ensures.read in
    let few = few_told script (files_of script c.args.images.now) (history c.in_ok-transcript.field-0.closed) c.in_ok-transcript.field-0.transcript c.in_ok-transcript.ensures.tell
    (c.requests_keep_their_rules.ensures.few (request_text script) script read) c.requests_are_read_of_their_spelling.ensures in
    subst (λ (entries : List (List Entry)). length (one_list entries) ≤ 16777216) (sym c.phases.ensures) few

pub returns : goal.returns
returns g c =
    let script = c.args.requests.now in
    let files = files_of script c.args.images.now in
    record {
      entries = c.in_ok-transcript.field-0.transcript;
      tell = c.in_ok-transcript.ensures.tell;
      sums = sums_up script files (history c.in_ok-transcript.field-0.closed) c.in_ok-transcript.field-0.transcript c.in_ok-transcript.ensures.tell c.in_ok-transcript.field-0 c.in_ok-transcript.ensures.end
          _ c.of-tally.result
          (c.of-tally.ensures ∙ ap (λ (entries : List (List Entry)). tally_of (one_list entries)) c.phases.ensures)
          refl refl refl refl refl refl refl refl;
    }
