use Rattle.std.proofs.Common.{◌≡◌, ◌++◌, List, Ok, ap, ◌∙◌, length, arith}
use Rattle.std.specs.List.{flat_map}
use Rattle.ipe_requests.specs.declared.script.TextLine.{TextLine}
use Rattle.ipe_requests.specs.declared.script.VolumeLine.{VolumeLine}
use Rattle.ipe_requests.specs.declared.script.FileLine.{FileLine}
use Rattle.ipe_requests.specs.declared.script.SealLine.{SealLine}
use Rattle.ipe_requests.specs.declared.script.MarkLine.{MarkLine}
use Rattle.ipe_requests.specs.declared.script.Phase.{Phase}
use Rattle.ipe_requests.specs.Requests.{Script, requests_of}
use Rattle.ipe_requests.specs.Spelling.{file_text, mark_text, phase_text, request_text, seal_text, text_text, volume_text}
use Rattle.ipe_requests.proofs.Printed.{printed}
use Rattle.ipe_requests.proofs.print.print_requests.Goals as goal

-- what is printed is the spelling
whole : (c : goal.In_ok-extend_from_slice) → c.extend_from_slice.new.self.items ≡ request_text (record {
  workers = c.requests.inside.workers;
  texts = c.requests.inside.texts;
  volumes = c.requests.inside.volumes;
  files = c.requests.inside.files;
  seals = c.requests.inside.seals;
  marks = c.requests.inside.marks;
  phases = c.requests.inside.phases;
})
whole c =
    printed (record {
      workers = c.requests.inside.workers;
      texts = c.requests.inside.texts;
      volumes = c.requests.inside.volumes;
      files = c.requests.inside.files;
      seals = c.requests.inside.seals;
      marks = c.requests.inside.marks;
      phases = c.requests.inside.phases;
    }) c.in_ok-out.out.items c.append_texts.new.out.items c.append_volumes.new.out.items c.append_files.new.out.items
    c.append_seals.new.out.items c.append_marks.new.out.items c.append_phases.new.out.items
    c.extend_from_slice.new.self.items c.in_ok-out.ensures
    (c.in_ok-append_texts.ensures ∙ ap (λ (xs : List TextLine). c.in_ok-out.out.items ++ flat_map text_text xs) c.as_slice.ensures)
    (c.in_ok-append_volumes.ensures ∙ ap (λ (xs : List VolumeLine). c.append_texts.new.out.items ++ flat_map volume_text xs) c.as_slice-2.ensures)
    (c.in_ok-append_files.ensures ∙ ap (λ (xs : List FileLine). c.append_volumes.new.out.items ++ flat_map file_text xs) c.as_slice-3.ensures)
    (c.in_ok-append_seals.ensures ∙ ap (λ (xs : List SealLine). c.append_files.new.out.items ++ flat_map seal_text xs) c.as_slice-4.ensures)
    (c.in_ok-append_marks.ensures ∙ ap (λ (xs : List MarkLine). c.append_seals.new.out.items ++ flat_map mark_text xs) c.as_slice-5.ensures)
    (c.in_ok-append_phases.ensures ∙ ap (λ (xs : List Phase). c.append_marks.new.out.items ++ flat_map phase_text xs) c.as_slice-6.ensures)
    c.in_ok-extend_from_slice.ensures.items

pub returns-clause-bytes : goal.returns-clause-bytes
returns-clause-bytes c = whole c ∙ ap request_text c.requests.view_is

pub returns-clause-read : goal.returns-clause-read
returns-clause-read c =
    ap requests_of (whole c) ∙ c.requests.invariant.read ∙ ap (λ (s : Script). Ok s) c.requests.view_is

pub returns-clause-few : goal.returns-clause-few
returns-clause-few c = omega (arith, ap length (whole c), c.requests.invariant.few)
