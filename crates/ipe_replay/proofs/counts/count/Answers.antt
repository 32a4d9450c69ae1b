use Rattle.std.proofs.Common.{length, List, take, ap, ◌∙◌, arith}
use Rattle.std.proofs.lemmas.List.Folds.{length-flat_map-take}
use Rattle.std.proofs.lemmas.List.Sums.{count_by-le-length}
use Rattle.ipe_lines.specs.Told.{one_list}
use Rattle.ipe_transcript.specs.declared.transcript.Entry.{Entry}
use Rattle.ipe_replay.specs.Counts.{is_counted}
use Rattle.ipe_replay.proofs.counts.count.Goals as goal

pub overflow_add-count : goal.overflow_add-count
overflow_add-count c =
    let phases : List (List Entry) = c.args.phases.now in
    let before : List Entry = one_list (take c.loop-phase.phase-index phases) in
    let some = count_by-le-length (is_counted c.args.what) before in
    let own = count_by-le-length (is_counted c.args.what) c.as_slice.result.now in
    let is = c.loop-phase.invariant in
    let counted = c.count_in.ensures in
    let all = length-flat_map-take (λ (entries : List Entry). entries) phases c.loop-phase.phase-index c.phase-item.result c.loop-phase-test.true in
    let entries = ap (λ (es : List Entry). length es) (c.as_slice.ensures ∙ c.phase-item.is) in
    omega (arith, some, own, is, counted, all, entries, c.requires)
