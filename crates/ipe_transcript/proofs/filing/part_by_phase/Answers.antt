use Rattle.std.proofs.Common.{◌+◌, ◌==◌, ◌++◌, [], ◌∷◌, List, arith, ap, sym, ◌∙◌}
use Rattle.std.proofs.lemmas.Grind.{common_steps}
use Rattle.std.proofs.lemmas.List.Elements.{filter-append}
use Rattle.ipe_transcript.specs.declared.transcript.Entry.{Entry}
use Rattle.ipe_transcript.specs.Entries.{phase_of, of_phase}
use Rattle.ipe_transcript.proofs.filing.part_by_phase.Goals as goal

pub loop-entry-preserved : goal.loop-entry-preserved
loop-entry-preserved c = (
  grind (arith, common_steps),
  λ i within.
      c.in_ok-add_to_part.ensures.added i (omega (arith, within, c.loop-entry.invariant.0))
      ∙ ap (λ (es : List Entry). es ++ of_phase (i + 1) (c.in-Some.entry ∷ [])) (c.loop-entry.invariant.1 i within)
      ∙ sym (filter-append (λ (entry : Entry). phase_of entry == i + 1) c.loop-entry.yielded (c.in-Some.entry ∷ [])),
)
