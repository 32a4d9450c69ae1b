use Rattle.std.proofs.Common.{◌≡◌, ◌++◌, drop}
use Rattle.std.specs.List.{flat_map}
use Rattle.ipe_transcript.specs.Text.{entry_text, phase_text}
use Rattle.ipe_transcript.proofs.text.append_phase.Given as goal

-- what is appended, and what the entries that are left will add, is what the phase adds
abbrev pub invariant-loop-entry : goal.invariant-loop-entry
invariant-loop-entry l =
    l.out.items ++ flat_map entry_text (drop l.entry-index l.entries) ≡ l.fn.out.items ++ phase_text l.fn.number l.entries
