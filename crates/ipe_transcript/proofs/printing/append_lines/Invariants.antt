use Rattle.std.proofs.Common.{◌≡◌, ◌++◌, drop}
use Rattle.std.specs.List.{flat_map}
use Rattle.line_words.specs.Lines.{line_text}
use Rattle.ipe_transcript.proofs.printing.append_lines.Given as goal

-- what is appended, and what the lines that are left will add, is what all the lines add
abbrev pub invariant-loop-line : goal.invariant-loop-line
invariant-loop-line l =
    l.out.items ++ flat_map line_text (drop l.line-index l.lines) ≡ l.fn.out.items ++ flat_map line_text l.lines
