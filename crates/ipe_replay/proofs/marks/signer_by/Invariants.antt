use Rattle.std.proofs.Common.{◌≡◌, map, take}
use Rattle.ipe_lines.specs.Asked.{mark_of}
use Rattle.ipe_replay.specs.Digests.{AreDigests}
use Rattle.ipe_replay.proofs.marks.signer_by.Given as goal

-- the marks so far are those of the lines so far, and what is known of digests is right
abbrev pub invariant-loop-line : goal.invariant-loop-line
invariant-loop-line l =
    (l.marks.items ≡ map (mark_of l.declared) (take l.line-index l.lines)) × AreDigests l.declared l.known.items
