use Rattle.std.proofs.Common.{◌≡◌, append_assoc}
use Rattle.embedded_gate.proofs.asking.answers.Goals as goal

pub returns : goal.returns
returns c =
    simp (c.in_ok-write-3.ensures.bytes, c.in_ok-write-2.ensures.bytes, c.in_ok-write.ensures.bytes, c.new-text.ensures.bytes, append_assoc)
