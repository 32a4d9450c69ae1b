use Rattle.std.proofs.Common.{◌≡◌, ◌++◌, drop}
use Rattle.std.specs.List.{flat_map}
use Rattle.ipe_requests.specs.Spelling.{seal_text}
use Rattle.ipe_requests.proofs.print.append_seals.Given as goal

-- what is appended, and what is left to append, is all of it
abbrev pub invariant-loop-seal : goal.invariant-loop-seal
invariant-loop-seal l =
    l.out.items ++ flat_map seal_text (drop l.seal-index l.seals) ≡ l.fn.out.items ++ flat_map seal_text l.seals
