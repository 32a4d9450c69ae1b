use Rattle.std.proofs.Common.{◌≡◌, [], map}
use Rattle.std.specs.Ordering.{nat_cmp}
use Rattle.std.specs.BTreeMap as tree
use Rattle.ipe_transcript.specs.Entries.{actor_of, key_of}
use Rattle.ipe_transcript.specs.Filing.{filed}
use Rattle.ipe_transcript.specs.Order.{key_shown, filed_shown}
use Rattle.ipe_transcript.proofs.Noting.{latest_first, AreLatest}
use Rattle.ipe_transcript.proofs.filing.file.Given as goal

-- what is filed so far, and the latest key of each actor so far
abbrev pub invariant-loop-entry : goal.invariant-loop-entry
invariant-loop-entry l =
    (map filed_shown l.filed.items ≡ filed actor_of key_of [] l.yielded)
    × AreLatest actor_of key_of key_shown (tree.get nat_cmp l.latest) (latest_first [] l.yielded)
