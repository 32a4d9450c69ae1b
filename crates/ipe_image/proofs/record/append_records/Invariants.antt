use Rattle.ipe_image.proofs.Groups.{SoFar}
use Rattle.ipe_image.proofs.record.append_records.Given as goal

-- the words so far and the records of the rest are all, and so are the rules
abbrev pub invariant-loop-item : goal.invariant-loop-item
invariant-loop-item l = SoFar l.initial.words.items l.words.items l.items l.group l.number l.count l.item-index
