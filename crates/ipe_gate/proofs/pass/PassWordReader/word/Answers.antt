use Rattle.std.proofs.Common.{sym, ◌∙◌}
use Rattle.ipe_gate.specs.Seats.{seen, slot_held}
use Rattle.ipe_gate.proofs.Reading.{word_known}
use Rattle.ipe_gate.proofs.pass.PassWordReader.word.Goals as goal

pub word-requires : goal.word-requires
word-requires c =
    let p = c.args.self.now in
    let k = word_known (slot_held p) c.args.i (seen p) c.requires in
    record { held = k.some; within = k.within }

pub returns-clause-word : goal.returns-clause-word
returns-clause-word c =
    let p = c.args.self.now in
    let k = word_known (slot_held p) c.args.i (seen p) c.requires in
    c.word.ensures.word_is ∙ sym k.word

pub returns-clause-whole : goal.returns-clause-whole
returns-clause-whole c = let p = c.args.self.now in (word_known (slot_held p) c.args.i (seen p) c.requires).whole

pub returns-clause-kept : goal.returns-clause-kept
returns-clause-kept c = let r = c.word.ensures in (λ j. (r.same.gate j, r.same.number j, r.seen_is j))
