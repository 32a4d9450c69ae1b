use Rattle.ipe_parse.proofs.draft.Draft.repeats.Goals as goal

pub returns-in-OpDefault : goal.returns-in-OpDefault
returns-in-OpDefault c = rw c.in-OpDefault.is c.has_op_default.ensures
