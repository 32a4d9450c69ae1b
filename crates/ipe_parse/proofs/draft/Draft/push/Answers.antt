use Rattle.std.proofs.Common.{sym}
use Rattle.ipe_parse.proofs.DraftLemmas.{Flags-nothing, Flags-of_op, Flags-global, IsOnce-push}
use Rattle.ipe_parse.proofs.draft.Draft.push.Goals as goal

pub invariant_of-self-in-Nothing : goal.invariant_of-self-in-Nothing
invariant_of-self-in-Nothing c = record {
  flags = rw c.in_ok-push.ensures.items (Flags-nothing _ _ _ c.args.statement (sym c.in-Nothing.ensures) c.args.self.now.flags);
  once = rw c.in_ok-push.ensures.items (IsOnce-push _ c.args.statement c.requires c.args.self.now.once);
}

pub invariant_of-self-in-OfOp : goal.invariant_of-self-in-OfOp
invariant_of-self-in-OfOp c = record {
  flags = rw (c.in_ok-push.ensures.items, c.number.ensures.number) (Flags-of_op _ _ _ c.args.statement c.in-OfOp.op (sym c.in-OfOp.ensures) c.args.self.now.flags);
  once = rw c.in_ok-push.ensures.items (IsOnce-push _ c.args.statement c.requires c.args.self.now.once);
}

pub invariant_of-self-in-Global : goal.invariant_of-self-in-Global
invariant_of-self-in-Global c = record {
  flags = rw c.in_ok-push.ensures.items (Flags-global _ _ _ c.args.statement (sym c.in-Global.ensures) c.args.self.now.flags);
  once = rw c.in_ok-push.ensures.items (IsOnce-push _ c.args.statement c.requires c.args.self.now.once);
}
