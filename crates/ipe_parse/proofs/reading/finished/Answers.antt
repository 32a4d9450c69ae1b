use Rattle.std.proofs.Common.{◌≡◌, None}
use Rattle.ipe_parse.specs.Defaults.{first_missing}
use Rattle.ipe_parse.proofs.DraftLemmas.{each-has-one}
use Rattle.ipe_parse.proofs.reading.finished.Goals as goal

pub invariant_of-result : goal.invariant_of-result
invariant_of-result c =
    let items = c.args.draft.items.items in
    let none : first_missing items ≡ None = cc in
    rw c.from_vec.ensures (record {
      few = c.requires.few;
      global_once = c.args.draft.once.global_once;
      op_once = c.args.draft.once.op_once;
      each_has_one = each-has-one items none;
      statements = c.requires.statements;
    })
