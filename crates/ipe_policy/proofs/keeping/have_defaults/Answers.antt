use Rattle.std.proofs.Common.{◌≡◌, ◌∙◌, ◌+◌, ◌<◌, ◌&&◌, Bool, true, false, drop, get_or, length, ap, sym, arith}
use Rattle.std.specs.Prelude.{nat_le}
use Rattle.std.specs.List.{list_all}
use Rattle.std.proofs.lemmas.Bool.{and_right}
use Rattle.std.proofs.lemmas.List.{at_drop_more}
use Rattle.ipe_policy.specs.declared.op.Op.TheVariants.{Execute}
use Rattle.ipe_policy.specs.Policy.{global_defaults, has_one_default}
use Rattle.ipe_policy.specs.Statement.{operations}
use Rattle.ipe_policy.proofs.keeping.have_defaults.Goals as goal

pub loop-op-preserved : goal.loop-op-preserved
loop-op-preserved c =
    let i = c.loop-op.op-index in
    let test = has_one_default c.args.items.now in
    let some : i < 7 = omega arith in
    let one : test (get_or operations i Execute) ≡ true = sym c.has_one_default.ensures ∙ c.if-not-has_one_default.false in
    let more = list_all test (drop (i + 1) operations) in
    ap (λ (b : Bool). b && more) (sym one)
    ∙ sym (at_drop_more (list_all test) operations i Execute some) ∙ c.loop-op.invariant

pub returns-then-not-has_one_default : goal.returns-then-not-has_one_default
returns-then-not-has_one_default c =
    let i = c.loop-op.op-index in
    let test = has_one_default c.args.items.now in
    let some : i < 7 = omega arith in
    let one : test (get_or operations i Execute) ≡ false = sym c.has_one_default.ensures ∙ c.if-not-has_one_default.true in
    let more = list_all test (drop (i + 1) operations) in
    let none : list_all test operations ≡ false = sym c.loop-op.invariant
    ∙ at_drop_more (list_all test) operations i Execute some ∙ ap (λ (b : Bool). b && more) one in
    sym (and_right (nat_le (length (global_defaults c.args.items.now)) 1) (list_all test operations) none)
