use Rattle.std.proofs.Common.{◌≡◌, ◌∙◌, ◌+◌, ◌∷◌, ℕ, Vec, Global, drop, ap, sym, arith}
use Rattle.std.proofs.lemmas.List.{drop_more}
use Rattle.ipe_policy.specs.declared.statement.Statement.{Statement}
use Rattle.ipe_policy.specs.Statement.{rule_of}
use Rattle.ipe_image.proofs.Groups.{not-a-rule, so-far-all, so-far-first, so-far-kept, so-far-none, so-far-other}
use Rattle.ipe_image.proofs.record.append_records.Goals.{in-Rule+then-same_op+in_ok-append_rule, in-Rule+else-same_op, in_default}
use Rattle.ipe_image.proofs.record.append_records.Goals as goal

pub loop-item-init : goal.loop-item-init
loop-item-init c = so-far-first c.args.words.now.items c.args.items.now c.args.group

pub overflow_add-number : goal.overflow_add-number
overflow_add-number c = let few = c.loop-item.invariant.few in omega arith

pub overflow_add-count : goal.overflow_add-count
overflow_add-count c =
    let few = c.loop-item.invariant.few in
    let fewer = c.loop-item.invariant.fewer in
    omega arith

pub loop-item-preserved : goal.loop-item-preserved
loop-item-preserved c =
    let items = c.args.items.now in
    let i = c.loop-item.item-index in
    let item = c.item-item.result in
    let at : drop i items ≡ item ∷ drop (i + 1) items =
    drop_more items i item c.loop-item-test.true
    ∙ ap (λ (one : Statement). one ∷ drop (i + 1) items) (sym c.item-item.is) in
    elim c.match-item.branch [
      | in-Rule+then-same_op+in_ok-append_rule w ↦
          so-far-kept _ _ _ items c.args.group _ _ i _ _ item
          (record { op = w.in-Rule.op; properties = w.in-Rule.props; action = w.in-Rule.action }) at
          (ap rule_of w.in-Rule.is) (sym w.if-same_op.ensures)
          (ap (λ (v : Vec ℕ Global). v.items) w.words-is ∙ w.in_ok-append_rule.ensures) w.number-is w.count-is
          c.loop-item.invariant
      | in-Rule+else-same_op w ↦
          so-far-other _ _ _ items c.args.group _ _ i _ _ item
          (record { op = w.in-Rule.op; properties = w.in-Rule.props; action = w.in-Rule.action }) at
          (ap rule_of w.in-Rule.is) (sym w.if-same_op.ensures)
          (ap (λ (v : Vec ℕ Global). v.items) w.words-is) w.number-is w.count-is c.loop-item.invariant
      | in_default w ↦
          so-far-none _ _ _ items c.args.group _ _ i _ _ item at (not-a-rule item w.in_default.not-Rule)
          (ap (λ (v : Vec ℕ Global). v.items) w.words-is) w.number-is w.count-is c.loop-item.invariant
    ]

pub returns-clause-records : goal.returns-clause-records
returns-clause-records c =
    (so-far-all _ _ c.args.items.now c.args.group _ _ c.loop-item.item-index (omega arith) c.loop-item.invariant).words_are

pub returns-clause-count : goal.returns-clause-count
returns-clause-count c =
    (so-far-all _ _ c.args.items.now c.args.group _ _ c.loop-item.item-index (omega arith) c.loop-item.invariant).counted
