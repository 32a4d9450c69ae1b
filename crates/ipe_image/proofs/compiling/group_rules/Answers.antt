use Rattle.std.proofs.Common.{◌≡◌, ◌∙◌, ◌+◌, ◌<◌, ℕ, length, ap, arith}
use Rattle.std.specs.List.{filter_map}
use Rattle.ipe_policy.specs.Statement.{rule_of}
use Rattle.ipe_image.specs.Image.{place_if_any}
use Rattle.ipe_image.proofs.Tabling.{tabled-all, tabled-first, tabled-next}
use Rattle.ipe_image.proofs.compiling.group_rules.Goals as goal

pub loop-op-init : goal.loop-op-init
loop-op-init c =
    tabled-first (filter_map rule_of c.args.items.now) _ _ _ c.new.ensures c.new-2.ensures c.new-3.ensures.items

pub push-requires : goal.push-requires
push-requires c = let many = c.loop-op.invariant.many_places in omega arith

pub push-requires-in-loop-op : goal.push-requires-in-loop-op
push-requires-in-loop-op c = let many = c.loop-op.invariant.many_counts in omega arith

pub loop-op-preserved : goal.loop-op-preserved
loop-op-preserved c =
    let i = c.loop-op.op-index in
    let some : i < 7 = omega arith in
    let len : c.len.result ≡ length c.loop-op.tables.records.items = omega arith in
    tabled-next (filter_map rule_of c.args.items.now) i c.in_ok-count.count c.place_if_any.result _ _ _ _ _ _ some
    c.in_ok-count.ensures.count
    (c.place_if_any.ensures ∙ ap (λ (n : ℕ). place_if_any (25 + n) c.in_ok-count.count) len)
    c.in_ok-count.ensures.records c.push.ensures.items c.push-in-loop-op.ensures.items c.loop-op.invariant

pub returns-clause-places : goal.returns-clause-places
returns-clause-places c =
    (tabled-all (filter_map rule_of c.args.items.now) c.loop-op.op-index _ _ _ (omega arith) c.loop-op.invariant).places_are

pub returns-clause-counts : goal.returns-clause-counts
returns-clause-counts c =
    (tabled-all (filter_map rule_of c.args.items.now) c.loop-op.op-index _ _ _ (omega arith) c.loop-op.invariant).counts_are

pub returns-clause-records : goal.returns-clause-records
returns-clause-records c =
    (tabled-all (filter_map rule_of c.args.items.now) c.loop-op.op-index _ _ _ (omega arith) c.loop-op.invariant).records_are
