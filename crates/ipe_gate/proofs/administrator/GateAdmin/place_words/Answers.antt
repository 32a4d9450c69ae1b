use Rattle.std.proofs.Common.{length-set, true, ◌≡◌, ◌<◌, length, ℕ, List, sym, ◌∙◌, subst, refl, arith}
use Rattle.ipe_gate.proofs.Placing.{Placed, placed_none, placed_more, placed_all}
use Rattle.ipe_gate_rule.proofs.Images.{image_begins}
use Rattle.ipe_gate.proofs.Sums.{bound_set, bound_more}
use Rattle.ipe_gate_rule.specs.Regions.{BeginsWithImage}
use Rattle.ipe_gate_rule.specs.History.{content}
use mathlib.Core.Logic.{dite}
use native.Mathlib.Decide.{ℕ_discrete}
use Rattle.ipe_gate.proofs.administrator.GateAdmin.place_words.Goals as goal

pub loop-index-init : goal.loop-index-init
loop-index-init c = placed_none c.find-slot.new.self c.find-slot.result c.args.words.now c.find-slot.ensures.free

pub loop-index-preserved : goal.loop-index-preserved
loop-index-preserved c = placed_more c.find-slot.new.self c.loop-index.self c.store.new.self c.find-slot.result c.loop-index.index _ c.args.words.now c.loop-index.invariant c.store.ensures refl

pub returns : goal.returns
returns c =
    let o = c.find-slot.new.self in
    let q = c.loop-index.self in
    let ws : List ℕ = c.args.words.now in
    let done : c.loop-index.index ≡ length ws = (let a = c.loop-index-test.false in let b = c.loop-index.auto.index-end in omega arith) in
    placed_all c.args.self.now o q _ c.find-slot.result ws c.find-slot.ensures (subst (λ n. Placed o q c.find-slot.result n ws) done c.loop-index.invariant) refl refl refl refl

pub invariant_of-self-clause-images : goal.invariant_of-self-clause-images
invariant_of-self-clause-images c =
    let q = c.loop-index.self in
    let slot = c.find-slot.result in
    let ws : List ℕ = c.args.words.now in
    let done : c.loop-index.index ≡ length ws = (let a = c.loop-index-test.false in let b = c.loop-index.auto.index-end in omega arith) in
    λ k is. dite (ℕ_discrete k slot)
    (λ e. subst (λ z. BeginsWithImage (λ i. content z i q.seat.me.0.seen)) (sym e) (image_begins (λ i. content slot i q.seat.me.0.seen) ws c.requires.short (λ i lt. c.loop-index.invariant.region i (subst (λ n. i < n) (sym done) lt)) c.requires.image))
    (λ ne. q.images k (bound_set q.bound slot k is ne))

pub invariant_of-self-clause-bound_len : goal.invariant_of-self-clause-bound_len
invariant_of-self-clause-bound_len c = let q = c.loop-index.self in length-set q.bound c.find-slot.result true ∙ q.bound_len

pub invariant_of-self-clause-active_bound : goal.invariant_of-self-clause-active_bound
invariant_of-self-clause-active_bound c = let q = c.loop-index.self in λ pos. bound_more q.bound c.find-slot.result q.active (q.active_bound pos)
