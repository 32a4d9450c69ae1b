use Rattle.std.proofs.Common.{ap, true≢false, rules, ◌+◌, [], sym, ◌∙◌, subst, arith}
use Rattle.ipe_gate.specs.Opening.{AreFirstWords}
use Rattle.ipe_gate_rule.specs.Words.{table_words}
use Rattle.ipe_gate_rule.specs.Cuts.{rest_view}
use Rattle.ipe_gate_rule.specs.History.{switched_out}
use Rattle.ipe_gate_rule.specs.Legal.{IsSound}
use Rattle.ipe_gate_rule.proofs.Joining.{opens, new_pass}
use Rattle.ipe_gate.proofs.Sums.{zeros_at, falses_at}
use Rattle.ipe_gate.proofs.Places.{count_snoc, fresh_snoc}
use Rattle.ipe_gate.proofs.opening.start.Goals as goal

pub of_words-requires : goal.of_words-requires
of_words-requires c =
    let f = subst (λ ws. AreFirstWords table_words ws) (sym c.as_slice.ensures.value) c.in_ok-words.ensures in
    opens c.as_slice.result.now f.0 f.1 f.2

pub split_seat-pass_seat-requires : goal.split_seat-pass_seat-requires
split_seat-pass_seat-requires c =
    let i = c.loop-number.invariant in
    (search rules, search rules, new_pass _ _ c.loop-number.number (ap (λ m. m.0.role) i.view) (let t = c.loop-number-test.true in let few = c.requires.few in omega arith))

pub loop-number-preserved : goal.loop-number-preserved
loop-number-preserved c =
    let i = c.loop-number.invariant in
    let s = c.split_seat-pass_seat.ensures in
    let items = c.push_reserved.ensures.items in
    let was = c.reserve.ensures.items in
    record {
      seated = s.0 ∙ i.seated;
      same = s.0 ∙ i.same;
      view = s.2 ∙ ap (λ m. (rest_view m.0, m.1)) i.view;
      count = count_snoc _ _ _ _ items was ∙ ap (λ k. k + 1) i.count;
      each = fresh_snoc _ _ _ _ _ items was (sym i.count) (ap (λ m. m.0.seen) s.4) (s.3 ∙ i.same) i.each;
    }

pub invariant_of-admin-clause-sums_are : goal.invariant_of-admin-clause-sums_are
invariant_of-admin-clause-sums_are c =
    let i = c.loop-number.invariant in
    λ k lt. zeros_at 64 k ∙ sym (ap (λ m. switched_out k m.0.seen) i.view)

pub invariant_of-admin-clause-sound : goal.invariant_of-admin-clause-sound
invariant_of-admin-clause-sound c =
    let i = c.loop-number.invariant in
    let none : IsSound [] = record { legal = tt; below = tt } in
    subst IsSound (sym (ap (λ m. m.0.seen) i.view)) none

pub invariant_of-admin-clause-images : goal.invariant_of-admin-clause-images
invariant_of-admin-clause-images c = λ k is. absurd (true≢false (sym is ∙ falses_at 64 k))
