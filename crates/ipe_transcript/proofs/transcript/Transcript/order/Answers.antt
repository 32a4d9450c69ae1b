use Rattle.std.proofs.Common.{◌≡◌, ℕ, ◌+◌, ◌<◌, ◌∷◌, ◌++◌, [], length, List, Some, Vec, sym, ap, subst, ◌∙◌, arith}
use Rattle.std.specs.declared.alloc.Global.{Global}
use Rattle.std.specs.List.{slice_get}
use Rattle.std.proofs.lemmas.Grind.{common_steps}
use Rattle.std.proofs.lemmas.Iterator.Adapters.{YieldsList-from_vec}
use Rattle.std.proofs.lemmas.Iterator.Consumers.{YieldsList-end}
use Rattle.std.proofs.lemmas.List.{map-id}
use Rattle.std.proofs.lemmas.Option.{slice_get_within}
use Rattle.ipe_transcript.specs.declared.transcript.Entry.{Entry}
use Rattle.ipe_transcript.specs.Entries.{actor_of, line_of, key_of, of_phase}
use Rattle.ipe_transcript.specs.Filing.{AreFiled}
use Rattle.ipe_transcript.specs.Order.{part_at}
use Rattle.ipe_transcript.proofs.Parts.{part_at-before, part_at-last, one_more}
use Rattle.ipe_transcript.proofs.transcript.Transcript.order.Goals as goal

pub loop-part-preserved : goal.loop-part-preserved
loop-part-preserved c =
    let done = c.loop-part.yielded in
    let parts : List (Vec Entry Global) = done ++ c.in-Some.part ∷ [] in
    let before : (i : ℕ) (part : List Entry) → slice_get c.loop-part.ordered.items i ≡ Some part → AreFiled actor_of line_of key_of (part_at parts i) part =
    λ i part is.
    let within : i < length c.loop-part.yielded = omega (arith, slice_get_within c.loop-part.ordered.items i part is, c.loop-part.invariant.0) in
    subst (λ (es : List Entry). AreFiled actor_of line_of key_of es part) (sym (part_at-before c.loop-part.yielded c.in-Some.part i within)) (c.loop-part.invariant.1 i part is) in
    let last : AreFiled actor_of line_of key_of (part_at parts (length c.loop-part.ordered.items)) c.in_ok-order_phase.field-0 =
    subst (λ (es : List Entry). AreFiled actor_of line_of key_of es c.in_ok-order_phase.field-0) (sym (ap (part_at parts) c.loop-part.invariant.0 ∙ part_at-last c.loop-part.yielded c.in-Some.part)) c.in_ok-order_phase.ensures in
    let more = one_more (λ (i : ℕ) (part : List Entry). AreFiled actor_of line_of key_of (part_at parts i) part) c.loop-part.ordered.items c.in_ok-order_phase.field-0 before last in (
      grind (arith, common_steps),
      λ i part is. more i part (sym (ap (λ items. slice_get items i) c.in_ok-push.ensures.items) ∙ is),
    )

pub returns : goal.returns
returns c =
    let gives = c.into_iter-part-iterator.ensures.into_iter_gives in
    let end =
    YieldsList-end (YieldsList-from_vec {s = c.into_iter-part-iterator.result} c.in_ok-part-items.part-items.items gives.0 (gives.1 ∙ c.in_ok-part-items.part-items.ok.0))
    c.loop-part.yielded c.loop-part.part-iterator c.loop-part.yielded_by c.next.result c.next.new.self c.in-None.is c.next.ensures.steps in
    let all : c.loop-part.yielded ≡ c.in_ok-part-items.part-items.items = sym (map-id c.loop-part.yielded) ∙ end.0 in
    let count : length c.loop-part.ordered.items ≡ c.args.phases = c.loop-part.invariant.0 ∙ ap length all ∙ c.in_ok-part-items.ensures.count in
    record {
      count = count;
      each = λ i part is.
          let within : i < c.args.phases = omega (arith, slice_get_within c.loop-part.ordered.items i part is, count) in
          subst (λ (es : List Entry). AreFiled actor_of line_of key_of es part)
          (ap (λ parts. part_at parts i) all ∙ c.in_ok-part-items.ensures.parted i within ∙ ap (of_phase (i + 1)) c.into_vec.ensures)
          (c.loop-part.invariant.1 i part is);
    }
