use Rattle.std.proofs.Common.{◌≡◌, ℕ, ◌==◌, cond, [], ◌∷◌, ◌++◌, map, sym, ap, ◌∙◌, arith}
use Rattle.std.specs.Ordering.{nat_cmp}
use Rattle.std.specs.Option.{option_map, option_or}
use Rattle.std.specs.BTreeMap as tree
use Rattle.std.proofs.lemmas.Grind.{common_steps}
use Rattle.std.proofs.lemmas.List.{map-append}
use Rattle.ipe_transcript.specs.Entries.{actor_of, key_of}
use Rattle.ipe_transcript.specs.Order.{key_shown, filed_shown}
use Rattle.ipe_transcript.proofs.Noting.{latest_first, filed_from_found, filed_step, nothing_noted}
use Rattle.ipe_transcript.proofs.filing.file.Goals as goal
use Rattle.ipe_transcript.proofs.filing.file.Goals.{in-Some-key+in_ok-insert, in_default}

pub loop-entry-preserved : goal.loop-entry-preserved
loop-entry-preserved c =
    let kept_is = c.or-key.ensures ∙ ap (option_or c.key_of.result) (c.copied.ensures ∙ c.get.ensures.value ∙ ap (tree.get nat_cmp c.loop-entry.latest) c.actor-actor.ensures) in
    let kept =
    filed_from_found actor_of key_of key_shown (tree.get nat_cmp c.loop-entry.latest) (latest_first [] c.loop-entry.yielded) c.in-Some.entry c.key_of.result c.or-key.result c.loop-entry.invariant.1 c.key_of.ensures kept_is in
    let key_is : c.match-key.key ≡ c.or-key.result = elim c.match-key.branch [
      | in-Some-key+in_ok-insert w ↦ w.key-is ∙ sym w.in-Some-key.is
      | in_default w ↦ w.key-is
    ] in
    let noted_is : (a : ℕ) → tree.get nat_cmp c.match-key.latest a ≡ cond (actor_of c.in-Some.entry == a) c.or-key.result (tree.get nat_cmp c.loop-entry.latest a) =
    λ a. elim c.match-key.branch [
      | in-Some-key+in_ok-insert w ↦ let now = w.in_ok-insert.ensures.updates.0 a in grind (arith, common_steps, now, w.latest-is, w.in-Some-key.is, c.actor-actor.ensures)
      | in_default w ↦ ap (λ m. tree.get nat_cmp m a) w.latest-is ∙ nothing_noted (tree.get nat_cmp c.loop-entry.latest) (actor_of c.in-Some.entry) a c.key_of.result c.or-key.result kept_is w.in_default.is
    ] in
    let step =
    filed_step actor_of key_of key_shown (tree.get nat_cmp c.loop-entry.latest) (tree.get nat_cmp c.match-key.latest) (map filed_shown c.loop-entry.filed.items) c.loop-entry.yielded c.in-Some.entry c.or-key.result c.loop-entry.invariant.0 c.loop-entry.invariant.1 kept noted_is in (
      ap (map filed_shown) c.in_ok-push.ensures.items
          ∙ map-append filed_shown c.loop-entry.filed.items (record { key = c.match-key.key; entry = c.in-Some.entry } ∷ [])
          ∙ ap (λ k. map filed_shown c.loop-entry.filed.items ++ (option_map key_shown k, c.in-Some.entry) ∷ []) key_is
          ∙ step.0,
      step.1,
    )
