use Rattle.std.proofs.Common.{◌≡◌, map, subst, ◌∙◌, rules}
use Rattle.std.specs.List.Sorted.{IsPermutation}
use Rattle.std.proofs.lemmas.List.Sorted.{IsPermutation-map, answers_always}
use Rattle.ipe_transcript.specs.declared.filing.Filed.{Filed}
use Rattle.ipe_transcript.specs.Order.{filed_shown}
use Rattle.ipe_transcript.proofs.Standing.{place_of, sorted_stand, shown_entries}
use Rattle.ipe_transcript.proofs.filing.order_phase.Goals as goal

pub returns : goal.returns
returns c = record {
  by = map filed_shown c.sort_by_key.new.self.items;
  same = subst (λ l. IsPermutation l (map filed_shown c.sort_by_key.new.self.items)) c.in_ok-filed.ensures (IsPermutation-map filed_shown c.in_ok-filed.filed.items c.sort_by_key.new.self.items c.in_ok-sort_by_key.ensures.permutation);
  in_order = sorted_stand c.sort_by_key.new.self.items (c.in_ok-sort_by_key.ensures.sorted place_of (answers_always _ _ _ (λ f a r g h. search rules)));
  ordered_are =
      let entries : c.in_ok-ordered.ordered.items ≡ map (λ (f : Filed). f.entry) c.sort_by_key.new.self.items = search rules in
      c.from_vec.ensures ∙ entries ∙ shown_entries c.sort_by_key.new.self.items;
}
