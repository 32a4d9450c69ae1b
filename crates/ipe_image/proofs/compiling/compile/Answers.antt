use Rattle.std.proofs.Common.{◌≡◌, ◌∙◌, ◌≤◌, [], ◌++◌, List, ℕ, length, map, Some, true, is_some, ap, sym, subst, arith, append-nil}
use Rattle.std.specs.List.{filter_map}
use Rattle.ipe_policy.specs.Policy.{IsPolicy, PolicyParts}
use Rattle.ipe_policy.specs.Statement.{RuleParts, operations, rule_of}
use Rattle.ipe_policy.specs.Spelling.{words_of_image}
use Rattle.ipe_image.specs.Parts.{ImageParts, parts_of}
use Rattle.ipe_image.specs.Image.{grouped, image_of, place_of, records, rules_of, tables}
use Rattle.ipe_image.specs.Reading.{image_in, is_complete}
use Rattle.ipe_image.proofs.Places.{complete-facts}
use Rattle.ipe_image.proofs.Policies.{compiled, parts-complete}
use Rattle.ipe_image.proofs.Roundtrip.{image-back, image-filled, length-image}
use Rattle.ipe_image.proofs.compiling.compile.Goals as goal

-- the words are the image of complete parts
record Made (words : List ℕ) (parts : ImageParts) : Type 0 where
  complete : is_complete parts ≡ true
  image : words ≡ image_of parts

told : (words : List ℕ) (parts : ImageParts) → Made words parts → image_in words ≡ Some parts
told words parts h = ap image_in (h.image ∙ sym (append-nil (image_of parts))) ∙ image-back parts [] h.complete

few : (words : List ℕ) (parts : ImageParts) → Made words parts → length words ≤ 4096
few words parts h =
    let facts = complete-facts parts h.complete in
    let all = facts.few in
    omega (arith, ap length h.image, length-image parts facts)

-- what was put after the head, where the tables and the records are known
tabled : (head all places counts words : List ℕ) (rules : List RuleParts) → all ≡ head ++ ((places ++ counts) ++ words)
    → places ≡ map (place_of rules) operations → counts ≡ map (λ op. length (rules_of rules op)) operations
    → words ≡ records (grouped rules) → all ≡ head ++ (tables rules ++ records (grouped rules))
tabled head all places counts words rules all_is places_are counts_are words_are =
    rw (all_is, places_are, counts_are, words_are)

made : (c : goal.In_ok-append_tables)
    → Made c.append_tables.new.image.items (parts_of c.args.serial c.args.policy.now.items)
made c =
    let items = c.args.policy.now.items in
    let same : c.policy.inside.items ≡ items = ap (λ (p : PolicyParts). p.items) c.policy.view_is in
    let slice : c.as_slice-items.result.now ≡ items = c.as_slice-items.ensures ∙ same in
    let words : c.image_words-words.result ≡ words_of_image items = c.image_words-words.ensures in
    let narrow : words_of_image items ≤ 4096 = omega arith in
    let all = tabled _ _ _ _ _ (filter_map rule_of c.as_slice-items.result.now) c.in_ok-append_tables.ensures
    c.in_ok-tables.ensures.places c.in_ok-tables.ensures.counts c.in_ok-tables.ensures.records in
    record {
      complete = parts-complete items c.args.serial
          (record { policy = subst IsPolicy same c.policy.invariant; few = narrow });
      image = compiled items c.as_slice-items.result.now c.args.serial c.image_words-words.result
          c.in_ok-image.image.items c.append_head.new.image.items c.append_tables.new.image.items
          slice words c.in_ok-image.ensures.items c.in_ok-append_head.ensures all;
    }

pub invariant_of-result : goal.invariant_of-result
invariant_of-result c = let m = made c in (few _ _ m, ap is_some (told _ _ m))

pub returns-clause-told : goal.returns-clause-told
returns-clause-told c = told _ _ (made c)

pub returns-clause-filled : goal.returns-clause-filled
returns-clause-filled c = image-filled 4096 _ _ (told _ _ (made c))
