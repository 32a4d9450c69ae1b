use Rattle.std.proofs.Common.{◌≡◌, ◌∙◌, ℕ, ◌+◌, ◌<◌, List, [], ◌∷◌, ◌++◌, map, length, take, position, ap, sym, arith}
use Rattle.std.proofs.lemmas.List.{length-map, length-take-le, map_more}
use Rattle.line_words.specs.Words.{is_text}
use Rattle.ipe_objects.specs.Places.{Placed, place_in, with_place}
use Rattle.ipe_objects.proofs.Placing.{placed-more}
use Rattle.ipe_objects.proofs.places.Places.of.Goals as goal

pub loop-place-preserved : goal.loop-place-preserved
loop-place-preserved g c =
    let f = g.T.Named.name_of in
    let k : ℕ = c.loop-place.place in
    let items = c.args.items.now in
    let name : List ℕ = c.name.result.now in
    let names : List (List ℕ) = map f (take k items) in
    let within : k < length items = c.loop-place-test.true in
    let long : length names ≡ k = length-map (take k items) f ∙ length-take-le k items (omega (arith, within)) in
    let more : map f (take (k + 1) items) ≡ names ++ name ∷ [] =
    map_more f items k c.index-items-place.result within
    ∙ ap (λ (n : List ℕ). names ++ n ∷ []) (sym (c.name.ensures ∙ ap f c.index-items-place.is)) in
    let placed : c.in_ok-placed.placed ≡ with_place c.loop-place.placed name (length names) =
    c.in_ok-placed.ensures.placed ∙ ap (λ (n : ℕ). with_place c.loop-place.placed name n) (sym long) in
    record {
      are = λ query.
          ap (λ (p : Placed). place_in p query) placed
          ∙ placed-more c.loop-place.placed names name c.loop-place.invariant.even c.loop-place.invariant.are query
          ∙ ap (λ (l : List (List ℕ)). position (is_text query) l) (sym more);
      even = c.in_ok-placed.ensures.even;
    }
