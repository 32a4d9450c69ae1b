use Rattle.std.proofs.Common.{◌≡◌, ◌∙◌, ℕ, ◌≤◌, ◌<◌, true, false, List, [], length, take, drop, ap, sym, arith}
use Rattle.std.proofs.lemmas.List.{drop_all}
use Rattle.ipe_image.specs.Packing.{word_of}
use Rattle.ipe_image.proofs.Compare.{are_next, compared-next, next-differs}
use Rattle.ipe_image.proofs.packing.are_words_of.Goals as goal

pub returns : goal.returns
returns c =
    let words = c.args.words.now in
    let i = c.loop-word.word-index in
    let over : length words ≤ i = omega arith in
    let none : drop i words ≡ [] = drop_all i words over in
    let done : true ≡ are_next (drop i words) c.loop-word.rest.now =
    ap (λ (ws : List ℕ). are_next ws c.loop-word.rest.now) (sym none) in
    λ told. compared-next words c.args.bytes.now told true c.requires c.type_inv.bytes (done ∙ c.loop-word.invariant)

pub returns-then-word-word_of : goal.returns-then-word-word_of
returns-then-word-word_of c =
    let words = c.args.words.now in
    let i = c.loop-word.word-index in
    let some : i < length words = omega arith in
    let made : c.word_of.result ≡ word_of (take c.min.result c.loop-word.rest.now) = c.word_of.ensures.word
    ∙ ap word_of c.split_at.ensures.front in
    let differs = next-differs words c.loop-word.rest.now i c.min.result some c.min.ensures
    (λ e. c.if-word-word_of.true (e ∙ sym made)) in
    λ told. compared-next words c.args.bytes.now told false c.requires c.type_inv.bytes
    (sym differs ∙ c.loop-word.invariant)
