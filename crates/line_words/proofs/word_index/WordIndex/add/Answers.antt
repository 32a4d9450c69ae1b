-- No key is equal to the new one, so it goes last.
use Rattle.std.proofs.Common.{◌∙◌, ◌++◌, ◌∷◌, [], ap, position}
use Rattle.line_words.specs.Words.{is_text}
use Rattle.line_words.specs.WordIndex.{words_of}
use Rattle.line_words.proofs.Keys.{words_of-insert_key}
use Rattle.line_words.proofs.word_index.WordIndex.add.Goals as goal

pub returns-clause-added : goal.returns-clause-added
returns-clause-added c =
    let is = c.in_ok-to_vec.ensures.items_if_clones_equal (λ x y same. same) in
    let absent = ap (position (is_text c.args.word.now)) c.self.view_is ∙ c.requires.new in
    ap words_of c.in_ok-insert.ensures.keys ∙ words_of-insert_key _ _ c.args.word.now is absent ∙ ap (λ words. words ++ c.args.word.now ∷ []) c.self.view_is
