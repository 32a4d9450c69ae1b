-- The place among the keys is the place among the words.
use Rattle.std.proofs.Common.{◌∙◌, ap, position}
use Rattle.line_words.specs.Words.{is_text}
use Rattle.line_words.proofs.Keys.{position-words_of}
use Rattle.line_words.proofs.word_index.WordIndex.place_of.Goals as goal

pub returns-clause-place : goal.returns-clause-place
returns-clause-place c = c.get_index_of.ensures.index ∙ position-words_of _ c.args.word.now ∙ ap (position (is_text c.args.word.now)) c.self.view_is
