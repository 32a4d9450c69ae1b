use Rattle.std.proofs.Common.{◌≡◌, ◌∙◌, ◌≤◌, List, ℕ, length, get_or, ap}
use Rattle.ipe_image.specs.Reader.{filled}
use Rattle.ipe_image.proofs.WordLists.{length-filled}
use Rattle.ipe_image.proofs.reader.SliceReaderWordReader.word.Goals as goal

pub returns-clause-word : goal.returns-clause-word
returns-clause-word c =
    let view : c.self.inside.words.now ≡ c.args.self.now = c.self.view_is in
    c.word_or_zero.ensures ∙ ap (λ (ws : List ℕ). get_or (filled 4096 ws) c.args.i 0) view

pub returns-clause-whole : goal.returns-clause-whole
returns-clause-whole c =
    let view : c.self.inside.words.now ≡ c.args.self.now = c.self.view_is in
    let few : length c.self.inside.words.now ≤ 4096 = c.self.invariant in
    length-filled 4096 c.args.self.now (rw view at few)
