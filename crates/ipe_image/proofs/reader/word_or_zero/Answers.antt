use Rattle.std.proofs.Common.{◌≡◌, ◌∙◌, get_or, sym, arith}
use Rattle.ipe_image.proofs.WordLists.{at-filled}
use Rattle.ipe_image.proofs.reader.word_or_zero.Goals as goal

pub returns : goal.returns
returns c =
    let lookup = c.get.ensures.lookup.4 (omega arith) 0 in
    let read : c.unwrap_or.result ≡ get_or c.args.words.now c.args.i 0 = cc in
    read ∙ sym (at-filled 4096 c.args.words.now c.args.i)
