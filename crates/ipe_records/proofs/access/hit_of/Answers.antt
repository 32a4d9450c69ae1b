use Rattle.ipe_image.specs.Reader.{filled}
use Rattle.ipe_records.specs.Ruled.{parts_in}
use Rattle.ipe_records.proofs.access.hit_of.Goals as goal

pub returns-clause-hit : goal.returns-clause-hit
returns-clause-hit c =
    let image = c.in_ok-image.ensures in
    record {
      words = filled 4096 c.in_ok-image.image;
      image = image;
      answer = c.decide_words-hit.ensures.answer (parts_in c.args.entry.now)
          (rw (c.new-reader.ensures, c.words.ensures.words) image);
    }
