use Rattle.line_words.specs.Lines.{seen}
use Rattle.ipe_requests.proofs.Found.{found-fits}
use Rattle.ipe_requests.proofs.shape.read_known.Goals as goal

pub read_words-requires-clause-form : goal.read_words-requires-clause-form
read_words-requires-clause-form c =
    found-fits c.args.known.now.section (seen c.args.words.now) c.shape_of.result c.in-Some.shape c.shape_of.ensures
    c.in-Some.is
