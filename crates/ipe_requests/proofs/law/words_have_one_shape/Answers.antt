use Rattle.ipe_requests.proofs.Apart.{one_shape}
use Rattle.ipe_requests.proofs.law.words_have_one_shape.Goals as goal

pub returns : goal.returns
returns c = one_shape
