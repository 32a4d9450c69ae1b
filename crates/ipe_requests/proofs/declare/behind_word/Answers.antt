use Rattle.ipe_requests.proofs.Behind.{behind-rest}
use Rattle.ipe_requests.proofs.declare.behind_word.Goals as goal

pub returns : goal.returns
returns c = rw c.cut_at.ensures.after (behind-rest c.args.line.now c.requires)
