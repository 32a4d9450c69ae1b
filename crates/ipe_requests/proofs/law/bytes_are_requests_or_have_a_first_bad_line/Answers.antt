use Rattle.ipe_requests.proofs.Laws.{requests_or_first_bad}
use Rattle.ipe_requests.proofs.law.bytes_are_requests_or_have_a_first_bad_line.Goals as goal

pub returns : goal.returns
returns c = requests_or_first_bad
