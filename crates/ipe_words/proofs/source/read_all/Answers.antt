use Rattle.std.proofs.Common.{arith}
use Rattle.std.proofs.lemmas.Grind.{common_steps}
use Rattle.ipe_words.proofs.ReadSoFar.{LeavesRest-from_took}
use Rattle.ipe_words.proofs.source.read_all.Goals as goal

pub returns-then-limit-len-clause-rest_too_long : goal.returns-then-limit-len-clause-rest_too_long
returns-then-limit-len-clause-rest_too_long g c = grind (arith, common_steps, LeavesRest-from_took)

pub returns-in_err-map_err-clause-rest_no_memory :
    goal.returns-in_err-map_err-clause-rest_no_memory
returns-in_err-map_err-clause-rest_no_memory g c = grind (arith, common_steps, LeavesRest-from_took)
