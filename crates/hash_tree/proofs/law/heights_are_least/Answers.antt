use Rattle.hash_tree.proofs.Shapes.{height_least, same_height}
use Rattle.hash_tree.proofs.law.heights_are_least.Goals as goal

pub returns-clause-least : goal.returns-clause-least
returns-clause-least c = height_least

pub returns-clause-one : goal.returns-clause-one
returns-clause-one c = same_height
