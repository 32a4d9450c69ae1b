use Rattle.hash_tree.proofs.Paths.{checked, own}
use Rattle.hash_tree.proofs.law.checked_paths_lead_to_the_image.Goals as goal

pub returns-clause-leads : goal.returns-clause-leads
returns-clause-leads c = checked

pub returns-clause-own : goal.returns-clause-own
returns-clause-own c = own
