use Rattle.ipe_image.proofs.Policies.{decide-alike, parts-complete}
use Rattle.ipe_image.proofs.DecidingStatements.{one-statement}
use Rattle.ipe_image.proofs.OfPolicies.{of-policy}
use Rattle.ipe_image.proofs.Roundtrip.{image-back}
use Rattle.ipe_image.specs.Parts.{parts_of}
use Rattle.ipe_image.proofs.law.images_are_read_as_themselves.Goals as goal

pub returns-clause-read : goal.returns-clause-read
returns-clause-read c items serial behind h = image-back (parts_of serial items) behind (parts-complete items serial h)

pub returns-clause-policies : goal.returns-clause-policies
returns-clause-policies c = of-policy

pub returns-clause-decides : goal.returns-clause-decides
returns-clause-decides c = decide-alike

pub returns-clause-statement : goal.returns-clause-statement
returns-clause-statement c = one-statement
