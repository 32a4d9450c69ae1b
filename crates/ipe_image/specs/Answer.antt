-- What is answered from the words of an image.
use Rattle.std.specs.Prelude.{◌≡◌, List, ℕ, Some}
use Rattle.ipe_policy.specs.declared.op.Op.{Op}
use Rattle.ipe_policy.specs.declared.statement.Statement.{Statement}
use Rattle.ipe_policy.specs.declared.evaluation.Context.{Context}
use Rattle.ipe_image.specs.declared.hit.Hit.{Hit}
use Rattle.ipe_image.specs.Parts.{ImageParts, parts_of}
use Rattle.ipe_image.specs.Reading.{image_in}
use Rattle.ipe_image.specs.Decision.{decision_in, record_in}

-- the parts decide this of a file, with the serial and the words of the rule that decided
pub record IsAnswer (parts : ImageParts) (op : Op) (context : Context) (hit : Hit) : Type 0 where
  pub serial : hit.serial ≡ parts.serial
  pub decision : decision_in parts op context ≡ Some hit.found
  pub rule : hit.rule.items ≡ record_in parts hit.found.which

-- the image of a policy of these statements decides this of a file
pub record IsRuling (serial : ℕ) (items : List Statement) (op : Op) (context : Context) (hit : Hit) : Type 0 where
  pub words : List ℕ
  pub image : image_in words ≡ Some (parts_of serial items)
  pub answer : IsAnswer (parts_of serial items) op context hit

-- some image decides this for the operation, of some file
pub record IsHit (op : Op) (hit : Hit) : Type 0 where
  pub words : List ℕ
  pub parts : ImageParts
  pub context : Context
  pub image : image_in words ≡ Some parts
  pub answer : IsAnswer parts op context hit
