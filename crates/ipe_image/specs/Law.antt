-- The laws of images.
use Rattle.std.specs.Prelude.{◌≡◌, ℕ, ◌≤◌, List, ◌++◌, Some}
use Rattle.ipe_policy.specs.declared.op.Op.{Op}
use Rattle.ipe_policy.specs.declared.statement.Statement.{Statement}
use Rattle.ipe_policy.specs.declared.evaluation.Context.{Context}
use Rattle.ipe_policy.specs.declared.evaluation.Found.{Found}
use Rattle.ipe_policy.specs.Policy.{IsPolicy}
use Rattle.ipe_policy.specs.Evaluation.{decision, deciding_statement}
use Rattle.ipe_policy.specs.Spelling.{words_of_image}
use Rattle.ipe_image.specs.Parts.{ImageParts, parts_of, statements_of}
use Rattle.ipe_image.specs.Image.{image_of}
use Rattle.ipe_image.specs.Reading.{image_in}
use Rattle.ipe_image.specs.Decision.{deciding, decision_in}

-- the statements of a policy that fits into 4,096 words
pub record HasImage (items : List Statement) : Type 0 where
  pub policy : IsPolicy items
  pub few : words_of_image items ≤ 4096

-- words that begin with a policy's image tell what it was made of, whatever stands after it
abbrev pub ReadAsThemselves : Type 0
ReadAsThemselves =
    (items : List Statement) (serial : ℕ) (behind : List ℕ) → HasImage items
    → image_in (image_of (parts_of serial items) ++ behind) ≡ Some (parts_of serial items)

-- words that tell parts are those of a policy: they begin with the image of its statements, which these parts give
pub record AreOfAPolicy (words : List ℕ) (parts : ImageParts) : Type 0 where
  pub policy : HasImage (statements_of parts)
  pub parts_are : parts_of parts.serial (statements_of parts) ≡ parts
  pub behind : List ℕ
  pub whole : words ≡ image_of parts ++ behind

-- whatever words tell, they begin with the image of some policy
abbrev pub AreOfPolicies : Type 0
AreOfPolicies = (words : List ℕ) (parts : ImageParts) → image_in words ≡ Some parts → AreOfAPolicy words parts

-- what a policy's parts decide is what the policy decides
abbrev pub DecideAlike : Type 0
DecideAlike =
    (items : List Statement) (serial : ℕ) (op : Op) (context : Context)
    → decision_in (parts_of serial items) op context ≡ decision items op context

-- the statement by which a policy's parts decide is the policy's deciding statement
abbrev pub DecideByOneStatement : Type 0
DecideByOneStatement =
    (items : List Statement) (serial : ℕ) (op : Op) (context : Context) (found : Found)
    → decision items op context ≡ Some found
    → deciding (parts_of serial items) op found ≡ deciding_statement items op context
