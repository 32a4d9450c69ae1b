-- The default that a statement gives.
use Rattle.ipe_policy.specs.declared.statement.Statement.{Statement}
use Rattle.ipe_policy.specs.declared.statement.Statement.TheVariants.{Rule, OpDefault, GlobalDefault}
use Rattle.ipe_parse.specs.declared.given.Given.{Given}
use Rattle.ipe_parse.specs.declared.given.Given.TheVariants.{Nothing, OfOp, Global}

-- which default a statement gives
abbrev pub given_of : Statement → Given
given_of (Rule op properties action) = Nothing
given_of (OpDefault op action) = OfOp op
given_of (GlobalDefault action) = Global
