-- The name and the statements of each text that is read as a policy stand within lines.
use Rattle.std.proofs.Common.{ℕ, List, [], ◌∷◌, ◌++◌, Option, Some, None, Result, Ok, Err}
use Rattle.std.specs.Prelude.{unwrap_or}
use Rattle.std.specs.List.{AllByRecursion}
use Rattle.std.specs.Result.{IfOk, result_ok}
use Rattle.ipe_policy.specs.declared.op.Op.{Op}
use Rattle.ipe_policy.specs.declared.statement.Statement.{Statement}
use Rattle.ipe_policy.specs.Policy.{PolicyParts}
use Rattle.ipe_parse.specs.declared.header.Header.{Header}
use Rattle.ipe_parse.specs.declared.error.BadText.{BadText}
use Rattle.ipe_parse.specs.Tokens.{header_of}
use Rattle.ipe_parse.specs.Defaults.{first_missing}
use Rattle.ipe_parse.specs.Reading.{SpokenLine, at_line, completed, next_statement, reading, reading_of_lines, spoken_lines, statements_from}
use Rattle.ipe_machine.specs.Policies.{no_policy, policy_in}
use Rattle.ipe_lines.proofs.Each.{All_both}
use Rattle.ipe_lines.proofs.Within.{Whole}
use Rattle.ipe_lines.proofs.ReadPolicies.{IsWholeHeader, IsWholeStatement, header_read, line_read, next_read, ok_then}

-- statements within lines
abbrev AreWhole : List Statement → Type 0
AreWhole items = AllByRecursion IsWholeStatement items

-- a policy whose name and statements stand within lines
abbrev pub IsWholePolicy : PolicyParts → Type 0
IsWholePolicy policy = Whole policy.name × AreWhole policy.items

-- statements that are read after others
statements_read : (before : List Statement) (lines : List SpokenLine) → AreWhole before → IfOk (statements_from before lines) AreWhole
statements_read before [] all = all
statements_read before (line ∷ lines) all =
    ok_then IsWholeStatement AreWhole (next_statement before line) (λ statement. statements_from (before ++ statement ∷ []) lines) (next_read before line)
    (λ statement h. statements_read (before ++ statement ∷ []) lines (All_both IsWholeStatement before (statement ∷ []) all (h, tt)))

-- a policy that is completed
completed_read : (header : Header) (items : List Statement) (missing : Option Op) → IsWholeHeader header → AreWhole items → IfOk (completed header items missing) IsWholePolicy
completed_read header items None name all = (name, all)
completed_read header items (Some what) name all = tt

-- a policy that lines are read as
lines_read : (lines : List SpokenLine) → IfOk (reading_of_lines lines) IsWholePolicy
lines_read [] = tt
lines_read (line ∷ lines) =
    ok_then IsWholeHeader IsWholePolicy (at_line line.number (header_of line.tokens)) _ (line_read IsWholeHeader line.number (header_of line.tokens) (header_read line.tokens))
    (λ header name. ok_then AreWhole IsWholePolicy (statements_from [] lines) _ (statements_read [] lines tt) (λ items all. completed_read header items (first_missing items) name all))

-- a policy that a text is read as
text_read : (text : List ℕ) → IfOk (reading text) IsWholePolicy
unfolding reading
text_read text = lines_read (spoken_lines text)

-- a reading, or no policy
read_or_none : (read : Result PolicyParts BadText) → IfOk read IsWholePolicy → IsWholePolicy (unwrap_or (result_ok read) no_policy)
read_or_none (Ok policy) h = h
read_or_none (Err fault) h = (tt, tt)

-- the policy in a text
pub policy_whole : (text : List ℕ) → IsWholePolicy (policy_in text)
policy_whole text = read_or_none (reading text) (text_read text)
