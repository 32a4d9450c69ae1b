use Rattle.std.proofs.Common.{◌≡◌, List, ℕ, ap, ◌∙◌, subst, arith}
use Rattle.std.specs.Prelude.{IfOk}
use Rattle.line_words.specs.Lines.{seen, words_of}
use Rattle.ipe_requests.specs.Table.{may_follow}
use Rattle.ipe_requests.specs.Reading.{read_shape, shape_of}
use Rattle.ipe_requests.proofs.Found.{line-many}
use Rattle.ipe_requests.proofs.shape.read_line.Goals as goal

pub returns-then-blanks-ge-MOST_WORDS : goal.returns-then-blanks-ge-MOST_WORDS
returns-then-blanks-ge-MOST_WORDS c = rw c.misplaced.ensures (line-many c.args.known.now c.args.line.now (omega arith))

pub returns : goal.returns
returns c =
    let same : seen c.as_slice.result.now ≡ words_of c.args.line.now =
    ap seen c.as_slice.ensures.value ∙ c.in_ok-words.ensures in
    subst (λ (ws : List (List ℕ)). IfOk c.read_known.result (λ read. read ≡ read_shape c.args.known.now ws
    c.args.known.now.section (shape_of (may_follow c.args.known.now.section) ws))) same c.read_known.ensures
