use Rattle.std.proofs.Common.{◌≡◌, suc, ◌+◌, length, ap, rules}
use Rattle.ipe_lex.specs.Lines.{is_in_token, placed_tokens}
use Rattle.ipe_lex.proofs.Cuts.{NextToken, next-token, placed_tokens-none, position-none}
use Rattle.ipe_lex.proofs.token_walk.TokenWalkIterator.next.Goals as goal
use Rattle.ipe_lex.proofs.token_walk.TokenWalkIterator.next.Goals.{After-result-1}

next : (c : After-result-1) → NextToken c.args.self.now.start c.args.self.now.rest.now c.in_ok-skipped.skipped c.cut_token.result.0.now c.cut_token.result.1.now
next c = next-token _ _ _ c.split_at.result.1.now _ _ (cc c.in_ok-skipped.was) c.split_at.ensures.back c.cut_token.ensures.token c.cut_token.ensures.rest

pub returns-in_err-skipped-clause-steps : goal.returns-in_err-skipped-clause-steps
returns-in_err-skipped-clause-steps c =
    let walk = c.args.self.now in
    let ends = placed_tokens-none walk.start walk.rest.now (position-none is_in_token walk.rest.now (cc c.in_err-skipped.was)) in
    rw c.from_residual.ensures (ends, ends)

pub invariant_of-result : goal.invariant_of-result
invariant_of-result c = record {
  not_empty = (next-token c.args.self.now.start c.args.self.now.rest.now c.in_ok-skipped.skipped c.split_at.result.1.now _ _ (cc c.in_ok-skipped.was) c.split_at.ensures.back c.cut_token.ensures.token c.cut_token.ensures.rest).not_empty;
}

pub returns-clause-steps : goal.returns-clause-steps
returns-clause-steps c = (next c).step

pub returns-clause-goes : goal.returns-clause-goes
returns-clause-goes c =
    let walk = c.args.self.now in
    let token = c.cut_token.result.0.now in
    let shorter : length (placed_tokens walk.start walk.rest.now) ≡ suc (length (placed_tokens (walk.start + c.in_ok-skipped.skipped + length token) c.cut_token.result.1.now)) =
    ap length (next c).step in
    search rules
