use Rattle.std.proofs.Common.{◌≡◌, ◌++◌, map, ap, ◌∙◌, rules}
use Rattle.ipe_lex.specs.Lines.{PlacedToken, placed_tokens}
use Rattle.ipe_lex.specs.Walks.{tokens_left}
use Rattle.ipe_parse.specs.Lines.{words}
use Rattle.ipe_parse.proofs.walk.tokens_of.Goals as goal

pub loop-token-init : goal.loop-token-init
loop-token-init c =
    let left : tokens_left c.into_iter-token-iterator.result ≡ placed_tokens c.args.line.start c.args.line.bytes.now = search rules in
    ap (λ r. words r ++ map (λ (token : PlacedToken). token.bytes) (tokens_left c.into_iter-token-iterator.result)) c.new-found.ensures.items
    ∙ ap (map (λ (token : PlacedToken). token.bytes)) left ∙ c.stand_in_their_text.ensures.tokens_without_places c.args.line.start c.args.line.bytes.now
