use Rattle.std.proofs.Common.{rules}
use Rattle.hls_text.proofs.TokenLaws.{no_token, token_and_rest}
use Rattle.hls_text.proofs.tokens.next_token.Goals as goal

pub returns-then-is_empty : goal.returns-then-is_empty
returns-then-is_empty c = no_token c.args.line.now c.split_at.result.1.now c.blank_len.result
    c.blank_len.ensures.within c.blank_len.ensures.whole c.split_at.ensures.back (search rules)

pub returns : goal.returns
returns c = rw (c.split_at-2.ensures.front, c.split_at-2.ensures.back)
    (token_and_rest c.args.line.now c.split_at.result.1.now c.blank_len.result c.token_len.result
    c.blank_len.ensures.within c.blank_len.ensures.whole c.blank_len.ensures.end
    c.split_at.ensures.back (search rules)
    c.token_len.ensures.within c.token_len.ensures.whole c.token_len.ensures.end)
