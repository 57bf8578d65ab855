use Rattle.std.proofs.Common.{sym, ◌∙◌}
use Rattle.hls_lang.specs.ReadingLines.{state_of}
use Rattle.hls_lang.proofs.PlainLaws.{blank_step, token_step}
use Rattle.hls_lang.proofs.reader.Reader.shown.Goals as goal

pub returns-then-is_blank : goal.returns-then-is_blank
returns-then-is_blank c =
    blank_step (state_of c.args.self.now) c.args.line.now (sym c.is_blank.ensures ∙ c.if-is_blank.true)

pub returns : goal.returns
returns c =
    rw (token_step (state_of c.args.self.now) c.args.line.now (sym c.is_blank.ensures ∙ c.if-is_blank.false))
    c.tokens.ensures
