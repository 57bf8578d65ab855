use Rattle.std.proofs.Common.{sym, ◌∙◌}
use Rattle.hls_lang.specs.ReadingLines.{state_of}
use Rattle.hls_lang.proofs.PlainLaws.{plain_step}
use Rattle.hls_lang.proofs.reader.Reader.line.Goals as goal

pub returns-then-is_plain : goal.returns-then-is_plain
returns-then-is_plain c =
    rw (plain_step (state_of c.args.self.now) c.args.line.now (sym c.is_plain.ensures ∙ c.if-is_plain.true))
    c.shown.ensures
