use Rattle.hls_core.specs.Texts.{told_text}
use Rattle.hls_top.proofs.Promised.{text_if_ok}
use Rattle.hls_top.proofs.running.report_on.Goals as goal

pub returns : goal.returns
returns g c =
    text_if_ok c.tell.result (λ told. told_text told) c.args.text.items c.args.scenario c.args.depth _
    c.requires.read c.tell.ensures
