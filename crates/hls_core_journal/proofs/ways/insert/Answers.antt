use Rattle.std.proofs.Common.{◌∙◌, Some, ap, sym}
use Rattle.hls_report_text.proofs.NameLaws.{equal-same}
use Rattle.hls_core_journal.proofs.ways.insert.Goals as goal

pub returns-clause-names : goal.returns-clause-names
returns-clause-names c = c.in-Ok.ensures.keys

pub returns-clause-place : goal.returns-clause-place
returns-clause-place c =
    let stored = c.in-Ok.ensures.stored in
    stored.1 ∙ ap (λ key. Some key) (sym (equal-same _ _ stored.2))
