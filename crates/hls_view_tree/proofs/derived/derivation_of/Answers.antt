use Rattle.std.proofs.Common.{◌∙◌, List, ap, sym, subst}
use Rattle.std.specs.Prelude.{Option, IfSome}
use Rattle.hls_derive.specs.Derivation.{IsWithinGrammar}
use Rattle.hls_report_text.specs.declared.report.Seated.{Seated}
use Rattle.hls_report_text.specs.declared.report.Answered.{Answered}
use Rattle.hls_view_tree.specs.Stays.{standing_of}
use Rattle.hls_view_tree.specs.Derived.{last_told}
use Rattle.hls_view_tree.proofs.Lines.{told_sound, within_if}
use Rattle.hls_view_tree.proofs.derived.derivation_of.Goals as goal

pub returns-clause-within : goal.returns-clause-within
returns-clause-within c =
    let standing = standing_of c.args.hierarchy.now.standing.items c.args.name.now in
    let report = c.args.report.now in
    subst (λ (found : Option Seated). IfSome found (λ (s : Seated). IsWithinGrammar s.derivation))
    (sym (c.last_told.ensures
    ∙ ap (λ (commands : List Answered). last_told c.args.name.now c.args.port commands) c.commands_of.ensures))
    (within_if _ (told_sound report.version report.horizon report.answered standing c.args.name.now c.args.port
    c.requires.content.answered))
