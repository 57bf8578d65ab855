use Rattle.std.proofs.Common.{List, sym, subst, ap, ◌∙◌}
use Rattle.std.specs.Prelude.{option_map}
use Rattle.std.specs.List.{AllByRecursion}
use Rattle.hls_text.specs.Lines.{Text}
use Rattle.hls_chron.specs.Name.{IsName}
use Rattle.hls_report_text.specs.Content.{content_of, path_names}
use Rattle.hls_audit.specs.Inside.Followed.{AreFollowed}
use Rattle.hls_audit_threads.proofs.OnPaths.{all_named}
use Rattle.hls_audit.proofs.leading.is_astray.Goals as goal

pub leads_down-requires-clause-named : goal.leads_down-requires-clause-named
leads_down-requires-clause-named c =
    subst (λ (names : List Text). AllByRecursion IsName (path_names names c.in-Some.path))
    (sym c.items.ensures)
    (all_named (content_of c.args.report.now) c.args.tick (path_names c.args.report.now.names c.in-Some.path)
    c.requires.formed.content
    (c.path_of.ensures.path
    ∙ ap (option_map (path_names c.args.report.now.names)) c.in-Some.is))

pub leads_down-requires-clause-followed : goal.leads_down-requires-clause-followed
leads_down-requires-clause-followed c =
    subst (λ (names : List Text). AreFollowed c.args.tree.now.members.items names c.args.followed.now.paths.items)
    (sym c.items.ensures) c.requires.followed
