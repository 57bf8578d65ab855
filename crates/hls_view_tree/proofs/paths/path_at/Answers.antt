use Rattle.std.proofs.Common.{◌∙◌, List, ap, sym, subst}
use Rattle.std.specs.Prelude.{Option, Some, None, find, option_copied, option_map}
use Rattle.std.specs.List.{AllByRecursion}
use Rattle.hls_text.specs.Lines.{Text}
use Rattle.hls_chron.specs.Name.{IsName}
use Rattle.hls_report_text.specs.declared.report.Run.{Run}
use Rattle.hls_report_text.specs.declared.report.Path.{Path}
use Rattle.hls_report_text.specs.Content.{path_names}
use Rattle.hls_view_tree.specs.Inside.Runs.{is_run_of}
use Rattle.hls_view_tree.proofs.Runs.{path_found, short_found, named_found}
use Rattle.hls_view_tree.proofs.paths.path_at.Goals as goal

pub returns-in_default : goal.returns-in_default
returns-in_default c =
    sym (path_found c.args.report.now.names c.args.report.now.runs c.args.tick None
    (sym (ap option_copied c.in_default.is) ∙ c.run_of.ensures
    ∙ ap (λ (runs : List Run). find (is_run_of c.args.tick) runs) c.items.ensures))

pub names_on-requires-clause-short : goal.names_on-requires-clause-short
names_on-requires-clause-short c =
    short_found c.args.report.now.runs c.args.tick c.in-Some.run'.now c.in-Some-path.path c.requires.paths
    (ap (λ (runs : List Run). find (is_run_of c.args.tick) runs) (sym c.items.ensures) ∙ sym c.run_of.ensures
    ∙ ap option_copied c.in-Some.is) c.in-Some-path.is

pub names_on-requires-clause-named : goal.names_on-requires-clause-named
names_on-requires-clause-named c =
    subst (λ (names : List Text). AllByRecursion IsName (path_names names c.in-Some-path.path))
    (sym c.items-in-Some-path.ensures)
    (named_found c.args.report.now.names c.args.report.now.runs c.args.report.now.horizon c.args.tick
    c.in-Some.run'.now c.in-Some-path.path c.requires.content.cover
    (ap (λ (runs : List Run). find (is_run_of c.args.tick) runs) (sym c.items.ensures) ∙ sym c.run_of.ensures
    ∙ ap option_copied c.in-Some.is) c.in-Some-path.is)

pub returns-in_ok-names-in-Some-path : goal.returns-in_ok-names-in-Some-path
returns-in_ok-names-in-Some-path c =
    let names = c.args.report.now.names in
    ap (λ (path : List Text). Some path)
    (c.of.ensures ∙ c.in_ok-names-in-Some-path.ensures
    ∙ ap (λ (known : List Text). path_names known c.in-Some-path.path) c.items-in-Some-path.ensures)
    ∙ sym (path_found names c.args.report.now.runs c.args.tick (Some c.in-Some.run'.now)
    (sym (ap option_copied c.in-Some.is) ∙ c.run_of.ensures
    ∙ ap (λ (runs : List Run). find (is_run_of c.args.tick) runs) c.items.ensures)
    ∙ ap (λ (path : Option Path). option_map (path_names names) path) c.in-Some-path.is)

pub returns-in-None : goal.returns-in-None
returns-in-None c =
    let names = c.args.report.now.names in
    sym (path_found names c.args.report.now.runs c.args.tick (Some c.in-Some.run'.now)
    (sym (ap option_copied c.in-Some.is) ∙ c.run_of.ensures
    ∙ ap (λ (runs : List Run). find (is_run_of c.args.tick) runs) c.items.ensures)
    ∙ ap (λ (path : Option Path). option_map (path_names names) path) c.in-None.is)
