use Rattle.std.proofs.Common.{refl, sym, ◌∙◌, ap, length}
use Rattle.std.specs.Prelude.{Option, Some, None}
use Rattle.std.proofs.lemmas.Option.{slice_get_read, get_or_from_slice_get}
use Rattle.hls_report_text.specs.declared.report.Path.{Path}
use Rattle.hls_audit.proofs.FollowedLaws.{same_path}
use Rattle.hls_audit.proofs.followed.is_at.Goals as goal

pub returns-in-Some : goal.returns-in-Some
returns-in-Some c = λ yes.
    let paths = c.args.paths.now in
    let found = c.in-Some.ensures.lookup in
    get_or_from_slice_get paths c.args.place c.args.path.now None
    (slice_get_read paths (length paths) c.args.place c.in-Some.other.now refl found.3.0 found.1
    ∙ ap (λ (path : Option Path). Some path)
    (same_path c.in-Some.other.now c.args.path.now (sym c.eq.ensures ∙ yes)))
