use Rattle.std.proofs.Common.{◌≡◌, length, refl, arith}
use Rattle.std.specs.Prelude.{Some, slice_get}
use Rattle.std.proofs.lemmas.Option.{slice_get_read}
use Rattle.hls_report_text.specs.Content.{content_of}
use Rattle.hls_legal.specs.Ready.{is_ready}
use Rattle.hls_audit_threads.proofs.KnownLaws.{known_within, known_ready}
use Rattle.hls_view_tree.proofs.Askings.{counted}
use Rattle.hls_view_tree.proofs.asking.is_ready.Goals as goal

pub returns-clause-ready : goal.returns-clause-ready
returns-clause-ready c =
    let content = content_of c.args.report.now in
    let known = c.place_of.new.self in
    let items = known.ticks.items in
    let there : slice_get items c.in_ok-place.place ≡ Some c.index.result.now =
    slice_get_read items (length items) c.in_ok-place.place c.index.result.now refl
    (known_within content known c.args.name.now c.in_ok-place.place c.in_ok-place.ensures.place) c.index.ensures in
    counted (is_ready content c.args.name.now) c.args.tick c.count.result
    (c.count.ensures (is_ready content c.args.name.now) content.horizon
    (known_ready content known c.args.name.now c.in_ok-place.place c.index.result.now c.in_ok-place.ensures.place there)
    (omega (arith, c.requires.early)))
