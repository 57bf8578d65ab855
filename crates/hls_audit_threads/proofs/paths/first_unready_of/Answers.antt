use Rattle.std.proofs.Common.{◌≡◌, refl, sym, subst, length, ◌<◌}
use Rattle.std.specs.Prelude.{Some, slice_get}
use Rattle.std.proofs.lemmas.Option.{slice_get_read}
use Rattle.hls_report_text.specs.Content.{content_of}
use Rattle.hls_legal.specs.Ready.{is_ready}
use Rattle.hls_legal.specs.Schedule.{is_served}
use Rattle.hls_audit_threads.proofs.EachName.{lack_told}
use Rattle.hls_audit_threads.proofs.KnownLaws.{known_within, known_ready, known_served}
use Rattle.hls_audit_threads.proofs.paths.first_unready_of.Goals as goal

pub index-ticks-requires : goal.index-ticks-requires
index-ticks-requires c =
    subst (λ n. c.in_ok-place.place < n) (sym c.place_of.new.self.ticks.ok.0)
    (known_within (content_of c.args.report.now) c.place_of.new.self c.args.name.now c.in_ok-place.place
    c.in_ok-place.ensures.place)

pub returns-clause-first : goal.returns-clause-first
returns-clause-first c =
    let content = content_of c.args.report.now in
    let name = c.args.name.now in
    let known = c.place_of.new.self in
    let place = c.in_ok-place.place in
    let ticks = c.index-ticks.result.now in
    let is = c.in_ok-place.ensures.place in
    let there : slice_get known.ticks.items place ≡ Some ticks =
    slice_get_read known.ticks.items (length known.ticks.items) place ticks refl
    (known_within content known name place is) c.index-ticks.ensures in
    lack_told content name c.first_beyond.result c.requires.formed.content
    (c.first_beyond.ensures (is_served content.stretches name) (is_ready content name) content.horizon
    (known_served content known name place ticks is there) (known_ready content known name place ticks is there))
