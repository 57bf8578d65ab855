use Rattle.std.proofs.Common.{◌≡◌, ◌<◌, ◌∙◌, ◌+◌, ◌-◌, length, refl, sym, subst, ap, map, arith}
use Rattle.std.specs.List.{range_with_len}
use Rattle.std.proofs.lemmas.Option.{slice_get_read}
use Rattle.hls_report_text.specs.Content.{Content, content_of}
use Rattle.hls_legal.specs.Ready.{is_ready}
use Rattle.hls_audit_threads.proofs.KnownLaws.{known_within, known_ready}
use Rattle.hls_view_timeline.proofs.Rows.{ticks_are}
use Rattle.hls_view_timeline.proofs.readings.Readings.ready_in.Goals as goal

pub index-ticks-requires : goal.index-ticks-requires
index-ticks-requires c =
    subst (λ n. c.in_ok-place.place < n) (sym c.place_of.new.self.ticks.ok.0)
    (known_within (content_of c.args.report.now) c.place_of.new.self c.args.account.now.name c.in_ok-place.place
    c.in_ok-place.ensures.place)

pub returns-clause-ready : goal.returns-clause-ready
returns-clause-ready c =
    let content : Content = content_of c.args.report.now in
    let a = c.args.account.now in
    let f = is_ready content a.name in
    let known = c.place_of.new.self in
    let items = known.ticks.items in
    let there = slice_get_read items (length items) c.in_ok-place.place c.index-ticks.result.now refl
    (known_within content known a.name c.in_ok-place.place c.in_ok-place.ensures.place) c.index-ticks.ensures in
    let tells = known_ready content known a.name c.in_ok-place.place c.index-ticks.result.now
    c.in_ok-place.ensures.place
    there in
    let early = c.requires.within.early in
    let long = c.in_ok-ready.ensures.long in
    let many : length c.in_ok-ready.ready.items ≡ a.to + 1 - a.from = omega (arith, long) in
    ticks_are f a.from c.in_ok-ready.ready.items
    (c.in_ok-ready.ensures.ticks f content.horizon tells (omega (arith, early)))
    ∙ ap (λ n. map f (range_with_len a.from n)) many
