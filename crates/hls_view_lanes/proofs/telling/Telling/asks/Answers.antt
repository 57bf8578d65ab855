use Rattle.std.proofs.Common.{◌∙◌, ◌<◌, List, refl, sym, subst}
use Rattle.hls_report_text.specs.Content.{content_of}
use Rattle.hls_view_tale.specs.declared.label.Label.{Label}
use Rattle.hls_view_lanes.specs.Inside.Present.{IsAsking}
use Rattle.hls_view_lanes.proofs.TellingLaws.{known-asks, noted, place-known, way-read}
use Rattle.hls_view_lanes.proofs.telling.Telling.asks.Goals as goal

pub index-known-requires : goal.index-known-requires
index-known-requires c =
    let s = c.args.self.now in
    subst (λ n. c.args.place < n) (sym s.present.asking.ok.0)
    (place-known c.args.report.now s.rows.items c.args.place s c.requires.telling c.requires.place)

pub returns-then-tick-known-clause-asks : goal.returns-then-tick-known-clause-asks
returns-then-tick-known-clause-asks c =
    let s = c.args.self.now in
    known-asks c.args.report.now s.rows.items c.args.tick c.args.place s c.index-known.result.now c.requires.telling
    c.requires.place c.index-known.ensures c.if-known-tick.true c.if-tick-known.true

pub index_mut-requires : goal.index_mut-requires
index_mut-requires c =
    let s = c.args.self.now in
    subst (λ n. c.args.place < n) (sym s.present.asking.ok.0)
    (place-known c.args.report.now s.rows.items c.args.place s c.requires.telling c.requires.place)

pub returns-clause-telling : goal.returns-clause-telling
returns-clause-telling c =
    let s = c.args.self.now in
    let r = c.args.report.now in
    noted r s.rows.items c.args.place s _ c.in_ok-asking.asking c.requires.telling
    (subst (λ (way : List Label). IsAsking (content_of r) way c.in_ok-asking.asking)
    (c.items-way.ensures
    ∙ sym (way-read s.present.ways.items c.args.place c.index.result.now c.requires.place c.index.ensures))
    c.in_ok-asking.ensures.asking)
    refl c.in_ok-asking.ensures.readings refl refl refl refl refl refl refl
