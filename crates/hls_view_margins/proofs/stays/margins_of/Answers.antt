use Rattle.std.proofs.Common.{◌≡◌, ◌∙◌, ◌<◌, List, [], Some, length, slice_get, map, refl, sym, ap, subst}
use Rattle.std.proofs.lemmas.Option.{slice_get_read}
use Rattle.hls_report_text.specs.declared.report.Answered.{Answered}
use Rattle.hls_report_text.specs.Content.{content_of}
use Rattle.hls_audit_stays.specs.Found.{stay_by}
use Rattle.hls_audit_threads.proofs.EachStay.{told_at, kept_valid, ends_early}
use Rattle.hls_audit_threads.proofs.Found.{told_length}
use Rattle.hls_audit_threads.proofs.KnownLaws.{known_within, known_ready, known_served}
use Rattle.hls_view_margins.specs.Margins.{AreMargins}
use Rattle.hls_view_margins.proofs.MarginLaws.{margins_next, margins_all}
use Rattle.hls_view_margins.proofs.stays.margins_of.Goals as goal

pub loop-found-init : goal.loop-found-init
loop-found-init c = record {
  known = c.new-known.ensures c.args.report.now;
  margins = subst (AreMargins (content_of c.args.report.now) []) (sym c.new-margins.ensures.items) tt;
}

pub margin_of-requires-clause-kept : goal.margin_of-requires-clause-kept
margin_of-requires-clause-kept c =
    kept_valid (content_of c.args.report.now) (map (stay_by c.args.report.now.answered) c.args.stays.now)
    c.loop-found.found-index c.stay-stay.result c.requires.formed.content c.requires.stays
    (told_at c.args.report.now.answered c.args.stays.now c.loop-found.found-index c.found-item.result c.stay-stay.result
    c.loop-found-test.true c.found-item.is
    (c.stay-stay.ensures ∙ ap (λ (l : List Answered). stay_by l c.found-item.result) c.items.ensures))

pub margin_of-requires-clause-ends : goal.margin_of-requires-clause-ends
margin_of-requires-clause-ends c =
    ends_early (content_of c.args.report.now) (map (stay_by c.args.report.now.answered) c.args.stays.now)
    c.loop-found.found-index c.stay-stay.result c.requires.formed.content c.requires.stays
    (told_at c.args.report.now.answered c.args.stays.now c.loop-found.found-index c.found-item.result c.stay-stay.result
    c.loop-found-test.true c.found-item.is
    (c.stay-stay.ensures ∙ ap (λ (l : List Answered). stay_by l c.found-item.result) c.items.ensures))

pub index-requires : goal.index-requires
index-requires c =
    subst (λ n. c.in_ok-place.place < n) (sym c.place_of.new.self.ticks.ok.0)
    (known_within (content_of c.args.report.now) c.place_of.new.self c.stay-stay.result.name c.in_ok-place.place
    c.in_ok-place.ensures.place)

there : (c : goal.After-index) → slice_get c.place_of.new.self.ticks.items c.in_ok-place.place
    ≡ Some c.index.result.now
there c =
    let items = c.place_of.new.self.ticks.items in
    slice_get_read items (length items) c.in_ok-place.place c.index.result.now refl
    (known_within (content_of c.args.report.now) c.place_of.new.self c.stay-stay.result.name c.in_ok-place.place
    c.in_ok-place.ensures.place) c.index.ensures

pub margin_of-requires-clause-ready : goal.margin_of-requires-clause-ready
margin_of-requires-clause-ready c =
    known_ready (content_of c.args.report.now) c.place_of.new.self c.stay-stay.result.name c.in_ok-place.place
    c.index.result.now c.in_ok-place.ensures.place (there c)

pub margin_of-requires-clause-served : goal.margin_of-requires-clause-served
margin_of-requires-clause-served c =
    known_served (content_of c.args.report.now) c.place_of.new.self c.stay-stay.result.name c.in_ok-place.place
    c.index.result.now c.in_ok-place.ensures.place (there c)

pub loop-found-preserved : goal.loop-found-preserved
loop-found-preserved c = record {
  known = c.in_ok-place.ensures.known;
  margins = margins_next (content_of c.args.report.now) (map (stay_by c.args.report.now.answered) c.args.stays.now)
      c.loop-found.found-index c.stay-stay.result c.margin_of.result c.loop-found.margins.items c.add.new.margins.items
      (told_at c.args.report.now.answered c.args.stays.now c.loop-found.found-index c.found-item.result
      c.stay-stay.result c.loop-found-test.true c.found-item.is
      (c.stay-stay.ensures ∙ ap (λ (l : List Answered). stay_by l c.found-item.result) c.items.ensures))
      c.margin_of.ensures c.in_ok-add.ensures c.loop-found.invariant.margins;
}

pub returns : goal.returns
returns c =
    margins_all (content_of c.args.report.now) (map (stay_by c.args.report.now.answered) c.args.stays.now)
    c.loop-found.found-index c.loop-found.margins.items
    (told_length (stay_by c.args.report.now.answered) c.args.stays.now c.loop-found.found-index c.loop-found-test.false)
    c.requires.stays c.loop-found.invariant.margins
