use Rattle.std.proofs.Common.{◌≡◌, ◌∙◌, ◌<◌, List, Some, length, slice_get, map, refl, sym, ap, subst}
use Rattle.std.proofs.lemmas.Option.{slice_get_read}
use Rattle.hls_report_text.specs.declared.report.Answered.{Answered}
use Rattle.hls_report_text.specs.Content.{content_of}
use Rattle.hls_audit_stays.specs.Found.{stay_by}
use Rattle.hls_audit_threads.proofs.EachStay.{told_at, kept_valid, ends_early, starved_first, over_first}
use Rattle.hls_audit_threads.proofs.Found.{found_none, found_next, found_accounts, told_length}
use Rattle.hls_audit_threads.proofs.KnownLaws.{known_within, known_ready, known_served}
use Rattle.hls_audit_threads.proofs.stay_findings.StayFindings.of.Goals as goal

pub loop-found-init : goal.loop-found-init
loop-found-init c = record {
  known = c.requires.known;
  found = found_none (content_of c.args.report.now) (map (stay_by c.args.report.now.answered) c.args.stays.now) _
      c.new-findings.ensures.starved c.new-findings.ensures.over_cap c.new-findings.ensures.met;
}

pub visit-requires-clause-kept : goal.visit-requires-clause-kept
visit-requires-clause-kept c =
    kept_valid (content_of c.args.report.now) (map (stay_by c.args.report.now.answered) c.args.stays.now)
    c.loop-found.found-index c.stay-stay.result c.requires.formed.content c.requires.stays
    (told_at c.args.report.now.answered c.args.stays.now c.loop-found.found-index c.found-item.result c.stay-stay.result
    c.loop-found-test.true c.found-item.is
    (c.stay-stay.ensures ∙ ap (λ (l : List Answered). stay_by l c.found-item.result) c.items.ensures))

pub visit-requires-clause-ends : goal.visit-requires-clause-ends
visit-requires-clause-ends c =
    ends_early (content_of c.args.report.now) (map (stay_by c.args.report.now.answered) c.args.stays.now)
    c.loop-found.found-index c.stay-stay.result c.requires.formed.content c.requires.stays
    (told_at c.args.report.now.answered c.args.stays.now c.loop-found.found-index c.found-item.result c.stay-stay.result
    c.loop-found-test.true c.found-item.is
    (c.stay-stay.ensures ∙ ap (λ (l : List Answered). stay_by l c.found-item.result) c.items.ensures))

pub index-requires : goal.index-requires
index-requires c =
    subst (λ n. c.in_ok-place.place < n) (sym c.place_of.new.self.ticks.ok.0)
    (known_within (content_of c.args.report.now) c.place_of.new.self c.stay-stay.result.name c.in_ok-place.place
    c.in_ok-place.ensures.place)

there : (c : goal.After-index) → slice_get c.place_of.new.self.ticks.items c.in_ok-place.place
    ≡ Some c.index.result.now
there c =
    let items = c.place_of.new.self.ticks.items in
    slice_get_read items (length items) c.in_ok-place.place c.index.result.now refl
    (known_within (content_of c.args.report.now) c.place_of.new.self c.stay-stay.result.name c.in_ok-place.place
    c.in_ok-place.ensures.place) c.index.ensures

pub visit-requires-clause-ready : goal.visit-requires-clause-ready
visit-requires-clause-ready c =
    known_ready (content_of c.args.report.now) c.place_of.new.self c.stay-stay.result.name c.in_ok-place.place
    c.index.result.now c.in_ok-place.ensures.place (there c)

pub visit-requires-clause-served : goal.visit-requires-clause-served
visit-requires-clause-served c =
    known_served (content_of c.args.report.now) c.place_of.new.self c.stay-stay.result.name c.in_ok-place.place
    c.index.result.now c.in_ok-place.ensures.place (there c)

pub loop-found-preserved : goal.loop-found-preserved
loop-found-preserved c = record {
  known = c.in_ok-place.ensures.known;
  found = found_next (content_of c.args.report.now) (map (stay_by c.args.report.now.answered) c.args.stays.now)
      c.loop-found.found-index c.stay-stay.result c.loop-found.findings c.visit.new.self
      (told_at c.args.report.now.answered c.args.stays.now c.loop-found.found-index c.found-item.result
      c.stay-stay.result c.loop-found-test.true c.found-item.is
      (c.stay-stay.ensures ∙ ap (λ (l : List Answered). stay_by l c.found-item.result) c.items.ensures))
      c.in_ok-visit.ensures c.loop-found.invariant.found;
}

pub returns-clause-starved : goal.returns-clause-starved
returns-clause-starved c =
    starved_first (content_of c.args.report.now) (map (stay_by c.args.report.now.answered) c.args.stays.now)
    c.loop-found.found-index c.loop-found.findings.starved
    (told_length (stay_by c.args.report.now.answered) c.args.stays.now c.loop-found.found-index c.loop-found-test.false)
    c.requires.stays c.loop-found.invariant.found.starved

pub returns-clause-over_cap : goal.returns-clause-over_cap
returns-clause-over_cap c =
    over_first (content_of c.args.report.now) (map (stay_by c.args.report.now.answered) c.args.stays.now)
    c.loop-found.found-index c.loop-found.findings.over_cap
    (told_length (stay_by c.args.report.now.answered) c.args.stays.now c.loop-found.found-index c.loop-found-test.false)
    c.requires.stays c.loop-found.invariant.found.over_cap

pub returns-clause-accounts : goal.returns-clause-accounts
returns-clause-accounts c =
    found_accounts (content_of c.args.report.now) (map (stay_by c.args.report.now.answered) c.args.stays.now)
    c.loop-found.found-index c.loop-found.findings
    (told_length (stay_by c.args.report.now.answered) c.args.stays.now c.loop-found.found-index c.loop-found-test.false)
    c.requires.stays c.loop-found.invariant.found
