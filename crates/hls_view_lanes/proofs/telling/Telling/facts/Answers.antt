use Rattle.std.proofs.Common.{◌≡◌, ◌∙◌, ◌++◌, ◌∷◌, [], List, Bool, false, ap, subst, map, length}
use Rattle.std.specs.List.{range_with_len}
use Rattle.hls_report_text.specs.Content.{content_of}
use Rattle.hls_view_tale.specs.declared.label.Label.{Label}
use Rattle.hls_view_lanes.specs.declared.present.Present.{Present}
use Rattle.hls_view_lanes.specs.declared.tick_facts.Facts.{Facts}
use Rattle.hls_view_lanes.specs.Facts.{facts, way_asks, given_at, is_through}
use Rattle.hls_view_lanes.specs.Inside.Present.{facts_at}
use Rattle.hls_view_lanes.specs.Inside.Telling.{IsTelling}
use Rattle.hls_view_lanes.proofs.TellingLaws.{told-facts}
use Rattle.hls_view_lanes.proofs.telling.Telling.facts.Goals as goal

pub returns-clause-facts : goal.returns-clause-facts
returns-clause-facts c =
    let r = c.args.report.now in
    let content = content_of r in
    let t = c.args.tick in
    let all = c.args.self.now.rows.items in
    let s = c.turn_to.new.self in
    let asked = c.in_ok-asking.ensures.telling in
    let gone = c.in_ok-go_to.ensures in
    let rows : c.all_asking.new.self.rows.items ≡ all = asked.is.rows ∙ gone.is.rows in
    let make : Bool → Facts = (λ b. record { here = false; ready = false; served = b }) in
    let found = told-facts r all t s c.deref.result.now
    (subst (λ (rs : List (List Label)). IsTelling r rs s) rows c.in_ok-is_idle.ensures.telling)
    (ap (λ (p : Present). p.ways.items) c.in_ok-is_idle.ensures.present ∙ asked.ways_are ∙ gone.ways_are)
    (c.deref.ensures.value ∙ c.in_ok-asking.ensures.asking
    ∙ ap (λ (ws : List (List Label)). map (way_asks content t) ws) gone.ways_are)
    (c.in_ok-is_idle.ensures.through
    ∙ ap (λ (rs : List (List Label)). map (λ row. is_through row (given_at content t)) rs) rows) in
    c.in_ok-push.ensures.items
    ∙ ap (λ (fs : List Facts). fs ++ c.idle_facts.result ∷ [])
    (c.in_ok-facts.ensures
    ∙ ap (λ (th : List Bool). map (facts_at s.present c.deref.result.now th)
    (range_with_len 0 (length s.present.below.items))) c.deref-2.ensures.value
    ∙ found)
    ∙ ap (λ (f : Facts). map (facts content t) all ++ f ∷ [])
    (c.idle_facts.ensures ∙ ap make c.in_ok-is_idle.ensures.idle)
