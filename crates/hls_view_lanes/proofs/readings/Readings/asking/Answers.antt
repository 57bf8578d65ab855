use Rattle.std.proofs.Common.{◌<◌, length, refl, sym, subst, arith, ◌∙◌}
use Rattle.std.proofs.lemmas.Option.{slice_get_read}
use Rattle.hls_report_text.specs.Content.{content_of}
use Rattle.hls_legal.specs.Ready.{is_ready}
use Rattle.hls_audit_threads.proofs.KnownLaws.{known_within, known_ready}
use Rattle.hls_view_lanes.proofs.readings.Readings.asking.Goals as goal

pub index-requires : goal.index-requires
index-requires c =
    subst (λ n. c.in_ok-place.place < n) (sym c.place_of.new.self.ticks.ok.0)
    (known_within (content_of c.args.report.now) c.place_of.new.self c.args.name.now c.in_ok-place.place
    c.in_ok-place.ensures.place)

pub returns-clause-asks : goal.returns-clause-asks
returns-clause-asks c =
    let content = content_of c.args.report.now in
    let items = c.place_of.new.self.ticks.items in
    let there = slice_get_read items (length items) c.in_ok-place.place c.index.result.now refl
    (known_within content c.place_of.new.self c.args.name.now c.in_ok-place.place
    c.in_ok-place.ensures.place) c.index.ensures in
    let tell = known_ready content c.place_of.new.self c.args.name.now c.in_ok-place.place c.index.result.now
    c.in_ok-place.ensures.place there in
    record {
      asks = λ t after before.
          c.steady_until.ensures.steady (is_ready content c.args.name.now) content.horizon tell (omega arith) t after
          before
          ∙ sym (c.is_in.ensures (is_ready content c.args.name.now) content.horizon tell c.requires.early);
    }
