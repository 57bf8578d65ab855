use Rattle.std.proofs.Common.{◌≡◌, ◌+◌, ◌<◌, ◌&&◌, ◌∙◌, List, Bool, true, length, drop, refl, sym, ap, subst, arith}
use Rattle.std.specs.List.{list_any}
use Rattle.std.proofs.lemmas.Option.{slice_get_read}
use Rattle.hls_report_text.specs.Content.{content_of}
use Rattle.hls_report_text.proofs.LineTexts.{horizon_fits}
use Rattle.hls_audit_threads.proofs.KnownLaws.{known_within, known_served}
use Rattle.hls_view_jobs.specs.declared.job.Word.{Word}
use Rattle.hls_view_jobs.specs.Words.{words_on}
use Rattle.hls_view_jobs.specs.Jobs.{releases}
use Rattle.hls_view_lanes.specs.Leaves.{is_thread}
use Rattle.hls_view_signs.specs.Happenings.{is_dropped}
use Rattle.hls_view_signs.proofs.DropLaws.{early_more}
use Rattle.hls_view_signs.proofs.HeardLaws.{read_at, read_early, read_rising}
use Rattle.hls_view_signs.proofs.happenings.has_dropped.Goals as goal

pub index-requires : goal.index-requires
index-requires c =
    subst (λ n. c.in_ok-place.place < n) (sym c.place_of.new.self.ticks.ok.0)
    (known_within (content_of c.args.report.now) c.place_of.new.self c.args.node.now.label.name c.in_ok-place.place
    c.in_ok-place.ensures.place)

pub is_dropped-requires-clause-early : goal.is_dropped-requires-clause-early
is_dropped-requires-clause-early c =
    let content = content_of c.args.report.now in
    let node = c.args.node.now in
    let words : c.deref.result.now
    ≡ words_on content.horizon node.label.name (drop (node.standing.born + 1) content.answered) =
    c.deref.ensures.value
    ∙ read_at content c.heard_at.new.all.items node c.in_ok-at.at c.index-2.result.now c.in_ok-at.ensures.at
    c.index-2.ensures in
    let formed = c.requires.formed.content in
    early_more content.horizon 1000000 c.deref.result.now
    (horizon_fits content.version content.horizon formed.horizon)
    (read_early content node c.deref.result.now formed words)

pub is_dropped-requires-clause-rising : goal.is_dropped-requires-clause-rising
is_dropped-requires-clause-rising c =
    let content = content_of c.args.report.now in
    let node = c.args.node.now in
    let words : c.deref.result.now
    ≡ words_on content.horizon node.label.name (drop (node.standing.born + 1) content.answered) =
    c.deref.ensures.value
    ∙ read_at content c.heard_at.new.all.items node c.in_ok-at.at c.index-2.result.now c.in_ok-at.ensures.at
    c.index-2.ensures in
    read_rising content node c.deref.result.now c.requires.formed.content words

pub returns-clause-is : goal.returns-clause-is
returns-clause-is c =
    let content = content_of c.args.report.now in
    let node = c.args.node.now in
    let name = node.label.name in
    let items = c.place_of.new.self.ticks.items in
    let place = c.in_ok-place.place in
    let words : c.deref.result.now ≡ words_on content.horizon name (drop (node.standing.born + 1) content.answered) =
    c.deref.ensures.value
    ∙ read_at content c.heard_at.new.all.items node c.in_ok-at.at c.index-2.result.now c.in_ok-at.ensures.at
    c.index-2.ensures in
    let early = read_early content node c.deref.result.now c.requires.formed.content words in
    let served = known_served content c.place_of.new.self name place c.index.result.now c.in_ok-place.ensures.place
    (slice_get_read items (length items) place c.index.result.now refl
    (known_within content c.place_of.new.self name place c.in_ok-place.ensures.place) c.index.ensures) in
    let thread : is_thread node.label ≡ true = grind arith in
    let cut = list_any (is_dropped content c.args.tick name)
    (releases (words_on content.horizon name (drop (node.standing.born + 1) content.answered))) in
    c.is_dropped.ensures content name served early
    ∙ ap (λ (ws : List Word). list_any (is_dropped content c.args.tick name) (releases ws)) words
    ∙ ap (λ (b : Bool). b && cut) (sym thread)
