use Rattle.std.proofs.Common.{◌≡◌, ◌+◌, ◌&&◌, ◌∙◌, List, Bool, true, drop, sym, ap, arith}
use Rattle.std.specs.List.{list_any}
use Rattle.hls_report_text.specs.Content.{content_of}
use Rattle.hls_view_jobs.specs.declared.job.Word.{Word}
use Rattle.hls_view_jobs.specs.Words.{words_on}
use Rattle.hls_view_lanes.specs.Leaves.{is_thread}
use Rattle.hls_view_signs.specs.Happenings.{is_woken}
use Rattle.hls_view_signs.proofs.HeardLaws.{read_at, read_rising}
use Rattle.hls_view_signs.proofs.happenings.has_woken.Goals as goal

pub is_woken-requires : goal.is_woken-requires
is_woken-requires c =
    let content = content_of c.args.report.now in
    let node = c.args.node.now in
    let words : c.deref.result.now
    ≡ words_on content.horizon node.label.name (drop (node.standing.born + 1) content.answered) =
    c.deref.ensures.value
    ∙ read_at content c.heard_at.new.all.items node c.in_ok-at.at c.index.result.now c.in_ok-at.ensures.at
    c.index.ensures in
    read_rising content node c.deref.result.now c.requires.formed.content words

pub returns-clause-is : goal.returns-clause-is
returns-clause-is c =
    let content = content_of c.args.report.now in
    let node = c.args.node.now in
    let name = node.label.name in
    let words : c.deref.result.now ≡ words_on content.horizon name (drop (node.standing.born + 1) content.answered) =
    c.deref.ensures.value
    ∙ read_at content c.heard_at.new.all.items node c.in_ok-at.at c.index.result.now c.in_ok-at.ensures.at
    c.index.ensures in
    let thread : is_thread node.label ≡ true = grind arith in
    let on = list_any (is_woken c.args.tick) (words_on content.horizon name (drop (node.standing.born + 1)
    content.answered)) in
    c.is_woken.ensures ∙ ap (λ (ws : List Word). list_any (is_woken c.args.tick) ws) words
    ∙ ap (λ (b : Bool). b && on) (sym thread)
