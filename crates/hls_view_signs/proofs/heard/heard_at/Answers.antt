use Rattle.std.proofs.Common.{◌≡◌, ◌+◌, ◌∙◌, List, true, drop, sym, ap}
use Rattle.std.specs.Prelude.{slice_get}
use Rattle.hls_report_text.specs.declared.report.Answered.{Answered}
use Rattle.hls_report_text.specs.Content.{content_of}
use Rattle.hls_view_jobs.specs.Words.{words_on}
use Rattle.hls_view_signs.specs.declared.heard.Heard.{Heard}
use Rattle.hls_view_signs.specs.Inside.Heard.{is_of_node}
use Rattle.hls_view_signs.proofs.HeardLaws.{found_at}
use Rattle.hls_view_signs.proofs.heard.heard_at.Goals as goal

pub returns-then-is_heard-clause-at : goal.returns-then-is_heard-clause-at
returns-then-is_heard-clause-at c =
    let node = c.args.node.now in
    let on : is_of_node node (slice_get c.args.all.now.items c.args.guess) ≡ true =
    ap (λ (l : List Heard). is_of_node node (slice_get l c.args.guess)) (sym c.deref.ensures.value)
    ∙ sym c.is_heard.ensures ∙ c.if-is_heard.true in
    found_at (content_of c.args.report.now) c.args.all.now.items node c.args.guess c.requires on

pub returns-clause-at : goal.returns-clause-at
returns-clause-at c =
    let node = c.args.node.now in
    record {
      heard = record {
        name = node.label.name;
        born = node.standing.born;
        words = c.in_ok-words.words;
      };
      there = c.in_ok-at.ensures.there;
      words = c.in_ok-words.ensures
          ∙ ap (words_on c.args.report.now.horizon node.label.name) c.behind-later.ensures
          ∙ ap (λ (l : List Answered). words_on c.args.report.now.horizon node.label.name
          (drop (node.standing.born + 1) l)) c.items.ensures;
    }
