use Rattle.std.proofs.Common.{◌++◌, ◌∙◌, ap}
use Rattle.std.specs.Prelude.{option_copied, option_to_list}
use Rattle.hls_offer_lines.proofs.Assembling.{offers-of}
use Rattle.hls_offer_lines.proofs.lines.offered.Goals as goal

pub returns : goal.returns
returns g c =
    offers-of c.args.seat.now (option_copied c.args.periods) c.in_ok-joined.field-0.items c.or_nothing.result
    (λ v. v.items)
    (record {
      whole = c.in_ok-whole.whole.items;
      hard_blocks = c.in_ok-hard_lines.field-0.items;
      hard_windows = c.in_ok-hard_lines-2.field-0.items;
      shares = c.in_ok-top_shares.field-0.items;
      wait = c.in_ok-least_wait.field-0;
      spans = c.in_ok-spans.spans.items;
      first = c.in_ok-lines.lines.items;
      second = c.in_ok-lines-2.lines.items;
      third = c.in_ok-lines-3.lines.items;
      fourth = c.push_some.new.all.items;
      to_first = c.in_ok-lines.ensures;
      to_second = c.in_ok-lines-2.ensures;
      to_third = c.in_ok-lines-3.ensures;
      to_fourth = c.in_ok-push_some.ensures
          ∙ ap (λ v. c.in_ok-lines-3.lines.items ++ option_to_list v) c.line_of_wait.ensures;
      to_lines = c.in_ok-joined.ensures;
      is_whole = c.in_ok-whole.ensures;
      are_hard_blocks = c.in_ok-hard_lines.ensures;
      are_hard_windows = c.in_ok-hard_lines-2.ensures;
      are_shares = c.in_ok-top_shares.ensures.top;
      cover = c.in_ok-top_shares.ensures.cover;
      is_wait = c.in_ok-least_wait.ensures;
      are_spans = c.in_ok-spans.ensures;
    }) c.or_nothing.ensures
