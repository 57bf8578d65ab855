use Rattle.std.proofs.Common.{◌≤◌, map, string_bytes, sym, subst}
use Rattle.hls_offer_words.proofs.Rising.{rising_more, words_more}
use Rattle.hls_offer_words.proofs.periods.rising.Goals as goal

pub loop-number-preserved : goal.loop-number-preserved
loop-number-preserved c =
    let found = c.in-Some.ensures.found in
    let before = c.loop-number.invariant in
    let more = rising_more 1 c.args.most c.loop-number.numbers.items c.in-Some.number before.rise
    (subst (λ n. n ≤ c.in-Some.number) (sym before.least) found.0) found.1 in
    record {
      rise = rw (c.in_ok-push.ensures.items) more.0;
      words_are = rw (c.in_ok-push.ensures.items) (words_more (map string_bytes c.args.words.now)
          c.loop-number.numbers.items c.in-Some.number (map string_bytes c.loop-number.rest.now)
          (map string_bytes c.in-Some.behind.now) before.words_are found.2);
      least = rw (c.in_ok-push.ensures.items) more.1;
    }
