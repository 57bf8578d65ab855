use Rattle.std.proofs.Common.{◌≡◌, ◌∙◌, ap, arith, length, min}
use Rattle.std.proofs.lemmas.List.{length-take-le}
use Rattle.hls_core_journal.proofs.Pairs.{took_none}
use Rattle.hls_core_journal.proofs.answered.answered_from_last.Goals as goal

pub loop-at-init : goal.loop-at-init
loop-at-init c =
    let items = c.args.items.items in
    let answers = c.args.answers.items in
    let count = c.min-count.result in
    let least : count ≡ min (length items) (length answers) =
    (let n = c.len.ensures in let m = c.len-2.ensures in let k = c.min-count.ensures in
    let a = c.args.items.ok.0 in let b = c.args.answers.ok.0 in
    omega (arith, n, m, k, a, b)) in
    let one = ap length c.truncate.ensures.items ∙ length-take-le count items (omega (arith, least)) in
    let two = ap length c.truncate-2.ensures.items ∙ length-take-le count answers (omega (arith, least)) in
    record {
      told =
          took_none count items _ answers _ _ least c.truncate.ensures.items c.truncate-2.ensures.items
          c.in_ok-all.ensures.items;
      items = omega (arith, one);
      answers = omega (arith, two);
    }
