use Rattle.std.proofs.Common.{ℕ, List, [], ◌∷◌, ◌++◌, take, get_or, sym, subst}
use Rattle.std.proofs.lemmas.List.{take_more, take_all}
use Rattle.hls_offer_lines.specs.Lines.{AreOfPeriods}
use Rattle.hls_offer_lines.proofs.Rising.{periods-snoc}
use Rattle.hls_offer_lines.proofs.periods.lines_of_periods.Goals as goal

pub loop-y-preserved : goal.loop-y-preserved
loop-y-preserved g c =
    let seat = c.args.waiting.now.seat in
    let wait = c.args.waiting.now.wait in
    let ys = c.args.periods.now in
    let n = c.loop-y.y-index in
    subst (λ (v : List ℕ). AreOfPeriods seat wait v c.append.new.self.items)
    (sym (take_more ys n 0 c.loop-y-test.true))
    (subst (λ v. AreOfPeriods seat wait (take n ys ++ (get_or ys n 0 ∷ [])) v) (sym c.in_ok-append.ensures.items)
    (periods-snoc seat wait (take n ys) (get_or ys n 0) c.loop-y.lines.items c.in_ok-more.more.items
    c.loop-y.invariant c.in_ok-more.ensures))

pub returns : goal.returns
returns g c =
    let seat = c.args.waiting.now.seat in
    let wait = c.args.waiting.now.wait in
    subst (λ (v : List ℕ). AreOfPeriods seat wait v c.loop-y.lines.items)
    (take_all c.loop-y.y-index c.args.periods.now c.loop-y-test.false) c.loop-y.invariant
