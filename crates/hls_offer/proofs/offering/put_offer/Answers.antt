use Rattle.std.proofs.Common.{◌≡◌, ◌++◌, List, sym, subst, All}
use Rattle.std.specs.Prelude.{option_copied}
use Rattle.hls_guarantee.specs.declared.Guarantee.{Guarantee}
use Rattle.hls_guarantee.specs.Limits.{IsNarrow}
use Rattle.hls_report_text.specs.ReportText.{ended}
use Rattle.hls_offer_asks.specs.Offers.{IsOffer}
use Rattle.hls_offer_asks.proofs.Standing.{is_moment, moment_of}
use Rattle.hls_offer.specs.Told.{open_told}
use Rattle.hls_offer.proofs.Answered.{all_narrow, told_open, told_shut}
use Rattle.hls_offer.proofs.offering.put_offer.Goals as goal

pub put_requests-requires-clause-narrow : goal.put_requests-requires-clause-narrow
put_requests-requires-clause-narrow g c =
    let m = moment_of _ c.args.core.now c.requires.runs in
    let at = is_moment _ c.args.core.now c.requires.runs in
    subst (λ (gs : List Guarantee). All IsNarrow gs) (sym c.deref.ensures.value)
    (all_narrow c.in-Open.lines.items
    (subst (λ o. IsOffer m c.args.wish.now (option_copied c.args.periods) o) c.in-Open.is
    (c.in_ok-lines.ensures m at)).narrow)

pub returns-in_ok-put_requests-in-Open : goal.returns-in_ok-put_requests-in-Open
returns-in_ok-put_requests-in-Open g c = λ version m at.
    told_open version m c.args.core.now.journal.ticks c.args.wish.now (option_copied c.args.periods)
    c.in-Open.lines.items c.args.out.now.items c.put_requests.new.out.items
    (subst (λ o. IsOffer m c.args.wish.now (option_copied c.args.periods) o) c.in-Open.is
    (c.in_ok-lines.ensures m at))
    (subst (λ (gs : List Guarantee). c.put_requests.new.out.items
    ≡ c.args.out.now.items
    ++ ended (open_told m.hierarchy c.args.core.now.journal.ticks c.args.wish.now gs).lines)
    c.deref.ensures.value (c.in_ok-put_requests-in-Open.ensures m at))

pub returns-in_ok-put_refused-in-Shut : goal.returns-in_ok-put_refused-in-Shut
returns-in_ok-put_refused-in-Shut g c = λ version m at.
    told_shut version m c.args.core.now.journal.ticks c.args.wish.now (option_copied c.args.periods) c.in-Shut.refusal
    c.args.out.now.items c.put_refused.new.out.items
    (subst (λ o. IsOffer m c.args.wish.now (option_copied c.args.periods) o) c.in-Shut.is
    (c.in_ok-lines.ensures m at)) c.in_ok-put_refused-in-Shut.ensures
