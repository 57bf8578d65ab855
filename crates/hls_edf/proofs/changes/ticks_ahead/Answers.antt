use Rattle.std.proofs.Common.{◌≡◌, ℕ, ◌-◌, ◌<◌, ◌≢◌, ◌^◌, List, arith, sym, ap, ◌∙◌}
use Rattle.std.specs.Prelude.{min}
use Rattle.hls_chron.specs.Ledger.{Ledger, now_of}
use Rattle.hls_kinds.specs.Stands.{always}
use Rattle.hls_book.specs.declared.server.Server.{Server}
use Rattle.hls_edf.specs.Ahead.{ahead_of}
use Rattle.hls_edf.specs.Inside.Outlook.{soonest_of}
use Rattle.hls_edf.proofs.Outlooks.{ahead_by}
use Rattle.hls_edf.proofs.changes.ticks_ahead.Goals as goal

by_soonest : (servers : List Server) (b : Ledger) (mask soonest now to : ℕ) → soonest ≢ 0
    → (0 < soonest → soonest ≡ soonest_of servers b mask 32) → now ≡ now_of b → now < 2 ^ 32
    → to ≡ soonest - now → min always to ≡ ahead_of servers b mask 32
by_soonest servers b mask soonest now to some known here small is =
    let least : soonest ≡ soonest_of servers b mask 32 = known (omega (arith, some)) in
    let short : now_of b < 2 ^ 32 = omega (arith, small, here) in
    let same : to ≡ soonest_of servers b mask 32 - now_of b = omega (arith, is, least, here) in
    ap (min always) same ∙ sym (ahead_by servers b mask 32 short)

pub returns-then-from-to-clause-value : goal.returns-then-from-to-clause-value
returns-then-from-to-clause-value c =
    let state = c.args.state.now in
    let here : c.now.result ≡ now_of state.book = rw c.book.ensures at c.now.ensures.now in
    let to : c.saturating_sub-to.result ≡ c.args.soonest - c.now.result =
    c.saturating_sub-to.ensures ∙ ap (λ t. c.args.soonest - t) c.from.ensures in
    let value = by_soonest c.args.servers.now state.book state.mask c.args.soonest c.now.result
    c.saturating_sub-to.result c.if-soonest-eq0.false c.requires here (omega arith) to in
    omega (arith, value, c.if-from-to.true, c.from-2.ensures)

pub returns-else-from-to-clause-value : goal.returns-else-from-to-clause-value
returns-else-from-to-clause-value c =
    let state = c.args.state.now in
    let here : c.now.result ≡ now_of state.book = rw c.book.ensures at c.now.ensures.now in
    let to : c.saturating_sub-to.result ≡ c.args.soonest - c.now.result =
    c.saturating_sub-to.ensures ∙ ap (λ t. c.args.soonest - t) c.from.ensures in
    let value = by_soonest c.args.servers.now state.book state.mask c.args.soonest c.now.result
    c.saturating_sub-to.result c.if-soonest-eq0.false c.requires here (omega arith) to in
    omega (arith, value, c.if-from-to.false, c.from-2.ensures)
