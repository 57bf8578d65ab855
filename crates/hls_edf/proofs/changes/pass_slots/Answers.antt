use Rattle.std.proofs.Common.{rules, ◌≡◌, false, sym, ◌+◌, ◌-◌, ◌<◌, is_some, arith}
use Rattle.hls_chron.specs.Ledger.{now_of}
use Rattle.hls_chron.specs.Seats.{terms_at}
use Rattle.hls_kinds.specs.Asks.{slot_asks}
use Rattle.hls_edf.specs.Choice.{server_in}
use Rattle.hls_edf.proofs.Bits.{none_asks}
use Rattle.hls_edf.proofs.Calm.{leap_calm}
use Rattle.hls_edf.proofs.changes.pass_slots.Goals as goal

pub returns-then-from-calm-clause-next : goal.returns-then-from-calm-clause-next
returns-then-from-calm-clause-next c = λ slot lt.
    let state = c.args.state.now in
    let early : now_of state.book < c.args.calm.until = search rules in
    let off : slot_asks c.args.calm.due slot ≡ false = rw c.if-calm-eq0.true (none_asks slot) in
    sym (leap_calm (server_in c.args.servers.now slot) (is_some (terms_at state.book slot))
    (slot_asks state.mask slot) false (now_of state.book) 1 (omega arith)
    (c.requires.calm.calm slot (now_of state.book) lt early off)
    (c.requires.calm.calm slot (now_of state.book + 1 - 1) lt (omega (arith, early)) off)
    (λ e. absurd cc))

pub returns-then-from-calm-clause-calm : goal.returns-then-from-calm-clause-calm
returns-then-from-calm-clause-calm c = record {
  calm = λ slot t lt before.
      let off : slot_asks c.args.calm.due slot ≡ false = rw c.if-calm-eq0.true (none_asks slot) in
      c.requires.calm.calm slot t lt before off;
}
