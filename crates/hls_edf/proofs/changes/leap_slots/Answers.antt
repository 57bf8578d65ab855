use Rattle.std.proofs.Common.{rules, false, sym, ◌∙◌, ◌+◌, ◌-◌, ◌≤◌, is_some, arith, inl, inr}
use Rattle.std.proofs.lemmas.Bool.{cases_Bool}
use Rattle.hls_chron.specs.Ledger.{now_of}
use Rattle.hls_chron.specs.Seats.{terms_at}
use Rattle.hls_kinds.specs.Asks.{slot_asks}
use Rattle.hls_edf.specs.Choice.{server_in}
use Rattle.hls_edf.proofs.Calm.{leap_calm}
use Rattle.hls_edf.proofs.changes.leap_slots.Goals as goal

pub returns-then-from-calm-clause-next : goal.returns-then-from-calm-clause-next
returns-then-from-calm-clause-next c = λ slot lt.
    let state = c.args.state.now in
    let n = c.args.ticks in
    let early : now_of state.book + n ≤ c.args.calm.until = search rules in
    elim (cases_Bool (slot_asks c.args.calm.due slot)) [
      | inl on ↦ c.leap_due.ensures.due slot lt on
      | inr off ↦
          c.leap_due.ensures.others slot off
          ∙ sym (leap_calm (server_in c.args.servers.now slot) (is_some (terms_at state.book slot))
          (slot_asks state.mask slot) false (now_of state.book) n c.requires.some
          (c.requires.calm.calm slot (now_of state.book) lt (omega (arith, early, c.requires.some)) off)
          (c.requires.calm.calm slot (now_of state.book + n - 1) lt (omega (arith, early, c.requires.some)) off)
          (λ e. absurd cc))
    ]

pub returns-then-from-calm-clause-calm : goal.returns-then-from-calm-clause-calm
returns-then-from-calm-clause-calm c = record {
  calm = λ slot t lt before.
      let state = c.args.state.now in
      elim (cases_Bool (slot_asks c.args.calm.due slot)) [
        | inl on ↦ c.leap_due.ensures.calm slot t lt before on
        | inr off ↦
            rw (c.leap_due.ensures.others slot off)
            (c.requires.calm.calm slot t lt (omega (arith, before, c.leap_due.ensures.sooner)) off)
      ];
}
