use Rattle.std.proofs.Common.{ap, arith}
use Rattle.hls_core_stays.specs.Store.{Store}
use Rattle.hls_core_stays.specs.Inside.Rows.{tally_by}
use Rattle.hls_core_stays.specs.Inside.Steps.{noted_tally, served_tally}
use Rattle.hls_core_stays.specs.declared.tally.Tally.{Tally}
use Rattle.hls_core_stays.proofs.Rows.{row_at, tally_of_row, set_row}
use Rattle.hls_core_stays.proofs.tallies.Tallies.serve_at.Goals as goal

pub overflow_add-row : goal.overflow_add-row
overflow_add-row c =
    let is = ap (λ (s : Store). s.items) c.self.view_is in
    let seatings = c.self.inside.seatings.items in
    let rows = c.self.inside.rows.items in
    let there = row_at seatings rows _ c.args.place c.index.result.now is c.requires.place c.index.ensures in
    let few = c.requires.served (tally_by seatings c.index.result.now)
    (tally_of_row seatings rows _ c.args.place c.index.result.now is there) in
    omega (arith, few, c.ranges.now)

pub note-requires : goal.note-requires
note-requires c =
    let is = ap (λ (s : Store). s.items) c.self.view_is in
    let seatings = c.self.inside.seatings.items in
    let rows = c.self.inside.rows.items in
    let there = row_at seatings rows _ c.args.place c.index.result.now is c.requires.place c.index.ensures in
    c.requires.fits (tally_by seatings c.index.result.now)
    (tally_of_row seatings rows _ c.args.place c.index.result.now is there)

pub returns : goal.returns
returns c =
    let is = ap (λ (s : Store). s.items) c.self.view_is in
    let seatings = c.self.inside.seatings.items in
    let rows = c.self.inside.rows.items in
    let there = row_at seatings rows _ c.args.place c.index.result.now is c.requires.place c.index.ensures in
    set_row seatings rows _ c.args.place c.index.result.now c.note.new.self
    (λ (t : Tally). noted_tally c.args.ready c.args.now (served_tally c.args.ticks t)) is there
    (c.note.ensures.noted seatings)
