use Rattle.std.proofs.Common.{arith, ◌-◌}
use Rattle.hls_core_journal.proofs.Lines.{set_twice, short_number, span_written}
use Rattle.hls_core_journal.proofs.schedule.write_span.Goals as goal

pub write_digits-behind-requires : goal.write_digits-behind-requires
write_digits-behind-requires c =
    let short = short_number c.args.to c.from.result c.from.ensures (omega (arith, c.ranges.to.fits)) in
    (omega (arith, short, c.requires.enough), omega (arith, c.requires.within))

pub overflow_sub-bytes : goal.overflow_sub-bytes
overflow_sub-bytes c =
    let short = short_number c.args.to c.from.result c.from.ensures (omega (arith, c.ranges.to.fits)) in
    omega (arith, short, c.requires.enough, c.write_digits-behind.ensures.start)

pub overflow_sub-bytes-2 : goal.overflow_sub-bytes-2
overflow_sub-bytes-2 c =
    let short = short_number c.args.to c.from.result c.from.ensures (omega (arith, c.ranges.to.fits)) in
    omega (arith, short, c.requires.enough, c.write_digits-behind.ensures.start)

pub overflow_sub-behind : goal.overflow_sub-behind
overflow_sub-behind c =
    let short = short_number c.args.to c.from.result c.from.ensures (omega (arith, c.ranges.to.fits)) in
    omega (arith, short, c.requires.enough, c.write_digits-behind.ensures.start)

pub write_digits-requires : goal.write_digits-requires
write_digits-requires c =
    let short = short_number c.args.from c.from-2.result c.from-2.ensures (omega (arith, c.ranges.from.fits)) in
    let other = short_number c.args.to c.from.result c.from.ensures (omega (arith, c.ranges.to.fits)) in
    let start = c.write_digits-behind.ensures.start in
    let one = c.write_digits-behind.auto.buf in (
      omega (arith, short, other, start, c.requires.enough),
      set_twice c.write_digits-behind.new.buf (c.write_digits-behind.result - 1) (c.write_digits-behind.result - 2)
          46 46 (c.write_digits-behind.result - 2) (omega (arith, one, c.requires.within, start)),
    )

pub returns-clause-written : goal.returns-clause-written
returns-clause-written c =
    let one = c.write_digits-behind.auto.buf in
    span_written c.args.bytes.now c.write_digits-behind.new.buf c.write_digits.new.buf c.args.from c.args.to
    c.from-2.result c.from.result c.write_digits-behind.result c.write_digits.result c.args.end c.from-2.ensures
    c.from.ensures c.requires.enough (omega (arith, one, c.requires.within)) c.write_digits-behind.ensures.start
    (short_number c.args.to c.from.result c.from.ensures (omega (arith, c.ranges.to.fits)))
    c.write_digits-behind.ensures.written c.write_digits.ensures.written
