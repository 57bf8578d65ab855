use Rattle.hls_io.proofs.Steps.{gathers-written, gathers-written-part}
use Rattle.hls_io.proofs.gathering.write_on.Goals as goal

pub returns-then-piece-capacity-clause-whole : goal.returns-then-piece-capacity-clause-whole
returns-then-piece-capacity-clause-whole g c =
    gathers-written (g.K.Sink.written c.args.sink.now) (g.K.Sink.written c.write_all.new.sink)
    (g.K.Sink.written c.write_all-then-piece-capacity.new.sink) c.deref.result.now c.args.room.now.items
    c.clear.new.self.items c.args.piece.now c.write_all-then-piece-capacity.result c.deref.ensures.value
    c.in_ok-write_all.ensures.whole c.clear.ensures.items c.write_all-then-piece-capacity.ensures.whole

pub returns-then-piece-capacity-clause-part : goal.returns-then-piece-capacity-clause-part
returns-then-piece-capacity-clause-part g c =
    gathers-written-part (g.K.Sink.written c.args.sink.now) (g.K.Sink.written c.write_all.new.sink)
    (g.K.Sink.written c.write_all-then-piece-capacity.new.sink) c.deref.result.now c.args.room.now.items
    c.args.piece.now c.write_all-then-piece-capacity.result c.deref.ensures.value c.in_ok-write_all.ensures.whole
    c.write_all-then-piece-capacity.ensures.part
