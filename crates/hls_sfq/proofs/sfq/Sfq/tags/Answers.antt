use Rattle.hls_sfq.proofs.Queues.{queue_lent}
use Rattle.hls_sfq.proofs.sfq.Sfq.tags.Goals as goal

pub returns : goal.returns
returns c =
    let self = c.args.self.now in
    rw c.order.ensures
    (queue_lent self.state self.queue self.time self.seats self.sound c.requires self.held (self.queued c.requires))
