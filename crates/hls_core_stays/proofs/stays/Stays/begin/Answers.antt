use Rattle.std.proofs.Common.{◌≡◌, arith}
use Rattle.hls_core_stays.proofs.Begins.{last_thread, last_is, begin_at}
use Rattle.hls_core_stays.proofs.stays.Stays.begin.Goals as goal

pub open-requires-clause-thread : goal.open-requires-clause-thread
open-requires-clause-thread g c =
    last_thread _ c.args.tree.now _ c.thread-id.result c.requires.thread
    (c.thread-id.ensures c.requires.thread.h c.requires.thread.tree)

pub returns : goal.returns
returns g c = λ h stays front k tree ready thread is are none.
    let many = c.threads-last.ensures h tree in
    let same : c.thread-id.result ≡ k =
    last_is h.threads front k c.thread-id.result _ is (omega (arith, many)) (c.thread-id.ensures h tree) in
    begin_at c.open.new.self h stays c.thread-id.result k same
    (λ thread none. c.open.ensures.opened h stays tree ready thread are none) thread none
