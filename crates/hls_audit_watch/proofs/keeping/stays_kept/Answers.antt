use Rattle.std.proofs.Common.{◌+◌, length, arith, ◌∷◌, ◌++◌, []}
use Rattle.hls_guarantee.specs.Service.{schedule_of}
use Rattle.hls_guarantee.proofs.Slides.{before-le}
use Rattle.hls_audit_watch.proofs.Carrying.{all_more, all_last, window_more, window_last}
use Rattle.hls_audit_watch.proofs.Carrying.{share_kept, share_carried}
use Rattle.hls_audit_watch.proofs.keeping.stays_kept.Goals as goal

pub is_met-requires-clause-got : goal.is_met-requires-clause-got
is_met-requires-clause-got c =
    let few = before-le (schedule_of (c.args.recent.now.list ++ c.args.served ∷ [])) c.in-Resc.y
    (length c.args.recent.now.list + 1) in
    let valid = rw c.in-Resc.is at c.requires.valid in
    omega (arith, c.last_window-last.ensures.got, valid.size)

pub returns-in-All-clause-kept : goal.returns-in-All-clause-kept
returns-in-All-clause-kept c =
    let kept = rw c.in-All.is at c.requires.kept in
    rw c.in-All.is (
      λ yes. all_more c.args.recent.now.list c.args.served kept yes,
      λ s. all_last c.args.recent.now.list c.args.served s,
    )

pub returns-in-Resc-clause-kept : goal.returns-in-Resc-clause-kept
returns-in-Resc-clause-kept c =
    let kept = rw c.in-Resc.is at c.requires.kept in
    let valid = rw c.in-Resc.is at c.requires.valid in
    rw c.in-Resc.is (
      λ yes.
          window_more c.in-Resc.hard c.in-Resc.x c.in-Resc.y c.last_window-last.result.ticks
          c.last_window-last.result.got c.args.recent.now.list c.args.served valid.fits
          c.last_window-last.ensures.ticks c.last_window-last.ensures.got (c.is_met.ensures.0 yes) kept,
      λ s.
          c.is_met.ensures.1
          (window_last c.in-Resc.hard c.in-Resc.x c.in-Resc.y c.last_window-last.result.ticks
          c.last_window-last.result.got c.args.recent.now.list c.args.served
          c.last_window-last.ensures.ticks c.last_window-last.ensures.got s),
    )

pub returns-in-Psbe-clause-kept : goal.returns-in-Psbe-clause-kept
returns-in-Psbe-clause-kept c =
    share_kept c.args.g.now c.in-Psbe.s c.in-Psbe.d c.args.recent.now.period c.args.debt.now c.owes.new.debt
    c.args.cuts.now c.args.recent.now.list c.args.served c.owes.result c.in-Psbe.is c.owes.ensures.debt
    c.owes.ensures.within c.requires.carried

pub returns-in-Psbe-clause-carried : goal.returns-in-Psbe-clause-carried
returns-in-Psbe-clause-carried c =
    share_carried c.args.g.now c.in-Psbe.s c.in-Psbe.d c.args.recent.now.period c.args.debt.now c.owes.new.debt
    c.args.cuts.now c.args.cuts.now c.args.recent.now.list c.args.served c.owes.result c.in-Psbe.is
    c.owes.ensures.debt c.owes.ensures.within c.requires.carried
