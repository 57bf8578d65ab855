use Rattle.hls_core.proofs.Chained.{first-part, second-part, third-part, last-part, all-written, on_ok, on_err, as_err}
use Rattle.hls_core.proofs.told.Told.write.Goals as goal

pub returns-in_err-gather-clause-part : goal.returns-in_err-gather-clause-part
returns-in_err-gather-clause-part g c =
    as_err c.from_residual.result
    (first-part _ _ _ _ c.args.self.back.items c.clear.ensures.items _
    (rw c.deref.ensures.value at c.in_err-gather.ensures.part))

pub returns-in_err-write-clause-part : goal.returns-in_err-write-clause-part
returns-in_err-write-clause-part g c =
    as_err c.from_residual-in_err-write.result
    (second-part _ _ _ _ c.args.self.back.items c.clear.ensures.items _ _
    (rw c.deref.ensures.value at c.in_ok-gather.ensures.whole) _ c.in_err-write.ensures.part)

pub returns-in_err-gather-2-clause-part : goal.returns-in_err-gather-2-clause-part
returns-in_err-gather-2-clause-part g c =
    as_err c.from_residual-in_err-gather-2.result
    (third-part _ _ _ _ c.args.self.back.items c.clear.ensures.items _ _
    (rw c.deref.ensures.value at c.in_ok-gather.ensures.whole) _ _ c.in_ok-write.ensures.whole _
    (rw c.deref-2.ensures.value at c.in_err-gather-2.ensures.part))

pub returns-clause-whole : goal.returns-clause-whole
returns-clause-whole g c =
    on_ok c.write_all.result (λ last.
    all-written _ _ _ _ c.args.self.back.items c.clear.ensures.items _ _
    (rw c.deref.ensures.value at c.in_ok-gather.ensures.whole) _ _ c.in_ok-write.ensures.whole _ _
    (rw c.deref-2.ensures.value at c.in_ok-gather-2.ensures.whole) _ last)
    (rw c.deref-3.ensures.value at c.write_all.ensures.whole)

pub returns-clause-part : goal.returns-clause-part
returns-clause-part g c =
    on_err c.write_all.result (λ last.
    last-part _ _ _ _ c.args.self.back.items c.clear.ensures.items _ _
    (rw c.deref.ensures.value at c.in_ok-gather.ensures.whole) _ _ c.in_ok-write.ensures.whole _ _
    (rw c.deref-2.ensures.value at c.in_ok-gather-2.ensures.whole) _ last)
    (rw c.deref-3.ensures.value at c.write_all.ensures.part)
