use Rattle.std.proofs.Common.{◌≡◌, ◌+◌, length, arith, subst, sym, ap, ◌∷◌, ◌++◌, [], List, Bool}
use Rattle.std.specs.Prelude.{min}
use Rattle.std.proofs.lemmas.Bool.{ltb-true, lt-ltb}
use Rattle.hls_audit_watch.specs.declared.cuts.Cuts.{Cuts}
use Rattle.hls_audit_watch.specs.Inside.Cuts.{AreCuts}
use Rattle.hls_audit_watch.specs.Inside.Periods.{IsPeriod}
use Rattle.hls_audit_watch.proofs.Endings.{length-more}
use Rattle.hls_audit_watch.proofs.Cutting.{cuts_taken, free_kept, kept_free}
use Rattle.hls_audit_watch.proofs.Periods.{kept_satisfies, satisfies_kept}
use Rattle.hls_audit_watch.proofs.cuts.Cuts.push.Goals as goal

pub mark_lost-requires-clause-cutting : goal.mark_lost-requires-clause-cutting
mark_lost-requires-clause-cutting c = c.begin.ensures.cutting c.args.served

taken : (c : goal.After-skip_broken) →
    AreCuts c.args.reservation.now.hard c.args.reservation.now.x c.args.reservation.now.y c.args.recent.now.period
    c.skip_broken.new.self.from c.skip_broken.new.self.broken.items c.skip_broken.new.self.free
    (c.args.recent.now.list ++ c.args.served ∷ [])
taken c =
    let most : c.min-most.result ≡ min (length c.args.recent.now.list + 1) c.args.recent.now.period =
    omega (arith, c.min-most.ensures, c.len.ensures.number, c.period.ensures.number) in
    cuts_taken c.args.reservation.now.hard c.args.reservation.now.x c.args.reservation.now.y
    c.args.recent.now.period c.mark_lost.new.self.from c.mark_lost.new.self.broken.items c.mark_lost.new.self.free
    c.skip_broken.new.self.from c.skip_broken.new.self.broken.items c.skip_broken.new.self.free c.min-most.result
    c.args.recent.now.list c.args.served c.requires.range.fits
    (ap (λ (s : Cuts). s.from) c.skip_broken.ensures.same)
    (ap (λ (s : Cuts). s.broken.items) c.skip_broken.ensures.same) most c.mark_lost.ensures.since
    c.skip_broken.ensures.passed c.skip_broken.ensures.within c.mark_lost.ensures.cutting

pub returns-clause-cuts : goal.returns-clause-cuts
returns-clause-cuts c = taken c

pub returns-clause-kept : goal.returns-clause-kept
returns-clause-kept c =
    let l : List Bool = c.args.recent.now.list ++ c.args.served ∷ [] in
    let long : length l ≡ length c.args.recent.now.list + 1 = length-more c.args.recent.now.list c.args.served in
    let most : c.min-most.result ≡ min (length l) c.args.recent.now.period =
    omega (arith, c.min-most.ensures, c.len.ensures.number, c.period.ensures.number) in
    let period : IsPeriod c.args.reservation.now.y c.args.recent.now.period (length l) =
    subst (λ n. IsPeriod c.args.reservation.now.y c.args.recent.now.period n) (sym long) c.requires.period in
    let cuts = taken c in (
      λ free.
          let lt = ltb-true _ _ free in
          kept_satisfies c.args.reservation.now.hard c.args.reservation.now.x c.args.reservation.now.y
          c.args.recent.now.period l c.requires.range.fits period
          (free_kept c.args.reservation.now.hard c.args.reservation.now.x c.args.reservation.now.y
          c.args.recent.now.period c.skip_broken.new.self.from c.skip_broken.new.self.broken.items
          c.skip_broken.new.self.free l cuts (omega (arith, lt, most)) (c.skip_broken.ensures.stops lt)),
      λ s.
          let k = satisfies_kept c.args.reservation.now.hard c.args.reservation.now.x c.args.reservation.now.y
          c.args.recent.now.period l c.requires.range.fits period s in
          let lt = kept_free c.args.reservation.now.hard c.args.reservation.now.x c.args.reservation.now.y
          c.args.recent.now.period c.skip_broken.new.self.from c.skip_broken.new.self.broken.items
          c.skip_broken.new.self.free l k.0 c.requires.range.fits c.requires.period.some (omega arith) cuts k.1
          k.2 in
          lt-ltb _ _ (omega (arith, lt, most)),
    )
