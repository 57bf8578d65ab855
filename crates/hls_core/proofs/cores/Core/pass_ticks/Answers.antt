use Rattle.std.proofs.Common.{refl}
use Rattle.hls_core.specs.Inside.Sparing.{keeping}
use Rattle.hls_core.proofs.Ended.{core_may_elapse, core_few, core_within, core_may_tick, core_small}
use Rattle.hls_core.proofs.Ended.{path_short, ticks_on}
use Rattle.hls_core.proofs.Sparing.{stands_spared, elapses_kept, tick_spared, ticked_kept}
use Rattle.hls_core.proofs.Sparing.{ticked_answers, ticked_ticks}
use Rattle.hls_core.proofs.cores.Core.pass_ticks.Goals as goal

pub elapse-path-requires-clause-stands : goal.elapse-path-requires-clause-stands
elapse-path-requires-clause-stands g c =
    let may = c.requires.may in
    stands_spared _ c.args.self.now.tree c.args.self.now.bursts c.args.self.now.stays c.args.self.now.journal
    may.answers c.args.most
    (core_may_elapse _ (keeping may.answers c.args.self.now) may.s may.given may.boxes c.args.most may.is
    c.requires.early)

pub elapse-path-requires-clause-few : goal.elapse-path-requires-clause-few
elapse-path-requires-clause-few g c =
    let may = c.requires.may in
    core_few _ (keeping may.answers c.args.self.now) may.s may.given may.boxes may.is

pub elapse-path-requires-clause-within : goal.elapse-path-requires-clause-within
elapse-path-requires-clause-within g c =
    let may = c.requires.may in
    core_within _ (keeping may.answers c.args.self.now) may.s may.given may.boxes c.args.most may.is c.requires.early

pub leap-requires-clause-may : goal.leap-requires-clause-may
leap-requires-clause-may g c =
    let may = c.requires.may in
    tick_spared c.args.self.now.journal may.answers
    (core_may_tick _ (keeping may.answers c.args.self.now) may.s may.given may.boxes c.args.most may.is c.requires.some
    c.requires.early)

pub leap-requires-clause-more : goal.leap-requires-clause-more
leap-requires-clause-more g c =
    let may = c.requires.may in
    core_small _ (keeping may.answers c.args.self.now) may.s may.given may.boxes c.args.most
    c.elapse-path.result.ticks may.is c.elapse-path.ensures.most c.requires.early

pub leap-requires-clause-short : goal.leap-requires-clause-short
leap-requires-clause-short g c =
    let may = c.requires.may in
    path_short _ (keeping may.answers c.args.self.now) may.s may.given may.boxes _ _ _ c.elapse-path.result.path
    c.args.most c.elapse-path.result.ticks may.is c.requires.early
    (elapses_kept _ _ _ _ _ _ _ c.args.self.now.journal may.answers c.elapse-path.result.path c.args.most
    c.elapse-path.result.ticks c.elapse-path.ensures.elapses)

pub returns-clause-is : goal.returns-clause-is
returns-clause-is g c = λ answers s given boxes is.
    ticks_on _ (keeping answers c.args.self.now) _ s given boxes c.elapse-path.result.path c.args.most
    c.elapse-path.result.ticks is c.requires.none_due c.requires.early
    (elapses_kept _ _ _ _ _ _ _ c.args.self.now.journal answers c.elapse-path.result.path c.args.most
    c.elapse-path.result.ticks c.elapse-path.ensures.elapses)
    c.elapse-path.ensures.some c.elapse-path.ensures.most
    (ticked_kept c.elapse-path.result.ticks c.args.self.now.journal _ answers c.elapse-path.result.path
    c.leap.ensures) refl refl refl refl c.elapse-path.ensures.horizon

pub returns-clause-answers : goal.returns-clause-answers
returns-clause-answers g c =
    ticked_answers c.elapse-path.result.ticks c.args.self.now.journal c.leap.new.self c.elapse-path.result.path
    c.leap.ensures

pub returns-clause-ticks : goal.returns-clause-ticks
returns-clause-ticks g c =
    ticked_ticks c.elapse-path.result.ticks c.args.self.now.journal c.leap.new.self c.elapse-path.result.path
    c.leap.ensures
