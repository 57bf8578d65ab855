use Rattle.std.proofs.Common.{arith}
use Rattle.hls_tree_passes.proofs.Elapses.{bit_has, has_one, left_below, left_place, left_loud, left_quiet}
use Rattle.hls_tree_passes.proofs.turning.loud_of.Goals as goal

pub returns-clause-all : goal.returns-clause-all
returns-clause-all c at lt near off =
    left_quiet c.places_of.result c.args.quiet (omega (arith, c.places_of.type_inv)) (omega (arith, c.ranges.quiet))
    at near (has_one _ at (c.places_of.ensures.all at lt near)) (λ on. off (bit_has _ at on))

pub returns-clause-near : goal.returns-clause-near
returns-clause-near c at on =
    left_below c.places_of.result c.args.quiet (omega (arith, c.places_of.type_inv)) (omega (arith, c.ranges.quiet))
    at (has_one _ at on)

pub returns-clause-only : goal.returns-clause-only
returns-clause-only c at on = c.places_of.ensures.only at (bit_has _ at
    (left_place c.places_of.result c.args.quiet (omega (arith, c.places_of.type_inv))
    (omega (arith, c.ranges.quiet)) at (has_one _ at on)))

pub returns-clause-loud : goal.returns-clause-loud
returns-clause-loud c at on =
    left_loud c.places_of.result c.args.quiet (omega (arith, c.places_of.type_inv)) (omega (arith, c.ranges.quiet))
    at (has_one _ at on)
