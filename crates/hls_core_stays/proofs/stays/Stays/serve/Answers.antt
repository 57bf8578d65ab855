use Rattle.std.proofs.Common.{refl}
use Rattle.hls_core_stays.proofs.Turned.{serve_within, serve_fits, serve_counts, tick_served}
use Rattle.hls_core_stays.proofs.stays.Stays.serve.Goals as goal

pub serve_at-requires-clause-place : goal.serve_at-requires-clause-place
serve_at-requires-clause-place g c =
    serve_within _ c.args.self.now c.args.tree.now c.args.id c.args.ticks c.requires c.place-place.result
    c.place-place.ensures

pub serve_at-requires-clause-fits : goal.serve_at-requires-clause-fits
serve_at-requires-clause-fits g c = λ tally e.
    serve_fits _ c.args.self.now c.args.tree.now c.args.id c.args.ticks c.requires c.place-place.result
    c.now.result tally
    c.place-place.ensures c.now.ensures e

pub serve_at-requires-clause-served : goal.serve_at-requires-clause-served
serve_at-requires-clause-served g c = λ tally e.
    serve_counts _ c.args.self.now c.args.tree.now c.args.id c.args.ticks c.requires c.place-place.result
    c.now.result tally
    c.place-place.ensures c.now.ensures e

pub returns : goal.returns
returns g c = λ h asking masks path ticks.
    tick_served _ c.args.self.now c.args.tree.now _ c.args.ticks h asking masks path ticks _ c.args.id
    c.place-place.result
    c.now.result c.is_ready.result refl c.place-place.ensures c.now.ensures c.is_ready.ensures c.serve_at.ensures refl
