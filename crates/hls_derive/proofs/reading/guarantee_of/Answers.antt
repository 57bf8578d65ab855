use Rattle.std.proofs.Common.{◌∙◌, sym, ap, take, drop}
use Rattle.hls_derive.proofs.Spaces.{place_within}
use Rattle.hls_derive.proofs.Fronts.{cut_guarantee, cut_stands}
use Rattle.hls_derive.proofs.reading.guarantee_of.Goals as goal

pub split_at-requires : goal.split_at-requires
split_at-requires c = rw c.space.ensures (place_within c.args.spaces c.args.text.now)

pub returns-in-Some : goal.returns-in-Some
returns-in-Some c =
    let text = c.args.text.now in
    let front = ap (λ n. take n text) (sym c.space.ensures) ∙ sym c.split_at.ensures.front
    ∙ c.in-Some.ensures.found.1 in
    let back = c.split_at.ensures.back ∙ ap (λ n. drop n text) c.space.ensures in
    rw back (cut_stands c.args.spaces text c.in-Some.g c.in-Some.ensures.found.0 front)

pub returns-in-None : goal.returns-in-None
returns-in-None c = λ g rest stands is.
    let text = c.args.text.now in
    let front = c.split_at.ensures.front ∙ ap (λ n. take n text) c.space.ensures
    ∙ cut_guarantee c.args.spaces text g rest stands is in
    let some = c.in-None.ensures.exact g stands.valid front in absurd cc
