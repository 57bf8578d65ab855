use Rattle.std.proofs.Common.{◌≡◌, ◌<◌, ◌≤◌, ◌∙◌, sym, ap, length, refl, arith}
use Rattle.std.specs.Prelude.{Some, slice_get}
use Rattle.std.proofs.lemmas.Option.{slice_get_read, slice_get_within}
use Rattle.hls_guarantee.specs.declared.Guarantee.{Guarantee}
use Rattle.hls_check.proofs.checking.starts.Goals as goal

pub returns-in-Some : goal.returns-in-Some
returns-in-Some c =
    let haves = c.args.haves.now in
    let have = c.in-Some.have.now in
    let found = c.in-Some.ensures.lookup in
    let there : slice_get haves c.args.port ≡ Some have =
    slice_get_read haves (length haves) c.args.port have refl found.3.0 found.1 in (
      λ yes. there ∙ ap (λ (v : Guarantee). Some v) (c.is_same.ensures.0 yes),
      λ same. c.is_same.ensures.1 (let both : Some have ≡ Some c.args.from.now = sym there ∙ same in cc),
    )

pub returns-in-None : goal.returns-in-None
returns-in-None c =
    let past : length c.args.haves.now ≤ c.args.port = c.in-None.ensures.lookup.3 in (
      λ no. cc,
      λ same.
          let within : c.args.port < length c.args.haves.now =
          slice_get_within c.args.haves.now c.args.port c.args.from.now same in
          absurd (omega arith),
    )
