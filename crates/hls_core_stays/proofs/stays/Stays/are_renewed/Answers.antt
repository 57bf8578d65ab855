use Rattle.std.proofs.Common.{arith}
use Rattle.std.proofs.lemmas.Option.{slice_get_within}
use Rattle.hls_core_stays.proofs.stays.Stays.are_renewed.Goals as goal

pub returns : goal.returns
returns c = λ on. record {
  first = _;
  many = omega arith;
  fresh = λ i k e.
      (let within = slice_get_within c.args.ids.now i k e in
      c.loop-at.invariant i k (omega (arith, within, c.loop-at-test.false)) e);
}
