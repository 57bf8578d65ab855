use Rattle.std.proofs.Common.{◌≤◌, ◌*◌, ◌/◌, arith}
use Rattle.std.proofs.lemmas.Bool.Decides.{nat_tests}
use Rattle.hls_guarantee.proofs.Times.{most_times, times_of}
use Rattle.hls_rules.proofs.longer.has_times.Goals as goal

pub returns-then-times-ge1 : goal.returns-then-times-ge1
returns-then-times-ge1 c =
    let a = c.args in
    let some : 1 ≤ a.y = omega (arith, c.requires.from.some, c.requires.from.fits) in (
      λ yes. times_of a.x a.y a.fewer a.longer some (c.if-times-ge1.true, grind (arith, nat_tests)),
      λ has.
          let most : a.fewer ≤ a.longer / a.y * a.x = (most_times a.x a.y a.fewer a.longer some has).1 in
          grind (arith, nat_tests),
    )
