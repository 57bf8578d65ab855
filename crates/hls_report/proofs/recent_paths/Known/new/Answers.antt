use Rattle.std.proofs.Common.{◌^◌, ◌≤◌, List, length, refl, subst, sym, arith}
use Rattle.std.specs.Prelude.{None}
use Rattle.std.specs.List.{AllByRecursion}
use Rattle.hls_report.specs.declared.recent_paths.Told.{Told}
use Rattle.hls_report.specs.Inside.RunLines.{IsRecent}
use Rattle.hls_report.proofs.RecentLaws.{all_idle}
use Rattle.hls_report.proofs.recent_paths.Known.new.Goals as goal

pub returns-clause-recent : goal.returns-clause-recent
returns-clause-recent c =
    let names = c.new.result.keys in
    let few : length names ≤ 2 ^ 16 = (let none = c.new.ensures.len in omega arith) in
    subst (λ (recent : List Told). AllByRecursion (IsRecent names) recent)
    (sym (c.in_ok-vec.ensures.items_if_clones_equal (λ told same. same)))
    (all_idle names 256 (record { words = c.as_slice.result; path = None }) few c.as_slice.ensures refl)
