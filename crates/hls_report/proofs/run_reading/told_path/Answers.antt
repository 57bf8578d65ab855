use Rattle.std.proofs.Common.{List, subst, sym}
use Rattle.std.specs.List.{AllByRecursion}
use Rattle.hls_text.specs.Lines.{Text}
use Rattle.hls_report.specs.declared.recent_paths.Told.{Told}
use Rattle.hls_report.specs.Inside.RunLines.{IsRecent, IsPathTold}
use Rattle.hls_report.proofs.RecentLaws.{recent_kept}
use Rattle.hls_report.proofs.run_reading.told_path.Goals as goal

pub returns-in-Some-clause-told : goal.returns-in-Some-clause-told
returns-in-Some-clause-told c = c.in-Some.ensures c.requires.recent

pub returns-in-Some-2-clause-recent : goal.returns-in-Some-2-clause-recent
returns-in-Some-2-clause-recent c =
    let known = c.args.known.now.names.keys in
    let new = c.new_path.new.known.keys in
    let told : IsPathTold known new c.args.words.now c.in-Some-2.path = rw c.in-Some-2.is at c.in_ok-path.ensures in
    let kept = recent_kept known new c.args.known.now.recent.items c.place_of-place.result
    (record { words = c.args.words; path = c.in-Some-2.path }) c.requires.recent told in
    let P = λ (names : List Text) (recent : List Told). AllByRecursion (IsRecent names) recent in
    subst (λ (recent : List Told). P c.keep.new.self.names.keys recent) (sym c.keep.ensures.recent)
    (rw c.keep.ensures.names kept)
