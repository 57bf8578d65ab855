use Rattle.std.proofs.Common.{List, length, refl, subst, sym}
use Rattle.std.specs.List.{AllByRecursion}
use Rattle.std.proofs.lemmas.Option.{slice_get_read}
use Rattle.std.proofs.lemmas.Slice.Eq.{bytes_eq-Decides}
use Rattle.hls_text.specs.Lines.{Text}
use Rattle.hls_report.specs.declared.recent_paths.Told.{Told}
use Rattle.hls_report.specs.Inside.RunLines.{IsPathTold, IsRecent}
use Rattle.hls_report.proofs.RecentLaws.{recent_at}
use Rattle.hls_report.proofs.recent_paths.Known.path_at.Goals as goal

pub returns-then-eq : goal.returns-then-eq
returns-then-eq c = λ are.
    let names = c.args.self.now.names.keys in
    let told = c.in-Some.told.now in
    let same = (bytes_eq-Decides told.words.now c.args.words.now).0 (sym c.if-eq.ensures) in
    subst (λ (words : Text). IsPathTold names names words told.path) same
    (recent_at (IsRecent names) c.deref.result.now c.from.result told
    (subst (λ (recent : List Told). AllByRecursion (IsRecent names) recent) (sym c.deref.ensures.value) are)
    (slice_get_read c.deref.result.now (length c.deref.result.now) c.from.result told refl
    c.in-Some.ensures.lookup.3.0 c.in-Some.ensures.lookup.1))
