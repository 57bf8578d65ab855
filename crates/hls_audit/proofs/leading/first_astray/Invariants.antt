use Rattle.std.proofs.Common.{ℕ, ◌-◌, ◌<◌}
use Rattle.hls_report_text.specs.Content.{content_of}
use Rattle.hls_audit_clauses.specs.Clauses.{IsAstray}
use Rattle.hls_audit.specs.Inside.Followed.{AreFollowed}
use Rattle.hls_audit.specs.Inside.Leading.{IsAbreast, IsReached}
use Rattle.hls_audit.proofs.leading.first_astray.Given as goal

abbrev pub invariant-loop-tick : goal.invariant-loop-tick
invariant-loop-tick l = record {
  abreast : IsAbreast l.report.answered l.tick l.next l.tree.members.items;
  reached : IsReached l.report.runs l.tick l.at;
  followed : AreFollowed l.tree.members.items l.report.names l.followed.paths.items;
  none : (k : ℕ) → k < l.tick → ¬ IsAstray (content_of l.report) k;
}

abbrev pub decreases-loop-tick : goal.decreases-loop-tick
decreases-loop-tick l = l.report.horizon - l.tick
