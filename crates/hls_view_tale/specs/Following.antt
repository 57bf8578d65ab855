-- A hierarchy that is carried along the commands of a report.
use Rattle.std.specs.Prelude.{◌≡◌, ◌≤◌, [], None, length, take}
use Rattle.hls_report_text.specs.Content.{Content}
use Rattle.hls_audit_clauses.specs.Names.{tree_of}
use Rattle.hls_view_tale.specs.declared.following.Following.{Following}
use Rattle.hls_view_tale.specs.Places.{below}
use Rattle.hls_view_tale.specs.Standings as standings
use Rattle.hls_view_tale.specs.Hierarchies.{in_order}
use Rattle.hls_view_tale.specs.Inside.Told.{IsTold}
use Rattle.hls_view_tale.specs.Inside.Came.{AreBefore}

-- it is that once the first so many commands were carried out, of which each is of a tick before the next
pub record IsFollowing (c : Content) (f : Following) : Type 0 where
  pub told : IsTold f.tale c.answered f.came
  pub within : f.came ≤ length c.answered
  pub before : AreBefore c.answered f.next f.came
  pub standing : f.hierarchy.standing.items ≡ standings.standing c.answered f.came
  pub places : f.hierarchy.places.items
      ≡ below (in_order (tree_of (take f.came c.answered)) (standings.standing c.answered f.came))
      (length (tree_of (take f.came c.answered))) None []
