-- Nodes at their places.
use Rattle.std.specs.Prelude.{ℕ, Option, Some, None, Bool, false}
use Rattle.hls_report_text.specs.Content.{Content}
use Rattle.hls_view_tale.specs.declared.label.Label.{Label}
use Rattle.hls_view_tale.specs.declared.standing.Standing.{Standing}
use Rattle.hls_view_signs.specs.declared.event.Event.{Event}
use Rattle.hls_view_signs.specs.declared.event.Node.{Node}
use Rattle.hls_view_signs.specs.Happenings.{happens}

abbrev pub node_with : Label → Option Standing → Option Node
node_with label None = None
node_with label (Some s) = Some (record { label = label; standing = s })

abbrev pub happens_at : Content → (t : ℕ) → Event → Node → Bool
happens_at c t event node = happens c t event node.label node.standing

abbrev pub happens_to_any : Content → (t : ℕ) → Event → Option Node → Bool
happens_to_any c t event None = false
happens_to_any c t event (Some node) = happens_at c t event node
