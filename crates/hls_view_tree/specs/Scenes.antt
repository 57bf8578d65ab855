-- What is told of a tick for all places.
use Rattle.std.specs.Prelude.{◌≡◌, ℕ}
use Rattle.hls_report_text.specs.Content.{Content}
use Rattle.hls_legal.specs.Schedule.{path_at}
use Rattle.hls_view_tree.specs.declared.activity.Scene.{Scene}
use Rattle.hls_view_tree.specs.Activities.{asking}

pub record IsScene (c : Content) (t : ℕ) (scene : Scene) : Type 0 where
  pub path : scene.path ≡ path_at c.stretches t
  pub asking : scene.asking.items ≡ asking c t
