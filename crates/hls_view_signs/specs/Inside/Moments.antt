-- What happens in the ticks in which something may.
use Rattle.std.specs.Prelude.{◌≡◌, ℕ, ◌≤◌, ◌==◌, List, ◌++◌, Option, None, Bool, true, map, filter}
use Rattle.std.specs.Prelude.{if◌then◌else◌}
use Rattle.std.specs.List.{list_any, AllByRecursion}
use Rattle.hls_text.specs.Lines.{Text}
use Rattle.hls_report_text.specs.declared.report.Report.{Report}
use Rattle.hls_report_text.specs.Content.{Content, content_of}
use Rattle.hls_view_scale.specs.declared.scale.Scale.{Scale}
use Rattle.hls_view_tale.specs.declared.label.Label.{Label}
use Rattle.hls_view_tale.specs.declared.place.Place.{Place}
use Rattle.hls_view_tale.specs.declared.standing.Standing.{Standing}
use Rattle.hls_view_tale.specs.Places.{labels_of}
use Rattle.hls_view_tale.specs.Following.{IsFollowing}
use Rattle.hls_view_tale.specs.Hierarchies.{places_at}
use Rattle.hls_view_lanes.specs.Likeness.{is_same}
use Rattle.hls_view_signs.specs.declared.event.Event.{Event}
use Rattle.hls_view_signs.specs.declared.event.Event.TheVariants.{Begun, Woken, Dropped}
use Rattle.hls_view_signs.specs.declared.event.Node.{Node}
use Rattle.hls_view_signs.specs.declared.moments.Moment.{Moment}
use Rattle.hls_view_signs.specs.declared.moments.Gathering.{Gathering}
use Rattle.hls_view_signs.specs.Happenings.{happens_to, happens_in}
use Rattle.hls_view_signs.specs.declared.notes.Note.{Note}
use Rattle.hls_view_signs.specs.Inside.Notes.{is_in}
use Rattle.hls_view_signs.specs.Inside.Nodes.{node_with}
use Rattle.hls_view_signs.specs.Inside.Scenes.{may_happen}
use Rattle.hls_view_signs.specs.Inside.Sources.{AreSources}

-- the node at a place, where something may happen to it
abbrev pub node_if : (may : Bool) → Label → Option Standing → Option Node
node_if may label s = if may then node_with label s else None

-- whatever happens in a tick may happen
abbrev pub KnowsAll : Content → (t : ℕ) → (roused : List Text) → (begins : Bool) → Type 0
KnowsAll c t roused begins =
    (event : Event) (label : Label) → happens_to c t event label ≡ true
    → may_happen roused begins event label.name ≡ true

-- the ways down to the places of a tick where something happens
abbrev pub ways_with : Content → Event → (t : ℕ) → List (List Label)
ways_with c event t = map labels_of (filter (λ (p : Place). happens_to c t event p.label) (places_at c t))

abbrev pub ways_of : Moment → Event → List (List Label)
ways_of m Begun = m.begun
ways_of m Woken = m.woken
ways_of m Dropped = m.dropped

pub record IsMoment (c : Content) (m : Moment) : Type 0 where
  pub begun : m.begun ≡ ways_with c Begun m.tick
  pub woken : m.woken ≡ ways_with c Woken m.tick
  pub dropped : m.dropped ≡ ways_with c Dropped m.tick

abbrev pub has : Event → (row : List Label) → Moment → Bool
has event row m = list_any (is_same row) (ways_of m event)

abbrev pub is_at : (t : ℕ) → Moment → Bool
is_at t m = m.tick == t

pub record IsOf (c : Content) (t : ℕ) (m : Moment) : Type 0 where
  pub is : IsMoment c m
  pub tick : m.tick ≡ t

-- the moment of a tick is put behind others, or stood there
pub record IsPut (c : Content) (t : ℕ) (old new : List Moment) : Type 0 where
  pub more : List Moment
  pub behind : new ≡ old ++ more
  pub are : AllByRecursion (IsOf c t) more
  pub there : list_any (is_at t) new ≡ true

pub record IsShown (c : Content) (s : Scale) (m : Moment) : Type 0 where
  pub is : IsMoment c m
  pub begins : s.from ≤ m.tick
  pub ends : m.tick ≤ s.to

-- of each shown tick of these notes
pub record AreMomentsOf (c : Content) (s : Scale) (notes : List Note) (all : List Moment) : Type 0 where
  pub are : AllByRecursion (IsShown c s) all
  pub each : (t : ℕ) → s.from ≤ t → t ≤ s.to → list_any (is_in t) notes ≡ true → list_any (is_at t) all ≡ true

-- of each shown tick in which something happens
pub record AreMoments (c : Content) (s : Scale) (all : List Moment) : Type 0 where
  pub are : AllByRecursion (IsShown c s) all
  pub each : (t : ℕ) → s.from ≤ t → t ≤ s.to → (event : Event) (row : List Label)
      → happens_in c event row t ≡ true → list_any (is_at t) all ≡ true

pub record IsGathering (r : Report) (g : Gathering) : Type 0 where
  pub sources : AreSources r g.sources
  pub following : IsFollowing (content_of r) g.following
