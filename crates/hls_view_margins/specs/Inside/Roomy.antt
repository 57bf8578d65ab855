-- The room by the part that has least of it.
use Rattle.std.specs.Prelude.{◌≡◌, Option, Some, None}
use Rattle.hls_view_margins.specs.declared.margin.Distance.{Distance}
use Rattle.hls_view_margins.specs.declared.margin.Part.{Part}
use Rattle.hls_view_margins.specs.declared.margin.Room.{Room}
use Rattle.hls_view_margins.specs.declared.scale.Scale.{Scale}
use Rattle.hls_view_margins.specs.Distances.{IsRoundedDown}

abbrev pub IsRoomBy : Scale → Option Part → Option Room → Type 0
IsRoomBy scale None room = room ≡ None
IsRoomBy scale (Some p) room = (d : Distance) × (room ≡ Some (record { part = p; left = d })) × IsRoundedDown scale p d
