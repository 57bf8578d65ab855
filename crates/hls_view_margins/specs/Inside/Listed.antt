-- The margin of a stay, if it has a tick.
use Rattle.std.specs.Prelude.{◌≡◌, ◌≤◌, ◌<◌, List, [], ◌∷◌, Option, Some, None}
use Rattle.hls_report_text.specs.Content.{Content}
use Rattle.hls_legal.specs.declared.stay.Stay.{Stay}
use Rattle.hls_legal.specs.Accounts.{end_of}
use Rattle.hls_view_margins.specs.declared.cuts.Window.{Window}
use Rattle.hls_view_margins.specs.declared.margin.Margin.{Margin}
use Rattle.hls_view_margins.specs.Margins.{IsMargin}

abbrev pub listed : Option Margin → List Margin
listed None = []
listed (Some margin) = margin ∷ []

abbrev pub IsWindowOf : Content → Stay → Option Window → Type 0
IsWindowOf c stay None = end_of c stay ≤ stay.since
IsWindowOf c stay (Some window) = (window.lo ≡ stay.since) × (window.hi ≡ end_of c stay)

abbrev pub IsMarginOf : Content → Stay → Option Margin → Type 0
IsMarginOf c stay None = end_of c stay ≤ stay.since
IsMarginOf c stay (Some margin) = (stay.since < end_of c stay) × IsMargin c stay margin
