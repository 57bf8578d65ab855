-- The ticks of threads, each told once.
use Rattle.std.specs.Prelude.{◌≡◌, ℕ, Some, slice_get}
use Rattle.hls_text.specs.Lines.{Text}
use Rattle.hls_report_text.specs.Content.{Content}
use Rattle.hls_audit_stays.specs.Places.{place_in}
use Rattle.hls_audit_threads.specs.declared.known_threads.ThreadTicks.{ThreadTicks}
use Rattle.hls_audit_threads.specs.declared.known_threads.KnownThreads.{KnownThreads}
use Rattle.hls_audit_threads.specs.Inside.Ticks.{TellsReady, TellsServed}

-- the ticks at a place are those of the thread of a name
pub record IsKnownAt (c : Content) (known : KnownThreads) (name : Text) (place : ℕ) : Type 0 where
  pub ticks : ThreadTicks
  pub there : slice_get known.ticks.items place ≡ Some ticks
  pub ready : TellsReady c name ticks.ready.spans.items
  pub served : TellsServed c name ticks.served.spans.items

abbrev pub AreKnown : Content → KnownThreads → Type 0
AreKnown c known = (name : Text) (place : ℕ) → place_in known.places name ≡ Some place → IsKnownAt c known name place
