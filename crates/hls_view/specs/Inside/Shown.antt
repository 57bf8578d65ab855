-- What is said of a report that tells a tale.
use Rattle.std.specs.Prelude.{◌≡◌, []}
use Rattle.hls_io.specs.declared.status.Status.{Status}
use Rattle.hls_io.specs.declared.status.Status.TheVariants as statuses
use Rattle.hls_text.specs.Lines.{Text}
use Rattle.hls_report_text.specs.Content.{Content}
use Rattle.hls_audit.specs.declared.auditing.Outcome.{Outcome}
use Rattle.hls_view_words.specs.declared.views.View.{View}
use Rattle.hls_view.specs.Texts.{HasManyRows, IsViewText}

-- its view, or nothing where that would have too many rows
abbrev pub Says : View → Content → Outcome → Status → (output : Text) → Type 0
Says view c audit statuses.Done output = IsViewText view c audit output
Says view c audit statuses.TooLong output = HasManyRows view c × (output ≡ [])
Says view c audit _ output = ⊥
