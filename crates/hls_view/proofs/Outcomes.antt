-- How the parts of a run make its end.
use Rattle.std.proofs.Common.{◌≡◌, refl, sym, subst, inl, inr}
use Rattle.std.specs.Prelude.{◌⊎◌}
use Rattle.hls_io.specs.declared.status.Status.{Status}
use Rattle.hls_io.specs.declared.status.Status.TheVariants.{Done, Broken, Usage, RefusedText, ReadFault}
use Rattle.hls_io.specs.declared.status.Status.TheVariants.{WriteFault, Memory, TooLong}
use Rattle.hls_text.specs.Lines.{Text}
use Rattle.hls_top.specs.Exchange.{Drawn, report_limit}
use Rattle.hls_top.specs.Outputs.{IsOfText}
use Rattle.hls_top.specs.Ends.{IsTooLong}
use Rattle.hls_top.specs.Says.{Says}
use Rattle.hls_view_words.specs.Table.{IsView}
use Rattle.hls_view_words.specs.declared.views.View.{View}
use Rattle.hls_view_words.proofs.OneView.{same_view}
use Rattle.hls_view.specs.Viewing.{Viewing, IsFaultless}
use Rattle.hls_view.specs.Outputs.{IsSaid}
use Rattle.hls_view.specs.Ends.{IsDue, Writes, Ends}

-- what is said of a text that was read
abbrev pub IsOutput : View → Drawn → Status → (output : Text) → Type 0
IsOutput view d status output = IsOfText report_limit d (λ bytes. IsSaid view bytes status output)

-- ---- what is due

is_due : (x : Viewing) (status : Status) (output : Text) (view : View) → IsView x.words view
    → IsOutput view x.source status output → IsDue x status output
is_due x Done output view words is = record { view = view; words = words; is = is }
is_due x Broken output view words is = record { view = view; words = words; is = is }
is_due x RefusedText output view words is = record { view = view; words = words; is = is }
is_due x Usage output view words is = absurd is.said
is_due x ReadFault output view words is = absurd is.said
is_due x WriteFault output view words is = absurd is.said
is_due x Memory output view words is = absurd is.said
is_due x TooLong output view words is = record { view = view; words = words; is = is }

writes_end : (x : Viewing) (status : Status) (output : Text) → IsDue x status output → Writes x status
    → Ends x status
writes_end x Done output due w = w
writes_end x Broken output due w = w
writes_end x Usage output due w = w
writes_end x RefusedText output due w = w
writes_end x ReadFault output due w = absurd due.is.said
writes_end x WriteFault output due w = absurd due.is.said
writes_end x Memory output due w = absurd due.is.said
writes_end x TooLong output due w = inr w

-- an output that was due was said
pub said : (x : Viewing) (status result : Status) (output : Text) → IsDue x status output
    → x.source.faults_after ≡ x.source.faults → Says x.sink output status result → Ends x result
said x status result output due read h = elim h [
  | inl w ↦ subst (λ r. Ends x r) (sym w.result_is) (writes_end x status output due record {
    output = output;
    due = due;
    written = w.written;
    no_write_failed = w.same_faults;
    no_read_failed = read;
  })
  | inr w ↦ subst (λ r. Ends x r) (sym w.result_is) record {
    status = status;
    output = output;
    due = due;
    written = w.written;
    write_failed = w.more_faults;
    no_read_failed = read;
  }
]

-- so was the output of a view
pub answered : (x : Viewing) (view : View) (status result : Status) (output : Text) → IsView x.words view
    → IsOutput view x.source status output → x.source.faults_after ≡ x.source.faults
    → Says x.sink output status result → Ends x result
answered x view status result output words is read h =
    said x status result output (is_due x status output view words is) read h

-- ---- what words of a view may come to

pub record HasOutput (x : Viewing) (view : View) (status : Status) : Type 0 where
  pub output : Text
  pub is : IsOutput view x.source status output

pub record HasLength (x : Viewing) (status : Status) : Type 0 where
  pub status_is : status ≡ TooLong
  pub long : IsTooLong report_limit x.source

-- memory was wanting, or the text was too long, or there was an output
abbrev pub Comes : Viewing → View → Status → Type 0
Comes x view status = (status ≡ Memory) ⊎ (HasLength x status ⊎ HasOutput x view status)

same_output : (x : Viewing) (view other : View) (status : Status) (output : Text) → IsView x.words view
    → IsView x.words other → IsOutput other x.source status output → HasOutput x view status
same_output x view other status output words also is = record {
  output = output;
  is = subst (λ v. IsOutput v x.source status output) (same_view x.words other view also words) is;
}

pub comes : (x : Viewing) (status : Status) → Ends x status → IsFaultless x → (view : View) → IsView x.words view
    → Comes x view status
comes x Done h quiet view words =
    inr (inr (same_output x view h.due.view Done h.output words h.due.words h.due.is))
comes x Broken h quiet view words =
    inr (inr (same_output x view h.due.view Broken h.output words h.due.words h.due.is))
comes x RefusedText h quiet view words =
    inr (inr (same_output x view h.due.view RefusedText h.output words h.due.words h.due.is))
comes x Usage h quiet view words = absurd (h.due.words view words)
comes x ReadFault h quiet view words = absurd (quiet.reads h.lacks)
comes x WriteFault h quiet view words = absurd (quiet.writes h.write_failed)
comes x Memory h quiet view words = inl refl
comes x TooLong h quiet view words = elim h [
  | inl cut ↦ inr (inl record { status_is = refl; long = cut.lacks })
  | inr w ↦ inr (inr (same_output x view w.due.view TooLong w.output words w.due.words w.due.is))
]
