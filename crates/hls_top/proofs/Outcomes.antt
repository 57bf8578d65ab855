-- How the parts of a run make its end.
use Rattle.std.proofs.Common.{◌≡◌, ℕ, ◌<◌, ◌≤◌, length, refl, sym, ap, subst, arith, inl, inr}
use Rattle.std.specs.Prelude.{Option, None, Some, IfSome, is_some, ◌⊎◌}
use Rattle.hls_io.specs.Bytes.{IsWhole, TakesAtMost}
use Rattle.hls_io.specs.Faults.{Rose}
use Rattle.hls_io.specs.declared.source.ReadError.TheVariants as errors
use Rattle.hls_io.specs.declared.status.Status.{Status}
use Rattle.hls_io.specs.declared.status.Status.TheVariants.{Done, Broken, Usage, RefusedText, ReadFault}
use Rattle.hls_io.specs.declared.status.Status.TheVariants.{WriteFault, Memory, TooLong}
use Rattle.hls_text.specs.Lines.{Text}
use Rattle.hls_top_words.specs.Table.{IsJob}
use Rattle.hls_top_words.specs.declared.jobs.Job.{Job}
use Rattle.hls_top_words.specs.declared.jobs.Job.TheVariants.{Run, Check, Gen, Trial}
use Rattle.hls_top_words.proofs.OneJob.{same_job}
use Rattle.hls_legal.specs.Moment.{Boxes}
use Rattle.hls_top.specs.Exchange.{Drawn, Exchange, limit, IsFaultless, Takes, IsOrderly}
use Rattle.hls_top.specs.Outputs.{IsOutput}
use Rattle.hls_top.specs.Ends.{IsDue, Writes, IsTooLong, Lacks, Ends}
use Rattle.hls_top.specs.Says.{IsRead, Says, IsSteady}

-- ---- what is due

no_usage : (boxes : Boxes) (job : Job) (d : Drawn) (output : Text) → IsOutput boxes job d Usage output → ⊥
no_usage boxes (Run depth) d output is = is.said
no_usage boxes Check d output is = is.said
no_usage boxes (Gen number) d output is = is.said
no_usage boxes (Trial number) d output is = is.said

no_read_fault : (boxes : Boxes) (job : Job) (d : Drawn) (output : Text) → IsOutput boxes job d ReadFault output → ⊥
no_read_fault boxes (Run depth) d output is = is.said
no_read_fault boxes Check d output is = is.said
no_read_fault boxes (Gen number) d output is = is.said
no_read_fault boxes (Trial number) d output is = is.said

no_write_fault : (boxes : Boxes) (job : Job) (d : Drawn) (output : Text) → IsOutput boxes job d WriteFault output
    → ⊥
no_write_fault boxes (Run depth) d output is = is.said
no_write_fault boxes Check d output is = is.said
no_write_fault boxes (Gen number) d output is = is.said
no_write_fault boxes (Trial number) d output is = is.said

no_memory : (boxes : Boxes) (job : Job) (d : Drawn) (output : Text) → IsOutput boxes job d Memory output → ⊥
no_memory boxes (Run depth) d output is = is.said
no_memory boxes Check d output is = is.said
no_memory boxes (Gen number) d output is = is.said
no_memory boxes (Trial number) d output is = is.said

no_length : (boxes : Boxes) (job : Job) (d : Drawn) (output : Text) → IsOutput boxes job d TooLong output → ⊥
no_length boxes (Run depth) d output is = is.said
no_length boxes Check d output is = is.said
no_length boxes (Gen number) d output is = is.said
no_length boxes (Trial number) d output is = is.said

is_due : (x : Exchange) (status : Status) (output : Text) (job : Job) → IsJob x.words job
    → IsOutput x.boxes job x.source status output → IsDue x status output
is_due x Done output job words is = record { job = job; words = words; is = is }
is_due x Broken output job words is = record { job = job; words = words; is = is }
is_due x RefusedText output job words is = record { job = job; words = words; is = is }
is_due x Usage output job words is = absurd (no_usage x.boxes job x.source output is)
is_due x ReadFault output job words is = absurd (no_read_fault x.boxes job x.source output is)
is_due x WriteFault output job words is = absurd (no_write_fault x.boxes job x.source output is)
is_due x Memory output job words is = absurd (no_memory x.boxes job x.source output is)
is_due x TooLong output job words is = absurd (no_length x.boxes job x.source output is)

writes_end : (x : Exchange) (status : Status) (output : Text) → IsDue x status output → Writes x status
    → Ends x status
writes_end x Done output due w = w
writes_end x Broken output due w = w
writes_end x Usage output due w = w
writes_end x RefusedText output due w = w
writes_end x ReadFault output due w = absurd (no_read_fault x.boxes due.job x.source output due.is)
writes_end x WriteFault output due w = absurd (no_write_fault x.boxes due.job x.source output due.is)
writes_end x Memory output due w = absurd (no_memory x.boxes due.job x.source output due.is)
writes_end x TooLong output due w = absurd (no_length x.boxes due.job x.source output due.is)

-- an output that was due was said
pub said : (x : Exchange) (status result : Status) (output : Text) → IsDue x status output
    → x.source.faults_after ≡ x.source.faults → Says x.sink output status result → Ends x result
said x status result output due read h = elim h [
  | inl w ↦ subst (λ r. Ends x r) (sym w.result_is) (writes_end x status output due record {
    output = output;
    due = due;
    written = w.written;
    no_write_failed = w.same_faults;
    no_read_failed = read;
  })
  | inr w ↦ subst (λ r. Ends x r) (sym w.result_is) record {
    status = status;
    output = output;
    due = due;
    written = w.written;
    write_failed = w.more_faults;
    no_read_failed = read;
  }
]

-- so was the output of a job
pub answered : (x : Exchange) (job : Job) (status result : Status) (output : Text) → IsJob x.words job
    → IsOutput x.boxes job x.source status output → x.source.faults_after ≡ x.source.faults
    → Says x.sink output status result → Ends x result
answered x job status result output words is read h =
    said x status result output (is_due x status output job words is) read h

-- ---- what words of a job may come to

rose : (most : Option ℕ) (d : Drawn) → Lacks errors.Fault most d → Rose d.faults d.faults_after
rose (Some most) d lacks = lacks
rose None d lacks = absurd lacks

-- a text was too long, or memory was wanting, or there was an output
pub record HasOutput (x : Exchange) (job : Job) (status : Status) : Type 0 where
  pub output : Text
  pub is : IsOutput x.boxes job x.source status output

pub record HasLength (x : Exchange) (job : Job) (status : Status) : Type 0 where
  pub status_is : status ≡ TooLong
  pub lacks : Lacks errors.TooLong (limit job) x.source

abbrev pub Comes : Exchange → Job → Status → Type 0
Comes x job status = (status ≡ Memory) ⊎ (HasLength x job status ⊎ HasOutput x job status)

pub comes : (x : Exchange) (status : Status) → Ends x status → IsFaultless x → (job : Job) → IsJob x.words job
    → Comes x job status
comes x Done h quiet job words =
    inr (inr record {
      output = h.output;
      is = subst (λ j. IsOutput x.boxes j x.source Done h.output)
          (same_job x.words h.due.job job h.due.words words) h.due.is;
    })
comes x Broken h quiet job words =
    inr (inr record {
      output = h.output;
      is = subst (λ j. IsOutput x.boxes j x.source Broken h.output)
          (same_job x.words h.due.job job h.due.words words) h.due.is;
    })
comes x RefusedText h quiet job words =
    inr (inr record {
      output = h.output;
      is = subst (λ j. IsOutput x.boxes j x.source RefusedText h.output)
          (same_job x.words h.due.job job h.due.words words) h.due.is;
    })
comes x Usage h quiet job words = absurd (h.due.words job words)
comes x ReadFault h quiet job words = absurd (quiet.reads (rose (limit h.job) x.source h.lacks))
comes x WriteFault h quiet job words = absurd (quiet.writes h.write_failed)
comes x Memory h quiet job words = inl refl
comes x TooLong h quiet job words =
    inr (inl record {
      status_is = refl;
      lacks = subst (λ j. Lacks errors.TooLong (limit j) x.source) (same_job x.words h.job job h.words words) h.lacks;
    })

-- ---- what is told of a text

-- what was read is what was told
pub read_is : (d : Drawn) (bytes read : Text) → d.left ≡ Some bytes → IsWhole d.left d.left_after read
    → bytes ≡ read
read_is d bytes read told whole = subst (λ o. IfSome o (λ xs. xs ≡ read)) told whole.whole

-- it is not longer than the limit and within it at once
pub not_past : (most : ℕ) (d : Drawn) (bytes : Text) → d.left ≡ Some bytes → IsTooLong most d
    → length bytes ≤ most → ⊥
not_past most d bytes told h small =
    let past : most < length bytes = subst (λ o. IfSome o (λ xs. most < length xs)) told h.longer in
    omega arith

-- ---- order

takes_none : (most : ℕ) (left left' : Option Text) → left' ≡ left → TakesAtMost most left left'
takes_none most None left' same = (0, omega arith, tt)
takes_none most (Some bytes) left' same = (0, omega arith, same)

pub takes_nothing : (most : Option ℕ) (d : Drawn) → d.left_after ≡ d.left → Takes most d
takes_nothing None d same = same
takes_nothing (Some most) d same = takes_none _ d.left d.left_after same

-- a run that reads nothing is orderly
pub orderly_unread : (x : Exchange) → x.source.left_after ≡ x.source.left
    → x.source.faults_after ≡ x.source.faults → IsSteady x.sink → IsOrderly x
orderly_unread x same quiet steady = record {
  source_told = ap (λ (o : Option Text). is_some o) same;
  sink_told = steady.told;
  reads_counted = omega arith;
  writes_counted = steady.counted;
  taken = λ job words. takes_nothing (limit job) x.source same;
  unread = λ none. same;
}

-- so is one that reads what a job asks for
pub orderly_read : (x : Exchange) (job : Job) → IsJob x.words job → IsRead (limit job) x.source → IsSteady x.sink
    → IsOrderly x
orderly_read x job words read steady = record {
  source_told = read.told;
  sink_told = steady.told;
  reads_counted = read.counted;
  writes_counted = steady.counted;
  taken = λ other also. subst (λ j. Takes (limit j) x.source) (same_job x.words job other words also) read.taken;
  unread = λ none. absurd (none job words);
}

pub unmoved : (x : Exchange) → x.sink.written_after ≡ x.sink.written → x.sink.faults_after ≡ x.sink.faults
    → IsSteady x.sink
unmoved x same quiet = record { told = ap (λ (o : Option Text). is_some o) same; counted = omega arith }
