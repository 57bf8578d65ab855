-- How the parts of a run make its end.
use Rattle.std.proofs.Common.{◌≡◌, sym, ap, subst, arith, inl, inr}
use Rattle.std.specs.Prelude.{Option, Some, is_some}
use Rattle.hls_io.specs.declared.status.Status.{Status}
use Rattle.hls_io.specs.declared.status.Status.TheVariants.{Done, Broken, Usage, RefusedText, ReadFault}
use Rattle.hls_io.specs.declared.status.Status.TheVariants.{WriteFault, Memory, TooLong}
use Rattle.hls_text.specs.Lines.{Text}
use Rattle.hls_top.specs.Exchange.{Exchange, scenario_limit}
use Rattle.hls_top.specs.Says.{IsRead, Says, IsSteady}
use Rattle.hls_top.proofs.Outcomes.{takes_nothing}
use Rattle.hls_offer_words.specs.Table.{IsAsked}
use Rattle.hls_offer_words.specs.declared.asked.Asked.{Asked}
use Rattle.hls_offer.specs.Ends.{IsDue, IsOfQuestion, Writes, Ends, IsOrderly}
use Rattle.hls_offer.specs.Inside.Readings.{IsOfSource}

is_due : (x : Exchange) (status : Status) (output : Text) (a : Asked) → IsAsked x.words a
    → IsOfSource a x.boxes x.source status output → IsDue x status output
is_due x status output a words is = by status is
  where
    due : (status : Status) → IsOfSource a x.boxes x.source status output → IsOfQuestion x status output
    due status is = record {
      asked = a;
      words = words;
      bytes = is.bytes;
      whole = is.whole;
      within = is.within;
      reply = is.reply;
    }

    by : (status : Status) → IsOfSource a x.boxes x.source status output → IsDue x status output
    by Usage is = absurd is.reply
    by Done is = due Done is
    by Broken is = due Broken is
    by RefusedText is = due RefusedText is
    by ReadFault is = due ReadFault is
    by WriteFault is = due WriteFault is
    by Memory is = due Memory is
    by TooLong is = due TooLong is

writes_end : (x : Exchange) (status : Status) (output : Text) → IsDue x status output → Writes x status
    → Ends x status
writes_end x Done output due w = w
writes_end x Usage output due w = w
writes_end x RefusedText output due w = w
writes_end x Broken output due w = w
writes_end x ReadFault output due w = absurd due.reply
writes_end x WriteFault output due w = absurd due.reply
writes_end x Memory output due w = absurd due.reply
writes_end x TooLong output due w = absurd due.reply

-- an output that was due was said
pub said : (x : Exchange) (status result : Status) (output : Text) → IsDue x status output
    → x.source.faults_after ≡ x.source.faults → Says x.sink output status result → Ends x result
said x status result output due read h = elim h [
  | inl w ↦ subst (λ r. Ends x r) (sym w.result_is) (writes_end x status output due record {
    output = output;
    due = due;
    written = w.written;
    no_write_failed = w.same_faults;
    no_read_failed = read;
  })
  | inr w ↦ subst (λ r. Ends x r) (sym w.result_is) record {
    status = status;
    output = output;
    due = due;
    written = w.written;
    write_failed = w.more_faults;
    no_read_failed = read;
  }
]

-- so was a reply
pub answered : (x : Exchange) (a : Asked) (status result : Status) (output : Text) → IsAsked x.words a
    → IsOfSource a x.boxes x.source status output → x.source.faults_after ≡ x.source.faults
    → Says x.sink output status result → Ends x result
answered x a status result output words is read h =
    said x status result output (is_due x status output a words is) read h

-- a run that reads nothing is orderly
pub orderly_unread : (x : Exchange) → x.source.left_after ≡ x.source.left
    → x.source.faults_after ≡ x.source.faults → IsSteady x.sink → IsOrderly x
orderly_unread x same quiet steady = record {
  source_told = ap (λ (o : Option Text). is_some o) same;
  sink_told = steady.told;
  reads_counted = omega (arith, quiet);
  writes_counted = steady.counted;
  taken = λ a words. takes_nothing (Some scenario_limit) x.source same;
  unread = λ none. same;
}

-- so is one that reads a text
pub orderly_read : (x : Exchange) (a : Asked) → IsAsked x.words a → IsRead (Some scenario_limit) x.source
    → IsSteady x.sink → IsOrderly x
orderly_read x a words read steady = record {
  source_told = read.told;
  sink_told = steady.told;
  reads_counted = read.counted;
  writes_counted = steady.counted;
  taken = λ other also. read.taken;
  unread = λ none. absurd (none a words);
}

pub unmoved : (x : Exchange) → x.sink.written_after ≡ x.sink.written → x.sink.faults_after ≡ x.sink.faults
    → IsSteady x.sink
unmoved x same quiet = record { told = ap (λ (o : Option Text). is_some o) same; counted = omega (arith, quiet) }
