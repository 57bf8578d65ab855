-- What is written about a text that was read.
use Rattle.std.specs.Prelude.{◌≤◌, length}
use Rattle.hls_io.specs.Bytes.{IsWhole}
use Rattle.hls_io.specs.declared.status.Status.{Status}
use Rattle.hls_text.specs.Lines.{Text}
use Rattle.hls_legal.specs.Moment.{Boxes}
use Rattle.hls_top.specs.Exchange.{Drawn, scenario_limit}
use Rattle.hls_offer_words.specs.Table.{IsQuestion, ArePeriods, most_period, IsAtMost}
use Rattle.hls_offer_words.specs.declared.asked.Asked.{Asked}
use Rattle.hls_offer.specs.Replies.{IsReply}

-- the question is one that words can ask
pub record IsAskable (a : Asked) : Type 0 where
  pub question : IsQuestion a.question
  pub periods : ArePeriods (most_period a.question) a.periods
  pub depth : IsAtMost 6 a.depth

-- these are all the bytes that came, they are within the limit, and this is the reply
pub record IsOfSource (a : Asked) (boxes : Boxes) (d : Drawn) (status : Status) (output : Text) : Type 0 where
  pub bytes : Text
  pub whole : IsWhole d.left d.left_after bytes
  pub within : length bytes ≤ scenario_limit
  pub reply : IsReply a boxes bytes status output
