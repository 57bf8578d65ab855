-- A run for which no memory was there to begin with.
use Rattle.std.proofs.Common.{◌≡◌, ℕ, List, Option, ap, arith, is_some}
use Rattle.hls_text.specs.Lines.{Text}
use Rattle.hls_legal.specs.Moment.{Boxes}
use Rattle.hls_top.specs.Exchange.{exchange, IsOrderly}
use Rattle.hls_top.specs.Ends.{LacksMemory}
use Rattle.hls_top.proofs.Outcomes.{orderly_unread}

module _ {S K : Type 0} (left : S → Option Text) (read_faults : S → ℕ) (written : K → Option Text)
    (write_faults : K → ℕ) (words : List Text) (boxes : Boxes) (source source' : S) (sink sink' : K)
    (unread : source' ≡ source) (unwritten : sink' ≡ sink) where
  pub lacks_memory : LacksMemory (exchange left read_faults written write_faults words boxes source source' sink sink')
  lacks_memory = record {
    no_read_failed = ap read_faults unread;
    silent = record { written = ap written unwritten; no_write_failed = ap write_faults unwritten };
  }

  pub orderly : IsOrderly (exchange left read_faults written write_faults words boxes source source' sink sink')
  orderly =
      let same = ap write_faults unwritten in
      orderly_unread _ (ap left unread) (ap read_faults unread)
      (record { told = ap (λ k. is_some (written k)) unwritten; counted = omega (arith, same) })
