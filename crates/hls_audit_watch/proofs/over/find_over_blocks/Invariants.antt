use Rattle.std.proofs.Common.{◌≡◌, ◌*◌}
use Rattle.hls_chron.specs.Parts.{all_parts, parts}
use Rattle.hls_guarantee.specs.Service.{schedule_of}
use Rattle.hls_guarantee.proofs.Excesses.{Excess}
use Rattle.hls_audit_watch.proofs.over.find_over_blocks.Given as goal

abbrev pub invariant-loop-at : goal.invariant-loop-at
invariant-loop-at l = record {
  rate : l.excess.rate ≡ parts l.x l.y;
  had : Excess (parts l.x l.y) all_parts (2 * l.x * all_parts) (schedule_of l.served) l.at l.excess.had;
}
