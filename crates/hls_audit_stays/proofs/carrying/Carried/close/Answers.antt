use Rattle.std.proofs.Common.{◌∙◌, ap, filter, rules}
use Rattle.std.specs.Prelude.{Bool, not}
use Rattle.std.proofs.lemmas.Fn.{filter_same}
use Rattle.hls_audit_stays.specs.declared.found.FoundStay.{FoundStay}
use Rattle.hls_audit_stays.specs.Inside.Marks.{next_mark}
use Rattle.hls_audit_stays.proofs.carrying.Carried.close.Goals as goal

pub returns : goal.returns
returns c =
    let closed = c.in_ok-close_going.ensures in
    let old = c.args.self.now in
    let goes_on : FoundStay → Bool =
    (λ stay. not (next_mark old.seats c.args.answered.now c.args.marks.now c.args.above.now stay.name)) in
    record {
      stays = closed.stays;
      open_at = closed.open_at;
      fresh = filter_same _ goes_on _ (λ x b f' k. search rules) c.close_going.new.self.fresh.items
          c.retain.new.self.items c.retain.ensures.filtered
          ∙ ap (λ v. filter goes_on v.items) closed.fresh;
      tick = closed.tick;
      threads = closed.threads;
      seats = closed.seats;
    }
