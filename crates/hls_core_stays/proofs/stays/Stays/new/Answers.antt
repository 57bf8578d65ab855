use Rattle.std.proofs.Common.{refl, sym, ap, [], length, is_none}
use Rattle.hls_chron.proofs.CountLaws.{count-none}
use Rattle.hls_machine.specs.Hierarchy.{start}
use Rattle.hls_core_stays.proofs.stays.Stays.new.Goals as goal

pub returns : goal.returns
returns c = record {
  kept = [];
  are = record {
    many = ap length c.new.ensures;
    each = λ at stay tally e f. absurd (cc);
    single = λ i j one other e f p q same. absurd (cc);
    idle = sym (count-none (λ t. is_none (start.past t).to) 0);
  };
  all = refl;
}
