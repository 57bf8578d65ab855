-- How books begin.
use Rattle.std.proofs.Common.{◌≡◌, ℕ, [], None, refl, sym, ap, ◌∙◌, arith, length}
use Rattle.hls_chron.specs.Ledger.{Ledger, now_of}
use Rattle.hls_kinds.specs.Frames.{owner_at}
use Rattle.hls_kinds.specs.Reservations.{claim_at}
use Rattle.hls_kinds.proofs.MarkLaws.{tenant_at-unmarked, settled_at-unmarked}
use Rattle.hls_book.proofs.TurnLaws.{left_at-unmarked, slot-settled, ticks-left}
use Rattle.hls_book.proofs.States.{time-unwritten}
use Rattle.hls_book_rules.specs.NewBooks.{IsNew, BeginsAnew}
use Rattle.hls_book.specs.Turns.{had_of}
use Rattle.hls_book.proofs.Turns.{had_none, turn_is}

unowned_first : (b : Ledger) (place : ℕ) → b.marks ≡ [] → owner_at b place ≡ None
unfolding owner_at
unowned_first b place unmarked = rw unmarked refl

claimless : (b : Ledger) (mask slot : ℕ) → b.marks ≡ [] → claim_at b mask slot ≡ None
unfolding claim_at
claimless b mask slot unmarked = rw (tenant_at-unmarked b slot unmarked) refl

pub new_begins : (b : Ledger) → IsNew b → BeginsAnew b
new_begins b new =
    let none : length b.rows ≡ 0 = ap length new.unwritten in
    let now : now_of b ≡ b.start = omega (arith, none) in
    record {
      time = λ quantum. time-unwritten quantum b new.unwritten;
      turn = λ quantum some.
          turn_is quantum b 31 quantum
          (slot-settled b (settled_at-unmarked b new.unmarked ∙ sym now))
          (ap (had_of quantum) (ticks-left b 31 (left_at-unmarked b 31 new.unmarked ∙ sym now))
          ∙ had_none quantum some);
      owners = λ place. unowned_first b place new.unmarked;
      claims = λ mask slot. claimless b mask slot new.unmarked;
    }
