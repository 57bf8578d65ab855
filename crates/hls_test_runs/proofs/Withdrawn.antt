-- What a reservation that is withdrawn holds: its parts may not be used before its deadline, and then they may.
use Rattle.std.proofs.Common.{◌≡◌, ◌≢◌, ℕ, List, [], ◌∷◌, ◌++◌, Some, None, true}
use Rattle.std.proofs.Common.{false, refl, sym, ◌∙◌, subst, arith, inr}
use Rattle.std.specs.Prelude.{codes}
use Rattle.hls_chron.specs.declared.book.TickRow.{TickRow}
use Rattle.hls_chron.specs.declared.book.Event.TheVariants as events
use Rattle.hls_chron.specs.declared.plain.Config.TheVariants.{Edf}
use Rattle.hls_chron.specs.declared.plain.Terms.TheVariants.{Res}
use Rattle.hls_chron.specs.Ledger.{Ledger, with_row, with_mark, row_at}
use Rattle.hls_chron.specs.Seats.{terms_at, asked, served}
use Rattle.hls_chron.specs.Ticks.{count}
use Rattle.hls_kinds.specs.Slots.{any_below, sum_below}
use Rattle.hls_kinds.specs.Tenants.{tenant_at}
use Rattle.hls_chron.specs.Parts.{parts}
use Rattle.hls_kinds.specs.Reservations.{last_replenished, claim_at, is_held}
use Rattle.hls_kinds.specs.Asks.{asks}
use Rattle.hls_kinds.specs.Fits.{Fits}
use Rattle.hls_guarantee.specs.declared.Guarantee.TheVariants.{All, Null}
use Rattle.hls_machine.specs.Derived.{Follows}
use Rattle.hls_machine.specs.Hierarchy.{Hierarchy, Loaded, Scheduler, start, name_of}
use Rattle.hls_machine.specs.Steps.{Admit, End, after, state}
use Rattle.hls_machine.specs.Legal.{MaySit, Can, IsLegal}
use Rattle.hls_test_runs.specs.Moves.{root_seat}
use Rattle.hls_test_runs.specs.Reserved.{nobody_asks, withdrawn, expired, larger_seat, admit_larger}
use Rattle.hls_test_runs.proofs.Small.{few_after, each_of_three, take_one, yields, zero_off}
use Rattle.hls_test_runs.proofs.Budgets.{once}
use Rattle.hls_test_runs.proofs.Desk.{IsDesk, desk_asking, desk_ticked, desk_idles}
use Rattle.hls_test_runs.proofs.Reserved.{h1, few_h1, reserved_legal}

abbrev row_off : TickRow
row_off = record { mask = 0; to = None; port = 0 }

abbrev left : Ledger
left = with_mark once (events.Leave 0)

abbrev left1 : Ledger
left1 = with_row left row_off

abbrev left2 : Ledger
left2 = with_row left1 row_off

abbrev left3 : Ledger
left3 = with_row left2 row_off

abbrev ended : Hierarchy
ended = after h1 (End 1)

abbrev IsBare : Hierarchy → Ledger → Type 0
IsBare h b = IsDesk h Edf b None None

bare_ended : IsBare ended left
bare_ended = record {
  few = few_after 3 h1 (End 1) (λ k le made. made) few_h1;
  rooted = refl;
  root_there = refl;
  first_there = refl;
  second_there = refl;
}

-- the parts are held
too_much : ¬ Fits Edf left (Res true 3 4)
unfolding parts sum_below is_held tenant_at terms_at last_replenished asked served row_at count
too_much fits = fits.room 66786643213290000 100179964819935000
    (record { left = refl; asks = refl; lacks = omega arith })

abbrev held_scheduler : Scheduler
held_scheduler = record { name = codes "root"; config = Edf; book = left; ports = root_seat ∷ [] }

pub held_parts : (k : ℕ) (name : List ℕ) (slot : ℕ)
    → ¬ Can (state start withdrawn) (Admit k name (larger_seat slot))
held_parts k name slot can =
    let sits : MaySit ended [] (larger_seat slot) 0 slot = (can.places.take 0 (larger_seat slot) refl).free in
    let same : Some (Loaded sits.scheduler) ≡ Some (Loaded held_scheduler) =
    sym sits.there ∙ bare_ended.root_there in
    let there : sits.scheduler ≡ held_scheduler = cc in
    too_much (subst (λ (s : Scheduler). Fits s.config s.book (Res true 3 4)) there sits.fits)

-- and go at the deadline
can_nobody : (h : Hierarchy) (b : Ledger) → IsBare h b → asks Edf b 0 ≡ false → Can h nobody_asks
can_nobody h b bare off = desk_idles h Edf b None None bare (λ k. false) (λ k. 0)
    (desk_asking h Edf b None None bare (λ k. false) (λ k. 0) (sym off) refl refl (λ k le. refl) (λ k le. refl)
    (λ slot none. zero_off slot))
    refl

abbrev e1 : Hierarchy
e1 = after ended nobody_asks

abbrev e2 : Hierarchy
e2 = after e1 nobody_asks

abbrev e3 : Hierarchy
e3 = after e2 nobody_asks

bare_e1 : IsBare e1 left1
bare_e1 = desk_ticked ended Edf left None None bare_ended (λ k. false) (λ k. 0) None

bare_e2 : IsBare e2 left2
bare_e2 = desk_ticked e1 Edf left1 None None bare_e1 (λ k. false) (λ k. 0) None

bare_e3 : IsBare e3 left3
bare_e3 = desk_ticked e2 Edf left2 None None bare_e2 (λ k. false) (λ k. 0) None

silent_left : asks Edf left 0 ≡ false
unfolding any_below asked served row_at claim_at tenant_at last_replenished count parts
silent_left = refl

silent_left1 : asks Edf left1 0 ≡ false
unfolding any_below asked served row_at claim_at tenant_at last_replenished count parts
silent_left1 = refl

silent_left2 : asks Edf left2 0 ≡ false
unfolding any_below asked served row_at claim_at tenant_at last_replenished count parts
silent_left2 = refl

larger_fits : Fits Edf left3 (Res true 3 4)
unfolding parts sum_below is_held tenant_at terms_at last_replenished asked served row_at count
larger_fits = record {
  of_kind = refl;
  within = λ e. e;
  apart = λ priority is has. cc;
  room = λ free asked lacks. omega (arith, lacks.left, lacks.asks, lacks.lacks);
}

lends_nothing : Follows Edf (Res true 3 4) (All ∷ []) Null
lends_nothing = record {
  port = 0;
  have = All;
  is_have = refl;
  offered = All;
  lent = Null;
  first = yields All;
  through = record { from = tt; to = tt; port_of = refl; lends = inr refl };
  last = yields Null;
}

larger_sits : MaySit e3 [] (larger_seat 0) 0 0
unfolding terms_at is_held tenant_at last_replenished asked served row_at count parts
larger_sits = record {
  scheduler = _;
  there = bare_e3.root_there;
  fits = larger_fits;
  room = λ full. full 0 (omega arith) refl;
  free = record { within = omega arith; free = refl; least = λ other lt. absurd (omega (arith, lt)) };
  derived = lends_nothing;
}

can_admit_larger : Can e3 admit_larger
can_admit_larger = record {
  new = record {
    unused = refl;
    named = refl;
    fresh = each_of_three e3 bare_e3.few (λ k node. name_of node ≢ Some (codes "b"))
        (λ e. cc) (λ e. cc) (λ e. cc) (λ k le e. cc);
  };
  few = omega arith;
  place = λ e. cc;
  places = take_one e3 (larger_seat 0)
      (record {
        in_range = record { terms = (omega arith, omega arith, omega arith); kept = tt };
        free = larger_sits;
      });
}

pub expired_admits : IsLegal start (expired ++ admit_larger ∷ [])
expired_admits = (
  reserved_legal.0,
  (
    reserved_legal.1.0,
    (
      reserved_legal.1.1.0,
      (
        reserved_legal.1.1.1.0,
        (
          record { thread = _; there = refl },
          (
            can_nobody ended left bare_ended silent_left,
            (
              can_nobody e1 left1 bare_e1 silent_left1,
              (can_nobody e2 left2 bare_e2 silent_left2, (can_admit_larger, tt)),
            ),
          ),
        ),
      ),
    ),
  ),
)
