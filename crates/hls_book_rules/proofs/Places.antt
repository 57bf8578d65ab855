-- Places go by their rules.
use Rattle.std.proofs.Common.{◌≡◌, ◌≢◌, ℕ, ◌+◌, ◌-◌, ◌≤◌, Some, None, Bool, true, false, refl, sym, ap, ◌∙◌, arith}
use Rattle.std.specs.Prelude.{Option, is_none, nat_lt, ◌&&◌, if◌then◌else◌}
use Rattle.std.proofs.lemmas.Bool.{eq-eqb, ne_eqb, lt-ltb, ltb-true}
use Rattle.hls_chron.specs.declared.book.Event.TheVariants.{Seat, Leave, Settle}
use Rattle.hls_chron.specs.declared.plain.Terms.TheVariants.{Slots}
use Rattle.hls_chron.specs.Ledger.{Ledger, with_mark}
use Rattle.hls_chron.specs.Seats.{is_slot}
use Rattle.hls_chron.specs.Ticks.{count}
use Rattle.hls_chron.proofs.CountLaws.{count-add, count-agree}
use Rattle.hls_kinds.specs.Frames.{owner_at, free_below}
use Rattle.hls_book.specs.Places.{owns_place}
use Rattle.hls_book.proofs.OwnerLaws.{owner_at-mark, owner_at-row, owns-seated, count-taken}
use Rattle.hls_book_rules.specs.Places.{TakesLeast, KeepsPlaceRules}

pub not_its : (owner : Option ℕ) (slot : ℕ) → owner ≢ Some slot → is_slot owner slot ≡ false
not_its None slot apart = refl
not_its (Some at) slot apart = ne_eqb at slot (λ same. apart (ap (λ (n : ℕ). Some n) same))

-- what a seating makes of the owner of a place
record IsTaken (owner : Option ℕ) (takes : Bool) : Type 0 where
  free : owner ≡ None
  few : takes ≡ true

taken_by : (owner : Option ℕ) (takes : Bool) (slot : ℕ) → owner ≢ Some slot
    → (if (is_none owner && takes) then Some slot else owner) ≡ Some slot → IsTaken owner takes
taken_by None true slot apart is = record { free = refl; few = refl }
taken_by None false slot apart is = absurd (apart is)
taken_by (Some at) takes slot apart is = absurd (apart is)

less_free : (b : Ledger) (lower place : ℕ) → lower ≤ place
    → free_below (owner_at b) lower ≤ free_below (owner_at b) place
less_free b lower place le =
    let test : ℕ → Bool = λ p. is_none (owner_at b p) in
    let whole : lower + (place - lower) ≡ place = omega (arith, le) in
    let split : count test 0 place ≡ count test 0 lower + count test (0 + lower) (place - lower) =
    ap (count test 0) (sym whole) ∙ count-add test 0 lower (place - lower) in
    omega (arith, split)

module _ (b : Ledger) (slot places : ℕ) (none : (place : ℕ) → owner_at b place ≢ Some slot) where
  after : ℕ → Option ℕ
  after place = owner_at (with_mark b (Seat slot (Slots places))) place

  taken : (place : ℕ) → owner_at (with_mark b (Seat slot (Slots places))) place ≡ Some slot
      → IsTaken (owner_at b place) (nat_lt (free_below (owner_at b) place) places)
  taken place is =
      taken_by (owner_at b place) (nat_lt (free_below (owner_at b) place) places) slot (none place)
      (sym (owner_at-mark b (Seat slot (Slots places)) place) ∙ is)

  takes_least : TakesLeast b slot places
  takes_least = record {
    free = λ place is. (taken place is).free;
    least = λ place lower is lt free.
        let few = ltb-true (free_below (owner_at b) place) places (taken place is).few in
        let fewer = less_free b lower place (omega (arith, lt)) in
        let on = lt-ltb (free_below (owner_at b) lower) places (omega (arith, few, fewer)) in
        owner_at-mark b (Seat slot (Slots places)) lower ∙ rw (free, on) refl;
    many = λ frame le.
        count-agree (owns_place (with_mark b (Seat slot (Slots places))) slot)
        (λ place. is_none (owner_at b place) && nat_lt (free_below (owner_at b) place) places) 0 frame
        (λ place _ _. owns-seated b slot places place (not_its (owner_at b place) slot (none place)))
        ∙ (count-taken (λ p. is_none (owner_at b p)) places frame).some le;
    others = λ place other apart is. owner_at-mark b (Seat slot (Slots places)) place ∙ rw is refl;
  }

pub place_rules : (b : Ledger) → KeepsPlaceRules b
place_rules b = record {
  takes = λ slot places none. takes_least b slot places none;
  frees = λ slot place is. owner_at-mark b (Leave slot) place ∙ rw (is, eq-eqb slot slot refl) refl;
  keeps = λ slot place apart.
      owner_at-mark b (Leave slot) place ∙ rw (not_its (owner_at b place) slot apart) refl;
  settles = λ place. owner_at-mark b Settle place;
  passes = λ row place. owner_at-row b row place;
}
