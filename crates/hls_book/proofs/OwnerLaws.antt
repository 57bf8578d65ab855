-- What a mark and a row change of the owners of places.
use Rattle.std.proofs.Common.{◌≡◌, ◌≢◌, ℕ, zero, suc, ◌+◌, ◌<◌, ◌≤◌, [], ◌∷◌, Bool, true, false, refl, sym}
use Rattle.std.proofs.Common.{ap, ◌∙◌, arith, fold, Some, None, zero-add}
use Rattle.std.specs.Prelude.{Option, is_none, is_some, if◌then◌else◌, ◌&&◌, nat_lt}
use Rattle.std.proofs.lemmas.Bool.{eq-eqb, ne_eqb, eqb-true, ltb-true, ltb-false}
use Rattle.std.proofs.lemmas.List.Sums.{fold-append}
use Rattle.hls_chron.specs.declared.book.TickRow.{TickRow}
use Rattle.hls_chron.specs.declared.book.Mark.{Mark}
use Rattle.hls_chron.specs.declared.book.Event.{Event}
use Rattle.hls_chron.specs.declared.book.Event.TheVariants.{Seat, Leave, Settle}
use Rattle.hls_chron.specs.declared.plain.Terms.{Terms}
use Rattle.hls_chron.specs.declared.plain.Terms.TheVariants as terms
use Rattle.hls_chron.specs.Ledger.{Ledger, now_of, with_row, with_mark}
use Rattle.hls_chron.specs.Seats.{is_slot}
use Rattle.hls_chron.specs.Ticks.{one_if, count}
use Rattle.hls_kinds.specs.Frames.{free_below, owner_seated, owner_after, unowned, owner_at}
use Rattle.hls_book.specs.Places.{owns_place}

pub owner_at-mark : (b : Ledger) (event : Event) (place : ℕ)
    → owner_at (with_mark b event) place ≡ owner_after (owner_at b) event place
unfolding owner_at
owner_at-mark b event place =
    ap (λ (owners : ℕ → Option ℕ). owners place)
    (fold-append (λ owners (m : Mark). owner_after owners m.event) unowned b.marks
    (record { tick = now_of b; event = event } ∷ []))

pub owner_at-row : (b : Ledger) (row : TickRow) (place : ℕ)
    → owner_at (with_row b row) place ≡ owner_at b place
unfolding owner_at
owner_at-row b row place = refl

pub owner_at-same : (a b : Ledger) (place : ℕ) → a.marks ≡ b.marks → owner_at a place ≡ owner_at b place
unfolding owner_at
owner_at-same a b place same =
    ap (λ marks. fold (λ owners (m : Mark). owner_after owners m.event) unowned marks place) same

pub owner_at-unmarked : (b : Ledger) (place : ℕ) → b.marks ≡ [] → owner_at b place ≡ None
unfolding owner_at
owner_at-unmarked b place unmarked = rw unmarked refl

-- a place that is one slot's is no other's
pub other_slot : (owner : Option ℕ) (at slot : ℕ) → at ≢ slot → is_slot owner at ≡ true
    → is_slot owner slot ≡ false
other_slot None at slot apart is = absurd cc
other_slot (Some found) at slot apart is =
    let same : found ≡ at = eqb-true found at is in
    ne_eqb found slot (λ e. apart (sym same ∙ e))

-- a seating elsewhere
taken_other : (owner : Option ℕ) (at slot : ℕ) (takes : Bool) → at ≢ slot
    → is_slot (if (is_none owner && takes) then Some at else owner) slot ≡ is_slot owner slot
taken_other None at slot true apart = ne_eqb at slot apart
taken_other None at slot false apart = refl
taken_other (Some found) at slot takes apart = refl

seated_other : (owners : ℕ → Option ℕ) (at slot place : ℕ) (m : Terms) → at ≢ slot
    → is_slot (owner_seated owners at m place) slot ≡ is_slot (owners place) slot
seated_other owners at slot place (terms.Slots places) apart =
    taken_other (owners place) at slot (nat_lt (free_below owners place) places) apart
seated_other owners at slot place _ apart = refl

-- a leaving elsewhere
left_by : (owner : Option ℕ) (at slot : ℕ) (here : Bool) → is_slot owner at ≡ here → at ≢ slot
    → is_slot (if here then None else owner) slot ≡ is_slot owner slot
left_by owner at slot true is apart = sym (other_slot owner at slot apart is)
left_by owner at slot false is apart = refl

-- an event that is not of the slot
abbrev pub IsElsewhere : Event → ℕ → Type 0
IsElsewhere (Seat at m) slot = at ≢ slot
IsElsewhere (Leave at) slot = at ≢ slot
IsElsewhere Settle slot = Unit {0}

-- leaves it its places
pub owns-elsewhere : (b : Ledger) (event : Event) (slot place : ℕ) → IsElsewhere event slot
    → owns_place (with_mark b event) slot place ≡ owns_place b slot place
owns-elsewhere b (Seat at m) slot place apart =
    ap (λ owner. is_slot owner slot) (owner_at-mark b (Seat at m) place)
    ∙ seated_other (owner_at b) at slot place m apart
owns-elsewhere b (Leave at) slot place apart =
    ap (λ owner. is_slot owner slot) (owner_at-mark b (Leave at) place)
    ∙ left_by (owner_at b place) at slot (is_slot (owner_at b place) at) refl apart
owns-elsewhere b Settle slot place apart =
    ap (λ owner. is_slot owner slot) (owner_at-mark b Settle place)

-- a leaving frees the places of its slot
freed : (owner : Option ℕ) (slot : ℕ) (here : Bool) → is_slot owner slot ≡ here
    → is_slot (if here then None else owner) slot ≡ false
freed owner slot true is = refl
freed owner slot false is = is

pub owns-left : (b : Ledger) (slot place : ℕ) → owns_place (with_mark b (Leave slot)) slot place ≡ false
owns-left b slot place =
    ap (λ owner. is_slot owner slot) (owner_at-mark b (Leave slot) place)
    ∙ freed (owner_at b place) slot (is_slot (owner_at b place) slot) refl

-- a seating of a slot that owns nothing: it owns what it takes
taken_here : (owner : Option ℕ) (slot : ℕ) (takes : Bool) → is_slot owner slot ≡ false
    → is_slot (if (is_none owner && takes) then Some slot else owner) slot ≡ (is_none owner && takes)
taken_here None slot true lost = eq-eqb slot slot refl
taken_here None slot false lost = refl
taken_here (Some found) slot takes lost = lost

pub owns-seated : (b : Ledger) (slot places place : ℕ) → owns_place b slot place ≡ false
    → owns_place (with_mark b (Seat slot (terms.Slots places))) slot place
    ≡ (is_none (owner_at b place) && nat_lt (free_below (owner_at b) place) places)
owns-seated b slot places place lost =
    ap (λ owner. is_slot owner slot) (owner_at-mark b (Seat slot (terms.Slots places)) place)
    ∙ taken_here (owner_at b place) slot (nat_lt (free_below (owner_at b) place) places) lost

-- the least free places that are taken: as many as are asked, or all that are free
abbrev taken_places : (free : ℕ → Bool) (k : ℕ) → ℕ → Bool
taken_places free k place = free place && nat_lt (count free 0 place) k

-- of so many free places below n, and of so many taken
pub record IsTaken (free taken k : ℕ) : Type 0 where
  pub all : free ≤ k → taken ≡ free
  pub some : k ≤ free → taken ≡ k

taken_step : (free : ℕ → Bool) (k n : ℕ) (f : Bool) (less : Bool) → free n ≡ f
    → nat_lt (count free 0 n) k ≡ less → IsTaken (count free 0 n) (count (taken_places free k) 0 n) k
    → IsTaken (count free 0 n + one_if f) (count (taken_places free k) 0 n + one_if (f && less)) k
taken_step free k n true true is lt before =
    let below : count free 0 n < k = ltb-true (count free 0 n) k lt in
    let same = before.all (omega (arith, below)) in
    record { all = λ le. omega (arith, same); some = λ le. omega (arith, same, below, le) }
taken_step free k n true false is lt before =
    let above : k ≤ count free 0 n = ltb-false (count free 0 n) k lt in
    let same = before.some above in
    record { all = λ le. absurd (omega (arith, above, le)); some = λ le. omega (arith, same) }
taken_step free k n false less is lt before = record {
  all = λ le. omega (arith, before.all (omega (arith, le)));
  some = λ le. omega (arith, before.some (omega (arith, le)));
}

pub count-taken : (free : ℕ → Bool) (k n : ℕ) → IsTaken (count free 0 n) (count (taken_places free k) 0 n) k
unfolding count
count-taken free k zero = record { all = λ le. refl; some = λ le. omega (arith, le) }
count-taken free k (suc n) =
    rw (zero-add n)
    (taken_step free k n (free n) (nat_lt (count free 0 n) k) refl refl (count-taken free k n))

-- free places and owned ones are all places
one_of_two : (owner : Option ℕ) → one_if (is_none owner) + one_if (is_some owner) ≡ 1
one_of_two None = refl
one_of_two (Some slot) = refl

pub count-owned : (owners : ℕ → Option ℕ) (n : ℕ)
    → count (λ p. is_none (owners p)) 0 n + count (λ p. is_some (owners p)) 0 n ≡ n
unfolding count
count-owned owners zero = refl
count-owned owners (suc n) = omega (arith, count-owned owners n, one_of_two (owners (0 + n)))
