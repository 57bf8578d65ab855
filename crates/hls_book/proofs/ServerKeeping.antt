-- What a book keeps, after one more row or mark.
use Rattle.std.proofs.Common.{◌≡◌, ◌≢◌, ℕ, ◌+◌, ◌<◌, ◌≤◌, refl, sym, arith, inl, inr, ap, ◌∙◌, Bool, true}
use Rattle.std.proofs.Common.{Some}
use Rattle.std.specs.Prelude.{◌⊎◌}
use Rattle.std.proofs.lemmas.Bool.{cases_lt, cases_eq}
use Rattle.hls_chron.specs.declared.book.TickRow.{TickRow}
use Rattle.hls_chron.specs.declared.book.Event.{Event}
use Rattle.hls_chron.specs.declared.book.Event.TheVariants.{Seat, Leave, Settle}
use Rattle.hls_chron.specs.declared.plain.Config.TheVariants.{Edf}
use Rattle.hls_chron.specs.declared.plain.Terms.{Terms}
use Rattle.hls_chron.specs.declared.plain.Terms.TheVariants.{Res}
use Rattle.hls_chron.specs.Ledger.{Ledger, now_of, with_row, with_mark, before, IsDated}
use Rattle.hls_chron.specs.Seats.{asked, served}
use Rattle.hls_chron.proofs.BookLaws.{now_of-row, row_at-past, row_at-now, row_at-mark, before-row}
use Rattle.hls_chron.proofs.BookLaws.{before-mark}
use Rattle.hls_chron.proofs.BookLaws.{dated-row, dated-mark}
use Rattle.hls_kinds.specs.declared.tenant.Tenant.{Tenant}
use Rattle.hls_kinds.specs.declared.tenant.Tenant.TheVariants.{Vacant, Sits, Left}
use Rattle.hls_kinds.specs.declared.reservations.Reservation.{Reservation}
use Rattle.hls_kinds.specs.Tenants.{tenant_at, after_leaving, after_settling, settled_at}
use Rattle.hls_chron.specs.Parts.{all_parts, parts}
use Rattle.hls_kinds.specs.Asks.{asks}
use Rattle.hls_book.specs.Promise.{asked_by}
use Rattle.hls_book.specs.Servers.{AreSound, HaveRoom, vacant, parts_in}
use Rattle.hls_kinds.specs.Made.{IsRow}
use Rattle.hls_book.specs.Books.{server_at, IsGiven, IsReservation, KeepsReservations}
use Rattle.hls_book.proofs.Bare.{before-last, asks-bare}
use Rattle.hls_book.proofs.Rows.{is-slot, tenant_at-row, asked-past, served-past, asked-now, served-now}
use Rattle.hls_book.proofs.RowSteps.{HasTenants, IsAsking, row-sound, row-tenants}
use Rattle.hls_book.proofs.Choices.{IsGranted, is-asking, granted-room}
use Rattle.hls_book.proofs.Each.{sits, each-row, hard-row}
use Rattle.hls_book.proofs.MarkSteps.{asked-mark, served-mark, tenant_at-mark, settled_at-mark, seat_here}
use Rattle.hls_book.proofs.MarkSteps.{seat_other}
use Rattle.hls_book.proofs.MarkSteps.{leave_here, leave_other, seat-sound, seat-room, seat-tenants}
use Rattle.hls_book.proofs.MarkSteps.{leave-sound}
use Rattle.hls_book.proofs.MarkSteps.{leave-room, leave-tenants, settle-sound, settle-room}
use Rattle.hls_book.proofs.MarkSteps.{settle-tenants}

-- the grants of a book with one more row or mark
given_earlier : (b : Ledger) (row : TickRow) → settled_at (with_row b row) ≡ settled_at b
    → IsGiven (with_row b row)
    → IsGiven b
unfolding Rattle.hls_book.specs.Promise.asked_by
given_earlier b row same given = record {
  given = λ t from lt on.
      let past = row_at-past b row t lt in
      let as_before = before-row b row t lt in
      rw past at (given.given t (rw same from) (omega (arith, lt, now_of-row b row))
      (rw (past, as_before) on));
}

given_last : (b : Ledger) (row : TickRow) → IsDated b → settled_at (with_row b row) ≤ now_of b
    → IsGiven (with_row b row) → IsGranted b row
unfolding Rattle.hls_book.specs.Promise.asked_by
given_last b row dated from given = record {
  granted = λ on.
      let here = row_at-now b row in
      let asking : asks Edf (before (now_of b) (with_row b row)) row.mask ≡ true =
      ap (λ (c : Ledger). asks Edf c row.mask) (before-last b row dated) ∙ asks-bare b row.mask ∙ on in
      rw here at (given.given (now_of b) from (omega (arith, now_of-row b row)) (rw here asking));
}

given_mark : (b : Ledger) (event : Event) → settled_at (with_mark b event) ≡ settled_at b
    → IsGiven (with_mark b event) → IsGiven b
unfolding Rattle.hls_book.specs.Promise.asked_by
given_mark b event same given = record {
  given = λ t from lt on.
      let row = row_at-mark b event t in
      let as_before = before-mark b event t lt in
      rw row at (given.given t (rw same from) lt (rw (row, as_before) on));
}

settled_at-row : (b : Ledger) (row : TickRow) → settled_at (with_row b row) ≡ settled_at b
unfolding settled_at
settled_at-row b row = refl

-- one more row
sure_row : (b : Ledger) (row : TickRow) → KeepsReservations b → IsAsking b row → (slot t : ℕ)
    → t < now_of (with_row b row) → served (with_row b row) slot t ≡ true → asked (with_row b row) slot t
    ≡ true
sure_row b row keeps is slot t lt serving = elim (cases_lt t (now_of b)) [
  | inl earlier ↦
      asked-past b row slot t (now_of b) (omega arith) t (omega arith) earlier
      ∙ keeps.sure slot t earlier
      (sym (served-past b row slot t (now_of b) (omega arith) t (omega arith) earlier) ∙ serving)
  | inr last ↦
      let here : t ≡ now_of b = omega (arith, now_of-row b row) in
      let to : row.to ≡ Some slot =
      is-slot row.to slot (sym (ap (served (with_row b row) slot) here ∙ served-now b row slot) ∙ serving) in
      ap (asked (with_row b row) slot) here ∙ asked-now b row slot ∙ is.asks slot to
]

sits_within : (b : Ledger) (slot : ℕ) (r : Reservation) (hard : Bool) → KeepsReservations b
    → tenant_at b slot ≡ sits r hard → slot < 32
sits_within b slot r hard keeps is = elim (cases_lt slot 32) [
  | inl lt ↦ lt
  | inr beyond ↦ let none = keeps.within slot beyond in absurd (cc)
]

pub keeps-row : (b : Ledger) (row : TickRow) → KeepsReservations b → IsRow Edf b row
    → KeepsReservations (with_row b row)
keeps-row b row keeps is =
    let seats = is-asking b row is in
    let same = settled_at-row b row in
    let sound = row-sound b row keeps.tenants seats keeps.sound in
    let sure = sure_row b row keeps seats in
    let room : IsGiven (with_row b row) → HaveRoom all_parts 32 (server_at (with_row b row))
    (now_of (with_row b row)) =
    λ given. granted-room b row keeps.tenants is
    (given_last b row keeps.dated (rw same keeps.settled) given) keeps.sound
    (keeps.room (given_earlier b row same given)) in
    record {
      dated = dated-row b row keeps.dated;
      settled = omega (arith, keeps.settled, same, now_of-row b row);
      within = λ slot beyond. tenant_at-row b row slot ∙ keeps.within slot beyond;
      tenants = row-tenants b row keeps.tenants;
      sound = sound;
      sure = sure;
      hard = λ slot r sat.
          let was : tenant_at b slot ≡ sits r true = sym (tenant_at-row b row slot) ∙ sat in
          hard-row b row slot r keeps.tenants is was (keeps.hard slot r was);
      room = room;
      each = λ given slot hard r sat.
          let was : tenant_at b slot ≡ sits r hard = sym (tenant_at-row b row slot) ∙ sat in
          each-row b row slot r hard (sits_within b slot r hard keeps was) was (sure slot) sound (room given)
          (keeps.each (given_earlier b row same given) slot hard r was);
    }

-- after the event a seat is of the present tick, or was there before
abbrev pub Stayed : Ledger → Event → Type 0
Stayed b event = (slot : ℕ) (r : Reservation) (hard : Bool) → tenant_at (with_mark b event) slot ≡ sits r hard
    → (now_of b ≡ r.since) ⊎ (tenant_at b slot ≡ sits r hard)

-- after it every seat is of the present tick
abbrev pub AllNew : Ledger → Event → Type 0
AllNew b event = (slot : ℕ) (r : Reservation) (hard : Bool) → tenant_at (with_mark b event) slot ≡ sits r hard
    → now_of b ≡ r.since

keeps_mark : (b : Ledger) (event : Event) → KeepsReservations b → Stayed b event
    → settled_at (with_mark b event) ≤ now_of b
    → ((slot : ℕ) → 32 ≤ slot → tenant_at (with_mark b event) slot ≡ Vacant)
    → HasTenants (with_mark b event) → AreSound all_parts 32 (server_at (with_mark b event))
    → (IsGiven (with_mark b event) → HaveRoom all_parts 32 (server_at (with_mark b event)) (now_of b))
    → AllNew b event ⊎ (IsGiven (with_mark b event) → IsGiven b) → KeepsReservations (with_mark b event)
keeps_mark b event keeps stayed settled within tenants sound room given = record {
  dated = dated-mark b event keeps.dated;
  settled = settled;
  within = within;
  tenants = tenants;
  sound = sound;
  sure = λ slot. rw (asked-mark b event slot, served-mark b event slot) (keeps.sure slot);
  hard = λ slot r sat. elim (stayed slot r true sat) [
    | inl new ↦ record { budget = λ n before serves. absurd (omega (arith, new, before)) }
    | inr old ↦ rw (asked-mark b event slot, served-mark b event slot) (keeps.hard slot r old)
  ];
  room = room;
  each = λ is slot hard r sat. elim given [
    | inl all_new ↦
        let new = all_new slot r hard sat in
        record { fits = λ n before asks. absurd (omega (arith, new, before)) }
    | inr earlier ↦ elim (stayed slot r hard sat) [
      | inl new ↦ record { fits = λ n before asks. absurd (omega (arith, new, before)) }
      | inr old ↦ rw (asked-mark b event slot, served-mark b event slot)
          (keeps.each (earlier is) slot hard r old)
    ]
  ];
}

-- when a seat is of
since_of : (tenant : Tenant) → ℕ
since_of Vacant = 0
since_of (Sits terms since) = since
since_of (Left terms since at) = since

same_since : (terms : Terms) (now : ℕ) (r : Reservation) (hard : Bool) → Sits terms now ≡ sits r hard
    → now ≡ r.since
unfolding since_of
same_since terms now r hard e = ap since_of e

seat_stayed : (b : Ledger) (slot : ℕ) (terms : Terms) → Stayed b (Seat slot terms)
seat_stayed b slot terms other r hard sat = elim (cases_eq other slot) [
  | inl e ↦
      let here : tenant_at (with_mark b (Seat slot terms)) slot ≡ Sits terms (now_of b) =
      tenant_at-mark b (Seat slot terms) slot ∙ seat_here slot (now_of b) (tenant_at b slot) terms in
      inl (same_since terms (now_of b) r hard (sym here ∙ rw e at sat))
  | inr ne ↦
      inr (sym (tenant_at-mark b (Seat slot terms) other ∙ seat_other slot other (now_of b)
      (tenant_at b other) terms ne)
      ∙ sat)
]

seat_within : (b : Ledger) (slot : ℕ) (terms : Terms) → KeepsReservations b → slot < 32 → (other : ℕ)
    → 32 ≤ other
    → tenant_at (with_mark b (Seat slot terms)) other ≡ Vacant
seat_within b slot terms keeps lt other beyond =
    let ne : other ≢ slot = omega arith in
    tenant_at-mark b (Seat slot terms) other ∙ seat_other slot other (now_of b) (tenant_at b other) terms ne
    ∙ keeps.within other beyond

pub keeps-seat : (b : Ledger) (slot : ℕ) (hard : Bool) (x y : ℕ) → KeepsReservations b → slot < 32
    → server_at b slot ≡ vacant → IsReservation (Res hard x y) → parts_in (server_at b) 32 + parts x y
    ≤ all_parts
    → KeepsReservations (with_mark b (Seat slot (Res hard x y)))
keeps-seat b slot hard x y keeps lt free is fits =
    let same : settled_at (with_mark b (Seat slot (Res hard x y))) ≡ settled_at b =
    settled_at-mark b (Seat slot (Res hard x y)) in
    keeps_mark b (Seat slot (Res hard x y)) keeps (seat_stayed b slot (Res hard x y)) (rw same keeps.settled)
    (seat_within b slot (Res hard x y) keeps lt)
    (seat-tenants b slot (Res hard x y) keeps.tenants is)
    (let some : 0 < x = is.0 in let narrow : x ≤ y = is.1 in
    seat-sound b slot hard x y keeps.sound lt free (omega arith) fits)
    (λ given. seat-room b slot hard x y (keeps.room (given_mark b (Seat slot (Res hard x y)) same given)) lt
    free)
    (inr (given_mark b (Seat slot (Res hard x y)) same))

gone_case : (tenant : Tenant) (now : ℕ) (r : Reservation) (hard : Bool) → after_leaving now tenant
    ≡ sits r hard → ⊥
gone_case Vacant now r hard e = cc
gone_case (Sits terms since) now r hard e = cc
gone_case (Left terms since at) now r hard e = cc

leave_stayed : (b : Ledger) (slot : ℕ) → Stayed b (Leave slot)
leave_stayed b slot other r hard sat = elim (cases_eq other slot) [
  | inl e ↦
      let here : tenant_at (with_mark b (Leave slot)) slot ≡ after_leaving (now_of b) (tenant_at b slot) =
      tenant_at-mark b (Leave slot) slot ∙ leave_here slot (now_of b) (tenant_at b slot) in
      absurd (gone_case (tenant_at b slot) (now_of b) r hard (sym here ∙ rw e at sat))
  | inr ne ↦
      inr (sym (tenant_at-mark b (Leave slot) other ∙ leave_other slot other (now_of b) (tenant_at b other)
      ne) ∙ sat)
]

leave_within : (b : Ledger) (slot : ℕ) → KeepsReservations b → slot < 32 → (other : ℕ) → 32 ≤ other
    → tenant_at (with_mark b (Leave slot)) other ≡ Vacant
leave_within b slot keeps lt other beyond =
    let ne : other ≢ slot = omega arith in
    tenant_at-mark b (Leave slot) other ∙ leave_other slot other (now_of b) (tenant_at b other) ne
    ∙ keeps.within other beyond

pub keeps-leave : (b : Ledger) (slot : ℕ) (terms : Terms) (since : ℕ) → KeepsReservations b → slot < 32
    → tenant_at b slot ≡ Sits terms since → KeepsReservations (with_mark b (Leave slot))
keeps-leave b slot terms since keeps lt is =
    let same : settled_at (with_mark b (Leave slot)) ≡ settled_at b = settled_at-mark b (Leave slot) in
    keeps_mark b (Leave slot) keeps (leave_stayed b slot) (rw same keeps.settled)
    (leave_within b slot keeps lt)
    (leave-tenants b slot keeps.tenants)
    (leave-sound b slot terms since keeps.tenants keeps.sound lt is)
    (λ given. leave-room b slot terms since keeps.tenants (keeps.room (given_mark b (Leave slot) same given))
    lt is)
    (inr (given_mark b (Leave slot) same))

settled_case : (tenant : Tenant) (now : ℕ) (r : Reservation) (hard : Bool) → after_settling now tenant
    ≡ sits r hard
    → now ≡ r.since
settled_case Vacant now r hard e = absurd (cc)
settled_case (Sits terms since) now r hard e = same_since terms now r hard e
settled_case (Left terms since at) now r hard e = absurd (cc)

settle_all : (b : Ledger) → AllNew b Settle
settle_all b slot r hard sat =
    settled_case (tenant_at b slot) (now_of b) r hard (sym (tenant_at-mark b Settle slot) ∙ sat)

settle_vacant : (now : ℕ) (tenant : Tenant) → tenant ≡ Vacant → after_settling now tenant ≡ Vacant
settle_vacant now tenant e = ap (after_settling now) e

pub keeps-settle : (b : Ledger) → KeepsReservations b → KeepsReservations (with_mark b Settle)
keeps-settle b keeps =
    keeps_mark b Settle keeps (λ slot r hard sat. inl (settle_all b slot r hard sat))
    (rw (settled_at-mark b Settle) (omega arith))
    (λ slot beyond. tenant_at-mark b Settle slot
    ∙ settle_vacant (now_of b) (tenant_at b slot) (keeps.within slot beyond))
    (settle-tenants b keeps.tenants)
    (settle-sound b keeps.tenants keeps.sound)
    (λ given. settle-room b keeps.tenants)
    (inl (settle_all b))
