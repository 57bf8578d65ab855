-- Terms that fit a book still fit it after a leaving: what is left is no less room, also where parts of
-- it are held.
use Rattle.std.proofs.Common.{◌≡◌, ℕ, ◌-◌, ◌≤◌, refl, sym, ap, ◌∙◌, arith, inl, inr, Bool, true}
use Rattle.std.proofs.Common.{false, Option, Some, None}
use Rattle.std.specs.Prelude.{nat_lt, is_some, if◌then◌else◌, ◌==◌}
use Rattle.std.proofs.lemmas.Bool.{cases_eq, eq-eqb, ne_eqb}
use Rattle.hls_chron.specs.declared.book.Event.{Event}
use Rattle.hls_chron.specs.declared.book.Event.TheVariants.{Leave}
use Rattle.hls_chron.specs.declared.plain.Config.{Config}
use Rattle.hls_chron.specs.declared.plain.Config.TheVariants.{Edf}
use Rattle.hls_chron.specs.declared.plain.Terms.{Terms}
use Rattle.hls_chron.specs.declared.plain.Terms.TheVariants as terms
use Rattle.hls_chron.specs.Ledger.{Ledger, now_of, with_mark}
use Rattle.hls_chron.specs.Seats.{is_slot, asked, served, terms_at, priority_in, HasPriority}
use Rattle.hls_chron.proofs.BookLaws.{terms_at-mark}
use Rattle.hls_chron.proofs.ConfigLaws.{by_kind}
use Rattle.hls_chron.proofs.CountLaws.{count-more}
use Rattle.hls_kinds.specs.declared.tenant.Tenant.{Tenant}
use Rattle.hls_kinds.specs.declared.tenant.Tenant.TheVariants.{Vacant, Sits, Left}
use Rattle.hls_kinds.specs.declared.reservations.Reservation.{Reservation}
use Rattle.hls_kinds.specs.Tenants.{after_leaving, tenant_after, tenant_at}
use Rattle.hls_kinds.specs.Reservations.{deadline_after, last_replenished, is_held_in}
use Rattle.hls_kinds.specs.Frames.{owner_at}
use Rattle.hls_kinds.specs.Room.{IsFull, terms_left, occupant_at, parts_in, weight_in, room_used, room_total}
use Rattle.hls_kinds.specs.Fits.{Fits}
use Rattle.hls_kinds.proofs.MarkLaws.{tenant_at-mark}
use Rattle.hls_kinds.proofs.TenantLaws.{seated_in}
use Rattle.hls_book.proofs.OwnerLaws.{owner_at-mark}
use Rattle.hls_book.proofs.MarkSteps.{asked-mark, served-mark}
use Rattle.hls_book.proofs.Occupants.{occupant_of, occupant-is}
use Rattle.hls_kinds.proofs.Sums.{sum-le}
use Rattle.hls_kinds.proofs.Occupants.{occupant_plain, by_holding}

-- the terms at a slot after a leaving are those before it, or none
left_terms : (at slot : ℕ) (some : Option Terms) (terms : Terms)
    → (if at == slot then None else some) ≡ Some terms → some ≡ Some terms
left_terms at slot some terms is = elim (cases_eq at slot) [
  | inl same ↦ absurd (let none = rw (eq-eqb at slot same) at is in cc)
  | inr other ↦ rw (ne_eqb at slot other) at is
]

-- a priority number that is had after it was had before it
priority_left : (at slot priority : ℕ) (some : Option Terms)
    → priority_in (if at == slot then None else some) ≡ Some priority → priority_in some ≡ Some priority
priority_left at slot priority some is = elim (cases_eq at slot) [
  | inl same ↦ absurd (let none = rw (eq-eqb at slot same) at is in cc)
  | inr other ↦ rw (ne_eqb at slot other) at is
]

priority_had : (b : Ledger) (at priority : ℕ) → HasPriority (with_mark b (Leave at)) priority
    → HasPriority b priority
priority_had b at priority has = record {
  slot = has.slot;
  has = priority_left at has.slot priority (terms_at b has.slot)
      (sym (ap priority_in (terms_at-mark b (Leave at) has.slot)) ∙ has.has);
}

-- weight
weight_left : (at slot : ℕ) (some : Option Terms)
    → weight_in (if at == slot then None else some) ≤ weight_in some
weight_left at slot some = elim (cases_eq at slot) [
  | inl same ↦ rw (eq-eqb at slot same) (omega arith)
  | inr other ↦ rw (ne_eqb at slot other) (omega arith)
]

-- places
owned_left : (owner : Option ℕ) (at : ℕ) (here : Bool)
    → is_some (if here then None else owner) ≡ true → is_some owner ≡ true
owned_left owner at true is = absurd cc
owned_left owner at false is = is

-- parts: what was held is held on, and who leaves holds no more than he had
held_same : (r : Reservation) (now n : ℕ) (a a' v v' : ℕ → Bool) → a ≡ a' → v ≡ v'
    → nat_lt now (deadline_after r (last_replenished r a v n))
    ≡ nat_lt now (deadline_after r (last_replenished r a' v' n))
held_same r now n a a' v v' e f = cc

held-mark : (b : Ledger) (event : Event) (slot : ℕ) (tenant : Tenant)
    → is_held_in (with_mark b event) slot tenant ≡ is_held_in b slot tenant
held-mark b event slot (Left (terms.Res hard x y) since at) =
    held_same (record { x = x; y = y; since = since }) (now_of b) (at - since)
    (asked (with_mark b event) slot) (asked b slot) (served (with_mark b event) slot) (served b slot)
    (asked-mark b event slot) (served-mark b event slot)
held-mark b event slot (Left _ since at) = refl
held-mark b event slot (Sits m since) = refl
held-mark b event slot Vacant = refl

held_parts : (m : Terms) (held : Bool) → parts_in (if held then Some m else None) ≤ parts_in (Some m)
held_parts m true = omega arith
held_parts m false = omega arith

parts_of : (b : Ledger) (slot now : ℕ) (tenant : Tenant)
    → parts_in (occupant_of b slot (after_leaving now tenant)) ≤ parts_in (occupant_of b slot tenant)
parts_of b slot now Vacant = omega arith
parts_of b slot now (Sits m since) = held_parts m (is_held_in b slot (Left m since now))
parts_of b slot now (Left m since at) = omega arith

parts_by : (b : Ledger) (at slot : ℕ) (tenant : Tenant)
    → parts_in (occupant_of b slot (tenant_after slot (now_of b) tenant (Leave at)))
    ≤ parts_in (occupant_of b slot tenant)
parts_by b at slot tenant = elim (cases_eq at slot) [
  | inl same ↦ rw (eq-eqb at slot same) (parts_of b slot (now_of b) tenant)
  | inr other ↦ rw (ne_eqb at slot other) (omega arith)
]

occupant-mark : (b : Ledger) (event : Event) (slot : ℕ) → occupant_at Edf (with_mark b event) slot
    ≡ occupant_of b slot (tenant_after slot (now_of b) (tenant_at b slot) event)
occupant-mark b event slot =
    occupant-is (with_mark b event) slot
    ∙ ap (occupant_of (with_mark b event) slot) (tenant_at-mark b event slot)
    ∙ ap (λ (held : Bool). if held then terms_left (tenant_after slot (now_of b) (tenant_at b slot) event)
    else seated_in (tenant_after slot (now_of b) (tenant_at b slot) event))
    (held-mark b event slot (tenant_after slot (now_of b) (tenant_at b slot) event))

parts_left : (b : Ledger) (at slot : ℕ)
    → parts_in (occupant_at Edf (with_mark b (Leave at)) slot) ≤ parts_in (occupant_at Edf b slot)
parts_left b at slot =
    let after = ap parts_in (occupant-mark b (Leave at) slot) in
    let before = ap parts_in (occupant-is b slot) in
    let less = parts_by b at slot (tenant_at b slot) in
    omega (arith, after, before, less)

-- together
used_left : (config : Config) (b : Ledger) (at : ℕ)
    → room_used config (with_mark b (Leave at)) ≤ room_used config b
used_left config b at = by_kind (λ config. room_used config (with_mark b (Leave at)) ≤ room_used config b)
    (omega arith) (omega arith)
    (sum-le (λ slot. parts_in (occupant_at Edf (with_mark b (Leave at)) slot))
    (λ slot. parts_in (occupant_at Edf b slot)) 32 (λ slot lt. parts_left b at slot))
    (λ sharing. sum-le (λ slot. weight_in (terms_at (with_mark b (Leave at)) slot))
    (λ slot. weight_in (terms_at b slot)) 32
    (λ slot lt. let after = ap weight_in (terms_at-mark b (Leave at) slot) in
    let less = weight_left at slot (terms_at b slot) in omega (arith, after, less)))
    (λ quantum. omega arith)
    (λ frame. count-more (λ p. is_some (owner_at (with_mark b (Leave at)) p)) (λ p. is_some (owner_at b p)) 0 frame
    (λ p is. owned_left (owner_at b p) at (is_slot (owner_at b p) at)
    (sym (ap is_some (owner_at-mark b (Leave at) p)) ∙ is)))
    (λ ports. omega arith) config

pub fits-leave : (config : Config) (b : Ledger) (at : ℕ) (m : Terms) → Fits config b m
    → Fits config (with_mark b (Leave at)) m
fits-leave config b at m fits = record {
  of_kind = fits.of_kind;
  within = fits.within;
  apart = λ priority is has. fits.apart priority is (priority_had b at priority has);
  room = λ free asked lacks.
      let used = used_left config b at in
      fits.room (room_total config - room_used config b) asked (record {
        left = refl;
        asks = lacks.asks;
        lacks = omega (arith, used, lacks.left, lacks.lacks);
      });
}

-- slots that are free stay so
free_of : (b : Ledger) (slot now : ℕ) (tenant : Tenant) → occupant_of b slot tenant ≡ None
    → occupant_of b slot (after_leaving now tenant) ≡ None
free_of b slot now Vacant free = free
free_of b slot now (Sits m since) free = cc
free_of b slot now (Left m since at) free = free

free_by : (b : Ledger) (at slot : ℕ) (tenant : Tenant) → occupant_of b slot tenant ≡ None
    → occupant_of b slot (tenant_after slot (now_of b) tenant (Leave at)) ≡ None
free_by b at slot tenant free = elim (cases_eq at slot) [
  | inl same ↦ rw (eq-eqb at slot same) (free_of b slot (now_of b) tenant free)
  | inr other ↦ rw (ne_eqb at slot other) free
]

untaken : (b : Ledger) (at slot : ℕ) → terms_at b slot ≡ None → terms_at (with_mark b (Leave at)) slot ≡ None
untaken b at slot none = terms_at-mark b (Leave at) slot ∙ elim (cases_eq at slot) [
  | inl same ↦ rw (eq-eqb at slot same) refl
  | inr other ↦ rw (ne_eqb at slot other) none
]

pub free-leave : (config : Config) (b : Ledger) (at slot : ℕ) → occupant_at config b slot ≡ None
    → occupant_at config (with_mark b (Leave at)) slot ≡ None
free-leave config b at slot =
    by_holding (λ c. occupant_at c b slot ≡ None → occupant_at c (with_mark b (Leave at)) slot ≡ None) config
    (λ free. occupant-mark b (Leave at) slot
    ∙ free_by b at slot (tenant_at b slot) (sym (occupant-is b slot) ∙ free))
    (λ other free. occupant_plain config (with_mark b (Leave at)) slot other
    ∙ untaken b at slot (sym (occupant_plain config b slot other) ∙ free))

pub full-leave : (config : Config) (b : Ledger) (at : ℕ) → IsFull config (with_mark b (Leave at))
    → IsFull config b
full-leave config b at full slot lt none = full slot lt (free-leave config b at slot none)
