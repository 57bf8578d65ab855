-- One more mark keeps the demand within the room.
use Rattle.std.proofs.Common.{◌≡◌, ◌≢◌, ℕ, ◌+◌, ◌-◌, ◌<◌, ◌≤◌, refl, sym, arith, inl, inr, ap, ◌∙◌, Bool}
use Rattle.std.proofs.Common.{true}
use Rattle.std.proofs.Common.{false, [], ◌∷◌, subst}
use Rattle.std.specs.Prelude.{◌⊎◌, nat_lt, ◌==◌}
use Rattle.std.proofs.lemmas.Bool.{cases_lt, cases_eq, cases_Bool, eqb-true, eq-eqb}
use Rattle.std.proofs.lemmas.Bool.Decides.{nat_tests}
use Rattle.std.proofs.lemmas.List.Sums.{fold-append}
use Rattle.hls_chron.specs.declared.book.Mark.{Mark}
use Rattle.hls_chron.specs.declared.book.Event.{Event}
use Rattle.hls_chron.specs.declared.book.Event.TheVariants.{Seat, Leave, Settle}
use Rattle.hls_chron.specs.declared.plain.Terms.{Terms}
use Rattle.hls_chron.specs.declared.plain.Terms.TheVariants.{Res}
use Rattle.hls_chron.specs.Ledger.{Ledger, now_of, with_mark}
use Rattle.hls_chron.specs.Seats.{asked, served}
use Rattle.hls_chron.proofs.BookLaws.{row_at-mark}
use Rattle.hls_kinds.specs.declared.tenant.Tenant.{Tenant}
use Rattle.hls_kinds.specs.declared.tenant.Tenant.TheVariants.{Vacant, Sits, Left}
use Rattle.hls_kinds.specs.Tenants.{after_leaving, after_settling, tenant_after, tenant_at, settled_after}
use Rattle.hls_kinds.specs.Tenants.{settled_at}
use Rattle.hls_chron.specs.Parts.{all_parts, parts}
use Rattle.hls_book.specs.declared.server.Server.{Server}
use Rattle.hls_book.specs.Servers.{AreSound, HaveRoom, vacant, fresh, marked, parts_in, offered}
use Rattle.hls_book.specs.Recomputed.{server_before}
use Rattle.hls_book.specs.Books.{held, server_of, server_at, IsTenant, IsReservation}
use Rattle.hls_chron.proofs.PartLaws.{parts-rate}
use Rattle.hls_book.proofs.Marks.{seating-sound, seating-room, leaving-sound, leaving-room}
use Rattle.hls_book.proofs.Marks.{freeing-sound, freeing-room, settling-sound, settling-room}
use Rattle.hls_book.proofs.Deadlines.{last-zero}
use Rattle.hls_book.proofs.RowSteps.{server_now, HasTenants}

-- what a mark leaves of the rows, of the tenants and of the last settling
asked_mark : (b : Ledger) (event : Event) (slot t : ℕ) → asked (with_mark b event) slot t ≡ asked b slot t
unfolding asked
asked_mark b event slot t = rw (row_at-mark b event t) refl

pub asked-mark : (b : Ledger) (event : Event) (slot : ℕ) → asked (with_mark b event) slot ≡ asked b slot
asked-mark b event slot = λ i t. asked_mark b event slot t i

served_mark : (b : Ledger) (event : Event) (slot t : ℕ) → served (with_mark b event) slot t ≡ served b slot t
unfolding served
served_mark b event slot t = rw (row_at-mark b event t) refl

pub served-mark : (b : Ledger) (event : Event) (slot : ℕ) → served (with_mark b event) slot ≡ served b slot
served-mark b event slot = λ i t. served_mark b event slot t i

pub tenant_at-mark : (b : Ledger) (event : Event) (slot : ℕ)
    → tenant_at (with_mark b event) slot ≡ tenant_after slot (now_of b) (tenant_at b slot) event
unfolding tenant_at
tenant_at-mark b event slot =
    fold-append (λ tenant (m : Mark). tenant_after slot m.tick tenant m.event) Vacant b.marks
    ((record { tick = now_of b; event = event }) ∷ [])

pub settled_at-mark : (b : Ledger) (event : Event)
    → settled_at (with_mark b event) ≡ settled_after (now_of b) (settled_at b) event
unfolding settled_at
settled_at-mark b event =
    fold-append (λ last (m : Mark). settled_after m.tick last m.event) b.start b.marks
    ((record { tick = now_of b; event = event }) ∷ [])

server_same : (tenant tenant' : Tenant) (a a' v v' : ℕ → Bool) (now : ℕ) → tenant ≡ tenant' → a ≡ a' → v ≡ v'
    → server_of tenant a v now ≡ server_of tenant' a' v' now
server_same tenant tenant' a a' v v' now e f g = cc

pub server_at-mark : (b : Ledger) (event : Event) (slot : ℕ)
    → server_at (with_mark b event) slot ≡ server_now b slot
    (tenant_after slot (now_of b) (tenant_at b slot) event)
server_at-mark b event slot =
    server_same _ _ _ _ _ _ (now_of b) (tenant_at-mark b event slot) (asked-mark b event slot)
    (served-mark b event slot)

-- the slot of a mark, and the others
eqb_refl : (slot : ℕ) → (slot == slot) ≡ true
eqb_refl slot = eq-eqb slot slot refl

ne_eqb : (at slot : ℕ) → slot ≢ at → (at == slot) ≡ false
ne_eqb at slot ne = elim (cases_Bool (at == slot)) [
  | inl is ↦ absurd (ne (sym (eqb-true at slot is)))
  | inr other ↦ other
]

pub seat_other : (slot other now : ℕ) (tenant : Tenant) (terms : Terms) → other ≢ slot
    → tenant_after other now tenant (Seat slot terms) ≡ tenant
seat_other slot other now tenant terms ne = rw (ne_eqb slot other ne)

pub seat_here : (slot now : ℕ) (tenant : Tenant) (terms : Terms)
    → tenant_after slot now tenant (Seat slot terms) ≡ Sits terms now
seat_here slot now tenant terms = rw (eqb_refl slot)

pub leave_other : (slot other now : ℕ) (tenant : Tenant) → other ≢ slot
    → tenant_after other now tenant (Leave slot) ≡ tenant
leave_other slot other now tenant ne = rw (ne_eqb slot other ne)

pub leave_here : (slot now : ℕ) (tenant : Tenant) → tenant_after slot now tenant (Leave slot)
    ≡ after_leaving now tenant
leave_here slot now tenant = rw (eqb_refl slot)

-- a seat of the present tick is fresh
pub seated_server : (x y now : ℕ) (asks serves : ℕ → Bool) (c : Server) → c.x ≡ x → c.y ≡ y
    → c.parts ≡ parts x y
    → server_before (record { x = x; y = y; since = now }) asks serves (now - now) ≡ fresh c now
seated_server x y now asks serves c ex ey ep =
    let none : now - now ≡ 0 = omega arith in
    ap (server_before (record { x = x; y = y; since = now }) asks serves) none
    ∙ rw (last-zero (record { x = x; y = y; since = now }) asks serves, ex, ey, ep) refl

-- a seating where the slot claims nothing
pub seat_server : (b : Ledger) (slot : ℕ) (hard : Bool) (x y : ℕ)
    → server_at (with_mark b (Seat slot (Res hard x y))) slot ≡ fresh (offered x y) (now_of b)
seat_server b slot hard x y =
    server_at-mark b (Seat slot (Res hard x y)) slot
    ∙ ap (server_now b slot) (seat_here slot (now_of b) (tenant_at b slot) (Res hard x y))
    ∙ seated_server x y (now_of b) (asked b slot) (served b slot) (offered x y) refl refl refl

pub seat_others : (b : Ledger) (slot : ℕ) (terms : Terms) (other : ℕ) → other ≢ slot
    → server_at (with_mark b (Seat slot terms)) other ≡ server_at b other
seat_others b slot terms other ne =
    server_at-mark b (Seat slot terms) other
    ∙ ap (server_now b other) (seat_other slot other (now_of b) (tenant_at b other) terms ne)

pub seat-sound : (b : Ledger) (slot : ℕ) (hard : Bool) (x y : ℕ) → AreSound all_parts 32 (server_at b)
    → slot < 32
    → server_at b slot ≡ vacant → 0 < y → parts_in (server_at b) 32 + parts x y ≤ all_parts
    → AreSound all_parts 32 (server_at (with_mark b (Seat slot (Res hard x y))))
seat-sound b slot hard x y kept lt free pos fits =
    seating-sound all_parts 32 slot (now_of b) (offered x y) (server_at b)
    (server_at (with_mark b (Seat slot (Res hard x y)))) kept lt free (seat_server b slot hard x y)
    (seat_others b slot (Res hard x y)) (parts-rate x y pos) fits

pub seat-room : (b : Ledger) (slot : ℕ) (hard : Bool) (x y : ℕ) → HaveRoom all_parts 32 (server_at b)
    (now_of b)
    → slot < 32 → server_at b slot ≡ vacant
    → HaveRoom all_parts 32 (server_at (with_mark b (Seat slot (Res hard x y)))) (now_of b)
seat-room b slot hard x y kept lt free =
    seating-room all_parts 32 slot (now_of b) (offered x y) (server_at b)
    (server_at (with_mark b (Seat slot (Res hard x y)))) kept lt free (seat_server b slot hard x y)
    (seat_others b slot (Res hard x y))

-- a leaving holds the parts, or frees them
held_or_not : (c : Server) (now : ℕ)
    → (held c now ≡ marked c false) ⊎ ((c.deadline ≤ now) × (held c now ≡ vacant))
unfolding held
held_or_not c now = elim (cases_lt now c.deadline) [
  | inl later ↦ let e : nat_lt now c.deadline ≡ true = grind (arith, nat_tests) in inl (rw e)
  | inr past ↦ let e : nat_lt now c.deadline ≡ false = grind (arith, nat_tests) in inr (past, rw e)
]

left_server : (b : Ledger) (slot : ℕ) (tenant : Tenant) → IsTenant tenant (now_of b)
    → ((terms : Terms) (since : ℕ) → tenant ≡ Sits terms since
    → server_now b slot (after_leaving (now_of b) tenant)
    ≡ held (server_now b slot tenant) (now_of b))
left_server b slot (Sits (Res hard x y) since) is terms since' e = refl
left_server b slot Vacant is terms since' e = absurd (cc)
left_server b slot (Left _ since at) is terms since' e = absurd (cc)
left_server b slot (Sits _ since) is terms since' e = absurd is.0

pub leave_server : (b : Ledger) (slot : ℕ) (terms : Terms) (since : ℕ) → HasTenants b
    → tenant_at b slot ≡ Sits terms since
    → server_at (with_mark b (Leave slot)) slot ≡ held (server_at b slot) (now_of b)
leave_server b slot terms since tenants is =
    server_at-mark b (Leave slot) slot
    ∙ ap (server_now b slot) (leave_here slot (now_of b) (tenant_at b slot))
    ∙ left_server b slot (tenant_at b slot) (tenants slot) terms since is

pub leave_others : (b : Ledger) (slot other : ℕ) → other ≢ slot
    → server_at (with_mark b (Leave slot)) other ≡ server_at b other
leave_others b slot other ne =
    server_at-mark b (Leave slot) other
    ∙ ap (server_now b other) (leave_other slot other (now_of b) (tenant_at b other) ne)

pub leave-sound : (b : Ledger) (slot : ℕ) (terms : Terms) (since : ℕ) → HasTenants b
    → AreSound all_parts 32 (server_at b) → slot < 32 → tenant_at b slot ≡ Sits terms since
    → AreSound all_parts 32 (server_at (with_mark b (Leave slot)))
leave-sound b slot terms since tenants kept lt is = elim (held_or_not (server_at b slot) (now_of b)) [
  | inl e ↦ leaving-sound all_parts 32 slot (server_at b) (server_at (with_mark b (Leave slot))) kept lt
      (leave_server b slot terms since tenants is ∙ e) (leave_others b slot)
  | inr e ↦ freeing-sound all_parts 32 slot (server_at b) (server_at (with_mark b (Leave slot))) kept lt
      (leave_server b slot terms since tenants is ∙ e.1) (leave_others b slot)
]

pub leave-room : (b : Ledger) (slot : ℕ) (terms : Terms) (since : ℕ) → HasTenants b
    → HaveRoom all_parts 32 (server_at b) (now_of b) → slot < 32 → tenant_at b slot ≡ Sits terms since
    → HaveRoom all_parts 32 (server_at (with_mark b (Leave slot))) (now_of b)
leave-room b slot terms since tenants kept lt is = elim (held_or_not (server_at b slot) (now_of b)) [
  | inl e ↦ leaving-room all_parts 32 slot (now_of b) (server_at b) (server_at (with_mark b (Leave slot)))
      kept lt
      (leave_server b slot terms since tenants is ∙ e) (leave_others b slot)
  | inr e ↦ freeing-room all_parts 32 slot (now_of b) (server_at b) (server_at (with_mark b (Leave slot)))
      kept lt
      e.0 (leave_server b slot terms since tenants is ∙ e.1) (leave_others b slot)
]

-- a settling
abbrev pub StartsAnew : (new old : Server) → ℕ → Type 0
StartsAnew new old now = (new ≡ vacant) ⊎ (new ≡ fresh old now)

settle_case : (b : Ledger) (slot : ℕ) (tenant : Tenant) → IsTenant tenant (now_of b)
    → StartsAnew (server_now b slot (after_settling (now_of b) tenant)) (server_now b slot tenant)
    (now_of b)
settle_case b slot Vacant is = inl refl
settle_case b slot (Sits (Res hard x y) since) is =
    inr (seated_server x y (now_of b) (asked b slot) (served b slot)
    (server_now b slot (Sits (Res hard x y) since))
    refl refl refl)
settle_case b slot (Left terms since at) is = inl refl
settle_case b slot (Sits _ since) is = absurd is.0

pub settle_slot : (b : Ledger) (slot : ℕ) → HasTenants b
    → StartsAnew (server_at (with_mark b Settle) slot) (server_at b slot) (now_of b)
settle_slot b slot tenants = elim (settle_case b slot (tenant_at b slot) (tenants slot)) [
  | inl e ↦ inl (server_at-mark b Settle slot ∙ e)
  | inr e ↦ inr (server_at-mark b Settle slot ∙ e)
]

pub settle-sound : (b : Ledger) → HasTenants b → AreSound all_parts 32 (server_at b)
    → AreSound all_parts 32 (server_at (with_mark b Settle))
settle-sound b tenants kept =
    settling-sound all_parts 32 (now_of b) (server_at b) (server_at (with_mark b Settle)) kept
    (λ slot lt. settle_slot b slot tenants)

pub settle-room : (b : Ledger) → HasTenants b → HaveRoom all_parts 32 (server_at (with_mark b Settle))
    (now_of b)
settle-room b tenants =
    settling-room all_parts 32 (now_of b) (server_at b) (server_at (with_mark b Settle))
    (λ slot lt. settle_slot b slot tenants)

-- who has the slots
pub seat-tenants : (b : Ledger) (slot : ℕ) (terms : Terms) → HasTenants b → IsReservation terms
    → HasTenants (with_mark b (Seat slot terms))
seat-tenants b slot terms tenants is = λ other. elim (cases_eq other slot) [
  | inl e ↦
      let here : tenant_at (with_mark b (Seat slot terms)) slot ≡ Sits terms (now_of b) =
      tenant_at-mark b (Seat slot terms) slot ∙ seat_here slot (now_of b) (tenant_at b slot) terms in
      let fine : IsTenant (Sits terms (now_of b)) (now_of b) = (is, omega arith) in
      subst (λ at. IsTenant (tenant_at (with_mark b (Seat slot terms)) at) (now_of b)) (sym e)
      (subst (λ tenant. IsTenant tenant (now_of b)) (sym here) fine)
  | inr ne ↦
      let there : tenant_at (with_mark b (Seat slot terms)) other ≡ tenant_at b other =
      tenant_at-mark b (Seat slot terms) other ∙ seat_other slot other (now_of b) (tenant_at b other) terms ne
      in
      subst (λ tenant. IsTenant tenant (now_of b)) (sym there) (tenants other)
]

leave_case : (now : ℕ) (tenant : Tenant) → IsTenant tenant now → IsTenant (after_leaving now tenant) now
leave_case now Vacant is = tt
leave_case now (Sits terms since) is = (is.0, is.1, omega arith)
leave_case now (Left terms since at) is = is

pub leave-tenants : (b : Ledger) (slot : ℕ) → HasTenants b → HasTenants (with_mark b (Leave slot))
leave-tenants b slot tenants = λ other. elim (cases_eq other slot) [
  | inl e ↦
      let here : tenant_at (with_mark b (Leave slot)) slot ≡ after_leaving (now_of b) (tenant_at b slot) =
      tenant_at-mark b (Leave slot) slot ∙ leave_here slot (now_of b) (tenant_at b slot) in
      subst (λ at. IsTenant (tenant_at (with_mark b (Leave slot)) at) (now_of b)) (sym e)
      (subst (λ tenant. IsTenant tenant (now_of b)) (sym here)
      (leave_case (now_of b) (tenant_at b slot) (tenants slot)))
  | inr ne ↦
      let there : tenant_at (with_mark b (Leave slot)) other ≡ tenant_at b other =
      tenant_at-mark b (Leave slot) other ∙ leave_other slot other (now_of b) (tenant_at b other) ne in
      subst (λ tenant. IsTenant tenant (now_of b)) (sym there) (tenants other)
]

settle_tenant : (now : ℕ) (tenant : Tenant) → IsTenant tenant now → IsTenant (after_settling now tenant) now
settle_tenant now Vacant is = tt
settle_tenant now (Sits terms since) is = (is.0, omega arith)
settle_tenant now (Left terms since at) is = tt

pub settle-tenants : (b : Ledger) → HasTenants b → HasTenants (with_mark b Settle)
settle-tenants b tenants = λ slot. subst (λ tenant. IsTenant tenant (now_of b))
    (sym (tenant_at-mark b Settle slot))
    (settle_tenant (now_of b) (tenant_at b slot) (tenants slot))
