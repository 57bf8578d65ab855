-- A scheduler that is not full has a least free slot, also once a seat of the mover is left.
use Rattle.std.proofs.Common.{◌≡◌, ◌≢◌, ◌⊎◌, ℕ, zero, suc, inl, inr, ◌<◌, List, [], ◌∷◌, Option, Some, None}
use Rattle.std.proofs.Common.{refl, sym, ap, ◌∙◌, subst, arith, cond}
use Rattle.std.proofs.lemmas.Bool.{cases_eq, eq-eqb, ne_eqb}
use Rattle.std.proofs.lemmas.List.{append-nil}
use Rattle.hls_chron.specs.declared.plain.Config.{Config}
use Rattle.hls_chron.specs.declared.plain.Terms.{Terms}
use Rattle.hls_chron.specs.declared.plain.Terms.TheVariants as terms
use Rattle.hls_chron.specs.declared.book.Event.{Event}
use Rattle.hls_chron.specs.declared.book.Event.TheVariants.{Leave}
use Rattle.hls_chron.specs.Ledger.{Ledger, with_mark, row_at}
use Rattle.hls_chron.specs.Seats.{terms_at, most_seats, asked, served}
use Rattle.hls_chron.proofs.BookLaws.{terms_at-mark}
use Rattle.hls_kinds.specs.declared.tenant.Tenant.{Tenant}
use Rattle.hls_kinds.specs.declared.tenant.Tenant.TheVariants as tenants
use Rattle.hls_kinds.specs.Tenants.{tenant_at}
use Rattle.hls_kinds.specs.Reservations.{is_held, is_held_in}
use Rattle.hls_kinds.specs.Room.{occupant_at, terms_left, IsFree, IsFull}
use Rattle.hls_kinds.proofs.MarkLaws.{tenant_at-mark}
use Rattle.hls_machine.specs.Ledgers.{with_marks}
use Rattle.hls_machine.specs.Hierarchy.{Place, Processor, At, Seat}
use Rattle.hls_machine.specs.Steps.{leaving_at, leavings}
use Rattle.hls_kinds.proofs.Occupants.{occupant_plain, by_holding}

-- the least slot at which there is nothing, below a bound
pub record IsLeast (f : ℕ → Option Terms) (n : ℕ) : Type 0 where
  pub slot : ℕ
  pub within : slot < n
  pub free : f slot ≡ None
  pub least : (other : ℕ) → other < slot → f other ≢ None

abbrev AllTaken : (f : ℕ → Option Terms) → (n : ℕ) → Type 0
AllTaken f n = (slot : ℕ) → slot < n → f slot ≢ None

one_more : (f : ℕ → Option Terms) (n : ℕ) (x : Option Terms) → f n ≡ x → AllTaken f n
    → IsLeast f (suc n) ⊎ AllTaken f (suc n)
one_more f n None e all = inl (record { slot = n; within = omega arith; free = e; least = all })
one_more f n (Some terms) e all = inr (λ slot lt none. elim (cases_eq slot n) [
  | inl same ↦ (let both = sym e ∙ ap f (sym same) ∙ none in cc)
  | inr ne ↦ all slot (omega (arith, lt, ne)) none
])

find_least : (f : ℕ → Option Terms) (n : ℕ) → IsLeast f n ⊎ AllTaken f n
find_least f zero = inr (λ slot lt. absurd (omega (arith, lt)))
find_least f (suc n) = elim (find_least f n) [
  | inl l ↦ inl (let lt = l.within in
      record { slot = l.slot; within = omega (arith, lt); free = l.free; least = l.least })
  | inr all ↦ one_more f n (f n) refl all
]

-- a leaving frees no other slot and takes none
held_same : (b : Ledger) (at slot : ℕ) (t : Tenant) → is_held_in (with_mark b (Leave at)) slot t ≡ is_held_in b slot t
unfolding row_at asked served
held_same b at slot tenants.Vacant = refl
held_same b at slot (tenants.Sits terms since) = refl
held_same b at slot (tenants.Left (terms.Res hard x y) since left) = refl
held_same b at slot (tenants.Left _ since left) = refl

tenant_other : (b : Ledger) (at slot : ℕ) → at ≢ slot → tenant_at (with_mark b (Leave at)) slot ≡ tenant_at b slot
tenant_other b at slot ne = tenant_at-mark b (Leave at) slot ∙ rw (ne_eqb at slot ne) refl

terms_other : (b : Ledger) (at slot : ℕ) → at ≢ slot → terms_at (with_mark b (Leave at)) slot ≡ terms_at b slot
terms_other b at slot ne = terms_at-mark b (Leave at) slot ∙ rw (ne_eqb at slot ne) refl

held_other : (b : Ledger) (at slot : ℕ) → at ≢ slot → is_held (with_mark b (Leave at)) slot ≡ is_held b slot
unfolding is_held
held_other b at slot ne =
    ap (is_held_in (with_mark b (Leave at)) slot) (tenant_other b at slot ne)
    ∙ held_same b at slot (tenant_at b slot)

occupant_other : (config : Config) (b : Ledger) (at slot : ℕ) → at ≢ slot
    → occupant_at config (with_mark b (Leave at)) slot ≡ occupant_at config b slot
occupant_other config b at slot ne =
    by_holding (λ c. occupant_at c (with_mark b (Leave at)) slot ≡ occupant_at c b slot) config
    (λ i. cond (held_other b at slot ne i) (terms_left (tenant_other b at slot ne i)) (terms_other b at slot ne i))
    (λ other. occupant_plain config (with_mark b (Leave at)) slot other ∙ terms_other b at slot ne
    ∙ sym (occupant_plain config b slot other))

-- the slot that is left was taken up
abbrev IsTakenUp : Config → Ledger → Place → (p : ℕ) → Type 0
IsTakenUp config b place p = (slot : ℕ) → place ≡ At p slot → occupant_at config b slot ≢ None

free_by : (config : Config) (b : Ledger) → ¬ IsFull config b → (slot : ℕ) × IsFree config b slot
free_by config b not_full = elim (find_least (occupant_at config b) (most_seats config)) [
  | inl l ↦ (l.slot, record { within = l.within; free = l.free; least = l.least })
  | inr all ↦ absurd (not_full all)
]

still_free : (config : Config) (b : Ledger) (at : ℕ) → ¬ IsFull config b → occupant_at config b at ≢ None
    → ¬ IsFull config (with_mark b (Leave at))
still_free config b at not_full up full =
    let f = free_by config b not_full in
    let ne : at ≢ f.0 = λ e. up (ap (occupant_at config b) e ∙ f.1.free) in
    full f.0 f.1.within (occupant_other config b at f.0 ne ∙ f.1.free)

left_free : (config : Config) (b : Ledger) (place : Place) (p : ℕ) → ¬ IsFull config b
    → IsTakenUp config b place p → ¬ IsFull config (with_marks b (leaving_at p place))
left_free config b Processor p not_full up = not_full
left_free config b (At q at) p not_full up = elim (cases_eq q p) [
  | inl same ↦
      let place : At q at ≡ At p at = ap (λ n. At n at) same in
      let marks : leaving_at p (At q at) ≡ Leave at ∷ [] = rw (eq-eqb q p same) refl in
      subst (λ (es : List Event). ¬ IsFull config (with_marks b es)) (sym marks)
      (still_free config b at not_full (up at place))
  | inr ne ↦
      let marks : leaving_at p (At q at) ≡ [] = rw (ne_eqb q p ne) refl in
      subst (λ (es : List Event). ¬ IsFull config (with_marks b es)) (sym marks) not_full
]

pub lone_free : (config : Config) (b : Ledger) (seat : Seat) (p : ℕ) → ¬ IsFull config b
    → IsTakenUp config b seat.place p → ¬ IsFull config (with_marks b (leavings (seat ∷ []) p))
lone_free config b seat p not_full up =
    subst (λ (es : List Event). ¬ IsFull config (with_marks b es)) (sym (append-nil (leaving_at p seat.place)))
    (left_free config b seat.place p not_full up)

pub some_free : (config : Config) (b : Ledger) → ¬ IsFull config b → (slot : ℕ) × IsFree config b slot
some_free config b not_full = free_by config b not_full
