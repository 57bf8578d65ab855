-- What a book of fair queueing says of the seats in a tick.
use Rattle.std.proofs.Common.{◌≡◌, ◌≢◌, ℕ, ◌+◌, ◌*◌, ◌-◌, ◌<◌, ◌≤◌, suc, zero, refl, sym, arith, ap, ◌∙◌, inl}
use Rattle.std.proofs.Common.{inr, subst}
use Rattle.std.proofs.Common.{Bool, true, false}
use Rattle.std.specs.Prelude.{Option, Some, None, not, nat_lt, nat_eq}
use Rattle.std.proofs.lemmas.Bool.{cases_lt, cases_eq, ne_eqb}
use Rattle.std.proofs.lemmas.Bool.Decides.{nat_tests}
use Rattle.hls_chron.specs.declared.plain.Kind.TheVariants as kinds
use Rattle.hls_chron.specs.declared.plain.Sharing.{Sharing}
use Rattle.hls_chron.specs.declared.plain.Terms.{Terms}
use Rattle.hls_chron.specs.declared.plain.Terms.TheVariants as terms
use Rattle.hls_chron.specs.Ranges.{IsWithin}
use Rattle.hls_chron.specs.Kinds.{terms_kind, by_shares}
use Rattle.hls_chron.specs.Ledger.{Ledger, no_row, now_of, before, IsDated}
use Rattle.hls_chron.specs.Seats.{asked, terms_at}
use Rattle.hls_chron.specs.Ticks.{one_if}
use Rattle.hls_chron.proofs.BookLaws.{before-now, terms_at-same}
use Rattle.hls_kinds.specs.declared.tenant.Tenant.{Tenant}
use Rattle.hls_kinds.specs.declared.tenant.Tenant.TheVariants.{Vacant, Sits, Left}
use Rattle.hls_kinds.specs.Slots.{any_below, sum_below}
use Rattle.hls_kinds.specs.Tenants.{tenant_at, tenant_then}
use Rattle.hls_kinds.specs.Tags.{unit_tag, tag_step, share_in}
use Rattle.hls_kinds.specs.Room.{weight_in, room_used}
use Rattle.hls_kinds.proofs.SlotLaws.{any_below-none}
use Rattle.hls_kinds.proofs.TenantLaws.{seated_in, seated-terms}
use Rattle.hls_kinds.proofs.MarkLaws.{tenant_at-same}
use Rattle.hls_kinds.specs.Fits.{HasSeats}
use Rattle.hls_book.proofs.AdmissionLaws.{seats-same}
use Rattle.hls_book.proofs.PromiseLaws.{asked-slot}
use Rattle.hls_book.specs.ShareBook.{HasWeights, KeepsShareBook}
use Rattle.hls_kinds.proofs.Sums.{sum-eq}
use Rattle.hls_book.proofs.Nexts.{share_at}

-- each weight divides the unit
abbrev misses : ℕ → Bool
misses k = not (nat_eq ((k + 1) * tag_step (k + 1)) unit_tag)

none_misses : any_below misses 20 ≡ false
unfolding any_below
none_misses = refl

pub divides : (w : ℕ) → 1 ≤ w → w ≤ 20 → w * tag_step w ≡ unit_tag
divides w some most = elim (cases_eq (w * tag_step w) unit_tag) [
  | inl e ↦ e
  | inr ne ↦
      let at : (w - 1) + 1 ≡ w = omega (arith, some) in
      let apart : ((w - 1) + 1) * tag_step ((w - 1) + 1) ≢ unit_tag =
      λ e. ne (sym (ap (λ n. n * tag_step n) at) ∙ e) in
      absurd (any_below-none misses 20 (w - 1) none_misses (omega (arith, some, most))
      (ap not (ne_eqb _ unit_tag apart)))
]

-- few seats where their slots are few
few_by : (f : ℕ → ℕ) (m n : ℕ) → ((k : ℕ) → f k ≤ 1) → ((k : ℕ) → m ≤ k → f k ≡ 0)
    → (sum_below f n ≤ n) × (sum_below f n ≤ m)
unfolding sum_below
few_by f m zero one none = (omega arith, omega arith)
few_by f m (suc n) one none =
    let before = few_by f m n one none in
    let here = one n in elim (cases_lt n m) [
      | inl lt ↦ (omega (arith, before.0, here), omega (arith, before.0, here, lt))
      | inr ge ↦ let zero_here = none n ge in (
        omega (arith, before.0, here),
        omega
            (arith, before.1, zero_here),
      )
    ]

-- the weight of a tenant is that of the terms
weight_same : (tenant : Tenant) → (share_in tenant).weight ≡ weight_in (seated_in tenant)
weight_same Vacant = refl
weight_same (Left m since at) = refl
weight_same (Sits (terms.Weight weight) since) = refl
weight_same (Sits terms.Cpu since) = refl
weight_same (Sits terms.Turn since) = refl
weight_same (Sits terms.Sole since) = refl
weight_same (Sits (terms.Prio priority) since) = refl
weight_same (Sits (terms.Slots places) since) = refl
weight_same (Sits (terms.Res hard x y) since) = refl

pub weight-is : (b : Ledger) (slot : ℕ) → (share_in (tenant_at b slot)).weight ≡ weight_in (terms_at b slot)
weight-is b slot = weight_same (tenant_at b slot) ∙ ap weight_in (seated-terms b slot)

-- books with the same marks have the same weights
pub room-same : (sharing : Sharing) (a b : Ledger) → a.marks ≡ b.marks
    → room_used (by_shares sharing) a ≡ room_used (by_shares sharing) b
room-same sharing a b same =
    sum-eq (λ slot. weight_in (terms_at a slot)) (λ slot. weight_in (terms_at b slot)) 32
    (λ slot lt. ap weight_in (terms_at-same a b slot same))

pub weights-same : (sharing : Sharing) (a b : Ledger) → a.marks ≡ b.marks → HasWeights sharing b
    → HasWeights sharing a
weights-same sharing a b same had = record {
  ranged = λ slot m is. had.ranged slot m (sym (terms_at-same a b slot same) ∙ is);
  fits = let e = room-same sharing a b same in omega (arith, e, had.fits);
}

-- before its choice, the present tick has all the marks
pub marks-now : (b : Ledger) → IsDated b → (before (now_of b) b).marks ≡ b.marks
unfolding before
marks-now b dated = before-now b no_row dated

pub tenant-now : (b : Ledger) (slot : ℕ) → IsDated b → tenant_then b slot (now_of b) ≡ tenant_at b slot
tenant-now b slot dated = tenant_at-same (before (now_of b) b) b slot (marks-now b dated)

-- terms of the kind have a weight
weighs : (m : Terms) → terms_kind m ≡ kinds.Sfq
    → ((weight : ℕ) → Some m ≡ Some (terms.Weight weight) → IsWithin 1 20 weight) → 0 < weight_in (Some m)
weighs (terms.Weight weight) is range = omega (arith, (range weight refl).0)
weighs terms.Cpu is range = absurd cc
weighs terms.Turn is range = absurd cc
weighs terms.Sole is range = absurd cc
weighs (terms.Prio priority) is range = absurd cc
weighs (terms.Slots places) is range = absurd cc
weighs (terms.Res hard x y) is range = absurd cc

weight_range : (m : Option Terms) → 0 < weight_in m
    → ((weight : ℕ) → m ≡ Some (terms.Weight weight) → IsWithin 1 20 weight)
    → IsWithin 1 20 (weight_in m)
weight_range (Some (terms.Weight weight)) some range = range weight refl
weight_range None some range = absurd (omega (arith, some))
weight_range (Some _) some range = absurd (omega (arith, some))

taken_is : (m : Option Terms) → 0 < weight_in m → m ≢ None
taken_is None some none = omega (arith, some)
taken_is (Some n) some none = cc

module _ (sharing : Sharing) (b : Ledger) (kept : KeepsShareBook sharing b) where
  -- at each tick up to the present
  pub seats-at : (t : ℕ) → t ≤ now_of b → HasSeats (by_shares sharing) (before t b)
  seats-at t le = elim (cases_lt t (now_of b)) [
    | inl lt ↦ kept.admission.had t lt
    | inr ge ↦
        let e : now_of b ≡ t = omega (arith, le, ge) in
        subst (λ z. HasSeats (by_shares sharing) (before z b)) e
        (seats-same (by_shares sharing) (before (now_of b) b) b (marks-now b kept.admission.dated) kept.admission.seats)
  ]

  pub weights-at : (t : ℕ) → t ≤ now_of b → HasWeights sharing (before t b)
  weights-at t le = elim (cases_lt t (now_of b)) [
    | inl lt ↦ kept.had t lt
    | inr ge ↦
        let e : now_of b ≡ t = omega (arith, le, ge) in
        subst (λ z. HasWeights sharing (before z b)) e
        (weights-same sharing (before (now_of b) b) b (marks-now b kept.admission.dated) kept.weights)
  ]

  range-at : (t slot : ℕ) → t ≤ now_of b → 0 < (share_at b t slot).weight
      → (1 ≤ (share_at b t slot).weight) × ((share_at b t slot).weight ≤ 20)
  range-at t slot le some =
      let is = weight-is (before t b) slot in
      let has = weights-at t le in
      let within = weight_range (terms_at (before t b) slot) (omega (arith, is, some))
      (λ weight e. has.ranged slot weight e) in
      (omega (arith, within.0, is), omega (arith, within.1, is))

  pub steps-at : (t slot : ℕ) → t ≤ now_of b → 0 < (share_at b t slot).weight
      → (share_at b t slot).weight * tag_step (share_at b t slot).weight ≡ unit_tag
  steps-at t slot le some =
      let within = range-at t slot le some in divides (share_at b t slot).weight within.0 within.1

  -- a seat sits at a slot below the most
  pub slot-at : (t slot : ℕ) → t ≤ now_of b → 0 < (share_at b t slot).weight → slot < sharing.most
  slot-at t slot le some =
      let is = weight-is (before t b) slot in
      elim (terms_at (before t b) slot) as (λ m. terms_at (before t b) slot ≡ m → slot < sharing.most) [
        | None ↦ λ none. absurd (let zero_weight = ap weight_in none in omega (arith, is, some, zero_weight))
        | Some m ↦ λ e. (seats-at t le).within slot m e
      ] refl

  one_taken : (t slot : ℕ) → one_if (nat_lt 0 (share_at b t slot).weight) ≤ 1
  one_taken t slot = elim (nat_lt 0 (share_at b t slot).weight) as (λ (x : Bool). one_if x ≤ 1) [
    | true ↦ omega arith
    | false ↦ omega arith
  ]

  none_taken : (t slot : ℕ) → t ≤ now_of b → sharing.most ≤ slot → one_if (nat_lt 0 (share_at b t slot).weight) ≡ 0
  none_taken t slot le ge = elim (cases_lt 0 (share_at b t slot).weight) [
    | inl some ↦ absurd (let lt = slot-at t slot le some in omega (arith, lt, ge))
    | inr none ↦
        let not_taken : nat_lt 0 (share_at b t slot).weight ≡ false = grind (arith, nat_tests, none) in
        rw not_taken refl
  ]

  pub few-at : (t : ℕ) → t ≤ now_of b
      → sum_below (λ slot. one_if (nat_lt 0 (share_at b t slot).weight)) 32 ≤ sharing.most
  few-at t le = (few_by (λ slot. one_if (nat_lt 0 (share_at b t slot).weight)) sharing.most 32
      (λ slot. one_taken t slot)
      (λ slot ge. none_taken t slot le ge)).1

  pub fits-at : (t : ℕ) → t ≤ now_of b → sum_below (λ slot. (share_at b t slot).weight) 32 ≤ sharing.total
  fits-at t le =
      let e = sum-eq (λ slot. (share_at b t slot).weight) (λ slot. weight_in (terms_at (before t b) slot)) 32
      (λ slot lt. weight-is (before t b) slot) in
      omega (arith, e, (weights-at t le).fits)

  seat_weighs : (t slot : ℕ) → t ≤ now_of b → terms_at (before t b) slot ≢ None
      → 0 < (share_at b t slot).weight
  seat_weighs t slot le taken =
      let is = weight-is (before t b) slot in
      elim (terms_at (before t b) slot) as (λ m. terms_at (before t b) slot ≡ m → 0 <
      (share_at b t slot).weight) [
        | None ↦ λ none. absurd (taken none)
        | Some m ↦ λ e.
            let of_kind = (seats-at t le).of_kind slot m e in
            let some = weighs m of_kind (λ weight same. (weights-at t le).ranged slot weight (e ∙ same)) in
            let same = ap weight_in e in
            omega (arith, is, some, same)
      ] refl

  pub taken-at : (t slot : ℕ) → t < now_of b → asked b slot t ≡ true → 0 < (share_at b t slot).weight
  taken-at t slot lt asks =
      seat_weighs t slot (omega (arith, lt)) (kept.admission.seated t slot lt (asked-slot b slot t asks))
