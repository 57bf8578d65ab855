-- A scheduler that asks has a slot to serve, where only seats ask, and one alone.
use Rattle.std.proofs.Common.{◌≡◌, ◌≢◌, ℕ, zero, suc, inl, inr, ◌+◌, ◌<◌, ◌||◌, Option, Some, None, Bool}
use Rattle.std.proofs.Common.{true, false, if◌then◌else◌, refl, sym, ap, ◌∙◌, subst, arith}
use Rattle.std.specs.Int.{bit_at}
use Rattle.std.proofs.lemmas.Bool.{cases_eq, cases_lt, cases_Bool, eq-eqb, eqb-true}
use Rattle.std.proofs.lemmas.Nat.Bits.{same_from_bits, bit_at-zero, bit_at-lt}
use Rattle.hls_chron.specs.declared.plain.Config.{Config}
use Rattle.hls_chron.specs.declared.plain.Config.TheVariants.{Fp, Rr, Join}
use Rattle.hls_chron.specs.declared.plain.Terms.{Terms}
use Rattle.hls_chron.specs.declared.plain.Terms.TheVariants as variants
use Rattle.hls_chron.specs.declared.plain.Kind.TheVariants as kinds
use Rattle.hls_chron.specs.Kinds.{terms_kind, by_shares}
use Rattle.hls_chron.specs.Ranges.{ConfigInRange}
use Rattle.hls_chron.specs.Ledger.{Ledger, now_of}
use Rattle.hls_chron.specs.Seats.{most_seats, terms_at, priority_in, priority_at}
use Rattle.hls_kinds.specs.Slots.{any_below, IsFirst}
use Rattle.hls_kinds.specs.Reservations.{deadline_at}
use Rattle.hls_kinds.specs.Tags.{start_tag}
use Rattle.hls_kinds.specs.Turns.{turn_slot, turn_goes_on, turns_after}
use Rattle.hls_kinds.specs.Frames.{owner_now}
use Rattle.hls_kinds.specs.Asks.{asks, some_slot_asks, slot_asks, asks_in_budget, asks_softly, owner_asks}
use Rattle.hls_kinds.specs.Discipline.{HasLeastPriority, TakesTurn, may_go, IsOwner, IsSole, Serves}
use Rattle.hls_kinds.proofs.SlotLaws.{any_below-zero, any_below-miss, any_below-none, any_below-or}
use Rattle.hls_kinds.proofs.SlotLaws.{first-alone, first-better, first-held, first-missed}
use Rattle.hls_kinds.specs.Fits.{HasSeats}
use Rattle.hls_chron.proofs.ConfigLaws.{by_kind, few_seats}

-- where the test holds below n, there is a first slot
pub record HasFirst (n : ℕ) (among : ℕ → Bool) (key : ℕ → ℕ) : Type 0 where
  pub slot : ℕ
  pub first : IsFirst n among key slot

first_next : (n : ℕ) (among : ℕ → Bool) (key : ℕ → ℕ) → HasFirst n among key → (b : Bool) → among n ≡ b
    → HasFirst (n + 1) among key
first_next n among key held true e = elim (cases_lt (key n) (key held.slot)) [
  | inl lt ↦ record { slot = n; first = first-better among key n held.slot held.first e lt }
  | inr ge ↦ record { slot = held.slot; first = first-held among key n held.slot held.first ge }
]
first_next n among key held false e =
    record { slot = held.slot; first = first-missed among key n held.slot held.first e }

one_more : (n : ℕ) (among : ℕ → Bool) (key : ℕ → ℕ) → HasFirst (n + 1) among key → HasFirst (suc n) among key
one_more n among key f = subst (λ (m : ℕ). HasFirst m among key) (let e : n + 1 ≡ suc n = omega arith in e) f

any_more : (n : ℕ) (among : ℕ → Bool) → any_below among (suc n) ≡ true → any_below among (n + 1) ≡ true
any_more n among any = subst (λ (m : ℕ). any_below among m ≡ true) (let e : suc n ≡ n + 1 = omega arith in e)
    any

pub first_some : (n : ℕ) (among : ℕ → Bool) (key : ℕ → ℕ) → any_below among n ≡ true → HasFirst n among key
first_some zero among key any = absurd (let none = any_below-zero among in cc)
first_some (suc n) among key any = one_more n among key (elim (cases_Bool (any_below among n)) [
  | inl some ↦ first_next n among key (first_some n among key some) (among n) refl
  | inr none ↦ elim (cases_Bool (among n)) [
    | inl on ↦ record { slot = n; first = first-alone among key n none on }
    | inr off ↦ absurd (let miss = any_below-miss among n off in let any_here = any_more n among any in cc)
  ]
])

-- what asks
abbrev pub OnlySeats : Ledger → ℕ → Type 0
OnlySeats b mask = (slot : ℕ) → slot_asks mask slot ≡ true → terms_at b slot ≢ None

seat_in : (terms : Option Terms) → terms ≢ None → (m : Terms) × (terms ≡ Some m)
seat_in None ne = absurd (ne refl)
seat_in (Some m) ne = (m, refl)

within_seats : (config : Config) (b : Ledger) (mask slot : ℕ) → HasSeats config b → OnlySeats b mask
    → slot_asks mask slot ≡ true → slot < most_seats config
within_seats config b mask slot seats only on = let m = seat_in (terms_at b slot) (only slot on) in
    seats.within slot m.0 m.1

zero_bit : (mask slot : ℕ) → slot_asks mask slot ≡ false → bit_at mask slot ≡ 0
zero_bit mask slot off = elim (cases_eq (bit_at mask slot) 1) [
  | inl on ↦ absurd (let sure = eq-eqb (bit_at mask slot) 1 on in cc)
  | inr ne ↦ let lt = bit_at-lt mask slot in omega (arith, ne, lt)
]

silent : (mask : ℕ) → ((slot : ℕ) → slot_asks mask slot ≡ false) → mask ≡ 0
silent mask off = same_from_bits mask 0 (λ i. zero_bit mask i (off i) ∙ sym (bit_at-zero i))

-- a mask in which some slot asks, where only seats ask
any_asks : (config : Config) (b : Ledger) (mask : ℕ) → ConfigInRange config → HasSeats config b
    → OnlySeats b mask → some_slot_asks mask ≡ true → any_below (slot_asks mask) 32 ≡ true
any_asks config b mask range seats only some = elim (cases_Bool (any_below (slot_asks mask) 32)) [
  | inl has ↦ has
  | inr none ↦
      let zeroed : mask ≡ 0 = silent mask (λ slot. elim (cases_Bool (slot_asks mask slot)) [
        | inr off ↦ off
        | inl on ↦ absurd
            (any_below-none (slot_asks mask) 32 slot none
            (let lt = within_seats config b mask slot seats only on in let few = few_seats config range in
            omega (arith, lt, few)) on)
      ]) in
      absurd (let sure = ap some_slot_asks zeroed in cc)
]

-- fixed priority: by priority numbers
number_in : Option ℕ → ℕ
number_in None = 0
number_in (Some n) = n

fp_number : (m : Terms) → terms_kind m ≡ kinds.Fp → (p : ℕ) × (m ≡ variants.Prio p)
fp_number variants.Cpu e = cc
fp_number (variants.Prio p) e = (p, refl)
fp_number (variants.Res hard x y) e = cc
fp_number (variants.Weight weight) e = cc
fp_number (variants.Slots places) e = cc
fp_number variants.Turn e = cc
fp_number variants.Sole e = cc

has_number : (b : Ledger) (mask slot : ℕ) → HasSeats Fp b → OnlySeats b mask → slot_asks mask slot ≡ true
    → priority_at b slot ≢ None
has_number b mask slot seats only on none =
    let m = seat_in (terms_at b slot) (only slot on) in
    let p = fp_number m.0 (seats.of_kind slot m.0 m.1) in
    let some : priority_at b slot ≡ Some p.0 = ap priority_in (m.1 ∙ ap (λ x. Some x) p.1) in
    cc

least_some : (b : Ledger) (mask : ℕ) → HasSeats Fp b → OnlySeats b mask
    → HasFirst 32 (slot_asks mask) (λ slot. number_in (priority_at b slot)) → (slot : ℕ)
    × HasLeastPriority b mask slot
unfolding number_in
least_some b mask seats only f = (
  f.slot,
  record {
    asks = eqb-true (bit_at mask f.slot) 1 f.first.chosen;
    seated = has_number b mask f.slot seats only f.first.chosen;
    least = λ other priority rival asks mine theirs.
        let on = eq-eqb (bit_at mask other) 1 asks in
        let lt : other < 32 = within_seats Fp b mask other seats only on in
        let le = f.first.least other lt on in
        let a : number_in (priority_at b f.slot) ≡ priority = ap number_in mine in
        let c : number_in (priority_at b other) ≡ rival = ap number_in theirs in
        omega (arith, le, a, c);
  },
)

-- reservations
any_may_go : (b : Ledger) (mask : ℕ)
    → any_below (λ slot. asks_in_budget b mask slot || asks_softly b mask slot) 32 ≡ true
    → any_below (may_go b mask) 32 ≡ true
any_may_go b mask any =
    let either : (any_below (asks_in_budget b mask) 32 || any_below (asks_softly b mask) 32) ≡ true =
    sym (any_below-or (asks_in_budget b mask) (asks_softly b mask) 32) ∙ any in
    elim (any_below (asks_in_budget b mask) 32) as (λ x. any_below (asks_in_budget b mask) 32 ≡ x
    → (x || any_below (asks_softly b mask) 32) ≡ true
    → any_below (λ slot. if x then asks_in_budget b mask slot else asks_softly b mask slot) 32 ≡ true) [
      | true ↦ λ is e. is
      | false ↦ λ is e. e
    ] refl either

-- turns
turn_some : (quantum : ℕ) (b : Ledger) (key : ℕ → ℕ) (mask : ℕ) → HasFirst 32 (slot_asks mask) key
    → (slot : ℕ) × TakesTurn quantum b key mask slot
turn_some quantum b key mask f = elim (cases_Bool (turn_goes_on quantum b mask)) [
  | inl on ↦ (turn_slot b, record { goes_on = λ e. refl; passes = λ off. absurd (cc) })
  | inr off ↦ (f.slot, record { goes_on = λ on. absurd (cc); passes = λ e. f.first })
]

owner_some : (owner : Option ℕ) (mask : ℕ) → owner_asks mask owner ≡ true → (slot : ℕ)
    × IsOwner owner mask slot
owner_some None mask on = cc
owner_some (Some slot) mask on = (slot, record { owns = refl; asks = eqb-true (bit_at mask slot) 1 on })

sole_some : (ports : ℕ) (b : Ledger) (mask : ℕ) → HasSeats (Join ports) b → OnlySeats b mask
    → HasFirst 32 (slot_asks mask) (λ slot. slot) → (slot : ℕ) × IsSole mask slot
sole_some ports b mask seats only f =
    let lt : f.slot < 1 = within_seats (Join ports) b mask f.slot seats only f.first.chosen in
    (f.slot, record { sole = omega arith; asks = eqb-true (bit_at mask f.slot) 1 f.first.chosen })

-- the first slot that asks, by this key
first_asks : (key : ℕ → ℕ) (config : Config) (b : Ledger) (mask : ℕ) → ConfigInRange config → HasSeats config b
    → OnlySeats b mask → some_slot_asks mask ≡ true → HasFirst 32 (slot_asks mask) key
first_asks key config b mask range seats only on =
    first_some 32 (slot_asks mask) key (any_asks config b mask range seats only on)

pub serves_some : (config : Config) (b : Ledger) (mask : ℕ) → ConfigInRange config → HasSeats config b
    → OnlySeats b mask → asks config b mask ≡ true → (slot : ℕ) × Serves config b mask slot
serves_some config b mask =
    by_kind (λ config. ConfigInRange config → HasSeats config b → OnlySeats b mask → asks config b mask ≡ true
    → (slot : ℕ) × Serves config b mask slot)
    (λ range seats only on. cc)
    (λ range seats only on. least_some b mask seats only
    (first_asks (λ slot. number_in (priority_at b slot)) Fp b mask range seats only on))
    (λ range seats only on. let f = first_some 32 (may_go b mask) (deadline_at b mask) (any_may_go b mask on) in
    (f.slot, f.first))
    (λ sharing range seats only on. turn_some sharing.quantum b (start_tag sharing.quantum b (now_of b)) mask
    (first_asks (start_tag sharing.quantum b (now_of b)) (by_shares sharing) b mask range seats only on))
    (λ quantum range seats only on. turn_some quantum b (turns_after (turn_slot b)) mask
    (first_asks (turns_after (turn_slot b)) (Rr quantum) b mask range seats only on))
    (λ frame range seats only on. owner_some (owner_now frame b) mask on)
    (λ ports range seats only on. sole_some ports b mask seats only
    (first_asks (λ slot. slot) (Join ports) b mask range seats only on)) config

-- ---- and one alone

first_one : (n : ℕ) (among : ℕ → Bool) (key : ℕ → ℕ) (a b : ℕ) → IsFirst n among key a → IsFirst n among key b
    → a ≡ b
first_one n among key a b f g =
    let x = f.least b g.within g.chosen in
    let y = g.least a f.within f.chosen in
    let same : key a ≡ key b = omega (arith, x, y) in
    let u = f.first b g.within g.chosen same in
    let v = g.first a f.within f.chosen (sym same) in
    omega (arith, u, v)

least_one : (b : Ledger) (mask slot other : ℕ) (p q : Option ℕ) → HasSeats Fp b
    → HasLeastPriority b mask slot → HasLeastPriority b mask other → priority_at b slot ≡ p
    → priority_at b other ≡ q → slot ≡ other
least_one b mask slot other None q seats f g e h = absurd (f.seated e)
least_one b mask slot other (Some m) None seats f g e h = absurd (g.seated h)
least_one b mask slot other (Some m) (Some n) seats f g e h =
    let x = f.least other m n g.asks e h in
    let y = g.least slot n m f.asks h e in
    let same : m ≡ n = omega (arith, x, y) in
    seats.apart slot other n (e ∙ ap (λ k. Some k) same) h

turn_one : (quantum : ℕ) (b : Ledger) (key : ℕ → ℕ) (mask slot other : ℕ) → TakesTurn quantum b key mask slot
    → TakesTurn quantum b key mask other → slot ≡ other
turn_one quantum b key mask slot other f g = elim (cases_Bool (turn_goes_on quantum b mask)) [
  | inl on ↦ f.goes_on on ∙ sym (g.goes_on on)
  | inr off ↦ first_one 32 _ _ slot other (f.passes off) (g.passes off)
]

pub serves_one : (config : Config) (b : Ledger) (mask slot other : ℕ) → HasSeats config b
    → Serves config b mask slot → Serves config b mask other → slot ≡ other
serves_one config b mask slot other =
    by_kind (λ config. HasSeats config b → Serves config b mask slot → Serves config b mask other → slot ≡ other)
    (λ seats f g. absurd f)
    (λ seats f g. least_one b mask slot other (priority_at b slot) (priority_at b other) seats f g refl refl)
    (λ seats. first_one 32 _ _ slot other)
    (λ sharing seats. turn_one sharing.quantum b _ mask slot other)
    (λ quantum seats. turn_one quantum b _ mask slot other)
    (λ frame seats f g. let same = sym f.owns ∙ g.owns in cc)
    (λ ports seats f g. f.sole ∙ sym g.sole) config
