-- A frame of slots keeps its promise.
use Rattle.std.proofs.Common.{◌≡◌, ℕ, zero, suc, ◌+◌, ◌-◌, ◌%◌, ◌<◌, ◌≤◌, Some, None, Bool, true, false, refl}
use Rattle.std.proofs.Common.{sym, ap, ◌∙◌, arith, inl, inr, subst, add-zero, add-one}
use Rattle.std.proofs.Math.Nat.{add-mod_right, mod-eq_of_lt}
use Rattle.std.proofs.lemmas.List.{length-take-le}
use Rattle.std.specs.Prelude.{Option}
use Rattle.std.proofs.lemmas.Bool.{cases_lt, eq-eqb, eqb-true, lt-ltb}
use Rattle.std.proofs.lemmas.Nat.Bits.{bit_at-zero}
use Rattle.hls_chron.specs.declared.plain.Kind.TheVariants as kinds
use Rattle.hls_chron.specs.declared.plain.Config.{Config}
use Rattle.hls_chron.specs.declared.plain.Config.TheVariants as configs
use Rattle.hls_chron.specs.Kinds.{kind_of, frame_of}
use Rattle.hls_chron.specs.declared.plain.Terms.{Terms}
use Rattle.hls_chron.specs.declared.plain.Terms.TheVariants as terms
use Rattle.hls_chron.specs.Ledger.{Ledger, no_row, now_of, row_at, before}
use Rattle.hls_chron.specs.Seats.{SlotAsks, asked, is_slot, served}
use Rattle.hls_chron.specs.Ticks.{one_if, count}
use Rattle.hls_chron.proofs.CountLaws.{count-agree, count-add, count-push, count-none, count-within}
use Rattle.hls_kinds.specs.declared.tenant.Tenant.TheVariants.{Sits}
use Rattle.hls_kinds.specs.Tenants.{tenant_at, settled_at}
use Rattle.hls_kinds.specs.Asks.{asks, owner_asks}
use Rattle.hls_kinds.specs.Discipline.{IsOwner, KeepsDiscipline}
use Rattle.hls_kinds.specs.Frames.{owner_now}
use Rattle.hls_kinds.proofs.MarkLaws.{sits_on}
use Rattle.hls_guarantee.specs.declared.Guarantee.{Guarantee}
use Rattle.hls_guarantee.specs.declared.Guarantee.TheVariants.{All, Resc}
use Rattle.hls_guarantee.specs.Cap.{KeepsCap}
use Rattle.hls_guarantee.specs.Supply.{Supplies}
use Rattle.hls_guarantee.specs.Steps.{LendsByTerms}
use Rattle.hls_book.specs.Promise.{given, asked_by, KeepsPromise}
use Rattle.hls_book.specs.Admission.{KeepsAdmission}
use Rattle.hls_book.proofs.PromiseLaws.{row_at-later, asked-slot, served-to, to-served, given-went}
use Rattle.hls_book.proofs.PromiseLaws.{nothing-supplies}
use Rattle.hls_book.specs.Places.{owns_place, KeepsPlaces}
use Rattle.hls_chron.proofs.ConfigLaws.{of_wheel}

-- the places of the ticks come round
abbrev in_tick : (frame : ℕ) → (ℕ → Bool) → ℕ → Bool
in_tick frame own t = own (t % frame)

round_again : (frame : ℕ) (own : ℕ → Bool) (a : ℕ) → in_tick frame own (a + frame) ≡ in_tick frame own a
round_again frame own a = ap own (add-mod_right a frame)

first_round : (frame : ℕ) (own : ℕ → Bool) (t : ℕ) → t < frame → in_tick frame own t ≡ own t
first_round frame own t lt = ap own (mod-eq_of_lt lt)

one_tick : (f : ℕ → Bool) (a : ℕ) → count f a 1 ≡ one_if (f a)
one_tick f a =
    let pushed = count-push f a 0 in
    let none = count-none f a in
    let here : one_if (f (a + 0)) ≡ one_if (f a) = ap (λ (t : ℕ). one_if (f t)) (add-zero a) in
    omega (arith, pushed, none, here)

-- any ticks of a frame have each place once
frame_of_ticks : (frame : ℕ) (own : ℕ → Bool) (a : ℕ)
    → count (in_tick frame own) a frame ≡ count own 0 frame
frame_of_ticks frame own zero =
    count-agree (in_tick frame own) own 0 frame (λ t _ lt. first_round frame own t (omega (arith, lt)))
frame_of_ticks frame own (suc a) =
    let before = frame_of_ticks frame own a in
    let more = count-push (in_tick frame own) a frame in
    let split = count-add (in_tick frame own) a 1 frame in
    let first = one_tick (in_tick frame own) a in
    let again : one_if (in_tick frame own (a + frame)) ≡ one_if (in_tick frame own a) =
    ap one_if (round_again frame own a) in
    let later : count (in_tick frame own) (a + 1) frame ≡ count (in_tick frame own) (suc a) frame =
    ap (λ t. count (in_tick frame own) t frame) (add-one a) in
    let one_more : count (in_tick frame own) a (1 + frame) ≡ count (in_tick frame own) a (suc frame) =
    ap (λ n. count (in_tick frame own) a n) (omega arith) in
    omega (arith, before, more, split, first, again, later, one_more)

-- of n ticks, at most a frame, at most all places of a slot, and all but the rest of the frame
ticks_owned : (frame : ℕ) (own : ℕ → Bool) (i n : ℕ) → n ≤ frame
    → (count (in_tick frame own) i n ≤ count own 0 frame)
    × (count own 0 frame + n ≤ frame + count (in_tick frame own) i n)
ticks_owned frame own i n le =
    let within = count-within (in_tick frame own) i frame i n (omega arith) (omega (arith, le)) in
    let all = frame_of_ticks frame own i in
    (omega (arith, within.less, all), omega (arith, within.idle, all))

-- a schedule that serves more in a part
one_more : (a b : Bool) → (a ≡ true → b ≡ true) → one_if a ≤ one_if b
one_more false b more = omega arith
one_more true b more = let e : one_if b ≡ 1 = ap one_if (more refl) in omega (arith, e)

count-more_within : (f g : ℕ → Bool) (i n : ℕ) → ((t : ℕ) → i ≤ t → t < i + n → f t ≡ true → g t ≡ true)
    → count f i n ≤ count g i n
unfolding count
count-more_within f g i zero more = omega arith
count-more_within f g i (suc n) more =
    omega (
      arith,
      count-more_within f g i n (λ t from to. more t from (omega (arith, to))),
      one_more (f (i + n)) (g (i + n)) (more (i + n) (omega arith) (omega arith)),
    )

-- a tick with a row is not before the start
silent_before : (b : Ledger) (t : ℕ) → t < b.start → row_at b t ≡ no_row
unfolding row_at
silent_before b t early = rw (lt-ltb t b.start early) refl

asked_after : (b : Ledger) (slot t : ℕ) → asked b slot t ≡ true → b.start ≤ t
asked_after b slot t is = elim (cases_lt t b.start) [
  | inl early ↦ absurd (
      let asks = asked-slot b slot t is in
      let no : SlotAsks 0 slot = rw (silent_before b t early) at asks in
      omega (arith, bit_at-zero slot, no))
  | inr late ↦ late
]

served_after : (b : Ledger) (slot t : ℕ) → (row_at b t).to ≡ Some slot → b.start ≤ t
served_after b slot t to = elim (cases_lt t b.start) [
  | inl early ↦ absurd (let no : None ≡ Some slot = rw (silent_before b t early) at to in cc)
  | inr late ↦ late
]

served_before : (b : Ledger) (slot t : ℕ) → (row_at b t).to ≡ Some slot → t < now_of b
served_before b slot t to = elim (cases_lt t (now_of b)) [
  | inl lt ↦ lt
  | inr late ↦ absurd (let none = row_at-later b t late in let no : None ≡ Some slot = rw none at to in cc)
]

now_before : (b : Ledger) (t : ℕ) → b.start ≤ t → t ≤ now_of b → now_of (before t b) ≡ t
unfolding before
now_before b t from to =
    let taken = length-take-le (t - b.start) b.rows (omega (arith, to)) in
    omega (arith, taken, from)

both_ways : (a b : Bool) → (a ≡ true → b ≡ true) → (b ≡ true → a ≡ true) → a ≡ b
both_ways true b f g = sym (f refl)
both_ways false true f g = g refl
both_ways false false f g = refl

slot_owns : (owner : Option ℕ) (slot : ℕ) → owner ≡ Some slot → is_slot owner slot ≡ true
slot_owns owner slot is = rw is (eq-eqb slot slot refl)

owns_slot : (owner : Option ℕ) (slot : ℕ) → is_slot owner slot ≡ true → owner ≡ Some slot
owns_slot None slot is = absurd cc
owns_slot (Some at) slot is = ap (λ n. Some n) (eqb-true at slot is)

module _ (frame : ℕ) (b : Ledger) (kept : KeepsAdmission (configs.Wheel frame) b)
    (discipline : KeepsDiscipline (configs.Wheel frame) b) (places : KeepsPlaces frame b) where
  -- the owner of a tick's place, as it was then and as it is now
  owner_then : (slot since t : ℕ) (m : Terms) → tenant_at b slot ≡ Sits m since → since ≤ t → t < now_of b
      → b.start ≤ t
      → is_slot (owner_now frame (before t b)) slot ≡ in_tick frame (owns_place b slot) t
  owner_then slot since t m sits from lt start =
      ap (λ now. owns_place (before t b) slot (now % frame)) (now_before b t start (omega (arith, lt)))
      ∙ places.stood slot since t (t % frame) m sits from lt

  -- a seat is served in ticks of its places alone
  served_owns : (slot since t : ℕ) (m : Terms) → tenant_at b slot ≡ Sits m since → since ≤ t
      → served b slot t ≡ true → in_tick frame (owns_place b slot) t ≡ true
  served_owns slot since t m sits from is =
      let to = served-to b slot t is in
      let lt = served_before b slot t to in
      let serves : IsOwner (owner_now frame (before t b)) (row_at b t).mask slot =
      discipline.served t slot lt to in
      sym (owner_then slot since t m sits from lt (served_after b slot t to))
      ∙ slot_owns (owner_now frame (before t b)) slot serves.owns

  -- and in each of them in which it asks, where the wheel gets what it asks
  owner_served : (slot since t : ℕ) (m : Terms) → tenant_at b slot ≡ Sits m since → since ≤ t → t < now_of b
      → Supplies All (given b 0) (asked_by (configs.Wheel frame) b) (settled_at b) (now_of b)
      → asked b slot t ≡ true → in_tick frame (owns_place b slot) t ≡ true → served b slot t ≡ true
  unfolding asked_by
  owner_served slot since t m sits from lt supplied asks own =
      let owner : owner_now frame (before t b) ≡ Some slot = owns_slot (owner_now frame (before t b)) slot
      (owner_then slot since t m sits from lt (asked_after b slot t asks) ∙ own) in
      let wheel_asks : owner_asks (row_at b t).mask (owner_now frame (before t b)) ≡ true =
      rw owner (eq-eqb _ _ (asked-slot b slot t asks)) in
      let later = kept.stood.later slot since m sits in
      let gives : given b 0 t ≡ true =
      supplied.met t (t + 1) (omega (arith, later.0, from)) (omega (arith, lt))
      (λ u a z. let here : t ≡ u = omega (arith, a, z) in
      subst (λ u. asked_by (configs.Wheel frame) b u ≡ true) here wheel_asks) t (omega arith) (omega arith) in
      let went = given-went b 0 t gives in
      let serves : IsOwner (owner_now frame (before t b)) (row_at b t).mask went.slot =
      discipline.served t went.slot lt went.to in
      let same : went.slot ≡ slot = let both : Some went.slot ≡ Some slot = sym serves.owns ∙ owner in cc in
      to-served b went.slot slot t went.to same

  -- whatever it is given
  pub places_capped : (slot since k : ℕ) → tenant_at b slot ≡ Sits (terms.Slots k) since
      → KeepsCap (Resc true k frame) (served b slot) since (now_of b)
  places_capped slot since k sits a n lo hi le =
      let own = owns_place b slot in
      let all : count own 0 frame ≡ k = places.owns slot k (sits_on b slot since (terms.Slots k) sits) in
      let owned = ticks_owned frame own a n le in
      let less = count-more_within (served b slot) (in_tick frame own) a n (λ t u v.
      served_owns slot since t (terms.Slots k) sits (omega (arith, lo, u))) in
      omega (arith, owned.0, all, less)

  places_supplied : (slot since k : ℕ) → tenant_at b slot ≡ Sits (terms.Slots k) since
      → Supplies All (given b 0) (asked_by (configs.Wheel frame) b) (settled_at b) (now_of b)
      → Supplies (Resc true k frame) (served b slot) (asked b slot) since (now_of b)
  places_supplied slot since k sits supplied =
      let own = owns_place b slot in
      let all : count own 0 frame ≡ k = places.owns slot k (sits_on b slot since (terms.Slots k) sits) in
      record {
        met = λ i j from to asks. λ a n lo hi le.
            let owned = ticks_owned frame own a n le in
            let same = count-agree (served b slot) (in_tick frame own) a n (λ t u v.
            both_ways (served b slot t) (in_tick frame own t)
            (served_owns slot since t (terms.Slots k) sits (omega (arith, from, lo, u)))
            (owner_served slot since t (terms.Slots k) sits (omega (arith, from, lo, u))
            (omega (arith, to, hi, v))
            supplied (asks t (omega (arith, lo, u)) (omega (arith, hi, v))))) in
            record {
              enough = omega (arith, owned.1, all, same);
              capped = λ _. omega (arith, owned.0, all, same);
            };
        capped = places_capped slot since k sits;
      }

places_lend : (frame : ℕ) (b : Ledger) → KeepsAdmission (configs.Wheel frame) b
    → KeepsDiscipline (configs.Wheel frame) b → KeepsPlaces frame b
    → (slot since : ℕ) (m : Terms) (g h : Guarantee) → tenant_at b slot ≡ Sits m since
    → LendsByTerms (configs.Wheel frame) m g h
    → Supplies g (given b 0) (asked_by (configs.Wheel frame) b) (settled_at b) (now_of b)
    → Supplies h (served b slot) (asked b slot) since (now_of b)
places_lend frame b kept discipline places slot since (terms.Slots k) All h sits lends supplied =
    rw lends.1 (places_supplied frame b kept discipline places slot since k sits supplied)
places_lend frame b kept discipline places slot since _ _ h sits lends supplied = absurd lends

pub wheel_keeps : (frame : ℕ) (b : Ledger) → KeepsAdmission (configs.Wheel frame) b
    → KeepsDiscipline (configs.Wheel frame) b → KeepsPlaces frame b → KeepsPromise (configs.Wheel frame) b
wheel_keeps frame b kept discipline places = record {
  kept = λ ports slot since port m g h sits lends supplied. elim lends.lends [
    | inl by_terms ↦
        let zero : port ≡ 0 = lends.port_of in
        let through =
        subst (λ p. Supplies g (given b p) (asked_by (configs.Wheel frame) b) (settled_at b) (now_of b))
        zero supplied in
        places_lend frame b kept discipline places slot since m g h sits by_terms through
    | inr nothing ↦ rw nothing (nothing-supplies (served b slot) (asked b slot) since (now_of b))
  ];
}

-- the same of a configuration of this kind
pub wheel_of : (config : Config) (b : Ledger) → kind_of config ≡ kinds.Wheel → KeepsAdmission config b
    → KeepsDiscipline config b → KeepsPlaces (frame_of config) b → KeepsPromise config b
wheel_of config b is =
    of_wheel (λ config. KeepsAdmission config b → KeepsDiscipline config b → KeepsPlaces (frame_of config) b
    → KeepsPromise config b)
    (λ frame kept discipline places. wheel_keeps frame b kept discipline places) config is
