-- Fixed priority and joins keep their promises.
use Rattle.std.proofs.Common.{◌≡◌, ℕ, ◌+◌, ◌-◌, ◌*◌, ◌<◌, ◌≤◌, Some, None, Bool, true, false, refl, sym, ap, ◌∙◌}
use Rattle.std.proofs.Common.{arith, inl, inr, subst}
use Rattle.std.specs.Prelude.{Option, ◌==◌, ◌&&◌, is_some}
use Rattle.std.proofs.lemmas.Bool.{cases_lt, cases_eq, eq-eqb, eqb-true, le-ltb}
use Rattle.std.proofs.lemmas.Bool.Decides.{nat_tests}
use Rattle.std.proofs.lemmas.Nat.Bits.{bit_at-zero}
use Rattle.std.proofs.lemmas.List.{get_or_past}
use Rattle.std.proofs.Math.Nat.{mul-le-mul_right}
use Rattle.hls_chron.specs.declared.plain.Config.TheVariants as configs
use Rattle.hls_chron.specs.declared.plain.Terms.{Terms}
use Rattle.hls_chron.specs.declared.plain.Terms.TheVariants as terms
use Rattle.hls_chron.specs.Ledger.{Ledger, no_row, now_of, row_at, before}
use Rattle.hls_chron.specs.Seats.{SlotAsks, asked, is_slot, served, priority_in, priority_at}
use Rattle.hls_chron.specs.Ticks.{count}
use Rattle.hls_chron.proofs.CountLaws.{count-more}
use Rattle.hls_kinds.specs.declared.tenant.Tenant.TheVariants.{Sits}
use Rattle.hls_kinds.specs.Tenants.{tenant_at, settled_at}
use Rattle.hls_kinds.specs.Asks.{some_slot_asks}
use Rattle.hls_kinds.specs.Discipline.{HasLeastPriority, KeepsDiscipline}
use Rattle.hls_kinds.proofs.MarkLaws.{sits_on}
use Rattle.hls_guarantee.specs.declared.Guarantee.{Guarantee}
use Rattle.hls_guarantee.specs.declared.Guarantee.TheVariants.{All, Null, Resb, Resc, Psbe}
use Rattle.hls_guarantee.specs.Service.{EveryPart}
use Rattle.hls_guarantee.specs.Satisfaction.{IsSoft}
use Rattle.hls_guarantee.specs.Cap.{KeepsCap}
use Rattle.hls_chron.specs.Parts.{all_parts, parts}
use Rattle.hls_guarantee.specs.Supply.{Supplies}
use Rattle.hls_guarantee.specs.Steps.{LendsByTerms}
use Rattle.hls_guarantee.proofs.Promises.{satisfies-agree, satisfies-more, keeps_cap-part}
use Rattle.hls_book.specs.Promise.{given, asked_by, HasPorts, KeepsPromise}
use Rattle.hls_book.specs.Admission.{KeepsAdmission}

-- less service keeps a cap
pub every-less : (P : ℕ → ℕ → ℕ → Type 0) (f h : ℕ → Bool) (lo hi : ℕ) → ((t : ℕ) → h t ≡ true → f t ≡ true)
    → ((i n less more : ℕ) → less ≤ more → P i n more → P i n less) → EveryPart P f lo hi → EveryPart P h lo hi
every-less P f h lo hi less down each = λ i n a b.
    down i n (count h i n) (count f i n) (count-more h f i n less) (each i n a b)

block_cap : (x y n less more : ℕ) → less ≤ more
    → more * all_parts ≤ parts x y * n + 2 * x * all_parts
    → less * all_parts ≤ parts x y * n + 2 * x * all_parts
block_cap x y n less more le cap = omega (arith, mul-le-mul_right all_parts le, cap)

pub keeps_cap-less : (g : Guarantee) (f h : ℕ → Bool) (lo hi : ℕ) → ((t : ℕ) → h t ≡ true → f t ≡ true)
    → KeepsCap g f lo hi → KeepsCap g h lo hi
keeps_cap-less All f h lo hi less c = tt
keeps_cap-less Null f h lo hi less c = tt
keeps_cap-less (Resc true x y) f h lo hi less c =
    every-less (λ i n got. n ≤ y → got ≤ x) f h lo hi less
    (λ i n few many le cap short. omega (arith, le, cap short)) c
keeps_cap-less (Resc false x y) f h lo hi less c = tt
keeps_cap-less (Resb true x y) f h lo hi less c =
    every-less (λ i n got. got * all_parts ≤ parts x y * n + 2 * x * all_parts) f h lo hi less
    (λ i n few many le cap. block_cap x y n few many le cap) c
keeps_cap-less (Resb false x y) f h lo hi less c = tt
keeps_cap-less (Psbe s d) f h lo hi less c = tt

pub soft-keeps_cap : (g : Guarantee) (f : ℕ → Bool) (lo hi : ℕ) → IsSoft g → KeepsCap g f lo hi
soft-keeps_cap All f lo hi soft = tt
soft-keeps_cap Null f lo hi soft = tt
soft-keeps_cap (Resc true x y) f lo hi soft = absurd (let no : true ≡ false = soft in cc)
soft-keeps_cap (Resc false x y) f lo hi soft = tt
soft-keeps_cap (Resb true x y) f lo hi soft = absurd (let no : true ≡ false = soft in cc)
soft-keeps_cap (Resb false x y) f lo hi soft = tt
soft-keeps_cap (Psbe s d) f lo hi soft = tt

pub nothing-supplies : (served asks : ℕ → Bool) (lo hi : ℕ) → Supplies Null served asks lo hi
nothing-supplies served asks lo hi = record { met = λ i j a b all. tt; capped = tt }

-- rows
pub row_at-later : (b : Ledger) (t : ℕ) → now_of b ≤ t → row_at b t ≡ no_row
unfolding row_at
row_at-later b t late =
    rw (le-ltb t b.start (omega (arith, late))) (get_or_past b.rows (t - b.start) no_row (omega (arith, late)))

pub asked-slot : (b : Ledger) (slot t : ℕ) → asked b slot t ≡ true → SlotAsks (row_at b t).mask slot
unfolding asked
asked-slot b slot t asks = eqb-true _ _ asks

some_asks : (mask slot : ℕ) → SlotAsks mask slot → some_slot_asks mask ≡ true
some_asks mask slot asks = elim (cases_eq mask 0) [
  | inl none ↦ absurd (let zero = bit_at-zero slot in let no : SlotAsks 0 slot = rw none at asks in cc)
  | inr some ↦ grind (arith, nat_tests, some)
]

slot_to : (to : Option ℕ) (slot : ℕ) → is_slot to slot ≡ true → to ≡ Some slot
slot_to None slot is = absurd cc
slot_to (Some at) slot is = ap (λ n. Some n) (eqb-true at slot is)

to_slot : (to : Option ℕ) (at slot : ℕ) → to ≡ Some at → at ≡ slot → is_slot to slot ≡ true
to_slot to at slot is same = rw is (eq-eqb at slot same)

pub served-to : (b : Ledger) (slot t : ℕ) → served b slot t ≡ true → (row_at b t).to ≡ Some slot
unfolding served
served-to b slot t is = slot_to (row_at b t).to slot is

pub to-served : (b : Ledger) (at slot t : ℕ) → (row_at b t).to ≡ Some at → at ≡ slot → served b slot t ≡ true
unfolding served
to-served b at slot t is same = to_slot (row_at b t).to at slot is same

-- a tick that was given through a port served a slot
pub record Went (b : Ledger) (t : ℕ) : Type 0 where
  pub slot : ℕ
  pub to : (row_at b t).to ≡ Some slot
  pub passed : t < now_of b

went_to : (to : Option ℕ) (port at : ℕ) → (is_some to && port == at) ≡ true → (slot : ℕ) × (to ≡ Some slot)
went_to None port at is = absurd cc
went_to (Some slot) port at is = (slot, refl)

passed : (b : Ledger) (t slot : ℕ) → (row_at b t).to ≡ Some slot → t < now_of b
passed b t slot to = elim (cases_lt t (now_of b)) [
  | inl lt ↦ lt
  | inr late ↦ absurd (let none = row_at-later b t late in let no : None ≡ Some slot = rw none at to in cc)
]

pub given-went : (b : Ledger) (port t : ℕ) → given b port t ≡ true → Went b t
unfolding given
given-went b port t is =
    let went = went_to (row_at b t).to (row_at b t).port port is in
    record { slot = went.0; to = went.1; passed = passed b t went.0 went.1 }

pub to-given : (b : Ledger) (slot port t : ℕ) → (row_at b t).to ≡ Some slot → (row_at b t).port ≡ port
    → given b port t ≡ true
unfolding given
to-given b slot port t to same = rw to (eq-eqb (row_at b t).port port same)

both_ways : (a b : Bool) → (a ≡ true → b ≡ true) → (b ≡ true → a ≡ true) → a ≡ b
both_ways true b f g = sym (f refl)
both_ways false true f g = g refl
both_ways false false f g = refl

-- fixed priority: the seat of priority number 0
module _ (b : Ledger) (kept : KeepsAdmission configs.Fp b) (discipline : KeepsDiscipline configs.Fp b)
    (ports : HasPorts configs.Fp b) where
  served-given : (slot t : ℕ) → served b slot t ≡ true → given b 0 t ≡ true
  served-given slot t is =
      let to = served-to b slot t is in
      to-given b slot 0 t to (ports t (ap is_some to))

  -- a slot that is served in a tick in which this one asks has its priority number
  is_first : (slot since at t : ℕ) → tenant_at b slot ≡ Sits (terms.Prio 0) since → since ≤ t → t < now_of b
      → asked b slot t ≡ true → (row_at b t).to ≡ Some at → at ≡ slot
  is_first slot since at t sits from lt asks to =
      let serves : HasLeastPriority (before t b) (row_at b t).mask at = discipline.served t at lt to in
      let mine : priority_at (before t b) slot ≡ Some 0 =
      ap priority_in (kept.stood.stood slot since t (terms.Prio 0) sits from lt) in
      elim (priority_at (before t b) at) as (λ p. priority_at (before t b) at ≡ p → at ≡ slot) [
        | None ↦ λ none. absurd (serves.seated none)
        | Some p ↦ λ is.
            let least = serves.least slot p 0 (asked-slot b slot t asks) is mine in
            let zero : p ≡ 0 = omega (arith, least) in
            (kept.had t lt).apart at slot 0 (is ∙ ap (λ n. Some n) zero) mine
      ] refl

  given-served : (slot since t : ℕ) → tenant_at b slot ≡ Sits (terms.Prio 0) since → since ≤ t
      → asked b slot t ≡ true → given b 0 t ≡ true → served b slot t ≡ true
  given-served slot since t sits from asks is =
      let went = given-went b 0 t is in
      to-served b went.slot slot t went.to (is_first slot since went.slot t sits from went.passed asks went.to)

  scheduler_asks : (slot t : ℕ) → asked b slot t ≡ true → asked_by configs.Fp b t ≡ true
  unfolding asked_by
  scheduler_asks slot t asks = some_asks (row_at b t).mask slot (asked-slot b slot t asks)

  first_supplied : (slot since : ℕ) (g : Guarantee) → tenant_at b slot ≡ Sits (terms.Prio 0) since
      → Supplies g (given b 0) (asked_by configs.Fp b) (settled_at b) (now_of b)
      → Supplies g (served b slot) (asked b slot) since (now_of b)
  first_supplied slot since g sits supplied =
      let later = kept.stood.later slot since (terms.Prio 0) sits in
      record {
        met = λ i j from to asks.
            satisfies-agree g (given b 0) (served b slot) i j
            (λ t u v. both_ways (given b 0 t) (served b slot t)
            (given-served slot since t sits (omega (arith, from, u)) (asks t u v)) (served-given slot t))
            (supplied.met i j (omega (arith, later.0, from)) to
            (λ t u v. scheduler_asks slot t (asks t u v)));
        capped = keeps_cap-less g (given b 0) (served b slot) since (now_of b) (λ t is. served-given slot t is)
            (keeps_cap-part g (given b 0) (settled_at b) (now_of b) since (now_of b) later.0 (omega arith)
            supplied.capped);
      }

first_lends : (b : Ledger) → KeepsAdmission configs.Fp b → KeepsDiscipline configs.Fp b → HasPorts configs.Fp b
    → (slot since : ℕ) (m : Terms) (g h : Guarantee) → tenant_at b slot ≡ Sits m since
    → LendsByTerms configs.Fp m g h
    → Supplies g (given b 0) (asked_by configs.Fp b) (settled_at b) (now_of b)
    → Supplies h (served b slot) (asked b slot) since (now_of b)
first_lends b kept discipline ports slot since (terms.Prio priority) g h sits lends supplied =
    let first : tenant_at b slot ≡ Sits (terms.Prio 0) since =
    sits ∙ ap (λ n. Sits (terms.Prio n) since) lends.0 in
    rw lends.1 (first_supplied b kept discipline ports slot since g first supplied)
first_lends b kept discipline ports slot since _ g h sits lends supplied = absurd lends

pub fixed_priority_keeps : (b : Ledger) → KeepsAdmission configs.Fp b → KeepsDiscipline configs.Fp b
    → KeepsPromise configs.Fp b
fixed_priority_keeps b kept discipline = record {
  kept = λ ports slot since port m g h sits lends supplied. elim lends.lends [
    | inl by_terms ↦
        let zero : port ≡ 0 = lends.port_of in
        let through = subst (λ p. Supplies g (given b p) (asked_by configs.Fp b) (settled_at b) (now_of b))
        zero supplied in
        first_lends b kept discipline ports slot since m g h sits by_terms through
    | inr nothing ↦ rw nothing (nothing-supplies (served b slot) (asked b slot) since (now_of b))
  ];
}

-- joins
module _ (n : ℕ) (b : Ledger) (kept : KeepsAdmission (configs.Join n) b)
    (discipline : KeepsDiscipline (configs.Join n) b) where
  one_seat : (slot since : ℕ) → tenant_at b slot ≡ Sits terms.Sole since → slot ≡ 0
  one_seat slot since sits =
      let lt : slot < 1 = kept.seats.within slot terms.Sole (sits_on b slot since terms.Sole sits) in
      omega (arith, lt)

  given-sole : (slot port t : ℕ) → slot ≡ 0 → given b port t ≡ true → served b slot t ≡ true
  given-sole slot port t zero is =
      let went = given-went b port t is in
      to-served b went.slot slot t went.to
      ((discipline.served t went.slot went.passed went.to).sole ∙ sym zero)

  join_asks : (slot t : ℕ) → asked b slot t ≡ true → asked_by (configs.Join n) b t ≡ true
  unfolding asked_by
  join_asks slot t asks = some_asks (row_at b t).mask slot (asked-slot b slot t asks)

  sole_supplied : (slot since port : ℕ) (g : Guarantee) → IsSoft g → tenant_at b slot ≡ Sits terms.Sole since
      → Supplies g (given b port) (asked_by (configs.Join n) b) (settled_at b) (now_of b)
      → Supplies g (served b slot) (asked b slot) since (now_of b)
  sole_supplied slot since port g soft sits supplied =
      let later = kept.stood.later slot since terms.Sole sits in
      record {
        met = λ i j from to asks.
            satisfies-more g (given b port) (served b slot) i j soft
            (λ t is. given-sole slot port t (one_seat slot since sits) is)
            (supplied.met i j (omega (arith, later.0, from)) to (λ t u v. join_asks slot t (asks t u v)));
        capped = soft-keeps_cap g (served b slot) since (now_of b) soft;
      }

sole_lends : (n : ℕ) (b : Ledger) → KeepsAdmission (configs.Join n) b → KeepsDiscipline (configs.Join n) b
    → (slot since port : ℕ) (m : Terms) (g h : Guarantee) → tenant_at b slot ≡ Sits m since
    → LendsByTerms (configs.Join n) m g h
    → Supplies g (given b port) (asked_by (configs.Join n) b) (settled_at b) (now_of b)
    → Supplies h (served b slot) (asked b slot) since (now_of b)
sole_lends n b kept discipline slot since port terms.Sole g h sits lends supplied =
    rw lends.1 (sole_supplied n b kept discipline slot since port g lends.0 sits supplied)
sole_lends n b kept discipline slot since port _ g h sits lends supplied = absurd lends

pub join_keeps : (n : ℕ) (b : Ledger) → KeepsAdmission (configs.Join n) b → KeepsDiscipline (configs.Join n) b
    → KeepsPromise (configs.Join n) b
join_keeps n b kept discipline = record {
  kept = λ ports slot since port m g h sits lends supplied. elim lends.lends [
    | inl by_terms ↦ sole_lends n b kept discipline slot since port m g h sits by_terms supplied
    | inr nothing ↦ rw nothing (nothing-supplies (served b slot) (asked b slot) since (now_of b))
  ];
}
